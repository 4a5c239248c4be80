-- The plain states along a script, and which entries are reported.
use Rattle.std.proofs.Common.{◌≡◌, ℕ, ◌+◌, ◌<◌, List, ◌++◌, length, take, Option, Some, ◌∙◌, ap}
use Rattle.std.specs.Option.{option_and_then}
use Rattle.plain_model.specs.State.{PlainState}
use Rattle.plain_model.specs.History.{after}
use Rattle.plain_model.proofs.LawsLemmas.{histories_join}
use Rattle.table_store.specs.Tables.{Tables}
use Rattle.plain_model.specs.declared.operation.Entry.{Entry}
use Rattle.shell.specs.Serving.{replies_over}

-- one history after another
pub after-append : (one two : List Entry) (s t : PlainState) → after one s ≡ Some t → after (one ++ two) s ≡ after two t
after-append one two s t reached = histories_join one two s ∙ ap (λ (o : Option PlainState). option_and_then (after two) o) reached

-- the number of the line of an entry, and that its reply is something
pub record IsAnswered (number : ℕ) (texts : List (List ℕ)) (tables : Tables) (entry : Entry) : Type 0 where
  pub ahead : ℕ
  pub within : ahead < length texts
  pub line_is : entry.line ≡ number + ahead
  pub some : 0 < length (replies_over number (take (ahead + 1) texts) tables)
