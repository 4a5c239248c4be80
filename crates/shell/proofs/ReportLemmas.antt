-- Which entries of a script are reported.
use Rattle.std.proofs.Common.{◌≡◌, ℕ, ◌+◌, ◌<◌, Bool, true, false, cond, List, [], ◌∷◌, ◌++◌, length, take, Some, codes, refl, arith, length-append, add-one}
use Rattle.std.specs.List.{All}
use Rattle.std.specs.Fmt.{decimal}
use Rattle.std.proofs.lemmas.List.Elements.{All-nil, All-append, All-cons, All-weaker}
use Rattle.script_words.specs.Lines.{line_of}
use Rattle.script_words.specs.Replies.{numbered}
use Rattle.script_words.specs.declared.line.Line.{Line}
use Rattle.script_words.specs.declared.line.Line.TheVariants.{Blank, CreateTable, Tables as ListTables, Unbuilt}
use Rattle.script_words.specs.declared.reply.Answer.TheVariants.{Ok, Refused}
use Rattle.script_words.specs.declared.reply.Refusal.TheVariants.{Exists}
use Rattle.table_store.specs.Tables.{Tables, is_taken}
use Rattle.table_store.specs.StoreValue.{entry_of}
use Rattle.plain_model.specs.declared.operation.Entry.{Entry}
use Rattle.shell.specs.Serving.{spelled, tables_after, entries_of, reply_to, replies_over, entries_over}
use Rattle.shell.proofs.AfterLemmas.{IsAnswered}

-- ---- a line that has an entry has a reply

some_numbered : (number : ℕ) (text : List ℕ) → 0 < length (numbered number text)
some_numbered number text =
    let whole = length-append (decimal number ++ 32 ∷ text) (10 ∷ []) in
    omega (arith, whole)

first_answered : (number : ℕ) (text : List ℕ) (texts : List (List ℕ)) (tables : Tables) (entry : Entry) → entry.line ≡ number → 0 < length (reply_to number (line_of text) tables) → IsAnswered number (text ∷ texts) tables entry
first_answered number text texts tables entry is some = record {
  ahead = 0;
  within = omega arith;
  line_is = omega (arith, is);
  some = omega (arith, some, length-append (reply_to number (line_of text) tables) []);
}

-- the entry is of the line of this number, whose reply is something
abbrev IsOf : ℕ → List ℕ → Entry → Type 0
IsOf number reply entry = (entry.line ≡ number) × (0 < length reply)

line_answered : (number : ℕ) (line : Line) (tables : Tables) → All (IsOf number (reply_to number line tables)) (entries_of number line tables)
line_answered number Blank tables = All-nil _
line_answered number (CreateTable name) tables = at (is_taken name tables)
  where
    at : (b : Bool) → All (IsOf number (spelled number (Some (cond b (Refused (Exists name)) Ok)))) (cond b [] (entry_of number name tables ∷ []))
    at true = All-nil _
    at false = All-cons (IsOf number (spelled number (Some Ok))) (entry_of number name tables) [] (refl, some_numbered number (codes "ok")) (All-nil _)
line_answered number ListTables tables = All-nil _
line_answered number Unbuilt tables = All-nil _

later_answered : (number : ℕ) (text : List ℕ) (texts : List (List ℕ)) (tables : Tables) (entry : Entry) → IsAnswered (number + 1) texts (tables_after (line_of text) tables) entry → IsAnswered number (text ∷ texts) tables entry
later_answered number text texts tables entry answered =
    let front = take (answered.ahead + 1) texts in
    record {
      ahead = answered.ahead + 1;
      within = omega (arith, answered.within);
      line_is = omega (arith, answered.line_is);
      some = rw (add-one (answered.ahead + 1)) (omega (arith, answered.some, length-append (reply_to number (line_of text) tables) (replies_over (number + 1) front (tables_after (line_of text) tables))));
    }

pub answered_over : (number : ℕ) (texts : List (List ℕ)) (tables : Tables) → All (IsAnswered number texts tables) (entries_over number texts tables)
answered_over number [] tables = All-nil _
answered_over number (text ∷ texts) tables =
    All-append (IsAnswered number (text ∷ texts) tables) (entries_of number (line_of text) tables) (entries_over (number + 1) texts (tables_after (line_of text) tables))
    (All-weaker (IsOf number (reply_to number (line_of text) tables)) (IsAnswered number (text ∷ texts) tables) (λ entry is. first_answered number text texts tables entry is.0 is.1) (entries_of number (line_of text) tables) (line_answered number (line_of text) tables))
    (All-weaker (IsAnswered (number + 1) texts (tables_after (line_of text) tables)) (IsAnswered number (text ∷ texts) tables) (λ entry is. later_answered number text texts tables entry is) (entries_over (number + 1) texts (tables_after (line_of text) tables)) (answered_over (number + 1) texts (tables_after (line_of text) tables)))
