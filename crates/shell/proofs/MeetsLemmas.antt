-- What reads give at the end of a run is the plain map after its history.
use Rattle.std.proofs.Common.{◌≡◌, inl, inr, ⊎_elim, ℕ, ◌+◌, ◌<◌, ◌^◌, Bool, true, false, List, ◌++◌, take, IsTrue, sym, ◌∙◌, ap, subst, arith}
use Rattle.std.specs.Option.{option_to_list}
use Rattle.host_model.specs.Picture.{Image}
use Rattle.host_model.specs.State.{HostState}
use Rattle.script_words.specs.Lines.{line_of}
use Rattle.script_words.specs.Replies.{reply_of}
use Rattle.script_words.specs.declared.line.Line.TheVariants.{Tables as ListTables}
use Rattle.script_words.specs.declared.reply.Answer.TheVariants.{Rows}
use Rattle.table_store.specs.Tables.{Tables, plain_of}
use Rattle.table_store.specs.Kept.{IsKept}
use Rattle.table_store.proofs.PlainLemmas.{texts_plain}
use Rattle.shell.specs.Script.{texts_of}
use Rattle.shell.specs.Serving.{reply_to}
use Rattle.shell.specs.ScriptServed.{tables_at}
use Rattle.shell.specs.Readable.{IsLeft}
use Rattle.shell.specs.Running.{HasStore, RunsStore}
use Rattle.shell.specs.Headline.{BeginsWith, StandsNow, MayStandNow, ShowsPlain, MeetsPlain, all_entries}
use Rattle.shell.specs.declared.outcomes.Outcome.{Outcome}
use Rattle.shell.proofs.PlainLemmas.{after_over, drawn_over}
use Rattle.shell.proofs.FrontLemmas.{next_at}
use Rattle.shell.proofs.ReachedLemmas.{HasReached, reached, tried, applies_all, of_lines}
use Rattle.shell.proofs.DoubtLemmas.{doubt_due}
use Rattle.shell.proofs.StandsLemmas.{CanGoOn, begins_go_on, begins_start, same_start, left_kept, stands_at}
use Rattle.shell.proofs.UnbegunLemmas.{bare_meets}

-- ---- what is read

stands_now : (init : Bool) (texts : List (List ℕ)) (tables : Tables) (outcome : Outcome) (image : Image) → CanGoOn tables → HasReached texts tables outcome.lines outcome.history (option_to_list outcome.doubt) image → IsLeft init image → StandsNow (plain_of tables) outcome image
stands_now init texts tables outcome image go has left = ⊎_elim
    (λ are. inl (stands_at texts tables has.count outcome.history image go kept are.0))
    (λ are. inr (stands_at texts tables has.count (outcome.history ++ option_to_list outcome.doubt) image go kept are))
    has.entries
  where
    kept : IsKept image (tables_at has.count texts tables)
    kept = left_kept init image (tables_at has.count texts tables) has.says left

may_stand_now : (init : Bool) (texts : List (List ℕ)) (tables : Tables) (outcome : Outcome) (image : Image) → CanGoOn tables → HasReached texts tables outcome.lines outcome.history (option_to_list outcome.doubt) image → IsLeft init image → MayStandNow init (plain_of tables) outcome image
may_stand_now false texts tables outcome image go has left = stands_now false texts tables outcome image go has left
may_stand_now true texts tables outcome image go has left = inr (stands_now true texts tables outcome image go has left)

-- an answer to `tables`
shows_plain : (first : HostState) (tables : Tables) (count : ℕ) (text : List ℕ) → CanGoOn tables → (tables_at count (texts_of first.script) tables).next < 2 ^ 63 → line_of text ≡ ListTables → ShowsPlain first tables count text
shows_plain first tables count text go below asks = record {
  state = plain_of at;
  applied = after_over 1 (take count (texts_of first.script)) tables go.ids go.positive below;
  reply = ap (λ l. reply_to (count + 1) l at) asks ∙ ap (λ r. reply_of (count + 1) (Rows r)) (sym (texts_plain at (drawn_over (take count (texts_of first.script)) tables go.ids go.positive below)));
}
  where
    at : Tables
    at = tables_at count (texts_of first.script) tables

at_start : (init : Bool) (first now : HostState) (outcome : Outcome) → IsTrue first.is_faithful → (has : HasStore init first outcome now) → BeginsWith init first.files has.start.tables → MeetsPlain init first has.start.tables outcome now
at_start init first now outcome faithful has begins =
    let tables = has.start.tables in
    let go = begins_go_on init first.files tables begins in
    let ended = has.serves.ended faithful in
    let end = reached first now has.start outcome.lines outcome.history (option_to_list outcome.doubt) has.serves.ending ended in
    record {
      stands = may_stand_now init (texts_of first.script) tables outcome now.files go end (has.readable.tried faithful (begins_start init first.files tables begins));
      history = of_lines first tables (all_entries outcome)
          (tried first now has.start outcome.lines outcome.history (option_to_list outcome.doubt) has.serves.ending ended)
          (applies_all (texts_of first.script) tables outcome.lines outcome.history (option_to_list outcome.doubt) now.files go end);
      doubt = λ entry is. doubt_due first now has.start outcome entry (ap (λ o. option_to_list o) is) has.serves.ending has.serves.status ended has.serves.stops;
      queries = λ count text few is asks.
          shows_plain first tables count text go
          (omega (arith, next_at (texts_of first.script) tables count end.count (omega (arith, few, end.far)), end.says.reading.next.value.most))
          asks;
    }

pub meets : (init : Bool) (first now : HostState) (tables : Tables) (outcome : Outcome) → IsTrue first.is_faithful → BeginsWith init first.files tables → RunsStore init first outcome now → MeetsPlain init first tables outcome now
meets init first now tables outcome faithful begins runs = ⊎_elim
    (λ has.
    let same = same_start init first.files has.start tables (has.begins faithful) begins in
    subst (λ t. MeetsPlain init first t outcome now) same (at_start init first now outcome faithful has (subst (λ t. BeginsWith init first.files t) (sym same) begins)))
    (λ has. bare_meets init first now tables outcome faithful begins has)
    runs
