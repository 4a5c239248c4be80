-- Every crash of a run leaves the plain map after a front of its history.
use Rattle.std.proofs.Common.{◌≡◌, inl, inr, ⊎_elim, Bool, true, false, IsTrue, Result, Ok, Err, OnOk, sym, ◌∙◌, subst, arith}
use Rattle.std.specs.Option.{option_to_list}
use Rattle.host_model.specs.Picture.{Picture}
use Rattle.host_model.specs.State.{HostState}
use Rattle.host_model.specs.Calls.{IsSound}
use Rattle.host_model.specs.Leaves.{AllSettled}
use Rattle.host_model.specs.declared.fault.HostFault.TheVariants.{Disk, Source, Sink, Memory}
use Rattle.host_model.specs.declared.fault.Stop.{Stop}
use Rattle.host_model.specs.declared.fault.Stop.TheVariants.{Host, Damaged, Full, NoMemory}
use Rattle.host_model.proofs.LeavesLemmas.{leaves_weaker}
use Rattle.table_store.specs.Tables.{Tables, plain_of}
use Rattle.table_store.specs.Room.{Station}
use Rattle.shell.specs.Script.{texts_of}
use Rattle.shell.specs.ScriptServed.{tables_at, HasEnded}
use Rattle.shell.specs.Readable.{IsLeft}
use Rattle.shell.specs.Ending.{status_for}
use Rattle.shell.specs.Running.{MayBeLeft, LeavesLines, HasStore, RunsStore}
use Rattle.shell.specs.Headline.{BeginsWith, StandsAfter, MayStand, Headline, all_entries}
use Rattle.shell.specs.declared.outcomes.Outcome.{Outcome}
use Rattle.shell.specs.declared.ending.Ending.{Ending}
use Rattle.shell.specs.declared.ending.Ending.TheVariants.{ScriptEnd, NoLine}
use Rattle.shell.proofs.ReadableLemmas.{leaves_both}
use Rattle.shell.proofs.StandsLemmas.{CanGoOn, begins_go_on, begins_start, same_start, left_kept, stands_at, fronts_last}
use Rattle.shell.proofs.UnbegunLemmas.{IsUnbegunOutcome, without_unbegun, unbegun_headline, bare_leaves}

-- ---- crashes

may_stand : (init : Bool) (first : HostState) (tables : Tables) (outcome : Outcome) (now : HostState) → CanGoOn tables → (crash : LeavesLines init first tables outcome now)
    → (p : Picture) → MayBeLeft init tables (texts_of first.script) crash.tried first.said p → IsLeft init p.image → MayStand init first tables (all_entries outcome) p
may_stand false first tables outcome now start crash p last readable = fronts_last first tables (all_entries outcome) crash.tried p start crash.within crash.all last readable
may_stand true first tables outcome now start crash p left readable = ⊎_elim
    (λ unbegun. inl unbegun)
    (λ last.
    let kept = left_kept true p.image (tables_at last.done (texts_of first.script) tables) last.says readable in
    inr (fronts_last first tables (all_entries outcome) crash.tried p start crash.within crash.all last kept.readable))
    left

-- ---- the end of the script

stop_status : (stop : Stop) → status_for (Err stop) ≡ 0 → ⊥
stop_status (Host Disk) is = absurd (omega (arith, is))
stop_status (Host Source) is = absurd (omega (arith, is))
stop_status (Host Sink) is = absurd (omega (arith, is))
stop_status (Host Memory) is = absurd (omega (arith, is))
stop_status (Damaged name) is = absurd (omega (arith, is))
stop_status Full is = absurd (omega (arith, is))
stop_status NoMemory is = absurd (omega (arith, is))

whole_end : (init : Bool) (ending : Result Ending Stop) (first now : HostState) (start : Station) (outcome : Outcome) → CanGoOn start.tables → outcome.status ≡ status_for ending
    → HasEnded ending first start outcome.lines outcome.history (option_to_list outcome.doubt) now → OnOk ending (AllSettled now) → IsLeft init now.files → outcome.status ≡ 0
    → (p : Picture) → now.may_leave p → StandsAfter (plain_of start.tables) outcome.history p.image
whole_end init (Ok ScriptEnd) first now start outcome go status ended rests readable zero p left =
    subst (λ i. StandsAfter (plain_of start.tables) outcome.history i) (sym (rests.each p left)) (stands_at (texts_of first.script) start.tables outcome.lines outcome.history now.files go (left_kept init now.files (tables_at outcome.lines (texts_of first.script) start.tables) ended.done.says readable) ended.done.history)
whole_end init (Ok NoLine) first now start outcome go status ended rests readable zero p left = absurd (omega (arith, status, zero))
whole_end init (Err stop) first now start outcome go status ended rests readable zero p left = absurd (stop_status stop (sym status ∙ zero))

-- ---- the headline

at_start : (init : Bool) (first now : HostState) (outcome : Outcome) → IsSound first → IsTrue first.is_honest → AllSettled first → (has : HasStore init first outcome now)
    → BeginsWith init first.files has.start.tables → Headline init first has.start.tables outcome now
at_start init first now outcome sound honest rests has begins =
    let faithful = sound.faithful honest in
    let go = begins_go_on init first.files has.start.tables begins in
    let crash = has.crash honest rests in
    let ended = has.serves.ended faithful in
    let start = begins_start init first.files has.start.tables begins in
    record {
      every_moment = leaves_weaker (leaves_both crash.leaves (has.readable.leaves honest rests start)) (λ p left. may_stand init first has.start.tables outcome now go crash p left.0 left.1);
      end = λ zero p left. whole_end init has.serves.ending first now has.start outcome go has.serves.status ended (has.serves.rests honest rests) (has.readable.tried faithful start) zero p left;
    }

pub headline : (init : Bool) (first now : HostState) (tables : Tables) (outcome : Outcome) → IsSound first → IsTrue first.is_honest → AllSettled first
    → BeginsWith init first.files tables → RunsStore init first outcome now → Headline init first tables outcome now
headline init first now tables outcome sound honest rests begins runs = ⊎_elim
    (λ has.
    let same = same_start init first.files has.start tables (has.begins (sound.faithful honest)) begins in
    subst (λ t. Headline init first t outcome now) same (at_start init first now outcome sound honest rests has (subst (λ t. BeginsWith init first.files t) (sym same) begins)))
    (λ has. unbegun_headline init first now tables outcome (subst IsUnbegunOutcome (sym has.outcome_is) (without_unbegun has.stop)) (bare_leaves init first now tables outcome sound honest rests begins has))
    runs
