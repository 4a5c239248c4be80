-- Where nothing stands against it, a run serves its whole script.
use Rattle.std.proofs.Common.{◌≡◌, inl, inr, ⊎_elim, ℕ, ◌<◌, ◌≤◌, Bool, true, false, List, length, Result, Ok, Err, IfErr, refl, sym, ap, subst, arith}
use Rattle.std.specs.List.{AllByRecursion}
use Rattle.std.specs.Option.{option_to_list}
use Rattle.std.proofs.lemmas.Option.{slice_get_within, get_or_from_slice_get}
use Rattle.std.proofs.lemmas.List.{take_all}
use Rattle.std.proofs.lemmas.List.Elements.{All-from_recursion}
use Rattle.host_model.specs.State.{HostState}
use Rattle.host_model.specs.Calls.{Counted}
use Rattle.host_model.specs.declared.fault.HostFault.{HostFault}
use Rattle.host_model.specs.declared.fault.Stop.{Stop}
use Rattle.host_model.specs.declared.fault.Stop.TheVariants.{Host, Damaged, Full, NoMemory}
use Rattle.script_source.specs.Script.{ScriptLine, lines_of}
use Rattle.script_source.specs.Hearing.{max_line}
use Rattle.table_store.specs.Room.{Station}
use Rattle.plain_model.specs.declared.operation.Entry.{Entry}
use Rattle.ground_store.specs.declared.stop.GroundStop.{GroundStop}
use Rattle.ground_store.specs.declared.stop.GroundStop.TheVariants.{NotInit, NotBlank, Stop as Stopped}
use Rattle.shell.specs.Script.{texts_of, AreWithin, IsOver}
use Rattle.shell.specs.Walk.{IsFullAt}
use Rattle.shell.specs.Ending.{status_for, without_store, stopped_with}
use Rattle.shell.specs.LineServed.{StopCounts}
use Rattle.shell.specs.ScriptServed.{HasEnded}
use Rattle.shell.specs.Opening.{StoreStops}
use Rattle.shell.specs.Running.{RunsStore}
use Rattle.shell.specs.Completeness.{IsUnhindered, IsDoneOrShort}
use Rattle.shell.specs.declared.outcomes.Outcome.{Outcome}
use Rattle.shell.proofs.StandsLemmas.{says_born}
use Rattle.shell.specs.declared.ending.Ending.{Ending}
use Rattle.shell.specs.declared.ending.Ending.TheVariants.{ScriptEnd, NoLine}

-- ---- why it stops

stop_short : (stop : Stop) (first now : HostState) (start : Station) (lines : ℕ) (past maybe : List Entry)
    → ((fault : HostFault) → Counted fault first.faults now.faults → ⊥) → ((count : ℕ) → IsFullAt start (texts_of first.script) count → ⊥)
    → HasEnded (Err stop) first start lines past maybe now → StopCounts stop first now → IsDoneOrShort (status_for (Err stop))
stop_short (Host fault) first now start lines past maybe no_fault room ended counts = absurd (no_fault fault counts.counted)
stop_short (Damaged name) first now start lines past maybe no_fault room ended counts = absurd counts
stop_short Full first now start lines past maybe no_fault room ended counts = ⊎_elim
    (λ s. absurd s.why)
    (λ more. ⊎_elim
    (λ s. absurd s.why)
    (λ more. ⊎_elim
    (λ s. absurd (room s.last.before (record { station = s.done.station; walks = s.done.walks; text = s.last.text; is = s.last.is; full = s.why })))
    (λ more. ⊎_elim (λ s. absurd s.why) (λ s. absurd s.why) more)
    more)
    more)
    ended
stop_short NoMemory first now start lines past maybe no_fault room ended counts = inr refl

-- no line of a script that is within its bounds is over them
not_over : (lines : List ScriptLine) (before : ℕ) → AreWithin lines (length lines) → IsOver lines before → ⊥
not_over lines before within over = ⊎_elim
    (λ long. absurd (omega (arith, long, short)))
    (λ many. absurd (omega (arith, many, inside, within.few)))
    over.over
  where
    inside : before < length lines
    inside = slice_get_within lines before over.line over.is

    whole : AllByRecursion (λ (line : ScriptLine). length line.bytes ≤ max_line) lines
    whole = subst (λ l. AllByRecursion (λ (line : ScriptLine). length line.bytes ≤ max_line) l) (take_all (length lines) lines (omega arith)) within.short

    short : length over.line.bytes ≤ max_line
    short = subst (λ (line : ScriptLine). length line.bytes ≤ max_line) (get_or_from_slice_get lines before over.line over.line over.is)
        (All-from_recursion (λ (line : ScriptLine). length line.bytes ≤ max_line) lines whole before over.line inside)

ending_short : (ending : Result Ending Stop) (first now : HostState) (start : Station) (lines : ℕ) (past maybe : List Entry)
    → ((fault : HostFault) → Counted fault first.faults now.faults → ⊥) → ((count : ℕ) → IsFullAt start (texts_of first.script) count → ⊥) → AreWithin (lines_of first.script) (length (lines_of first.script))
    → HasEnded ending first start lines past maybe now → IfErr ending (λ stop. StopCounts stop first now) → IsDoneOrShort (status_for ending)
ending_short (Ok ScriptEnd) first now start lines past maybe no_fault room within ended counts = inl refl
ending_short (Ok NoLine) first now start lines past maybe no_fault room within ended counts = absurd (not_over (lines_of first.script) ended.before within ended.over)
ending_short (Err stop) first now start lines past maybe no_fault room within ended counts = stop_short stop first now start lines past maybe no_fault room ended counts

-- ---- why there is no store

no_store_short : (init : Bool) (stop : GroundStop) (first now : HostState) → IsUnhindered init first now → StoreStops init stop first now → IsDoneOrShort (without_store stop).status
no_store_short false NotInit first now free stops = absurd (says_born first.files free.tables free.begins.says (stops free.faithful))
no_store_short false NotBlank first now free stops = absurd stops
no_store_short false (Stopped (Host fault)) first now free stops = absurd (free.no_fault fault stops.1.counted)
no_store_short false (Stopped (Damaged name)) first now free stops = absurd ((stops.1 free.faithful).1.none free.tables free.begins.says)
no_store_short false (Stopped Full) first now free stops = absurd stops
no_store_short false (Stopped NoMemory) first now free stops = inr refl
no_store_short true NotInit first now free stops = absurd stops
no_store_short true NotBlank first now free stops = absurd (stops.1 free.faithful free.begins.0)
no_store_short true (Stopped (Host fault)) first now free stops = absurd (free.no_fault fault stops.1.counted)
no_store_short true (Stopped (Damaged name)) first now free stops = absurd stops
no_store_short true (Stopped Full) first now free stops = absurd stops
no_store_short true (Stopped NoMemory) first now free stops = inr refl

pub complete : (init : Bool) (first now : HostState) (outcome : Outcome) → IsUnhindered init first now → RunsStore init first outcome now → IsDoneOrShort outcome.status
complete init first now outcome free runs = ⊎_elim
    (λ has.
    let short = ending_short has.serves.ending first now has.start outcome.lines outcome.history (option_to_list outcome.doubt) free.no_fault (free.room has.start (has.begins free.faithful)) free.short (has.serves.ended free.faithful) has.serves.stops in
    subst IsDoneOrShort (sym has.serves.status) short)
    (λ has. subst (λ (o : Outcome). IsDoneOrShort o.status) (sym has.outcome_is) (no_store_short init has.stop first now free has.stops))
    runs

pub complete_unbegun : (outcome : Outcome) → outcome ≡ stopped_with NoMemory → IsDoneOrShort outcome.status
complete_unbegun outcome is = inr (ap (λ (o : Outcome). o.status) is)
