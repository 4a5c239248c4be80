-- What a run makes of the serving of its script.
use Rattle.std.proofs.Common.{◌≡◌, ℕ, List, Option, Result, IsTrue, IfErr, OnOk, ◌∙◌, ap}
use Rattle.std.specs.Option.{option_to_list}
use Rattle.host_model.specs.State.{HostState}
use Rattle.host_model.specs.Calls.{Keeps}
use Rattle.host_model.specs.Kinds.{IsOfScript}
use Rattle.host_model.specs.Leaves.{AllSettled}
use Rattle.host_model.specs.declared.fault.Stop.{Stop}
use Rattle.host_model.specs.declared.fault.Stop.TheVariants.{Full}
use Rattle.table_store.specs.Room.{Station}
use Rattle.plain_model.specs.declared.operation.Entry.{Entry}
use Rattle.shell.specs.LineServed.{StopCounts}
use Rattle.shell.specs.ScriptServed.{HasEnded}
use Rattle.shell.specs.Crash.{LeavesFronts}
use Rattle.table_store.specs.Tables.{Tables}
use Rattle.shell.specs.Ending.{status_for, damaged_for}
use Rattle.shell.specs.Running.{ServesScript}
use Rattle.shell.specs.declared.outcomes.Outcome.{Outcome}
use Rattle.shell.specs.declared.ending.Ending.{Ending}

-- the outcome that tells an ending
abbrev pub told : Result Ending Stop → ℕ → List Entry → Option Entry → Outcome
told ending lines history doubt = record { status = status_for ending; lines = lines; history = history; doubt = doubt; damaged = damaged_for ending }

module _ (ending : Result Ending Stop) (lines : ℕ) (past maybe history : List Entry) (doubt : Option Entry) (outcome : Outcome) (told_by : outcome ≡ told ending lines history doubt) (history_is : history ≡ past) (doubt_is : option_to_list doubt ≡ maybe) where
  lines_are : outcome.lines ≡ lines
  lines_are = ap (λ (o : Outcome). o.lines) told_by

  past_is : outcome.history ≡ past
  past_is = ap (λ (o : Outcome). o.history) told_by ∙ history_is

  maybe_is : option_to_list outcome.doubt ≡ maybe
  maybe_is = ap (λ (o : Outcome). option_to_list o.doubt) told_by ∙ doubt_is

  pub serves_told : {first now : HostState} {start : Station} → Keeps first now → (IsTrue first.is_faithful → HasEnded ending first start lines past maybe now) → IfErr ending (λ stop. StopCounts stop first now) → IfErr ending (λ stop. stop ≡ Full → IsOfScript now.last)
      → (IsTrue first.is_honest → AllSettled first → OnOk ending (AllSettled now)) → ServesScript first start outcome now
  serves_told keeps ended stops full rests = record {
    ending = ending;
    status = ap (λ (o : Outcome). o.status) told_by;
    damaged = ap (λ (o : Outcome). o.damaged) told_by;
    keeps = keeps;
    ended = λ f. rw (lines_are, past_is, maybe_is) (ended f);
    stops = stops;
    full = full;
    rests = rests;
  }

  pub fronts_told : {first now : HostState} {tables : Tables} → (IsTrue first.is_honest → AllSettled first → LeavesFronts first tables past maybe now) → IsTrue first.is_honest → AllSettled first → LeavesFronts first tables outcome.history (option_to_list outcome.doubt) now
  fronts_told crash h rests = rw (past_is, maybe_is) (crash h rests)
