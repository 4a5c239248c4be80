use Rattle.std.proofs.Common.{◌≡◌, ◌⊎◌, inl, inr, ⊎_elim, Result, Err}
use Rattle.host_model.specs.declared.fault.Stop.{Stop}
use Rattle.host_model.specs.declared.fault.Stop.TheVariants.{Full, NoMemory}
use Rattle.node_store.specs.declared.changes.NodeStop.{NodeStop}
use Rattle.node_store.specs.declared.changes.NodeStop.TheVariants.{Stop as Stopped}
use Rattle.table_store.specs.Appending.{IsFullOrNoMemory}
use Rattle.table_store.proofs.appending.append.Goals as goal

due_stop : (stop : Stop) (answer : NodeStop) → answer ≡ Stopped stop → (◌≡◌ {A = Result Unit NodeStop} (Err answer) (Err (Stopped Full))) ⊎ (◌≡◌ {A = Result Unit NodeStop} (Err answer) (Err (Stopped NoMemory))) → IsFullOrNoMemory {T = Unit} (Err stop)
due_stop stop answer is due = ⊎_elim (λ e. inl (cc)) (λ e. inr (cc)) due

pub returns-in-Ok-clause-due : goal.returns-in-Ok-clause-due
returns-in-Ok-clause-due g c = λ full. let due = (c.in-Ok.ensures.due (Stopped Full) full).either in ⊎_elim (λ is. absurd (cc)) (λ is. absurd (cc)) due

pub returns-in-Err-Stop-clause-due : goal.returns-in-Err-Stop-clause-due
returns-in-Err-Stop-clause-due g c = λ full. let due = (c.in-Err-Stop.ensures.due (Stopped Full) full).either in due_stop c.in-Err-Stop.stop c.in-Err-Stop.field-0 c.in-Err-Stop.field-0-is due
