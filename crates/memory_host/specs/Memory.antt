-- What contracts see of a host in memory.
use Rattle.std.specs.Prelude.{◌≡◌, ℕ, List, [], Option, None, IsTrue, refl}
use Rattle.std.specs.Coded.{Coded, code_by, coded×, coded_ℕ, coded_list}
use Rattle.host_model.specs.Picture.{Image}
use Rattle.host_model.specs.State.{HostState}
use Rattle.host_model.specs.Leaves.{AllSettled}
use Rattle.host_model.specs.Calls.{IsSound}
use Rattle.memory_host.specs.declared.event.Event.{Event}
use Rattle.memory_host.specs.declared.plan.Plan.{Plan}
use Rattle.memory_host.specs.Plan.{IsNewPlan, faults_of}
use Rattle.memory_host.specs.Past.{state_of}
use Rattle.memory_host.specs.PastLemmas.{sound}
use Rattle.memory_host.specs.Known.{Known, known_code}

-- what is read with its past, what of the script is left, and which calls fail
pub record Memory : Type 0 where
  pub known : Known
  pub script : List ℕ
  pub plan : Plan

-- it is stored as the tuple of its parts
abbrev pub memory_code : Coded Event → Coded Plan → Coded Memory
memory_code event plan =
    code_by (Known × (List ℕ × Plan)) (coded× (known_code event) (coded× (coded_list coded_ℕ) plan)) (λ m. (m.known, (m.script, m.plan))) (λ p. record { known = p.0; script = p.1.0; plan = p.1.1 }) (λ _. refl)

abbrev pub memory_state : Memory → HostState
memory_state m = state_of m.known.past m.known.now m.script (faults_of m.plan.faults) (faults_of m.plan.found) m.plan.last

-- A host on these files: nothing was said, called or counted, and no write is pending.
pub record Starts (files : Image) (script failing : List ℕ) (stop : Option ℕ) (m : Memory) : Type 0 where
  pub files_are : (memory_state m).files ≡ files
  pub said : (memory_state m).said ≡ []
  pub script_is : (memory_state m).script ≡ script
  pub faults : (memory_state m).faults ≡ record { disk = 0; source = 0; sink = 0; memory = 0 }
  pub before : (memory_state m).before ≡ record { disk = 0; source = 0; sink = 0; memory = 0 }
  pub last : (memory_state m).last ≡ None
  pub plan : IsNewPlan failing stop m.plan
  pub settled : AllSettled (memory_state m)
  pub honest : IsTrue (memory_state m).is_honest

pub memory_sound : (m : Memory) → IsSound (memory_state m)
memory_sound m = sound m.known.past m.known.now m.script (faults_of m.plan.faults) (faults_of m.plan.found) m.plan.last
