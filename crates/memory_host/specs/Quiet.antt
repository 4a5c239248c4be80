-- What contracts see of a quiet host.
use Rattle.std.specs.Prelude.{◌≡◌, ◌≤◌, ℕ, List, [], Option, None, Result, Ok, Err, true, false, IsTrue, refl}
use Rattle.std.specs.FinMap as map
use Rattle.std.proofs.lemmas.Bool.{false≢true}
use Rattle.std.specs.Coded.{Coded, code_by, coded×, coded_ℕ, coded_list, coded_option}
use Rattle.std.specs.declared.alloc.AllocError.{AllocError}
use Rattle.host_model.specs.Picture.{Image}
use Rattle.host_model.specs.State.{HostState}
use Rattle.host_model.specs.Calls.{IsSound}
use Rattle.host_model.specs.declared.call.HostCall.{HostCall}
use Rattle.host_model.specs.declared.fault.HostFault.{HostFault}
use Rattle.host_model.specs.declared.fault.HostFault.TheVariants.{Memory}
use Rattle.memory_host.specs.Files.{image_code}
use Rattle.memory_host.specs.Plan.{next_count}

-- the files, what was said, what of the script is left, how often memory was wanting: now, and when the last call began; and its kind
pub record Quiet : Type 0 where
  pub files : Image
  pub said : List ℕ
  pub script : List ℕ
  pub memory : ℕ
  pub found : ℕ
  pub last : Option HostCall

abbrev pub quiet_code : Coded HostCall → Coded Quiet
quiet_code call =
    code_by (Image × (List ℕ × (List ℕ × (ℕ × (ℕ × Option HostCall))))) (coded× image_code (coded× (coded_list coded_ℕ) (coded× (coded_list coded_ℕ) (coded× coded_ℕ (coded× coded_ℕ (coded_option call)))))) (λ q. (q.files, (q.said, (q.script, (q.memory, (q.found, q.last))))))
    (λ p. record { files = p.0; said = p.1.0; script = p.1.1.0; memory = p.1.1.1.0; found = p.1.1.1.1.0; last = p.1.1.1.1.1 }) (λ _. refl)

-- it tells nothing of crashes
abbrev pub quiet_state : Quiet → HostState
quiet_state q = record {
  files = q.files;
  said = q.said;
  script = q.script;
  faults = record { disk = 0; source = 0; sink = 0; memory = q.memory };
  before = record { disk = 0; source = 0; sink = 0; memory = q.found };
  last = q.last;
  moment = 0;
  may_leave = λ _. ⊥;
  left_since = λ _ _. ⊥;
  is_faithful = true;
  is_honest = false;
}

-- done, or a want of memory that is counted
abbrev pub CountsMemory : Result (Unit {0}) AllocError → Result (Unit {0}) HostFault → ℕ → ℕ → Type 0
CountsMemory (Ok u) result old new = (result ≡ Ok u) × (new ≡ old)
CountsMemory (Err e) result old new = (result ≡ Err Memory) × (new ≡ next_count old) × (old ≤ new)

-- no file, and nothing said
pub record IsNewQuiet (script : List ℕ) (q : Quiet) : Type 0 where
  pub files : q.files ≡ map.empty
  pub said : q.said ≡ []
  pub script_is : q.script ≡ script
  pub memory : q.memory ≡ 0
  pub found : q.found ≡ 0
  pub last : q.last ≡ None

pub not_honest : IsTrue false → ⊥
not_honest h = false≢true h

pub quiet_sound : (q : Quiet) → IsSound (quiet_state q)
quiet_sound q = record {
  faithful = λ h. refl;
  stays = λ h. absurd (not_honest h);
  said = λ h. absurd (not_honest h);
  counts_now = λ h. absurd (not_honest h);
  only_now = λ h. absurd (not_honest h);
}
