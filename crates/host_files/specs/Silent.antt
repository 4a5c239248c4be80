-- A host that tells how often its calls failed, and nothing of its files and streams.
use Rattle.std.specs.Prelude.{ℕ, ◌+◌, ◌-◌, ◌^◌, min, false, [], Option, None}
use Rattle.std.specs.FinMap as map
use Rattle.host_model.specs.State.{Faults, HostState}
use Rattle.host_model.specs.Calls.{IsSound}
use Rattle.host_model.specs.declared.call.HostCall.{HostCall}
use Rattle.host_model.specs.declared.fault.HostFault.{HostFault}
use Rattle.host_model.specs.declared.fault.HostFault.TheVariants.{Disk, Source, Sink, Memory}

abbrev pub no_faults : Faults
no_faults = record { disk = 0; source = 0; sink = 0; memory = 0 }

-- one more, up to the last value of 64 bits
abbrev pub one_more : ℕ → ℕ
one_more count = min (count + 1) (2 ^ 64 - 1)

-- one more fault of this kind
abbrev pub raised : HostFault → Faults → Faults
raised Disk faults = record faults { disk = one_more faults.disk }
raised Source faults = record faults { source = one_more faults.source }
raised Sink faults = record faults { sink = one_more faults.sink }
raised Memory faults = record faults { memory = one_more faults.memory }

-- how often calls have failed: now, and when the last call began; and its kind
pub record Tally : Type 0 where
  pub now : Faults
  pub found : Faults
  pub last : Option HostCall

abbrev pub no_tally : Tally
no_tally = record { now = no_faults; found = no_faults; last = None }

-- such a host is neither faithful nor honest, so no clause speaks of what stands beside its counts and its last call
abbrev pub silent_state : Tally → HostState
silent_state tally = record {
  files = map.empty;
  said = [];
  script = [];
  faults = tally.now;
  before = tally.found;
  last = tally.last;
  moment = 0;
  may_leave = λ p. Unit {0};
  left_since = λ t p. Unit {0};
  is_faithful = false;
  is_honest = false;
}

pub silent_sound : (tally : Tally) → IsSound (silent_state tally)
silent_sound tally = record { faithful = λ h. h; stays = λ h. cc; said = λ h p left. cc; counts_now = λ h t p le left. tt; only_now = λ h p left. tt }
