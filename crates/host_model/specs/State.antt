-- What contracts see of a host.
use Rattle.std.specs.Prelude.{ℕ, Bool, List, Option}
use Rattle.host_model.specs.Picture.{Image, Picture}
use Rattle.host_model.specs.declared.call.HostCall.{HostCall}

-- how often each kind of call has failed
pub record Faults : Type 0 where
  pub disk : ℕ
  pub source : ℕ
  pub sink : ℕ
  pub memory : ℕ

pub record HostState : Type 1 where
  -- what reads give
  pub files : Image
  pub said : List ℕ
  -- what is left of the script
  pub script : List ℕ
  pub faults : Faults
  -- the counts as they stood when the last call began
  pub before : Faults
  -- the kind of the last call, none where there was none yet
  pub last : Option HostCall
  -- the moment, as a number that doesn't fall
  pub moment : ℕ
  -- what a crash at this moment may leave
  pub may_leave : Picture → Type 0
  -- what a crash at some moment from that one on might have left
  pub left_since : ℕ → Picture → Type 0
  pub is_faithful : Bool
  pub is_honest : Bool

-- what a host reads now, and what it has said
abbrev pub picture_now : HostState → Picture
picture_now state = record { image = state.files; said = state.said }
