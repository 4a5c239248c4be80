-- The state of a tablet, by the sessions of live servers.
use Rattle.std.specs.Prelude.{ℕ, Bool, List, Option, Some, None, if◌then◌else◌}
use Rattle.std.specs.List.{list_any}
use Rattle.metadata_schema.specs.declared.tablet.Holder.{Holder}
use Rattle.metadata_schema.specs.declared.state.TabletState.{TabletState}
use Rattle.metadata_schema.specs.declared.state.TabletState.TheVariants.{Unassigned, Assigned, Hosted, AssignedToDeadServer}
use Rattle.metadata_schema.specs.Bytes.{same}

abbrev pub is_live : List (List ℕ) → Holder → Bool
is_live sessions holder = list_any (λ session. same session holder.session) sessions

-- by `loc`, and without one by `future`
abbrev pub state_of : Option Holder → Option Holder → List (List ℕ) → TabletState
state_of (Some loc) future sessions = if is_live sessions loc then Hosted else AssignedToDeadServer
state_of None (Some future) sessions = if is_live sessions future then Assigned else AssignedToDeadServer
state_of None None sessions = Unassigned
