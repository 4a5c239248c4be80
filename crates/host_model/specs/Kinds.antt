-- What was asked of a host last.
use Rattle.std.specs.Prelude.{Option, Some, None}
use Rattle.host_model.specs.declared.call.HostCall.{HostCall}
use Rattle.host_model.specs.declared.call.HostCall.TheVariants.{Names, Create, Remove, Length, Read, Write, Sync, Hear, Say}

-- a call that only asks of the files
abbrev pub IsLook : Option HostCall → Type 0
IsLook None = ⊥
IsLook (Some Names) = Unit {0}
IsLook (Some Create) = ⊥
IsLook (Some Remove) = ⊥
IsLook (Some Length) = Unit {0}
IsLook (Some Read) = Unit {0}
IsLook (Some Write) = ⊥
IsLook (Some Sync) = ⊥
IsLook (Some Hear) = ⊥
IsLook (Some Say) = ⊥

-- a call that only asks of the files, or one that makes lasting what was written
abbrev pub IsLookOrSync : Option HostCall → Type 0
IsLookOrSync None = ⊥
IsLookOrSync (Some Names) = Unit {0}
IsLookOrSync (Some Create) = ⊥
IsLookOrSync (Some Remove) = ⊥
IsLookOrSync (Some Length) = Unit {0}
IsLookOrSync (Some Read) = Unit {0}
IsLookOrSync (Some Write) = ⊥
IsLookOrSync (Some Sync) = Unit {0}
IsLookOrSync (Some Hear) = ⊥
IsLookOrSync (Some Say) = ⊥

-- a call that hears of the script, or says of the replies
abbrev pub IsOfScript : Option HostCall → Type 0
IsOfScript None = ⊥
IsOfScript (Some Names) = ⊥
IsOfScript (Some Create) = ⊥
IsOfScript (Some Remove) = ⊥
IsOfScript (Some Length) = ⊥
IsOfScript (Some Read) = ⊥
IsOfScript (Some Write) = ⊥
IsOfScript (Some Sync) = ⊥
IsOfScript (Some Hear) = Unit {0}
IsOfScript (Some Say) = Unit {0}
