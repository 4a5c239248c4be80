-- Where nothing stands against it, a run serves its whole script.
use Rattle.std.specs.Prelude.{◌≡◌, ◌⊎◌, ℕ, Bool, length, IsTrue}
use Rattle.host_model.specs.State.{HostState}
use Rattle.host_model.specs.Calls.{Counted}
use Rattle.host_model.specs.declared.fault.HostFault.{HostFault}
use Rattle.script_source.specs.Script.{lines_of}
use Rattle.table_store.specs.Tables.{Tables}
use Rattle.table_store.specs.Room.{Station}
use Rattle.shell.specs.Script.{texts_of, AreWithin}
use Rattle.shell.specs.Walk.{IsFullAt}
use Rattle.shell.specs.Opening.{Begins}
use Rattle.shell.specs.Headline.{BeginsWith}

-- The host is faithful and met no fault, the image is kept or with --init unborn, no line is too long or one too many, and none lacks room.
pub record IsUnhindered (init : Bool) (first now : HostState) : Type 0 where
  pub faithful : IsTrue first.is_faithful
  pub tables : Tables
  pub begins : BeginsWith init first.files tables
  pub no_fault : (fault : HostFault) → Counted fault first.faults now.faults → ⊥
  pub short : AreWithin (lines_of first.script) (length (lines_of first.script))
  pub room : (start : Station) → Begins init first.files start → (count : ℕ) → IsFullAt start (texts_of first.script) count → ⊥

-- the script was read to its end, or memory was short
abbrev pub IsDoneOrShort : ℕ → Type 0
IsDoneOrShort status = (status ≡ 0) ⊎ (status ≡ 7)
