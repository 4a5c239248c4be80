-- What is answered where there is no room.
use Rattle.std.specs.Prelude.{◌≡◌, ◌⊎◌, Result, Err}
use Rattle.host_model.specs.declared.fault.Stop.{Stop}
use Rattle.host_model.specs.declared.fault.Stop.TheVariants.{Full, NoMemory}

-- full, or in its place want of memory
abbrev pub IsFullOrShort : {T : Type 0} → Result T Stop → Type 0
IsFullOrShort {T} result = (result ≡ Err Full) ⊎ (result ≡ Err NoMemory)
