-- What holds at Ok, and why a call stopped.
use Rattle.std.proofs.Common.{◌≡◌, Option, Some, None, Result, Ok, Err, OnOk, IfErr, refl, sym}
use Rattle.std.proofs.lemmas.Option.{none-some}
use Rattle.host_model.specs.declared.fault.Stop.{Stop}
use Rattle.ground_store.specs.Acts.{Unless, stop_of}

-- at Ok nothing stopped
pub on_ok : {T : Type 0} (result : Result T Stop) (P : Type 0) → (stop_of result ≡ None → P) → OnOk result P
on_ok (Ok done) P holds = holds refl
on_ok (Err stop) P holds = tt

-- where nothing stopped it holds
pub holds_unless : (stop : Option Stop) (P : Type 0) → Unless stop P → stop ≡ None → P
holds_unless None P holds none = holds
holds_unless (Some own) P holds none = absurd (none-some own (sym none))

-- what holds at Ok, where nothing stopped
pub at_ok : {T : Type 0} (result : Result T Stop) (P : Type 0) → OnOk result P → stop_of result ≡ None → P
at_ok (Ok done) P holds none = holds
at_ok (Err stop) P holds none = absurd (none-some stop (sym none))

pub unless_ok : {T : Type 0} (result : Result T Stop) (P : Type 0) → OnOk result P → Unless (stop_of result) P
unless_ok (Ok done) P holds = holds
unless_ok (Err stop) P holds = tt

pub err_weaker : {T : Type 0} (result : Result T Stop) {P Q : Stop → Type 0} → ((stop : Stop) → P stop → Q stop) → IfErr result P → IfErr result Q
err_weaker (Ok done) more holds = holds
err_weaker (Err stop) more holds = more stop holds
