-- How a file is made anew, written and synced.
use Rattle.std.proofs.Common.{◌≡◌, inl, inr, ℕ, ◌+◌, List, [], ◌++◌, length, drop, Some, None, Option, Result, Ok, Err, IsTrue, sym, ◌∙◌, ap, arith}
use Rattle.std.proofs.lemmas.List.{append-nil}
use Rattle.std.proofs.lemmas.Option.{same_Some}
use Rattle.host_model.specs.Picture.{Image, ChangesFile, Becomes, MayBecome, OnBytes, file_at}
use Rattle.host_model.specs.State.{HostState}
use Rattle.host_model.specs.Calls.{IsSound, Replaces, Writes, Syncs, Torn, Puts, Reaches}
use Rattle.host_model.specs.declared.call.HostCall.{HostCall}
use Rattle.host_model.specs.declared.fault.HostFault.{HostFault}
use Rattle.host_model.specs.Stores.{Stores}
use Rattle.host_model.proofs.CallsLemmas.{was_faithful}
use Rattle.host_model.proofs.Images.{after_change, bytes_at}
use Rattle.host_model.proofs.StoresLemmas.{stores_failed, stores_then, replaced, write_synced, write_failed}
use Rattle.cell_merge.specs.declared.cell.Cell.{Cell}
use Rattle.cell_merge.specs.Newest.{Bytes}
use Rattle.data_files.specs.Files.{MayMake, IsDataFile, WritesCells, IsDamaged}
use Rattle.data_files.specs.Parts.{HasNone}

made : (most : ℕ) (x y : Option Bytes) → MayBecome (Some []) x y → MayMake most x y
made most x y (inl stays) = inl stays
made most x y (inr is) = inr (record { bytes = []; there = is; short = omega arith })

torn : (bytes : Bytes) (x y z : Option Bytes) → Becomes (Some []) x y → OnBytes (Torn 0 (length bytes)) y z → MayMake (length bytes) x z
torn bytes x y z is step = let t = bytes_at [] step is in inr (record { bytes = step.after; there = step.is; short = omega (arith, t.no_longer) })

drop-nil : (n : ℕ) → drop n [] ≡ (let none : Bytes = [] in none)
drop-nil n = grind arith

put : (bytes : Bytes) (x y z : Option Bytes) → Becomes (Some []) x y → OnBytes (Puts 0 bytes) y z → Becomes (Some bytes) x z
put bytes x y z is step =
    let p = bytes_at [] step is in
    step.is ∙ ap (λ (l : Bytes). Some l) (p.is ∙ ap (λ (l : Bytes). bytes ++ l) (drop-nil (0 + length bytes)) ∙ append-nil bytes)

-- the file wasn't made
pub create_failed : {kind : HostCall} {name : Bytes} (bytes : Bytes) {T U F : Type 0} {e : HostFault} (fault : F) {a b : HostState} → IsSound a → Replaces kind name (Some []) {T = T} (Err e) a b
    → Stores name (MayMake (length bytes)) (Becomes (Some bytes)) {T = U} (Err fault) a b
create_failed bytes {e = e} fault sound call = stores_failed _ (Becomes (Some bytes)) fault (replaced {result = Err e} sound call) (made (length bytes))

both : {kind : HostCall} {name : Bytes} (bytes : Bytes) {T U F : Type 0} {u : T} {result : Result U F} {a b c : HostState} → IsSound a → Replaces kind name (Some []) {T = T} (Ok u) a b → Stores name (OnBytes (Torn 0 (length bytes))) (OnBytes (Puts 0 bytes)) result b c
    → Stores name (MayMake (length bytes)) (Becomes (Some bytes)) result a c
both bytes {u = u} sound call write = stores_then (MayMake (length bytes)) (Becomes (Some bytes)) sound (replaced {result = Ok u} sound call) write (made (length bytes)) (torn bytes) (put bytes)

-- the file was made, and not written
pub made_unwritten : {kind : HostCall} {name : Bytes} (bytes : Bytes) {T V U F : Type 0} {u : T} {e : HostFault} (fault : F) {a b c : HostState} → IsSound a → Replaces kind name (Some []) {T = T} (Ok u) a b → Writes name 0 bytes {T = V} (Err e) b c
    → Stores name (MayMake (length bytes)) (Becomes (Some bytes)) {T = U} (Err fault) a c
made_unwritten bytes fault sound call write = both bytes sound call (write_failed (OnBytes (Puts 0 bytes)) fault write)

-- it was made and written, whether the sync failed or not
pub made_written : {kind : HostCall} {name : Bytes} (bytes : Bytes) {T V U : Type 0} {u : T} {v : V} {result : Result U HostFault} {a b c d : HostState} → IsSound a → Replaces kind name (Some []) {T = T} (Ok u) a b → Writes name 0 bytes {T = V} (Ok v) b c → Syncs name result c d
    → Stores name (MayMake (length bytes)) (Becomes (Some bytes)) result a d
made_written bytes sound call write sync = both bytes sound call (write_synced write sync)

-- an empty file can be written
pub empty_reaches : {kind : HostCall} {name : Bytes} {T : Type 0} {u : T} {a b : HostState} → Replaces kind name (Some []) {T = T} (Ok u) a b → IsTrue b.is_faithful → Reaches b.files name 0
empty_reaches call f =
    let there = call.done (was_faithful call.quiet.keeps f) in
    record { file = []; is = after_change there ∙ there.steps; within = omega arith }

-- a file that was written, and that lasts
pub writes_cells : {name : Bytes} {bytes : Bytes} (cells : List Cell) {D : Option Bytes → Option Bytes → Type 0} {T E : Type 0} {result : Result T E} {a b : HostState} → IsSound a → IsDataFile bytes cells → Stores name D (Becomes (Some bytes)) result a b → WritesCells name cells result a b
writes_cells cells {result = Err e} sound file stores = record { done = λ f. tt; lasts = λ h. tt }
writes_cells {name} {bytes} cells {result = Ok u} {a} {b} sound file stores = record {
  done = λ f. record { bytes = bytes; there = there f; file = file };
  lasts = λ h p now. record { bytes = bytes; there = (let settled = stores.settled h in settled.each p now ∙ there (sound.faithful h)); file = file };
}
  where
    there : IsTrue a.is_faithful → file_at b.files name ≡ Some bytes
    there f = let change : ChangesFile name (Becomes (Some bytes)) a.files b.files = stores.done f in after_change change ∙ change.steps

-- bytes that are no file's
pub damaged : {name : Bytes} {image : Image} {bytes : Bytes} → file_at image name ≡ Some bytes → HasNone bytes → IsDamaged name image
damaged is none = record { none = λ cells holds. none.none cells (let same = same_Some _ _ (sym holds.there ∙ is) in record { is = sym same ∙ holds.file.is; cells_are = holds.file.cells_are; short = (let short = holds.file.short in omega (arith, short, ap (length {A = ℕ}) same)) }) }

-- no bytes at all
pub missing : {name : Bytes} {image : Image} → file_at image name ≡ None → IsDamaged name image
missing is = record { none = λ cells holds. let wrong = sym is ∙ holds.there in cc }
