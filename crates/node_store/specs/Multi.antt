-- How a multi is spelled, as the payload of a record.
use Rattle.std.specs.Prelude.{◌≡◌, ℕ, ◌^◌, ◌<◌, List, ◌∷◌, ◌++◌, length, All, None}
use Rattle.std.specs.Int.{w32}
use Rattle.std.specs.List.{flat_map}
use Rattle.row_keys.specs.Forms.{IsPath}
use Rattle.bytes_form.specs.Fields.{number_field, long_field, sized_field}
use Rattle.node_store.specs.declared.changes.NodeOp.{NodeOp}
use Rattle.node_store.specs.declared.changes.NodeOp.TheVariants.{Create, Set, Delete}

-- a change: its kind, its path, and the value if it writes one. The version that it asks for isn't written
abbrev pub spelled_change : NodeOp → List ℕ
spelled_change (Create path value) = 1 ∷ long_field path ++ sized_field value
spelled_change (Set path value version) = 2 ∷ long_field path ++ sized_field value
spelled_change (Delete path version) = 3 ∷ long_field path

-- how many changes there are, and the changes
abbrev pub spelled_multi : List NodeOp → List ℕ
spelled_multi ops = number_field w32 (length ops) ++ flat_map spelled_change ops

-- the change as it is read again
abbrev pub unasked : NodeOp → NodeOp
unasked (Create path value) = Create path value
unasked (Set path value version) = Set path value None
unasked (Delete path version) = Delete path None

-- its path and value fit their fields
abbrev pub Fits : NodeOp → Type 0
Fits (Create path value) = IsPath path × (length value < 2 ^ 32)
Fits (Set path value version) = IsPath path × (length value < 2 ^ 32)
Fits (Delete path version) = IsPath path

-- a change that a multi can hold: it fits, and asks for no version
pub record IsWritten (op : NodeOp) : Type 0 where
  pub fits : Fits op
  pub plain : unasked op ≡ op

-- the payload spells these changes, and nothing follows
pub record IsMulti (payload : List ℕ) (ops : List NodeOp) : Type 0 where
  pub is : payload ≡ spelled_multi ops
  pub count : length ops < 2 ^ 32
  pub each : All IsWritten ops
