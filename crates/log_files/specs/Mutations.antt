-- How a mutation is spelled as bytes.
use Rattle.std.specs.Prelude.{◌≡◌, ℕ, ◌^◌, ◌<◌, ◌≤◌, true, false, IsTrue, List, ◌++◌, length, All, Option, Some, None, IfSome}
use Rattle.std.specs.Int.{w32, w64}
use Rattle.std.specs.List.{flat_map}
use Rattle.row_keys.specs.Forms.{IsTableId}
use Rattle.bytes_form.specs.Fields.{number_field, flag_field, short_field, long_field}
use Rattle.metadata_schema.specs.declared.mutation.Update.{Update}
use Rattle.metadata_schema.specs.declared.mutation.Mutation.{Mutation}
use Rattle.metadata_schema.specs.Bytes.{is_rising}
use Rattle.metadata_schema.specs.Columns.{update_cmp}

abbrev pub Bytes : Type 0
Bytes = List ℕ

-- the byte 0 for a removal, or the byte 1 and the value behind two length bytes
abbrev pub spelled_value : Option Bytes → Bytes
spelled_value None = flag_field false
spelled_value (Some value) = flag_field true ++ long_field value

-- the family and the qualifier behind one length byte each, and the value
abbrev pub spelled_update : Update → Bytes
spelled_update update = short_field update.family ++ short_field update.qualifier ++ spelled_value update.value

-- how many updates there are, and one behind the other
unfoldable pub spelled_updates : List Update → Bytes
spelled_updates updates = number_field w32 (length updates) ++ flat_map spelled_update updates

-- the table behind one length byte, the row behind two, the time, and the updates
unfoldable pub spelled_mutation : Mutation → Bytes
spelled_mutation mutation = short_field mutation.table ++ long_field mutation.row ++ number_field w64 mutation.time ++ spelled_updates mutation.updates

-- the value fits its field, or there is none
abbrev pub FitsValue : Option Bytes → Type 0
FitsValue value = IfSome value (λ bytes. length bytes < 2 ^ 16)

-- each part fits its field
pub record FitsUpdate (update : Update) : Type 0 where
  pub family : length update.family < 2 ^ 8
  pub qualifier : length update.qualifier < 2 ^ 8
  pub value : FitsValue update.value

-- each column is below those behind it
abbrev pub AreRising : List Update → Type 0
AreRising updates = IsTrue (is_rising update_cmp updates)

-- updates that a mutation can have: at least one, in order, and each fits
pub record AreUpdates (updates : List Update) : Type 0 where
  pub some : 0 < length updates
  pub counts : length updates < 2 ^ 32
  pub each : All FitsUpdate updates
  pub rising : AreRising updates

abbrev pub FitsRow : Bytes → Type 0
FitsRow row = length row ≤ 300

abbrev pub FitsTime : ℕ → Type 0
FitsTime time = time < 2 ^ 63

-- a mutation that the format spells
pub record IsSpelled (mutation : Mutation) : Type 0 where
  pub table : IsTableId mutation.table
  pub row : FitsRow mutation.row
  pub time : FitsTime mutation.time
  pub updates : AreUpdates mutation.updates

-- the bytes are this mutation, and nothing follows
pub record IsMutation (bytes : Bytes) (mutation : Mutation) : Type 0 where
  pub is : bytes ≡ spelled_mutation mutation
  pub spelled : IsSpelled mutation

-- a mutation that a record of a log can hold
pub record IsLogged (mutation : Mutation) : Type 0 where
  pub spelled : IsSpelled mutation
  pub short : length (spelled_mutation mutation) < 2 ^ 32
