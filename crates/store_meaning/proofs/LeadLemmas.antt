-- There are updates that lead to each row.
use Rattle.std.proofs.Common.{◌≡◌, ℕ, true, false, Bool, List, [], Option, Some, None, IfSome, IsTrue, refl}
use Rattle.std.specs.Option.{option_flatten}
use Rattle.metadata_schema.specs.declared.mutation.Update.{Update}
use Rattle.metadata_schema.specs.declared.tablet.TabletRecord.{TabletRecord}
use Rattle.metadata_schema.specs.Between.{LeadsBetween}
use Rattle.metadata_schema.specs.Bytes.{is_rising}
use Rattle.metadata_schema.specs.Columns.{update_cmp, update_at, columns_of}
use Rattle.metadata_schema.specs.Records.{IsInOrder}
use Rattle.metadata_schema.specs.Merging.{between}
use Rattle.metadata_schema.proofs.GivenLemmas.{IsGiven, AreGiven, given_at, columns_given}
use Rattle.metadata_schema.proofs.MergeLemmas.{leads_between}
use Rattle.metadata_schema.proofs.RisingLemmas.{columns_rise}
use Rattle.store_meaning.specs.Levels.{Flag, record_columns, candidate_columns, flag_columns}

-- columns are in order, and none is removed
record AreColumns (columns : List Update) : Type 0 where
  rising : IsTrue (is_rising update_cmp columns)
  given : AreGiven columns

record_are : (tablet : Option TabletRecord) → IfSome tablet IsInOrder → AreColumns (record_columns tablet)
record_are None order = record { rising = refl; given = tt }
record_are (Some tablet) order = record { rising = columns_rise tablet order; given = columns_given tablet }

candidate_are : (is_there : Bool) → AreColumns (candidate_columns is_there)
candidate_are true = record { rising = refl; given = (tt, tt) }
candidate_are false = record { rising = refl; given = tt }

flag_are : (flag : Option Flag) → AreColumns (flag_columns flag)
flag_are None = record { rising = refl; given = tt }
flag_are (Some flag) = record { rising = refl; given = (tt, tt) }

lead : (before after : List Update) → AreColumns before → AreColumns after → (updates : List Update) × LeadsBetween before after updates
lead before after one two = (between before after, leads_between before after one.rising two.rising one.given two.given)

pub record_lead : (before after : Option TabletRecord) → IfSome before IsInOrder → IfSome after IsInOrder → (updates : List Update) × LeadsBetween (record_columns before) (record_columns after) updates
record_lead before after one two = lead (record_columns before) (record_columns after) (record_are before one) (record_are after two)

pub candidate_lead : (before after : Bool) → (updates : List Update) × LeadsBetween (candidate_columns before) (candidate_columns after) updates
candidate_lead before after = lead (candidate_columns before) (candidate_columns after) (candidate_are before) (candidate_are after)

pub flag_lead : (before after : Option Flag) → (updates : List Update) × LeadsBetween (flag_columns before) (flag_columns after) updates
flag_lead before after = lead (flag_columns before) (flag_columns after) (flag_are before) (flag_are after)

-- ---- a new row

none_said : (o : Option (Option (List ℕ))) → IsGiven o → None ≡ option_flatten o → o ≡ None
none_said None given e = refl
none_said (Some None) given e = absurd given
none_said (Some (Some v)) given e = cc

said : (o : Option (Option (List ℕ))) → IsGiven o → (None ≡ option_flatten o → ⊥) → o ≡ Some (option_flatten o)
said None given other = absurd (other refl)
said (Some None) given other = absurd given
said (Some (Some v)) given other = refl

-- it is written by its columns
pub whole_lead : (tablet : TabletRecord) → IsInOrder tablet → LeadsBetween [] (columns_of tablet) (columns_of tablet)
whole_lead tablet order = record {
  order = columns_rise tablet order;
  kept = λ family qualifier same. none_said (update_at (columns_of tablet) family qualifier) (given_at (columns_of tablet) family qualifier (columns_given tablet)) same;
  changed = λ family qualifier other. said (update_at (columns_of tablet) family qualifier) (given_at (columns_of tablet) family qualifier (columns_given tablet)) other;
}
