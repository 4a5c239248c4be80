-- What the first cells of a new store tell of `!0`.
use Rattle.std.proofs.Common.{◌≡◌, ◌≢◌, ◌⊎◌, inl, inr, ℕ, ◌≤◌, false, codes, List, [], ◌∷◌, length, drop, Contains, Option, Some, None, IfSome, refl, ap, lit≤}
use Rattle.row_keys.specs.MetadataRow.{metadata_row}
use Rattle.row_keys.proofs.MetadataRowsLemmas.{one_to_one}
use Rattle.metadata_schema.specs.declared.tablet.TabletRecord.{TabletRecord}
use Rattle.metadata_schema.specs.Paths.{IsDirectory}
use Rattle.metadata_schema.specs.Records.{IsWellFormed, new_tablet}
use Rattle.store_layout.specs.NewStore.{table_info, last_metadata, first_cells}
use Rattle.store_meaning.specs.Levels.{Level, IsLevelOf, IsRecordAt, IsMetadataTable, metadata_id}
use Rattle.store_meaning.proofs.TwoRecords.{level, level_is, one_of_two}

abbrev pub new_level : Level
new_level = level table_info last_metadata

abbrev pub no_level : Level
no_level = record { records = λ table end. None; is_candidate = λ path. false; flag = λ path. None }

pub apart : metadata_row metadata_id (Some (codes "~")) ≢ metadata_row metadata_id None
apart e = let bytes : 59 ∷ 126 ∷ [] ≡ 60 ∷ [] = ap (drop 2) e in cc bytes

pub one_of : (tablet : TabletRecord) → Contains (table_info ∷ last_metadata ∷ []) tablet → (table_info ≡ tablet) ⊎ (last_metadata ≡ tablet)
one_of tablet there = one_of_two table_info last_metadata tablet there

abbrev pub FormsNew : Type 0
FormsNew = (table : List ℕ) (end prev : Option (List ℕ)) (dir : List ℕ) → IfSome prev (λ row. length row ≤ 300) → IsDirectory dir → IsWellFormed (new_tablet table end prev dir)

module _ (forms : FormsNew) where
  at_first : IsRecordAt metadata_id (Some (codes "~")) table_info
  at_first = record { name = record { id = inr (inl refl); short = lit≤ tt }; table_is = refl; end_is = refl; form = forms metadata_id (Some (codes "~")) None (codes "table_info") tt (inr (inl refl)) }

  pub at_last : IsRecordAt metadata_id None last_metadata
  at_last = record { name = record { id = inr (inl refl); short = tt }; table_is = refl; end_is = refl; form = forms metadata_id None (Some (codes "~")) (codes "default_tablet") (lit≤ tt) (inr (inr (inl refl))) }

  pub new_level_is : IsLevelOf IsMetadataTable first_cells new_level
  new_level_is = level_is table_info last_metadata one_to_one IsMetadataTable apart at_first at_last refl refl
