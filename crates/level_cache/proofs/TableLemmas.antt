-- The records of tables in a reading.
use Rattle.std.proofs.Common.{◌≡◌, ℕ, Bool, true, false, cond, List, Option, Some, None, refl, sym, ◌∙◌, ap, subst}
use Rattle.std.specs.Option.{IfSome, IsSome}
use Rattle.row_keys.specs.MetadataRow.{IsMetadataRow}
use Rattle.row_keys.proofs.MetadataRowsLemmas.{one_to_one}
use Rattle.metadata_schema.specs.Bytes.{same}
use Rattle.metadata_schema.specs.declared.tablet.TabletRecord.{TabletRecord}
use Rattle.level_rows.proofs.EndLemmas.{same-true}
use Rattle.store_meaning.specs.Ground.{Ground}
use Rattle.store_meaning.specs.Levels.{Reading, root_rows, root_id, metadata_id}
use Rattle.state_reader.specs.declared.level.LevelKind.{LevelKind}
use Rattle.state_reader.specs.declared.level.LevelKind.TheVariants.{Metadata, Users}
use Rattle.level_scan.specs.Tablets.{MemoryAt}
use Rattle.level_cache.specs.Cached.{CachedLevels, kept_level}
use Rattle.level_cache.specs.Shown.{level_in, HaveMemoriesDownTo}
use Rattle.level_cache.specs.Tables.{level_with, rows_on, rows_in, IsFoundIn, HaveMemoriesOver}

module _ (reading : Reading) (table : List ℕ) where
  -- where a level has them
  pub rows_of_level : (kind : LevelKind) → level_with table ≡ Some kind → rows_in reading table ≡ (level_in reading kind).records table
  rows_of_level kind is = ap (λ (o : Option LevelKind). rows_on reading o table) is

  -- those of `+r`
  pub rows_of_root : level_with table ≡ None → rows_in reading table ≡ root_rows reading
  rows_of_root is = ap (λ (o : Option LevelKind). rows_on reading o table) is

  pub memories_over : (known : Ground) (hosted : MemoryAt) (kind : LevelKind) → level_with table ≡ Some kind → HaveMemoriesOver table known reading hosted → HaveMemoriesDownTo kind known reading hosted
  memories_over known hosted kind is have = subst (λ (o : Option LevelKind). IfSome o (λ k. HaveMemoriesDownTo k known reading hosted)) is have

  -- the record of the one tablet of a row
  pub found_in : (row : List ℕ) (end : Option (List ℕ)) (found : Option TabletRecord) → IsMetadataRow table end row → found ≡ rows_in reading table end → IsFoundIn reading row found
  found_in row end found named is = record {
    tablet = λ other last at. let same = one_to_one table other end last named.name at.name (sym named.is ∙ at.is) in is ∙ (λ i. rows_in reading (same.0 i) (same.1 i));
    none = λ never. absurd (never table end named);
  }

pub none_in : (reading : Reading) (row : List ℕ) → ((table : List ℕ) (end : Option (List ℕ)) → IsMetadataRow table end row → ⊥) → IsFoundIn reading row None
none_in reading row never = record { tablet = λ table end at. absurd (never table end at); none = λ _. refl }

-- where both levels are there, each is
pub both_there : (cache : CachedLevels) (kind : LevelKind) → IsSome cache.metadata → IsSome cache.users → IsSome (kept_level kind cache)
both_there cache Metadata above below = above
both_there cache Users above below = below

-- no other table than `+r` is on no level
pub root_table : (table : List ℕ) → level_with table ≡ None → table ≡ root_id
root_table table is = by (same table root_id) refl is
  where
    by : (b : Bool) → same table root_id ≡ b → cond b None (Some (cond (same table metadata_id) Metadata Users)) ≡ None → table ≡ root_id
    by true e is = same-true table root_id e
    by false e is = absurd (let wrong : Some (cond (same table metadata_id) Metadata Users) ≡ None = is in cc)
