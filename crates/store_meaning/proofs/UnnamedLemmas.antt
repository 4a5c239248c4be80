-- A file that doesn't count may change, and the state stays.
use Rattle.std.proofs.Common.{◌≡◌, inl, inr, ℕ, Bool, true, false, cond, List, Option, None, refl, subst}
use Rattle.std.proofs.lemmas.Option.{none-some}
use Rattle.host_model.specs.Picture.{Image}
use Rattle.row_keys.specs.Forms.{IsLogName}
use Rattle.plain_model.specs.State.{PlainState}
use Rattle.metadata_schema.specs.declared.mutation.Mutation.{Mutation}
use Rattle.metadata_schema.specs.Bytes.{same}
use Rattle.metadata_schema.specs.Paths.{IsFilePath}
use Rattle.cell_merge.specs.declared.cell.Cell.{Cell}
use Rattle.level_rows.proofs.EndLemmas.{same-true}
use Rattle.log_files.specs.Sorted.{sorted_name}
use Rattle.store_layout.specs.Names.{file_of}
use Rattle.store_layout.specs.Tables.{Catalog}
use Rattle.store_meaning.specs.Ground.{Ground, IsGroundOf, ChangesOnly, with_told, with_cells, with_mutations, with_sorted}
use Rattle.store_meaning.specs.Levels.{Reading}
use Rattle.store_meaning.specs.InUse.{IsLogInUse, IsListedSorted}
use Rattle.store_meaning.specs.Marked.{IsFileCounted, AgreeWhereCounted}
use Rattle.store_meaning.specs.Stands.{StandsFor}
use Rattle.store_meaning.specs.Kept.{IsKept}
use Rattle.store_meaning.proofs.ChangeLemmas.{file_changed, log_changed, sorted_changed}
use Rattle.store_meaning.proofs.CountedLemmas.{stands_same, kept_same}

-- what is told of a name that counts stays
elsewhere : {V : Type 0} (Counts : List ℕ → Type 0) (tells : List ℕ → Option V) (name : List ℕ) (told : Option V) → (Counts name → ⊥) → (other : List ℕ) → Counts other → with_told tells name told other ≡ tells other
elsewhere Counts tells name told apart other counts = by (same other name) refl
  where
    by : (b : Bool) → same other name ≡ b → cond b told (tells other) ≡ tells other
    by true e = absurd (apart (subst Counts (same-true other name e) counts))
    by false e = refl

module _ (reading : Reading) (catalog : Catalog) (known : Ground) where
  pub agree_file : (path : List ℕ) (told : Option (List Cell)) → (IsFileCounted reading catalog path → ⊥) → AgreeWhereCounted reading catalog known (with_cells known path told)
  agree_file path told apart = record {
    in_use = record {
      nodes = refl;
      cells = λ other used. elsewhere (IsFileCounted reading catalog) known.cells_of path told apart other (inl used);
      mutations = λ log used. refl;
      sorted = λ log used. refl;
    };
    of_nodes = λ other named. elsewhere (IsFileCounted reading catalog) known.cells_of path told apart other (inr named);
  }

  agree_log : (log : List ℕ) (told : Option (List Mutation)) → (IsLogInUse known.nodes reading log → ⊥) → AgreeWhereCounted reading catalog known (with_mutations known log told)
  agree_log log told apart = record {
    in_use = record { nodes = refl; cells = λ path used. refl; mutations = elsewhere (IsLogInUse known.nodes reading) known.mutations_of log told apart; sorted = λ other used. refl };
    of_nodes = λ path named. refl;
  }

  agree_sorted : (log : List ℕ) (told : Option (List Mutation)) → (IsListedSorted known.nodes log → ⊥) → AgreeWhereCounted reading catalog known (with_sorted known log told)
  agree_sorted log told apart = record {
    in_use = record { nodes = refl; cells = λ path used. refl; mutations = λ other used. refl; sorted = elsewhere (IsListedSorted known.nodes) known.sorted_of log told apart };
    of_nodes = λ path named. refl;
  }

module _ (old new : Image) (state : PlainState) where
  pub file_aside : (is : StandsFor old state) (path : List ℕ) → IsFilePath path → (IsFileCounted is.reading is.catalog path → ⊥) → ChangesOnly (file_of path) old new → StandsFor new state
  file_aside is path form apart changes = record {
    known = with_cells is.known path None;
    of = file_changed old new is.known is.of path None form changes (λ cells e. absurd (none-some cells e));
    reading = is.reading;
    catalog = is.catalog;
    stands = stands_same is.reading is.catalog is.known (with_cells is.known path None) (agree_file is.reading is.catalog is.known path None apart) state is.stands;
  }

  pub log_aside : (is : StandsFor old state) (log : List ℕ) → IsLogName log → (IsLogInUse is.known.nodes is.reading log → ⊥) → ChangesOnly log old new → StandsFor new state
  log_aside is log form apart changes = record {
    known = with_mutations is.known log None;
    of = log_changed old new is.known is.of log None form changes (λ mutations e. absurd (none-some mutations e));
    reading = is.reading;
    catalog = is.catalog;
    stands = stands_same is.reading is.catalog is.known (with_mutations is.known log None) (agree_log is.reading is.catalog is.known log None apart) state is.stands;
  }

  pub sorted_aside : (is : StandsFor old state) (log : List ℕ) → IsLogName log → (IsListedSorted is.known.nodes log → ⊥) → ChangesOnly (sorted_name log) old new → StandsFor new state
  sorted_aside is log form apart changes = record {
    known = with_sorted is.known log None;
    of = sorted_changed old new is.known is.of log None form changes (λ mutations e. absurd (none-some mutations e));
    reading = is.reading;
    catalog = is.catalog;
    stands = stands_same is.reading is.catalog is.known (with_sorted is.known log None) (agree_sorted is.reading is.catalog is.known log None apart) state is.stands;
  }

  pub file_kept : (is : IsKept old state) (path : List ℕ) → IsFilePath path → (IsFileCounted is.reading is.catalog path → ⊥) → ChangesOnly (file_of path) old new → IsKept new state
  file_kept is path form apart changes = record {
    known = with_cells is.known path None;
    of = file_changed old new is.known is.of path None form changes (λ cells e. absurd (none-some cells e));
    reading = is.reading;
    catalog = is.catalog;
    kept = kept_same is.reading is.catalog is.known (with_cells is.known path None) (agree_file is.reading is.catalog is.known path None apart) state is.kept;
  }

  pub log_kept : (is : IsKept old state) (log : List ℕ) → IsLogName log → (IsLogInUse is.known.nodes is.reading log → ⊥) → ChangesOnly log old new → IsKept new state
  log_kept is log form apart changes = record {
    known = with_mutations is.known log None;
    of = log_changed old new is.known is.of log None form changes (λ mutations e. absurd (none-some mutations e));
    reading = is.reading;
    catalog = is.catalog;
    kept = kept_same is.reading is.catalog is.known (with_mutations is.known log None) (agree_log is.reading is.catalog is.known log None apart) state is.kept;
  }

  pub sorted_kept : (is : IsKept old state) (log : List ℕ) → IsLogName log → (IsListedSorted is.known.nodes log → ⊥) → ChangesOnly (sorted_name log) old new → IsKept new state
  sorted_kept is log form apart changes = record {
    known = with_sorted is.known log None;
    of = sorted_changed old new is.known is.of log None form changes (λ mutations e. absurd (none-some mutations e));
    reading = is.reading;
    catalog = is.catalog;
    kept = kept_same is.reading is.catalog is.known (with_sorted is.known log None) (agree_sorted is.reading is.catalog is.known log None apart) state is.kept;
  }
