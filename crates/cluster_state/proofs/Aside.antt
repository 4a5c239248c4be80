-- Files that don't count come, go or are torn, and what is kept stays so.
use Rattle.std.proofs.Common.{◌≡◌, inl, inr, ℕ, Bool, true, false, cond, List, ◌∷◌, Option, refl, subst}
use Rattle.host_model.specs.Picture.{Image, ChangesFile}
use Rattle.host_model.proofs.Images.{change_weaker}
use Rattle.row_keys.specs.Forms.{IsLogName}
use Rattle.plain_model.specs.State.{PlainState}
use Rattle.metadata_schema.specs.declared.mutation.Mutation.{Mutation}
use Rattle.metadata_schema.specs.Bytes.{same}
use Rattle.metadata_schema.specs.Paths.{IsFilePath}
use Rattle.cell_merge.specs.declared.cell.Cell.{Cell}
use Rattle.level_rows.proofs.EndLemmas.{same-true}
use Rattle.log_files.specs.Sorted.{sorted_name}
use Rattle.store_layout.specs.Names.{file_of, IsRemovableName}
use Rattle.store_layout.specs.Tables.{Catalog}
use Rattle.store_meaning.specs.Ground.{Ground, ChangesOnly, with_told, with_cells, with_mutations, with_sorted}
use Rattle.store_meaning.specs.Levels.{Reading}
use Rattle.store_meaning.specs.InUse.{IsLogInUse, IsListedSorted}
use Rattle.store_meaning.specs.Marked.{IsFileCounted}
use Rattle.store_meaning.specs.Kept.{IsKeptAs}
use Rattle.store_meaning.proofs.CountedLemmas.{kept_same}
use Rattle.store_meaning.proofs.UnnamedLemmas.{file_kept, log_kept, sorted_kept}
use Rattle.cluster_state.specs.Passing.{IsFileAside, IsSortAside, IsNameAside, KeepsAside}
use Rattle.cluster_state.proofs.Moved.{TellsSame}

-- ---- images

-- whatever becomes of one file
pub any_change : {step : Option (List ℕ) → Option (List ℕ) → Type 0} {name : List ℕ} {old new : Image} → ChangesFile name step old new → ChangesOnly name old new
any_change changes = change_weaker (λ old new. Unit {0}) changes (λ old new step. tt)

pub file_keeps : {step : Option (List ℕ) → Option (List ℕ) → Type 0} (path : List ℕ) → IsFilePath path → (old new : Image) → ChangesFile (file_of path) step old new → KeepsAside (IsFileAside path) old new
file_keeps path form old new changes plain is apart = file_kept old new plain is path form apart (any_change changes)

pub sort_keeps : {step : Option (List ℕ) → Option (List ℕ) → Type 0} (log : List ℕ) → IsLogName log → (old new : Image) → ChangesFile (sorted_name log) step old new → KeepsAside (IsSortAside log) old new
sort_keeps log form old new changes plain is apart = sorted_kept old new plain is log form apart (any_change changes)

-- the log of a sorted log's session
abbrev pub log_name : List ℕ → List ℕ
log_name session = 108 ∷ 111 ∷ 103 ∷ 45 ∷ session

pub name_keeps : {step : Option (List ℕ) → Option (List ℕ) → Type 0} (name : List ℕ) → IsRemovableName name → (old new : Image) → ChangesFile name step old new → KeepsAside (IsNameAside name) old new
name_keeps {step} name (inl file) old new changes plain is aside =
    file_kept old new plain is file.path file.form (aside.file file.path file.form file.is) (any_change (subst (λ n. ChangesFile n step old new) file.is changes))
name_keeps {step} name (inr (inl log)) old new changes plain is aside = log_kept old new plain is name log (aside.log log) (any_change changes)
name_keeps {step} name (inr (inr sort)) old new changes plain is aside =
    let form : IsLogName (log_name sort.session) = record { session = sort.session; is = refl; form = sort.form } in
    sorted_kept old new plain is (log_name sort.session) form (aside.sorted (log_name sort.session) form sort.is) (any_change (subst (λ n. ChangesFile n step old new) sort.is changes))

-- ---- grounds

-- what is told of a name that counts stays
elsewhere : {V : Type 0} (Counts : List ℕ → Type 0) (tells : List ℕ → Option V) (name : List ℕ) (told : Option V) → (Counts name → ⊥) → (other : List ℕ) → Counts other → with_told tells name told other ≡ tells other
elsewhere Counts tells name told apart other counts = by (same other name) refl
  where
    by : (b : Bool) → same other name ≡ b → cond b told (tells other) ≡ tells other
    by true e = absurd (apart (subst Counts (same-true other name e) counts))
    by false e = refl

module _ (reading : Reading) (catalog : Catalog) (known : Ground) (plain : PlainState) (kept : IsKeptAs reading catalog known plain) where
  pub told_file : (path : List ℕ) (told : Option (List Cell)) → (IsFileCounted reading catalog path → ⊥) → TellsSame reading known (with_cells known path told)
  told_file path told apart = record { files = λ other used. elsewhere (IsFileCounted reading catalog) known.cells_of path told apart other (inl used); logs = λ log named. refl }

  pub told_log : (log : List ℕ) (told : Option (List Mutation)) → (IsLogInUse known.nodes reading log → ⊥) → TellsSame reading known (with_mutations known log told)
  told_log log told apart = record { files = λ path used. refl; logs = λ other named. elsewhere (IsLogInUse known.nodes reading) known.mutations_of log told apart other (inl named) }

  pub sort_kept : (log : List ℕ) (told : Option (List Mutation)) → (IsListedSorted known.nodes log → ⊥) → IsKeptAs reading catalog (with_sorted known log told) plain
  sort_kept log told apart = kept_same reading catalog known (with_sorted known log told) (record {
    in_use = record { nodes = refl; cells = λ path used. refl; mutations = λ other used. refl; sorted = elsewhere (IsListedSorted known.nodes) known.sorted_of log told apart };
    of_nodes = λ path named. refl;
  }) plain kept
