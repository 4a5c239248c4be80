-- Images in which a log gains a mutation, the nodes change, or a file comes.
use Rattle.std.proofs.Common.{◌≡◌, ◌⊎◌, inl, inr, List, [], ◌∷◌, ◌++◌, ℕ, Option, Some, sym, ap, subst}
use Rattle.std.specs.Option.{option_map}
use Rattle.host_model.specs.Picture.{Image}
use Rattle.plain_model.specs.State.{PlainState}
use Rattle.metadata_schema.specs.declared.mutation.Mutation.{Mutation}
use Rattle.cell_merge.specs.declared.cell.Cell.{Cell}
use Rattle.store_layout.specs.Tables.{Catalog}
use Rattle.store_meaning.specs.Ground.{Ground, IsGroundOf, with_cells, with_mutations}
use Rattle.store_meaning.specs.Levels.{Reading}
use Rattle.store_meaning.specs.Marked.{IsFileCounted}
use Rattle.store_meaning.specs.Stands.{StandsAs}
use Rattle.store_meaning.specs.Writes.{appended}
use Rattle.store_meaning.specs.Kept.{IsKeptAs, IsKept}
use Rattle.store_meaning.proofs.CountedLemmas.{stands_same, kept_same}
use Rattle.store_meaning.proofs.UnnamedLemmas.{agree_file}

module _ (reading : Reading) (catalog : Catalog) (known : Ground) (state : PlainState) (path : List ℕ) (told : Option (List Cell)) (apart : IsFileCounted reading catalog path → ⊥) where
  pub file_stands : StandsAs reading catalog known state → StandsAs reading catalog (with_cells known path told) state
  file_stands is = stands_same reading catalog known (with_cells known path told) (agree_file reading catalog known path told apart) state is

  pub file_kept : IsKeptAs reading catalog known state → IsKeptAs reading catalog (with_cells known path told) state
  file_kept is = kept_same reading catalog known (with_cells known path told) (agree_file reading catalog known path told apart) state is

-- an image of the ground before, or of the one with the mutation
pub either_ground : (new : Image) (known : Ground) (log : List ℕ) (mutation : Mutation) (mutations : List Mutation) → known.mutations_of log ≡ Some mutations
    → IsGroundOf new known ⊎ IsGroundOf new (with_mutations known log (Some (mutations ++ mutation ∷ []))) → IsGroundOf new known ⊎ IsGroundOf new (appended known log mutation)
either_ground new known log mutation mutations told (inl before) = inl before
either_ground new known log mutation mutations told (inr after) = inr (subst (λ o. IsGroundOf new (with_mutations known log o)) (sym (ap (option_map (λ ms. ms ++ mutation ∷ [])) told)) after)

pub either_kept : (old new : Image) (before after : PlainState) (is : IsKept old before) (log : List ℕ) (mutation : Mutation) (reading : Reading) (catalog : Catalog) → IsKeptAs reading catalog (appended is.known log mutation) after
    → IsGroundOf new is.known ⊎ IsGroundOf new (appended is.known log mutation) → IsKept new before ⊎ IsKept new after
either_kept old new before after is log mutation reading catalog kept (inl of) = inl (record { known = is.known; of = of; reading = is.reading; catalog = is.catalog; kept = is.kept })
either_kept old new before after is log mutation reading catalog kept (inr of) = inr (record { known = appended is.known log mutation; of = of; reading = reading; catalog = catalog; kept = kept })
