-- The candidates and flags of all levels, from those of each.
use Rattle.std.proofs.Common.{◌⊎◌, ◌↔◌, inl, inr, ℕ, List, Result, Ok, Err, Contains, IsTrue}
use Rattle.std.specs.List.Sorted.{IsSorted}
use Rattle.std.specs.Result.{IfOk}
use Rattle.row_keys.specs.RowOrder.{bytes_cmp}
use Rattle.metadata_schema.specs.Bytes.{is_rising}
use Rattle.metadata_schema.specs.Paths.{IsFilePath}
use Rattle.node_store.specs.Nodes.{Nodes}
use Rattle.store_meaning.specs.Ground.{Ground}
use Rattle.store_meaning.specs.Levels.{Reading, IsReadingOf}
use Rattle.store_meaning.specs.Kept.{IsCandidate}
use Rattle.state_reader.specs.declared.level.LoadFlag.{LoadFlag}
use Rattle.level_index.specs.Lists.{AreCandidatesOf, AreFlagsOf}
use Rattle.level_cache.specs.Marks.{IsListedFile, AreCandidatesIn, flag_cmp, AreFlagsIn}

-- one list has what two others have
abbrev pub HasBoth : {X : Type 0} → List X → List X → List X → Type 0
HasBoth {X} joined all more = (x : X) → Contains joined x ↔ (Contains all x ⊎ Contains more x)

module _ (nodes : Nodes) (known : Ground) (reading : Reading) (is : IsReadingOf known reading) where
  pub all_candidates : (listed upper some lower paths : List (List ℕ)) → ((path : List ℕ) → Contains listed path ↔ IsListedFile nodes path) → AreCandidatesOf reading.metadata upper → AreCandidatesOf reading.users lower
      → HasBoth some listed upper → HasBoth paths some lower → IsTrue (is_rising bytes_cmp paths) → AreCandidatesIn nodes reading paths
  all_candidates listed upper some lower paths named above below first second order = record { each = λ path. (there path, back path); order = order }
    where
      in_some : (path : List ℕ) → Contains listed path ⊎ Contains upper path → IsFilePath path × IsCandidate nodes reading path
      in_some path (inl has) = let file = (named path).0 has in (file.form, inr (inr file.listed))
      in_some path (inr has) = let marked = (above.each path).0 has in (is.metadata.candidate_paths path marked, inl marked)

      in_all : (path : List ℕ) → Contains some path ⊎ Contains lower path → IsFilePath path × IsCandidate nodes reading path
      in_all path (inl has) = in_some path ((first path).0 has)
      in_all path (inr has) = let marked = (below.each path).0 has in (is.users.candidate_paths path marked, inr (inl marked))

      there : (path : List ℕ) → Contains paths path → IsFilePath path × IsCandidate nodes reading path
      there path has = in_all path ((second path).0 has)

      from : (path : List ℕ) → IsFilePath path → IsCandidate nodes reading path → Contains some path ⊎ Contains lower path
      from path form (inl marked) = inl ((first path).1 (inr ((above.each path).1 marked)))
      from path form (inr (inl marked)) = inr ((below.each path).1 marked)
      from path form (inr (inr listed)) = inl ((first path).1 (inl ((named path).1 (record { form = form; listed = listed }))))

      back : (path : List ℕ) → IsFilePath path × IsCandidate nodes reading path → Contains paths path
      back path marked = (second path).1 (from path marked.0 marked.1)

pub all_flags : (reading : Reading) (upper lower flags : List LoadFlag) → AreFlagsOf reading.metadata upper → AreFlagsOf reading.users lower → HasBoth flags upper lower → IsSorted flag_cmp flags → AreFlagsIn reading flags
all_flags reading upper lower flags above below both order = record {
  each = λ flag. (
    λ has. elim ((both flag).0 has) [ inl one ↦ inl ((above.each flag).0 one) | inr one ↦ inr ((below.each flag).0 one) ],
    λ either. (both flag).1 (elim either [ inl one ↦ inl ((above.each flag).1 one) | inr one ↦ inr ((below.each flag).1 one) ]),
  );
  order = order;
}

-- two facts of an answer
pub both_ok : {T E : Type 0} (r : Result T E) (P Q R : T → Type 0) → ((value : T) → P value → Q value → R value) → IfOk r P → IfOk r Q → IfOk r R
both_ok (Ok value) P Q R both one other = both value one other
both_ok (Err fault) P Q R both one other = tt
