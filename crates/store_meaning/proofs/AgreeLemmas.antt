-- Grounds of one image agree.
use Rattle.std.proofs.Common.{◌≡◌, ℕ, List, sym, ◌∙◌, subst}
use Rattle.std.proofs.lemmas.Option.{same_Some}
use Rattle.host_model.specs.Picture.{Image}
use Rattle.metadata_schema.specs.declared.mutation.Mutation.{Mutation}
use Rattle.cell_merge.specs.declared.cell.Cell.{Cell}
use Rattle.data_files.specs.Files.{HoldsCells, IsDataFile}
use Rattle.log_files.specs.Logs.{HasLog, IsLog}
use Rattle.log_files.specs.Sorted.{HasSorted, IsSortedLog}

abbrev pub OneList : {V : Type 0} → (List ℕ → V → Type 0) → Type 0
OneList {V} Is = (bytes : List ℕ) (one other : V) → Is bytes one → Is bytes other → one ≡ other

pub one_file : OneList IsDataFile → (name : List ℕ) (image : Image) (a b : List Cell) → HoldsCells name a image → HoldsCells name b image → a ≡ b
one_file law name image a b one two = law two.bytes a b (subst (λ bytes. IsDataFile bytes a) (same_Some _ _ (sym one.there ∙ two.there)) one.file) two.file

pub one_log : OneList IsLog → (name : List ℕ) (image : Image) (a b : List Mutation) → HasLog name a image → HasLog name b image → a ≡ b
one_log law name image a b one two = law two.bytes a b (subst (λ bytes. IsLog bytes a) (same_Some _ _ (sym one.there ∙ two.there)) one.is_log) two.is_log

pub one_sorted : OneList IsSortedLog → (name : List ℕ) (image : Image) (a b : List Mutation) → HasSorted name a image → HasSorted name b image → a ≡ b
one_sorted law name image a b one two = law two.bytes a b (subst (λ bytes. IsSortedLog bytes a) (same_Some _ _ (sym one.there ∙ two.there)) one.is_sorted) two.is_sorted
