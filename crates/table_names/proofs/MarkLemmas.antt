-- Marks of imports whose paths aren't those of files.
use Rattle.std.proofs.Common.{◌≡◌, ℕ, List, ◌∷◌, subst}
use Rattle.std.specs.Prelude.{codes}
use Rattle.std.specs.List.{All}
use Rattle.metadata_schema.specs.Paths.{IsFilePath}
use Rattle.store_layout.specs.declared.tables.Mark.{Mark}
use Rattle.store_layout.specs.declared.tables.Mark.TheVariants.{Free, Merge, Import}
use Rattle.store_layout.specs.Tables.{mark_words, IsMark}
use Rattle.table_names.specs.Marks.{IsMarkOf, IsNoMark}

by_mark : (tid : List ℕ) (paths : List (List ℕ)) → (All IsFilePath paths → ⊥) → (mark : Mark) → codes "import" ∷ tid ∷ paths ≡ mark_words mark → IsMark mark → ⊥
by_mark tid paths none Free is form = cc
by_mark tid paths none (Merge other phase from to) is form = cc
by_mark tid paths none (Import other others) is form = (let same : others ≡ paths = cc in none (subst (All IsFilePath) same form.1))

pub other_paths : (tid : List ℕ) (paths : List (List ℕ)) → (All IsFilePath paths → ⊥) → IsNoMark (codes "import" ∷ tid ∷ paths)
other_paths tid paths none = record { none = λ mark is. by_mark tid paths none mark is.is is.form }
