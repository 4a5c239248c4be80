use Rattle.std.proofs.Common.{◌≡◌, ◌∷◌, rules, sym, subst}
use Rattle.std.specs.Prelude.{codes}
use Rattle.table_names.specs.Marks.{IsNoMark}
use Rattle.table_names.proofs.MarkLemmas.{other_paths}
use Rattle.table_names.proofs.marks.read_import.Goals as goal

pub returns-in_default-3 : goal.returns-in_default-3
returns-in_default-3 c =
    let words : c.args.words.now ≡ c.in-Some.tid.now ∷ c.in-Some.paths.now = search rules in
    let none = rw c.in_default-3.is at c.in_ok-paths.ensures in
    subst (λ ws. IsNoMark (codes "import" ∷ ws)) (sym words) (other_paths c.in-Some.tid.now c.in-Some.paths.now none)
