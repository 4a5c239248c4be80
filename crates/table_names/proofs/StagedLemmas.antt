-- The paths of staged files.
use Rattle.std.proofs.Common.{◌≡◌, ℕ, Bool, true, false, List, ◌++◌, sym, ◌∙◌, ap, subst}
use Rattle.std.specs.Prelude.{MatchBool, codes}
use Rattle.std.proofs.lemmas.List.{append_cancel_right}
use Rattle.metadata_schema.specs.Paths.{IsDrawnText}
use Rattle.store_layout.specs.Tables.{IsStagedPath}

behind : (a b : List ℕ) → codes "stage/default_tablet/I" ++ a ≡ codes "stage/default_tablet/I" ++ b → a ≡ b
behind a b is = cc

pub tells_staged : (b : Bool) (bytes rest text : List ℕ) → bytes ≡ codes "stage/default_tablet/I" ++ rest → rest ≡ text ++ codes ".rf" → MatchBool b (IsDrawnText text) (IsDrawnText text → ⊥)
    → MatchBool b (IsStagedPath bytes) (IsStagedPath bytes → ⊥)
tells_staged true bytes rest text first ends drawn = record { text = text; drawn = drawn; is = first ∙ ap (λ (l : List ℕ). codes "stage/default_tablet/I" ++ l) ends }
tells_staged false bytes rest text first ends undrawn = λ path.
    let tails : text ++ codes ".rf" ≡ path.text ++ codes ".rf" = sym ends ∙ behind rest (path.text ++ codes ".rf") (sym first ∙ path.is) in
    undrawn (subst IsDrawnText (append_cancel_right path.text text (codes ".rf") (sym tails)) path.drawn)
