-- A chain that is there, and one that isn't.
use Rattle.std.proofs.Common.{◌≡◌, List, [], ◌∷◌, Bor, Option, Some, None, IsSome, ◌∙◌, subst, refl}
use Rattle.std.specs.Prelude.{IfSome, IfNone}
use Rattle.std.specs.Option.{option_copied}
use Rattle.metadata_schema.specs.declared.tablet.TabletRecord.{TabletRecord}
use Rattle.level_rows.specs.Chain.{Rows, IsChain, HasChain}
use Rattle.level_rows.specs.Broken.{IsBroken}
use Rattle.level_rows.proofs.WayLemmas.{not_broken_from}

pub none_of : {X : Type 0} (o : Option X) (P : Type 0) → ((x : X) → o ≡ Some x → ⊥) → IfNone o P → P
none_of None P none p = p
none_of (Some x) P none p = absurd (none x (λ i. Some x))

pub some_of : {X : Type 0} (o : Option X) (x : X) (P : X → Type 0) → o ≡ Some x → IfSome o P → P x
some_of {X = X} o x P is p = let Q : Option X → Type 0 = λ o. IfSome o P in subst Q is p

pub some_unless : {X : Type 0} (o : Option X) (P : Type 0) → IfNone o P → (P → ⊥) → IsSome o
some_unless None P p not = absurd (not p)
some_unless (Some x) P p not = refl

pub last_there : (rows : Rows) (o : Option (Bor TabletRecord)) → HasChain rows → option_copied o ≡ rows None → IsSome o
last_there rows o chain is = by chain.0 chain.1 o is
  where
    by : (ts : List TabletRecord) → IsChain rows ts → (o : Option (Bor TabletRecord)) → option_copied o ≡ rows None → IsSome o
    by [] p o e = absurd p
    by (t ∷ ts) p None e = absurd (let wrong = e ∙ p.0 in cc)
    by (t ∷ ts) p (Some x) e = refl

pub chain_not_broken : (rows : Rows) → HasChain rows → IsBroken rows → ⊥
chain_not_broken rows chain broken = not_broken_from rows None chain.0 broken.0 chain.1 broken.1
