use Rattle.std.proofs.Common.{◌∙◌, ℕ, List, Option, Some, None, refl, sym, subst, arith}
use Rattle.std.specs.Prelude.{MatchOption, IsSome}
use Rattle.row_keys.specs.Forms.{IsTableId}
use Rattle.table_names.proofs.Numerals.{IsTableId-base36}
use Rattle.table_names.proofs.draws.table_id.Goals as goal

given : (o : Option (List ℕ)) (bytes : List ℕ) (P : List ℕ → Type 0) → IsTableId bytes → MatchOption o (IsTableId bytes → ⊥) P → IsSome o
given None bytes P form none = absurd (none form)
given (Some id) bytes P form some = refl

pub unwrap-requires : goal.unwrap-requires
unwrap-requires c = given c.in_ok-id.id c.deref.result.now _ (subst IsTableId (sym (c.deref.ensures.value ∙ c.in_ok-digits.ensures)) (IsTableId-base36 c.args.number (omega arith))) c.in_ok-id.ensures.ok
