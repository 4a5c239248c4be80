use Rattle.std.proofs.Common.{◌∙◌, ℕ, List, Option, Some, None, refl, sym, subst}
use Rattle.std.specs.Prelude.{MatchOption, IsSome}
use Rattle.row_keys.specs.Forms.{IsSessionId}
use Rattle.server_nodes.proofs.DigitLemmas.{session_form}
use Rattle.server_nodes.proofs.sessions.session_of.Goals as goal

given : (o : Option (List ℕ)) (bytes : List ℕ) (P : List ℕ → Type 0) → IsSessionId bytes → MatchOption o (IsSessionId bytes → ⊥) P → IsSome o
given None bytes P form none = absurd (none form)
given (Some id) bytes P form some = refl

pub unwrap-requires : goal.unwrap-requires
unwrap-requires c = given c.in_ok-session.session c.deref.result.now _ (subst IsSessionId (sym (c.deref.ensures.value ∙ c.in_ok-digits.ensures)) (session_form c.args.number)) c.in_ok-session.ensures.ok
