use Rattle.std.proofs.Common.{ℕ, List, Contains, take, sym, ◌∙◌, subst}
use Rattle.std.proofs.lemmas.Bool.{false≢true}
use Rattle.std.proofs.lemmas.List.{take_all}
use Rattle.std.proofs.lemmas.Slice.Eq.{bytes_eq-Decides}
use Rattle.state_reader.proofs.RowLists.{one_more}
use Rattle.plain_state.proofs.ListLemmas.{not_more}
use Rattle.plain_state.proofs.listed.is_among.Goals as goal

pub loop-other-preserved : goal.loop-other-preserved
loop-other-preserved c =
    let listed = c.args.listed.now in
    let other = c.other-item.result in
    let log = c.args.log.now in
    subst (λ (l : List (List ℕ)). Contains l log → ⊥) (sym (one_more listed c.loop-other.other-index other c.loop-other-test.true c.other-item.is))
    (not_more (take c.loop-other.other-index listed) other log c.loop-other.invariant (λ is. false≢true (sym c.if-eq.false ∙ c.eq.ensures ∙ (bytes_eq-Decides c.as_bytes.result.now log).1 (c.as_bytes.ensures ∙ is))))

pub returns : goal.returns
returns c = subst (λ (l : List (List ℕ)). Contains l c.args.log.now → ⊥) (take_all c.loop-other.other-index c.args.listed.now c.loop-other-test.false) c.loop-other.invariant
