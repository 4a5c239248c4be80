use Rattle.std.proofs.Common.{◌≡◌, ◌++◌, ◌∷◌, [], List, ◌∙◌, ap, subst, sym, reverse, inr}
use Rattle.host_model.specs.Picture.{file_at, Image}
use Rattle.memory_host.specs.declared.event.Event.{Event}
use Rattle.memory_host.specs.declared.event.Event.TheVariants.{CutRemove}
use Rattle.memory_host.specs.Known.{IsRun, Known}
use Rattle.memory_host.specs.Moments.{CutsRemove}
use Rattle.memory_host.proofs.MomentsLemmas.{cut_adds, cut_runs, removed_nothing}
use Rattle.memory_host.proofs.moments.Moments.cut_remove.Goals as goal

pub invariant_of-self-2 : goal.invariant_of-self-2
invariant_of-self-2 c =
    cut_runs c.self.inside.files c.remove.new.self c.self.inside.said.items c.self.inside.past.items c.push_reserved.new.past.items c.args.name.now c.in-Some.was c.remove.ensures.after c.in-Some.ensures.was
    (subst (λ (n : List _). c.push_reserved.new.past.items ≡ c.self.inside.past.items ++ CutRemove n c.in-Some.was ∷ []) c.in_ok-kept_name.ensures (c.push_reserved.ensures ∙ ap (λ (l : List Event). l ++ CutRemove c.in_ok-kept_name.kept_name c.in-Some.was ∷ []) c.reserve.ensures.items)) c.self.invariant

pub returns-clause-ok : goal.returns-clause-ok
returns-clause-ok c =
    subst (λ k. CutsRemove c.args.name.now k (record { now = record { image = c.remove.new.self; said = c.self.inside.said.items }; past = reverse c.push_reserved.new.past.items })) c.self.view_is
    (cut_adds c.self.inside.files c.remove.new.self c.self.inside.said.items c.self.inside.past.items c.push_reserved.new.past.items c.args.name.now c.in-Some.was c.remove.ensures.after c.in-Some.ensures.was
    (subst (λ (n : List _). c.push_reserved.new.past.items ≡ c.self.inside.past.items ++ CutRemove n c.in-Some.was ∷ []) c.in_ok-kept_name.ensures (c.push_reserved.ensures ∙ ap (λ (l : List Event). l ++ CutRemove c.in_ok-kept_name.kept_name c.in-Some.was ∷ []) c.reserve.ensures.items)))

pub invariant_of-self-in_default : goal.invariant_of-self-in_default
invariant_of-self-in_default c =
    subst (λ (i : Image). IsRun (reverse c.reserve.new.self.items) (record { image = i; said = c.self.inside.said.items })) (sym (removed_nothing c.self.inside.files c.remove.new.self c.args.name.now c.remove.ensures.after c.in_default.ensures.was))
    (subst (λ (l : List Event). IsRun (reverse l) (record { image = c.self.inside.files; said = c.self.inside.said.items })) (sym c.reserve.ensures.items) c.self.invariant)

pub returns-in_default-clause-ok : goal.returns-in_default-clause-ok
returns-in_default-clause-ok c =
    let same : c.remove.new.self ≡ c.self.inside.files = removed_nothing c.self.inside.files c.remove.new.self c.args.name.now c.remove.ensures.after c.in_default.ensures.was in
    inr (ap (λ (i : Image). record { now = record { image = i; said = c.self.inside.said.items }; past = reverse c.reserve.new.self.items }) same ∙ ap (λ (l : List Event). record { now = record { image = c.self.inside.files; said = c.self.inside.said.items }; past = reverse l }) c.reserve.ensures.items ∙ c.self.view_is, ap (λ (k : Known). file_at k.now.image c.args.name.now) (sym c.self.view_is) ∙ sym c.in_default.ensures.was)
