use Rattle.std.proofs.Common.{◌++◌, ◌∷◌, [], List, length, take, ◌∙◌, ap, sym, subst, reverse}
use Rattle.host_model.specs.Calls.{Reaches}
use Rattle.memory_host.specs.declared.event.Event.{Event}
use Rattle.memory_host.specs.declared.event.Event.TheVariants.{Write}
use Rattle.memory_host.specs.Known.{Known}
use Rattle.memory_host.specs.Moments.{AddsWrite}
use Rattle.memory_host.proofs.MomentsLemmas.{wrote_adds, wrote_runs}
use Rattle.memory_host.proofs.moments.Moments.write.Goals as goal

pub invariant_of-self-2 : goal.invariant_of-self-2
invariant_of-self-2 c =
    wrote_runs c.self.inside.files c.write.new.self c.self.inside.said.items c.self.inside.past.items c.push_reserved.new.past.items c.in_ok-written.written c.args.landed c.args.bytes.now c.args.name.now c.args.at
    (subst (λ (k : Known). Reaches k.now.image c.args.name.now c.args.at) (sym c.self.view_is) c.requires.there) c.in_ok-written.ensures c.in_ok-write.ensures.ok c.requires.front
    (c.push_reserved.ensures ∙ ap (λ (l : List Event). l ++ Write c.in_ok-written.written ∷ []) c.reserve.ensures.items) c.self.invariant

pub returns-clause-ok : goal.returns-clause-ok
returns-clause-ok c =
    subst (λ k. AddsWrite c.args.name.now c.args.at (length c.args.bytes.now) (take c.args.landed c.args.bytes.now) k (record { now = record { image = c.write.new.self; said = c.self.inside.said.items }; past = reverse c.push_reserved.new.past.items })) c.self.view_is
    (wrote_adds c.self.inside.files c.write.new.self c.self.inside.said.items c.self.inside.past.items c.push_reserved.new.past.items c.in_ok-written.written c.args.landed c.args.bytes.now c.args.name.now c.args.at
    (subst (λ (k : Known). Reaches k.now.image c.args.name.now c.args.at) (sym c.self.view_is) c.requires.there) c.in_ok-written.ensures c.in_ok-write.ensures.ok c.requires.front
    (c.push_reserved.ensures ∙ ap (λ (l : List Event). l ++ Write c.in_ok-written.written ∷ []) c.reserve.ensures.items))
