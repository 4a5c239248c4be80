use Rattle.std.proofs.Common.{◌≡◌, ◌++◌, ◌∷◌, [], List, ◌∙◌, ap, subst, reverse}
use Rattle.memory_host.specs.declared.event.Event.{Event}
use Rattle.memory_host.specs.declared.event.Event.TheVariants.{Put}
use Rattle.memory_host.specs.Files.{as_file}
use Rattle.memory_host.specs.Moments.{AddsPut}
use Rattle.memory_host.proofs.MomentsLemmas.{put_adds, put_runs}
use Rattle.memory_host.proofs.moments.Moments.put.Goals as goal

pub invariant_of-self-2 : goal.invariant_of-self-2
invariant_of-self-2 c =
    put_runs c.self.inside.files c.set.new.self c.self.inside.said.items c.self.inside.past.items c.push_reserved.new.past.items c.args.name.now (as_file c.args.file) c.in_ok-was.was' c.in_ok-was.ensures.ok
    (subst (λ (n : List _). c.push_reserved.new.past.items ≡ c.self.inside.past.items ++ Put n c.in_ok-was.was' ∷ []) c.in_ok-kept_name.ensures (c.push_reserved.ensures ∙ ap (λ (l : List Event). l ++ Put c.in_ok-kept_name.kept_name c.in_ok-was.was' ∷ []) c.reserve.ensures.items)) c.self.invariant

pub returns-clause-ok : goal.returns-clause-ok
returns-clause-ok c =
    subst (λ k. AddsPut c.args.name.now (as_file c.args.file) k (record { now = record { image = c.set.new.self; said = c.self.inside.said.items }; past = reverse c.push_reserved.new.past.items })) c.self.view_is
    (put_adds c.self.inside.files c.set.new.self c.self.inside.said.items c.self.inside.past.items c.push_reserved.new.past.items c.args.name.now (as_file c.args.file) c.in_ok-was.was' c.in_ok-was.ensures.ok
    (subst (λ (n : List _). c.push_reserved.new.past.items ≡ c.self.inside.past.items ++ Put n c.in_ok-was.was' ∷ []) c.in_ok-kept_name.ensures (c.push_reserved.ensures ∙ ap (λ (l : List Event). l ++ Put c.in_ok-kept_name.kept_name c.in_ok-was.was' ∷ []) c.reserve.ensures.items)))
