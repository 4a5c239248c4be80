use Rattle.std.proofs.Common.{IfOk, reverse, subst}
use Rattle.std.proofs.lemmas.Result.{IfOk-weaker}
use Rattle.memory_host.specs.declared.pick.Pick.TheVariants.{Kept, Lost, Ones}
use Rattle.memory_host.specs.Past.{May}
use Rattle.memory_host.specs.Known.{Known}
use Rattle.memory_host.proofs.CrashLemmas.{made_may}
use Rattle.memory_host.proofs.moments.Moments.after_crash.Goals as goal

pub returns-in-Kept-clause-left : goal.returns-in-Kept-clause-left
returns-in-Kept-clause-left c =
    let k : Known = record { now = record { image = c.self.inside.files; said = c.self.inside.said.items }; past = reverse c.self.inside.past.items } in
    subst (λ (m : Known). IfOk c.landed.result (λ files. May m.past m.now (record { image = files; said = m.now.said }))) c.self.view_is
    (made_may Kept k c.landed.result c.self.invariant (IfOk-weaker c.landed.result _ _ (λ left is. is c.self.inside.said.items) c.landed.ensures))

pub returns-in-Lost-clause-left : goal.returns-in-Lost-clause-left
returns-in-Lost-clause-left c =
    let k : Known = record { now = record { image = c.self.inside.files; said = c.self.inside.said.items }; past = reverse c.self.inside.past.items } in
    subst (λ (m : Known). IfOk c.lost.result (λ files. May m.past m.now (record { image = files; said = m.now.said }))) c.self.view_is
    (made_may Lost k c.lost.result c.self.invariant (IfOk-weaker c.lost.result _ _ (λ left is. is c.self.inside.said.items) c.lost.ensures))

pub returns-clause-left : goal.returns-clause-left
returns-clause-left c =
    let k : Known = record { now = record { image = c.self.inside.files; said = c.self.inside.said.items }; past = reverse c.self.inside.past.items } in
    subst (λ (m : Known). IfOk c.with_ones.result (λ files. May m.past m.now (record { image = files; said = m.now.said }))) c.self.view_is
    (made_may Ones k c.with_ones.result c.self.invariant (IfOk-weaker c.with_ones.result _ _ (λ left is. is c.self.inside.said.items) c.with_ones.ensures))
