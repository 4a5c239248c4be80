use Rattle.std.proofs.Common.{None, inl, refl}
use Rattle.host_model.specs.Picture.{MayBecome}
use Rattle.host_model.proofs.Images.{changes_nothing}
use Rattle.store_layout.specs.Names.{file_of}
use Rattle.ground_store.specs.Steps.{Takes}
use Rattle.ground_store.proofs.ActLemmas.{rests_file, acts_done, acts_stopped, file_counted}
use Rattle.ground_store.proofs.ground.Ground.remove_file.Goals as goal

pub invariant_of-self : goal.invariant_of-self
invariant_of-self g c = λ alive. rests_file c.args.path.now c.requires (g.met.H.Host.sound c.self.inside.host) (c.self.invariant alive) c.in-Ok.ensures.alters

pub returns-in-Ok-clause-acts : goal.returns-in-Ok-clause-acts
returns-in-Ok-clause-acts g c = acts_done g.H.Host.state c.self.view_is c.in_default.is (g.met.H.Host.sound c.self.inside.host) (c.self.invariant c.in_default.is) _ c.in_default.is c.in-Ok.ensures.alters (λ i. changes_nothing (file_of c.args.path.now) (MayBecome None) i (inl refl))

pub returns-in-Err-clause-acts : goal.returns-in-Err-clause-acts
returns-in-Err-clause-acts g c =
    acts_stopped g.H.Host.state c.self.view_is c.in_default.is (g.met.H.Host.sound c.self.inside.host) (c.self.invariant c.in_default.is) (Takes (file_of c.args.path.now)) _ c.keep.ensures.kept c.keep.ensures.again (file_counted c.in-Err.stop _ _ c.in-Err.ensures.stops) c.in-Err.ensures.alters (λ i. changes_nothing (file_of c.args.path.now) (MayBecome None) i (inl refl))
