use Rattle.host_model.proofs.Images.{changes_nothing}
use Rattle.data_files.specs.Files.{spelled_file}
use Rattle.store_layout.specs.Names.{file_of}
use Rattle.ground_store.specs.Steps.{Anything, Writes}
use Rattle.ground_store.proofs.ActLemmas.{rests_file, acts_done, acts_stopped, file_counted}
use Rattle.ground_store.proofs.ground.Ground.put_file.Goals as goal

pub invariant_of-self : goal.invariant_of-self
invariant_of-self g c = λ alive. rests_file c.args.path.now c.requires.path (g.met.H.Host.sound c.self.inside.host) (c.self.invariant alive) c.in-Ok.ensures.alters

pub returns-in-Ok-clause-acts : goal.returns-in-Ok-clause-acts
returns-in-Ok-clause-acts g c = acts_done g.H.Host.state c.self.view_is c.in_default.is (g.met.H.Host.sound c.self.inside.host) (c.self.invariant c.in_default.is) _ c.in_default.is c.in-Ok.ensures.alters (λ i. changes_nothing (file_of c.args.path.now) Anything i tt)

pub returns-in-Err-clause-acts : goal.returns-in-Err-clause-acts
returns-in-Err-clause-acts g c =
    acts_stopped g.H.Host.state c.self.view_is c.in_default.is (g.met.H.Host.sound c.self.inside.host) (c.self.invariant c.in_default.is) (Writes (file_of c.args.path.now) (spelled_file c.args.cells.now)) _ c.keep.ensures.kept c.keep.ensures.again (file_counted c.in-Err.stop _ _ c.in-Err.ensures.stops) c.in-Err.ensures.alters (λ i. changes_nothing (file_of c.args.path.now) Anything i tt)
