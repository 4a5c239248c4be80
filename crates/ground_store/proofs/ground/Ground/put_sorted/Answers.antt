use Rattle.host_model.proofs.Images.{changes_nothing}
use Rattle.log_files.specs.Sorted.{sorted_name}
use Rattle.store_layout.proofs.NameLemmas.{sorted_is_no_nodes, sorted_is_no_log}
use Rattle.ground_store.specs.Steps.{Anything, WritesSort}
use Rattle.ground_store.proofs.ActLemmas.{rests_other, acts_done, acts_stopped, file_counted}
use Rattle.ground_store.proofs.ground.Ground.put_sorted.Goals as goal

pub invariant_of-self : goal.invariant_of-self
invariant_of-self g c = λ alive. rests_other (sorted_name c.args.log.now) (sorted_is_no_nodes c.args.log.now) (λ log is. sorted_is_no_log c.args.log.now log is) (g.met.H.Host.sound c.self.inside.host) (c.self.invariant alive) c.in-Ok.ensures.alters

pub returns-in-Ok-clause-acts : goal.returns-in-Ok-clause-acts
returns-in-Ok-clause-acts g c =
    acts_done g.H.Host.state c.self.view_is c.in_default.is (g.met.H.Host.sound c.self.inside.host) (c.self.invariant c.in_default.is) _ c.in_default.is c.in-Ok.ensures.alters (λ i. changes_nothing (sorted_name c.args.log.now) Anything i tt)

pub returns-in-Err-clause-acts : goal.returns-in-Err-clause-acts
returns-in-Err-clause-acts g c =
    acts_stopped g.H.Host.state c.self.view_is c.in_default.is (g.met.H.Host.sound c.self.inside.host) (c.self.invariant c.in_default.is) (WritesSort (sorted_name c.args.log.now) c.args.mutations.now) _ c.keep.ensures.kept c.keep.ensures.again (file_counted c.in-Err.stop _ _ c.in-Err.ensures.stops)
    c.in-Err.ensures.alters (λ i. changes_nothing (sorted_name c.args.log.now) Anything i tt)
