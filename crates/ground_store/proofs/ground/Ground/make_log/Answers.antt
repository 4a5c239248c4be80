use Rattle.std.proofs.Common.{[], ◌∷◌, ◌∙◌, Some, refl, subst}
use Rattle.host_model.specs.Picture.{Becomes}
use Rattle.host_model.proofs.Images.{changes_nothing}
use Rattle.ground_store.specs.Steps.{Anything, Writes}
use Rattle.ground_store.proofs.StepLemmas.{alters_file}
use Rattle.ground_store.proofs.ActLemmas.{acts_done, acts_stopped, still_stopped, journal_counted}
use Rattle.row_keys.specs.Forms.{IsLogName}
use Rattle.ground_store.proofs.LogLemmas.{rests_made}
use Rattle.ground_store.proofs.ground.Ground.make_log.Goals as goal

pub returns-in-Err-clause-acts : goal.returns-in-Err-clause-acts
returns-in-Err-clause-acts g c =
    still_stopped g.H.Host.state c.self.view_is c.in_default.is (g.met.H.Host.sound c.self.inside.host) (c.self.invariant c.in_default.is) (Writes c.args.log.now (0 ∷ [])) _ refl c.keep.ensures.kept c.keep.ensures.again tt (λ i. changes_nothing c.args.log.now Anything i tt)

pub returns-in-Err-create_log-clause-acts : goal.returns-in-Err-create_log-clause-acts
returns-in-Err-create_log-clause-acts g c =
    acts_stopped g.H.Host.state c.self.view_is c.in_default.is (g.met.H.Host.sound c.self.inside.host) (c.self.invariant c.in_default.is) (Writes c.args.log.now (0 ∷ [])) _ c.keep-in-Err-create_log.ensures.kept c.keep-in-Err-create_log.ensures.again (journal_counted c.in-Err-create_log.stop _ _ c.in-Err-create_log.ensures.stops)
    (alters_file Anything (Becomes (Some (0 ∷ []))) (g.met.H.Host.sound c.self.inside.host) c.in-Err-create_log.ensures.stores (λ x y d. tt) (λ x y a. a)) (λ i. changes_nothing c.args.log.now Anything i tt)

pub invariant_of-self-in-Ok-insert : goal.invariant_of-self-in-Ok-insert
invariant_of-self-in-Ok-insert g c = λ alive.
    rests_made c.args.log.now c.in-Ok.name c.in-Ok-create_log.made c.insert.new.self (subst IsLogName (c.name.view_is ∙ c.in-Ok.ensures.ok) c.name.invariant) c.in-Ok.ensures.ok c.in-Ok-create_log.ensures.made c.in-Ok-insert.ensures.ok (g.met.H.Host.sound c.self.inside.host) (c.self.invariant alive)
    (alters_file Anything (Becomes (Some (0 ∷ []))) (g.met.H.Host.sound c.self.inside.host) c.in-Ok-create_log.ensures.stores (λ x y d. tt) (λ x y a. a)) (λ f. c.in-Ok-create_log.ensures.opened f)

pub returns-in-Ok-insert-clause-acts : goal.returns-in-Ok-insert-clause-acts
returns-in-Ok-insert-clause-acts g c =
    acts_done g.H.Host.state c.self.view_is c.in_default.is (g.met.H.Host.sound c.self.inside.host) (c.self.invariant c.in_default.is) _ c.in_default.is
    (alters_file Anything (Becomes (Some (0 ∷ []))) (g.met.H.Host.sound c.self.inside.host) c.in-Ok-create_log.ensures.stores (λ x y d. tt) (λ x y a. a)) (λ i. changes_nothing c.args.log.now Anything i tt)

pub returns-in-Err-insert-clause-acts : goal.returns-in-Err-insert-clause-acts
returns-in-Err-insert-clause-acts g c =
    acts_stopped g.H.Host.state c.self.view_is c.in_default.is (g.met.H.Host.sound c.self.inside.host) (c.self.invariant c.in_default.is) (Writes c.args.log.now (0 ∷ [])) _ c.keep-in-Err-insert.ensures.kept c.keep-in-Err-insert.ensures.again tt
    (alters_file Anything (Becomes (Some (0 ∷ []))) (g.met.H.Host.sound c.self.inside.host) c.in-Ok-create_log.ensures.stores (λ x y d. tt) (λ x y a. a)) (λ i. changes_nothing c.args.log.now Anything i tt)
