use Rattle.std.proofs.Common.{◌∙◌, None, inl, refl, ap}
use Rattle.std.specs.FinMap as map
use Rattle.host_model.specs.Picture.{MayBecome}
use Rattle.host_model.proofs.Images.{changes_nothing}
use Rattle.ground_store.specs.Steps.{Takes}
use Rattle.ground_store.proofs.ActLemmas.{acts_done, acts_stopped, still_stopped, file_counted}
use Rattle.ground_store.proofs.RemoveLemmas.{removed_logs, found_named, rests_removed}
use Rattle.ground_store.proofs.ground.Ground.remove_name.Goals as goal

pub returns-in-Err-clause-acts : goal.returns-in-Err-clause-acts
returns-in-Err-clause-acts g c =
    still_stopped g.H.Host.state c.self.view_is c.in_default.is (g.met.H.Host.sound c.self.inside.host) (c.self.invariant c.in_default.is) (Takes c.args.name.now) _ refl c.keep.ensures.kept c.keep.ensures.again tt (λ i. changes_nothing c.args.name.now (MayBecome None) i (inl refl))

pub invariant_of-self-in-Ok-take_logged : goal.invariant_of-self-in-Ok-take_logged
invariant_of-self-in-Ok-take_logged g c = λ alive.
    let rest = c.self.invariant alive in
    rests_removed c.args.name.now c.requires (removed_logs c.args.name.now c.in-Ok.log c.self.inside.logs (λ key log is. (rest.open_logs.named key log is).0) (found_named c.as_bytes.ensures.bytes c.in-Ok.log c.in-Ok.ensures.ok) c.in-Ok-take_logged.ensures.logs) (g.met.H.Host.sound c.self.inside.host) rest c.in-Ok-take_logged.ensures.alters

pub returns-in-Ok-take_logged-clause-acts : goal.returns-in-Ok-take_logged-clause-acts
returns-in-Ok-take_logged-clause-acts g c =
    acts_done g.H.Host.state c.self.view_is c.in_default.is (g.met.H.Host.sound c.self.inside.host) (c.self.invariant c.in_default.is) _ c.in_default.is c.in-Ok-take_logged.ensures.alters (λ i. changes_nothing c.args.name.now (MayBecome None) i (inl refl))

pub returns-in-Ok-take_logged-clause-logs : goal.returns-in-Ok-take_logged-clause-logs
returns-in-Ok-take_logged-clause-logs g c =
    let rest = c.self.invariant c.in_default.is in
    removed_logs c.args.name.now c.in-Ok.log c.self.inside.logs (λ key log is. (rest.open_logs.named key log is).0) (found_named c.as_bytes.ensures.bytes c.in-Ok.log c.in-Ok.ensures.ok) c.in-Ok-take_logged.ensures.logs ∙ ap (λ v. map.remove v.logs c.args.name.now) c.self.view_is

pub returns-in-Err-take_logged-clause-acts : goal.returns-in-Err-take_logged-clause-acts
returns-in-Err-take_logged-clause-acts g c =
    acts_stopped g.H.Host.state c.self.view_is c.in_default.is (g.met.H.Host.sound c.self.inside.host) (c.self.invariant c.in_default.is) (Takes c.args.name.now) _ c.keep-in-Err-take_logged.ensures.kept c.keep-in-Err-take_logged.ensures.again (file_counted c.in-Err-take_logged.stop _ _ c.in-Err-take_logged.ensures.stops)
    c.in-Err-take_logged.ensures.alters (λ i. changes_nothing c.args.name.now (MayBecome None) i (inl refl))
