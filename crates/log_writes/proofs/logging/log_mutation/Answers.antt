use Rattle.std.proofs.Common.{sym, subst}
use Rattle.log_files.specs.Mutations.{IsMutation}
use Rattle.ground_store.specs.Acts.{stop_of}
use Rattle.ground_store.proofs.EventLemmas.{acts_more}
use Rattle.log_writes.specs.Logging.{MayLogMutation, LogsMutation}
use Rattle.log_writes.proofs.ActLemmas.{still}
use Rattle.log_writes.proofs.LogLemmas.{may_log, logs, may_stay, opened}
use Rattle.log_writes.proofs.logging.log_mutation.Goals as goal

pub returns-in-Err-clause-acts : goal.returns-in-Err-clause-acts
returns-in-Err-clause-acts g c =
    still g.H.Host.state (MayLogMutation c.args.log.now c.args.mutation.now) (LogsMutation c.args.log.now c.args.mutation.now) (g.met.H.Host.sound c.args.ground.now.host) (may_stay c.args.log.now c.args.mutation.now) c.stop.ensures.acts

pub returns-clause-acts : goal.returns-clause-acts
returns-clause-acts g c =
    let is = subst (λ bytes. IsMutation bytes c.args.mutation.now) (sym c.deref.ensures.value) c.in-Ok.ensures in
    let open_at = opened c.args.ground.now.logs (g.H.Host.state c.args.ground.now.host) c.in_ok-check.ensures.rest.open_logs c.args.log.now c.requires.log in
    acts_more g.H.Host.state (MayLogMutation c.args.log.now c.args.mutation.now) (LogsMutation c.args.log.now c.args.mutation.now) (stop_of c.log_append.result) (g.met.H.Host.sound c.args.ground.now.host) c.log_append.ensures.acts
    (λ f i change. may_log c.args.mutation.now is (open_at f) change) (λ f change. logs c.args.mutation.now is (open_at f) change)
