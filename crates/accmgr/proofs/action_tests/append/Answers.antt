use Rattle.accmgr.proofs.LogLemmas.{made_is_there}
use Rattle.accmgr.proofs.action_tests.append.Goals as goal

pub log_append-requires : goal.log_append-requires
log_append-requires c = made_is_there c.args.store.now.logs c.make_log.new.self.logs c.args.log.now (record { name = c.args.log.now; end = 0 }) c.in-Ok.ensures.made
