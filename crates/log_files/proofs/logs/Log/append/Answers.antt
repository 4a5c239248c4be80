use Rattle.log_files.proofs.LogLemmas.{appends_mutation}
use Rattle.log_files.proofs.logs.Log.append.Goals as goal

pub returns-clause-logs : goal.returns-clause-logs
returns-clause-logs g c = λ mutations mutation is holds.
    let had = rw (← c.self.view_is) at holds in
    rw (← c.self.view_is) (appends_mutation c.self.inside.journal.name c.args.framed.now c.self.inside.journal.end mutations mutation c.append.result (g.H.Host.state c.args.host.now) (g.H.Host.state c.append.new.host) is had c.append.ensures.appends)
