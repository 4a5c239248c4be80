use Rattle.std.proofs.Common.{◌∙◌, sym, ap}
use Rattle.fate_trial.specs.Stored.{book_of}
use Rattle.fate_trial.proofs.SiteLemmas.{site_nodes}
use Rattle.fate_trial.proofs.stacks.NodeStacksStacksSite.status.Goals as goal

pub returns-clause-is : goal.returns-clause-is
returns-clause-is g c = λ f. c.in_ok-status.ensures ∙ ap (λ n. (book_of n c.args.tid).status) (sym (site_nodes g.H.Host.state c.args.env.now c.requires c.in_ok-going.ensures.runs f))
