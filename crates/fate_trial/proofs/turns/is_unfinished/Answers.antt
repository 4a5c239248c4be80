use Rattle.std.proofs.Common.{◌∙◌, sym, ap, Some}
use Rattle.fate_trial.specs.Stored.{book_of}
use Rattle.fate_trial.proofs.TurnLemmas.{submitted, going_back}
use Rattle.fate_trial.proofs.turns.is_unfinished.Goals as goal

pub returns-in-Some-Submitted : goal.returns-in-Some-Submitted
returns-in-Some-Submitted g c = submitted (book_of c.args.env.now.nodes.nodes c.args.tid) (sym c.in_ok-status.ensures ∙ c.in-Some-Submitted.is ∙ ap Some c.in-Some-Submitted.field-0-is)

pub returns-in-Some-FailedInProgress : goal.returns-in-Some-FailedInProgress
returns-in-Some-FailedInProgress g c = going_back (book_of c.args.env.now.nodes.nodes c.args.tid) (sym c.in_ok-status.ensures ∙ c.in-Some-FailedInProgress.is ∙ ap Some c.in-Some-FailedInProgress.field-0-is)
