use Rattle.std.proofs.Common.{sym, subst}
use Rattle.script_words.specs.CommandLine.{IsUsage}
use Rattle.script_words.proofs.command_line.read_words.Goals as goal

pub returns-in_err-dir-clause-refused : goal.returns-in_err-dir-clause-refused
returns-in_err-dir-clause-refused c = λ usage. absurd ((subst IsUsage (sym c.as_slice.ensures) usage).none _ c.in-Some.ensures)

pub returns-clause-refused : goal.returns-clause-refused
returns-clause-refused c = λ usage. absurd ((subst IsUsage (sym c.as_slice.ensures) usage).none _ c.in-Some.ensures)
