use Rattle.std.proofs.Common.{rules}
use Rattle.bytes_form.specs.Fields.{number_field}
use Rattle.bytes_form.proofs.puts.put_u16.Goals as goal

pub returns-clause-ok : goal.returns-clause-ok
unfolding number_field
returns-clause-ok c = search rules
