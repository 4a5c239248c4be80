use Rattle.std.proofs.Common.{rules}
use Rattle.std.specs.Fmt.{decimal}
use Rattle.std.proofs.lemmas.List.{append-nil}
use Rattle.metadata_schema.proofs.files.plain_value.Goals as goal

pub returns : goal.returns
returns c = rw (append-nil (decimal c.args.entries)) (search rules)
