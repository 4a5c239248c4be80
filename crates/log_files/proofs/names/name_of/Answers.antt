use Rattle.log_files.proofs.NameLemmas.{utf8}
use Rattle.log_files.proofs.names.name_of.Goals as goal

pub unreachable-requires : goal.unreachable-requires
unreachable-requires c = c.in_default.ensures.cases.0 (utf8 c.args.bytes.now c.requires)
