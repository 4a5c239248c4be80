use Rattle.store_layout.proofs.NameLemmas.{utf8}
use Rattle.store_layout.proofs.names.name_of_bytes.Goals as goal

pub unreachable-requires : goal.unreachable-requires
unreachable-requires c = c.in_default.ensures.cases.0 (utf8 c.args.bytes.now c.requires)
