use Rattle.std.proofs.Common.{subst}
use Rattle.table_store.specs.Reading.{HasPath}
use Rattle.table_store.proofs.ReadingLemmas.{node_is}
use Rattle.table_store.proofs.reading.has_root.Goals as goal

pub returns-in-Some : goal.returns-in-Some
returns-in-Some c = let nodes = c.args.nodes.now.nodes in subst (λ p. HasPath nodes p) c.in_ok-path.ensures (node_is nodes c.in_ok-path.path c.get.result c.in-Some.field-0 c.get.ensures c.in-Some.is)
