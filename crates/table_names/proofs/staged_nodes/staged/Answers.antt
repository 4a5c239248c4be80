use Rattle.std.proofs.Common.{◌≡◌, Some, rules, ◌∙◌, subst}
use Rattle.std.specs.FinMap as map
use Rattle.store_layout.specs.Tables.{staged_path, IsStagedPath}
use Rattle.table_names.proofs.ToldLemmas.{staged_at}
use Rattle.table_names.proofs.staged_nodes.staged.Goals as goal

pub returns-in-Some-2-clause-ok : goal.returns-in-Some-2-clause-ok
returns-in-Some-2-clause-ok c =
    let read = rw c.in-Some-2.is at c.in_ok-path.ensures in
    let there : map.get c.args.nodes.now.nodes (staged_path c.args.name.now) ≡ Some c.in-Some.node.now = search rules in
    staged_at c.args.nodes.now.nodes c.args.name.now c.in-Some-2.path c.in-Some.node.now c.staged_path.ensures.form there (read.0 ∙ c.as_bytes.ensures) (subst IsStagedPath c.as_bytes.ensures read.1)
