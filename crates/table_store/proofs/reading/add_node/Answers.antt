use Rattle.std.proofs.Common.{◌∙◌, inl, refl, sym}
use Rattle.table_store.proofs.ReadingLemmas.{is_fixed_path, not_fixed_path, free_name}
use Rattle.table_store.proofs.reading.add_node.Goals as goal

pub returns-then-is_fixed : goal.returns-then-is_fixed
returns-then-is_fixed c = inl (is_fixed_path c.args.path.now (sym c.is_fixed.ensures ∙ c.if-is_fixed.true), refl)

pub returns-in_default : goal.returns-in_default
returns-in_default c = let table = rw c.in_default.is at c.in_ok-name.ensures in record {
  fixed = not_fixed_path c.args.path.now (sym c.is_fixed.ensures ∙ c.if-is_fixed.false);
  free = λ name id node free. table.none name id node;
}

pub returns-then-contains : goal.returns-then-contains
returns-then-contains c = let table = rw c.in-Some.is at c.in_ok-name.ensures in record {
  fixed = not_fixed_path c.args.path.now (sym c.is_fixed.ensures ∙ c.if-is_fixed.false);
  free = λ name id node free. free_name c.args.next c.args.path.now c.args.value.now c.args.tables.now c.in-Some.name name c.in-Some.id id table (sym c.contains.ensures ∙ c.if-contains.true) node free;
}
