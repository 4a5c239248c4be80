use Rattle.std.proofs.Common.{◌∙◌, ap, nat_eq}
use Rattle.std.specs.List.{list_any}
use Rattle.std.specs.Cmp.Lexicographic.{pointwise}
use Rattle.plain_model.specs.declared.tables.PlainTable.{PlainTable}
use Rattle.plain_model.proofs.StoreLemmas.{tables_are, any_name}
use Rattle.plain_model.proofs.store.PlainStore.has_name.Goals as goal

pub returns : goal.returns
returns c =
    c.is_name_used.ensures
    ∙ ap (list_any (λ (table : PlainTable). pointwise nat_eq c.args.name.now table.name)) (c.deref.ensures.value ∙ tables_are c.self.inside c.args.self.now c.self.view_is c.self.invariant)
    ∙ any_name c.args.name.now c.args.self.now.tables
