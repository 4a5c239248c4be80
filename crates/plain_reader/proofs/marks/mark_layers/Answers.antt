use Rattle.std.proofs.Common.{◌∙◌, sym, subst}
use Rattle.state_reader.specs.Lacks.{AreOfTable}
use Rattle.plain_reader.proofs.PartLemmas.{filtered_of_table}
use Rattle.plain_reader.proofs.marks.mark_layers.Goals as goal

pub layers_over-requires : goal.layers_over-requires
layers_over-requires c =
    subst (AreOfTable c.args.table.now) (sym (c.deref.ensures.value ∙ c.in_ok-tablets-in-Import.ensures)) (filtered_of_table c.args.table.now c.args.mark.now c.args.chain.now c.requires)
