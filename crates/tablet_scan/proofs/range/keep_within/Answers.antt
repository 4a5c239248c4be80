use Rattle.std.proofs.Common.{Bool, rules}
use Rattle.std.specs.Option.{option_copied}
use Rattle.std.proofs.lemmas.Fn.{filter_same}
use Rattle.row_keys.specs.RowOrder.{is_within}
use Rattle.cell_merge.specs.declared.cell.Cell.{Cell}
use Rattle.tablet_scan.proofs.range.keep_within.Goals as goal

pub returns : goal.returns
returns c =
    let stays : Cell → Bool = λ cell. is_within (option_copied c.args.low) (option_copied c.args.high) cell.key.row in
    filter_same _ stays _ (λ cell b f called. search rules) _ _ c.retain.ensures.filtered
