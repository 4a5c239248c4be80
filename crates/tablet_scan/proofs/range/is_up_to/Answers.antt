use Rattle.std.proofs.Common.{◌∙◌, sym, ap, Bor, Option, List, ℕ}
use Rattle.std.specs.Option.{option_copied}
use Rattle.row_keys.specs.RowOrder.{is_up_to}
use Rattle.row_keys.proofs.RowOrderLemmas.{is_le-bytes_cmp}
use Rattle.tablet_scan.proofs.range.is_up_to.Goals as goal

pub returns-in-Some : goal.returns-in-Some
returns-in-Some c =
    c.le.ensures ∙ is_le-bytes_cmp c.args.row.now c.in-Some.high.now
    ∙ sym (ap (λ (o : Option (Bor (List ℕ))). is_up_to (option_copied o) c.args.row.now) c.in-Some.is)
