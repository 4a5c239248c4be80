use Rattle.std.proofs.Common.{sym, ap, ◌∙◌}
use Rattle.plain_model.specs.Listed.{listed, pair_item}
use Rattle.plain_model.proofs.InOrder.{removed_none}
use Rattle.plain_model.proofs.KeyOrder.{key_total, key_exact}
use Rattle.row_keys.specs.Keys.{key_cmp}
use Rattle.plain_model.proofs.pairs.remove_item.Goals as goal

pub returns-in-Err : goal.returns-in-Err
returns-in-Err c = λ m is. is ∙ ap (listed pair_item) (sym (removed_none key_cmp key_total key_exact m c.args.key.now (c.in-Err.ensures.place m (c.deref.ensures.value ∙ is)).has_not))
