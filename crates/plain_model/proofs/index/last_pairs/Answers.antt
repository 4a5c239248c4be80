use Rattle.std.proofs.Common.{◌∙◌, sym}
use Rattle.std.specs.FinMap as map
use Rattle.row_keys.specs.Keys.{key_cmp}
use Rattle.plain_model.specs.Apply.{put_all, entries_of}
use Rattle.plain_model.proofs.InOrder.{entries-empty}
use Rattle.plain_model.proofs.index.last_pairs.Goals as goal

pub returns : goal.returns
returns c = c.pairs_in_order.ensures (put_all (entries_of c.args.pairs.now) map.empty) (c.in_ok-put_copies.ensures map.empty (c.new-index.ensures.empty ∙ sym (entries-empty _ key_cmp)))
