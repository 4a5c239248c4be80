use Rattle.std.proofs.Common.{◌∙◌, ap, sym}
use Rattle.std.specs.FinMap as map
use Rattle.row_keys.specs.Keys.{key_cmp}
use Rattle.plain_model.specs.Apply.{put_all, entries_of}
use Rattle.plain_model.proofs.InOrder.{entries-empty}
use Rattle.plain_model.proofs.PairLemmas.{entries_of-listed, put_all-entries}
use Rattle.plain_model.proofs.index.with_files.Goals as goal

pub returns : goal.returns
returns c = λ staged m next files pairs all.
    let own = c.in_ok-put_copies.ensures map.empty (c.new-index.ensures.empty ∙ sym (entries-empty _ key_cmp))
    ∙ ap map.entries (ap (λ ps. put_all (entries_of ps) map.empty) pairs ∙ ap (λ es. put_all es map.empty) (entries_of-listed m) ∙ put_all-entries m) in
    c.pairs_in_order.ensures next (c.in_ok-put_files.ensures staged m next files own all)
