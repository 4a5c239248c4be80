use Rattle.std.proofs.Common.{◌∙◌, sym, ap, take, ◌++◌, ◌∷◌, []}
use Rattle.std.specs.BTreeMap.{insert_entry}
use Rattle.std.specs.FinMap as map
use Rattle.std.proofs.lemmas.List.{take_more}
use Rattle.row_keys.specs.Keys.{key_cmp}
use Rattle.plain_model.specs.Apply.{put_all, entries_of}
use Rattle.plain_model.proofs.PairLemmas.{put_all-push, insert_entry-entries, entries_of-push}
use Rattle.plain_model.proofs.index.put_copies.Goals as goal

pub loop-pair-preserved : goal.loop-pair-preserved
loop-pair-preserved c = λ m is.
    let pairs = take c.loop-pair.pair-index c.args.pairs.now in
    let pair = c.in_ok-pair.pair in
    c.in_ok-insert.ensures.entries ∙ ap (λ es. insert_entry key_cmp es pair.key pair.value) (c.loop-pair.invariant m is)
    ∙ insert_entry-entries (put_all (entries_of pairs) m) pair.key pair.value
    ∙ ap map.entries (sym (put_all-push (entries_of pairs) (pair.key, pair.value) m))
    ∙ ap (λ es. map.entries (put_all es m)) (sym (entries_of-push pairs pair))
    ∙ ap (λ more. map.entries (put_all (entries_of more) m)) (ap (λ last. pairs ++ last ∷ []) (c.in_ok-pair.ensures ∙ c.pair-item.is) ∙ sym (take_more c.args.pairs.now c.loop-pair.pair-index _ c.loop-pair-test.true))
