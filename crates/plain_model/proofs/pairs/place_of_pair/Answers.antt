use Rattle.std.proofs.Common.{length, refl, subst, rules}
use Rattle.std.specs.List.Sorted.{IsBinarySearchResult, IsSearchInRange}
use Rattle.std.proofs.lemmas.Fn.{always_returns_same}
use Rattle.row_keys.specs.Keys.{key_cmp}
use Rattle.plain_model.specs.Listed.{pair_item}
use Rattle.plain_model.proofs.KeyOrder.{key_total, key_exact}
use Rattle.plain_model.proofs.PlaceLemmas.{place_is}
use Rattle.plain_model.proofs.pairs.place_of_pair.Goals as goal

pub returns-clause-place : goal.returns-clause-place
returns-clause-place c = λ m is. place_is key_total key_exact pair_item (λ pair. pair.key) (λ entry. refl) m c.args.key.now c.binary_search_by.result
    (subst (λ items. IsSearchInRange c.binary_search_by.result (length items)) is c.binary_search_by.ensures.bound)
    (subst (λ items. IsBinarySearchResult (λ pair. key_cmp pair.key c.args.key.now) items c.binary_search_by.result) is (c.binary_search_by.ensures.position (λ pair. key_cmp pair.key c.args.key.now) (always_returns_same _ _ _ (λ pair r compare called. search rules))))
