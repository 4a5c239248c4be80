use Rattle.std.proofs.Common.{length, refl, subst, rules}
use Rattle.std.specs.List.Sorted.{IsBinarySearchResult, IsSearchInRange}
use Rattle.std.proofs.lemmas.Cmp.{nat_list_cmp_total}
use Rattle.std.proofs.lemmas.Fn.{always_returns_same}
use Rattle.std.proofs.lemmas.Map.Lookups.{exact_bytes}
use Rattle.row_keys.specs.RowOrder.{bytes_cmp}
use Rattle.plain_model.specs.Listed.{table_item}
use Rattle.plain_model.proofs.PlaceLemmas.{place_is}
use Rattle.plain_model.proofs.tables.place_of_table.Goals as goal

pub returns-clause-place : goal.returns-clause-place
returns-clause-place c = λ m is. place_is nat_list_cmp_total exact_bytes table_item (λ item. item.id) (λ entry. refl) m c.args.id.now c.binary_search_by.result
    (subst (λ items. IsSearchInRange c.binary_search_by.result (length items)) is c.binary_search_by.ensures.bound)
    (subst (λ items. IsBinarySearchResult (λ item. bytes_cmp item.id c.args.id.now) items c.binary_search_by.result) is (c.binary_search_by.ensures.position (λ item. bytes_cmp item.id c.args.id.now) (always_returns_same _ _ _ (λ item r compare called. search rules))))
