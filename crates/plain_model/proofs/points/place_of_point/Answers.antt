use Rattle.std.proofs.Common.{length, refl, subst}
use Rattle.std.specs.List.Sorted.{IsBinarySearchResult, IsSearchInRange}
use Rattle.std.proofs.lemmas.Cmp.{nat_list_cmp_total}
use Rattle.std.proofs.lemmas.Map.Lookups.{exact_bytes}
use Rattle.row_keys.specs.RowOrder.{bytes_cmp}
use Rattle.plain_model.specs.Listed.{point_item}
use Rattle.plain_model.proofs.PlaceLemmas.{place_is}
use Rattle.plain_model.proofs.points.place_of_point.Goals as goal

pub returns-clause-place : goal.returns-clause-place
returns-clause-place c = λ m is. place_is nat_list_cmp_total exact_bytes point_item (λ row. row) (λ entry. refl) m c.args.row.now c.binary_search.result
    (subst (λ items. IsSearchInRange c.binary_search.result (length items)) is c.binary_search.ensures.bound)
    (subst (λ items. IsBinarySearchResult (λ row. bytes_cmp row c.args.row.now) items c.binary_search.result) is c.binary_search.ensures.position)
