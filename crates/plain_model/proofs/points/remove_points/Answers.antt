use Rattle.std.proofs.Common.{◌∙◌, ap, refl, not, ◌&&◌, rules, List, ℕ}
use Rattle.std.specs.List.{filter}
use Rattle.std.specs.Option.{option_copied}
use Rattle.std.proofs.lemmas.Fn.{filter_same}
use Rattle.std.proofs.lemmas.Map.Lookups.{exact_bytes}
use Rattle.std.proofs.lemmas.Cmp.{nat_list_cmp_total}
use Rattle.row_keys.specs.RowOrder.{is_above}
use Rattle.plain_model.specs.Apply.{is_under}
use Rattle.plain_model.specs.Listed.{point_item}
use Rattle.plain_model.proofs.PlaceLemmas.{filter-listed}
use Rattle.plain_model.proofs.points.remove_points.Goals as goal

pub returns : goal.returns
returns c = λ m is.
    let stays : List ℕ → _ = λ row. not (is_above (option_copied c.args.from) row && is_under (option_copied c.args.to) row) in
    c.from_vec.ensures ∙ filter_same _ stays _ (λ row b f called. search rules) _ _ c.retain.ensures.filtered
    ∙ ap (filter stays) (c.into_vec-items.ensures ∙ c.replace.ensures.value ∙ is) ∙ filter-listed nat_list_cmp_total exact_bytes point_item m stays stays (λ entry. refl)
