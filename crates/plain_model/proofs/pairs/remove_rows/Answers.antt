use Rattle.std.proofs.Common.{◌∙◌, ap, refl, Bool, not, rules}
use Rattle.std.specs.List.{filter}
use Rattle.std.specs.Option.{option_copied}
use Rattle.std.proofs.lemmas.Fn.{filter_same}
use Rattle.row_keys.specs.declared.key.Key.{Key}
use Rattle.row_keys.specs.RowOrder.{is_within}
use Rattle.plain_model.specs.declared.operation.Pair.{Pair}
use Rattle.plain_model.specs.Listed.{pair_item}
use Rattle.plain_model.proofs.KeyOrder.{key_total, key_exact}
use Rattle.plain_model.proofs.PlaceLemmas.{filter-listed}
use Rattle.plain_model.proofs.pairs.remove_rows.Goals as goal

pub returns : goal.returns
returns c = λ m is.
    let stays : Key → Bool = λ key. not (is_within (option_copied c.args.from) (option_copied c.args.to) key.row) in
    let kept : Pair → Bool = λ pair. stays pair.key in
    c.from_vec.ensures ∙ filter_same _ kept _ (λ pair b f called. search rules) _ _ c.retain.ensures.filtered
    ∙ ap (filter kept) (c.into_vec-items.ensures ∙ c.replace.ensures.value ∙ is) ∙ filter-listed key_total key_exact pair_item m kept stays (λ entry. refl)
