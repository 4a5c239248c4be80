-- What two grounds tell alike, as far as both tell it.
use Rattle.std.proofs.Common.{◌≡◌, ℕ, List, [], ◌∷◌, ◌++◌, Option, Some, None, map, filter, refl, sym, ◌∙◌, ap}
use Rattle.std.specs.List.{flat_map}
use Rattle.std.specs.Option.{option_map}
use Rattle.std.proofs.lemmas.Option.{same_Some, none-some}
use Rattle.metadata_schema.specs.declared.tablet.TabletRecord.{TabletRecord}
use Rattle.cell_merge.specs.Newest.{clipped}
use Rattle.level_rows.specs.Chain.{Rows, effective_prev}
use Rattle.store_layout.specs.declared.tables.Mark.{Mark}
use Rattle.store_meaning.specs.Ground.{Ground, Agree}
use Rattle.store_meaning.specs.Content.{both_told, all_told, timed, cells_of_mutation, counts_for, file_cells, log_cells, logs_of, content_of, tablet_content, contents_of}
use Rattle.store_meaning.specs.Marked.{mark_paths, is_lacking, cells_within, layer_of, layers_of}

-- the same, where both are there
abbrev pub SameIfBoth : {V : Type 0} → Option V → Option V → Type 0
SameIfBoth {V} one other = (a b : V) → one ≡ Some a → other ≡ Some b → a ≡ b

mapped : {X Y : Type 0} (f : X → Y) (one other : Option X) → SameIfBoth one other → SameIfBoth (option_map f one) (option_map f other)
mapped f None other same a b e g = absurd (none-some a e)
mapped f (Some x) None same a b e g = absurd (none-some b g)
mapped f (Some x) (Some y) same a b e g = sym (same_Some (f x) a e) ∙ ap f (same x y refl refl) ∙ same_Some (f y) b g

both : {Y : Type 0} (one other front back : Option (List Y)) → SameIfBoth one front → SameIfBoth other back → SameIfBoth (both_told one other) (both_told front back)
both None other front back p q a b e g = absurd (none-some a e)
both (Some x) None front back p q a b e g = absurd (none-some a e)
both (Some x) (Some y) None back p q a b e g = absurd (none-some b g)
both (Some x) (Some y) (Some u) None p q a b e g = absurd (none-some b g)
both (Some x) (Some y) (Some u) (Some v) p q a b e g =
    let fronts = p x u refl refl in
    let backs = q y v refl refl in
    sym (same_Some (x ++ y) a e) ∙ (λ i. fronts i ++ backs i) ∙ same_Some (u ++ v) b g

each_told : {X Y : Type 0} (f g : X → Option (List Y)) → ((x : X) → SameIfBoth (f x) (g x)) → (xs : List X) → SameIfBoth (all_told f xs) (all_told g xs)
each_told f g same [] a b p q = sym (same_Some [] a p) ∙ same_Some [] b q
each_told f g same (x ∷ xs) a b p q = both (f x) (all_told f xs) (g x) (all_told g xs) (same x) (each_told f g same xs) a b p q

module _ (one other : Ground) (agree : Agree one other) where
  same_content : (low : Option (List ℕ)) (tablet : TabletRecord) → SameIfBoth (content_of one low tablet) (content_of other low tablet)
  same_content low tablet =
      mapped (clipped low tablet.end) _ _ (both _ _ _ _
      (each_told (file_cells one) (file_cells other) (λ file. mapped (map (timed file.time)) _ _ (agree.cells file.path)) tablet.files)
      (each_told (log_cells one tablet) (log_cells other tablet) (λ log. mapped (λ mutations. flat_map cells_of_mutation (filter (counts_for tablet) mutations)) _ _ (agree.mutations log)) (logs_of tablet)))

  pub same_contents : (rows : Rows) (chain : List TabletRecord) → SameIfBoth (contents_of one rows chain) (contents_of other rows chain)
  same_contents rows chain = each_told (tablet_content one rows) (tablet_content other rows) (λ tablet. same_content (effective_prev rows tablet) tablet) chain

  pub same_layers : (rows : Rows) (chain : List TabletRecord) (mark : Mark) → SameIfBoth (layers_of one rows chain mark) (layers_of other rows chain mark)
  same_layers rows chain mark =
      each_told (layer_of one rows (filter (is_lacking mark) chain)) (layer_of other rows (filter (is_lacking mark) chain))
      (λ path. mapped (λ cells. cells_within rows (filter (is_lacking mark) chain) cells ∷ []) _ _ (agree.cells path)) (mark_paths mark)
