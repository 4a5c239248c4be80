-- Where the files of an import mark count.
use Rattle.std.proofs.Common.{◌≡◌, inl, inr, ℕ, Bool, true, false, cond, ◌||◌, List, [], ◌∷◌, ◌++◌, Contains, Option, Some, None, filter, refl, sym, ◌∙◌, ap, ltb}
use Rattle.std.specs.List.{list_any}
use Rattle.std.specs.Option.{option_map}
use Rattle.std.proofs.lemmas.Option.{same_Some, none-some}
use Rattle.row_keys.specs.declared.key.Key.{Key}
use Rattle.metadata_schema.specs.declared.tablet.TabletRecord.{TabletRecord}
use Rattle.cell_merge.specs.declared.cell.Cell.{Cell}
use Rattle.cell_merge.specs.Newest.{clipped, later, latest}
use Rattle.cell_merge.specs.Changes.{overlaid}
use Rattle.cell_merge.proofs.LatestLemmas.{latest-append, latest-clipped}
use Rattle.cell_merge.proofs.MergedLemmas.{latest-clipped_outside}
use Rattle.level_rows.specs.Chain.{Rows, effective_prev}
use Rattle.level_rows.specs.Extents.{holds_row}
use Rattle.level_rows.proofs.Membership.{Contains-nil, Contains-here, Contains-there, Contains-cons_cases, Contains-filter, Contains-in_filter}
use Rattle.store_layout.specs.declared.tables.Mark.{Mark}
use Rattle.store_meaning.specs.Ground.{Ground}
use Rattle.store_meaning.specs.Content.{both_told, all_told}
use Rattle.store_meaning.proofs.RowLemmas.{later-none}
use Rattle.store_meaning.specs.Marked.{mark_paths, is_lacking, cells_within, layer_of, layers_of, whole_layer, layered}

-- ---- one file over some tablets

pub later_itself : (o : Option Cell) → later o o ≡ o
later_itself None = refl
later_itself (Some c) = by (ltb c.time c.time)
  where
    by : (b : Bool) → cond b (Some c) (Some c) ≡ Some c
    by true = refl
    by false = refl

-- some tablet of these holds the row
abbrev pub has_holder : Rows → List TabletRecord → Key → Bool
has_holder rows tablets key = list_any (λ tablet. holds_row rows tablet key.row) tablets

latest_within : (rows : Rows) (tablets : List TabletRecord) (cells : List Cell) (key : Key) → latest (cells_within rows tablets cells) key ≡ cond (has_holder rows tablets key) (latest cells key) None
latest_within rows [] cells key = refl
latest_within rows (t ∷ ts) cells key =
    latest-append (clipped (effective_prev rows t) t.end cells) (cells_within rows ts cells) key
    ∙ ap (later (latest (clipped (effective_prev rows t) t.end cells) key)) (latest_within rows ts cells key)
    ∙ by (holds_row rows t key.row) (has_holder rows ts key) refl
  where
    by : (b d : Bool) → holds_row rows t key.row ≡ b → later (latest (clipped (effective_prev rows t) t.end cells) key) (cond d (latest cells key) None) ≡ cond (b || d) (latest cells key) None
    by true true e = ap (λ o. later o (latest cells key)) (latest-clipped (effective_prev rows t) t.end cells key e) ∙ later_itself (latest cells key)
    by true false e = later-none (latest (clipped (effective_prev rows t) t.end cells) key) ∙ latest-clipped (effective_prev rows t) t.end cells key e
    by false d e = ap (λ o. later o (cond d (latest cells key) None)) (latest-clipped_outside (effective_prev rows t) t.end cells key e)

no_holder : (rows : Rows) (tablets : List TabletRecord) (key : Key) → ((tablet : TabletRecord) → Contains tablets tablet → holds_row rows tablet key.row ≡ true → ⊥) → has_holder rows tablets key ≡ false
no_holder rows [] key none = refl
no_holder rows (t ∷ ts) key none = by (holds_row rows t key.row) refl (no_holder rows ts key (λ tablet there. none tablet (Contains-there t tablet ts there)))
  where
    by : (b : Bool) → holds_row rows t key.row ≡ b → has_holder rows ts key ≡ false → b || has_holder rows ts key ≡ false
    by true e rest = absurd (none t (Contains-here t ts) e)
    by false e rest = rest

pub some_holder : (rows : Rows) (tablets : List TabletRecord) (key : Key) (tablet : TabletRecord) → Contains tablets tablet → holds_row rows tablet key.row ≡ true → has_holder rows tablets key ≡ true
some_holder rows [] key tablet there holds = absurd (Contains-nil tablet there)
some_holder rows (t ∷ ts) key tablet there holds = by (holds_row rows t key.row) refl (λ rest. some_holder rows ts key tablet rest holds)
  where
    by : (b : Bool) → holds_row rows t key.row ≡ b → (Contains ts tablet → has_holder rows ts key ≡ true) → b || has_holder rows ts key ≡ true
    by true e more = refl
    by false e more = elim (Contains-cons_cases t tablet ts there) [
      | inl is ↦ absurd (let wrong : true ≡ false = sym holds ∙ ap (λ u. holds_row rows u key.row) (sym is) ∙ e in cc)
      | inr rest ↦ more rest
    ]

-- ---- all files over some tablets

pub both_parts : {Y : Type 0} (one other : Option (List Y)) (all : List Y) → both_told one other ≡ Some all → (front : List Y) × (back : List Y) × (one ≡ Some front) × (other ≡ Some back) × (all ≡ front ++ back)
both_parts None other all e = absurd (none-some all e)
both_parts (Some x) None all e = absurd (none-some all e)
both_parts (Some x) (Some y) all e = (x, y, refl, refl, sym (same_Some (x ++ y) all e))

layer_parts : {X Y : Type 0} (f : X → Y) (o : Option X) (layers : List Y) → option_map (λ x. f x ∷ []) o ≡ Some layers → (x : X) × (o ≡ Some x) × (layers ≡ f x ∷ [])
layer_parts f None layers e = absurd (none-some layers e)
layer_parts f (Some x) layers e = (x, refl, sym (same_Some (f x ∷ []) layers e))

none_over : (known : Ground) (rows : Rows) (tablets : List TabletRecord) (key : Key) → has_holder rows tablets key ≡ false
    → (paths : List (List ℕ)) (layers : List (List Cell)) → all_told (layer_of known rows tablets) paths ≡ Some layers → (below : Option (List ℕ)) → layered layers key below ≡ below
none_over known rows tablets key none [] layers e below = ap (λ l. layered l key below) (sym (same_Some [] layers e))
none_over known rows tablets key none (path ∷ paths) layers e below =
    let parts = both_parts (layer_of known rows tablets path) (all_told (layer_of known rows tablets) paths) layers e in
    let first = layer_parts (cells_within rows tablets) (known.cells_of path) parts.0 parts.2 in
    ap (λ l. layered l key below) (parts.4 ∙ ap (λ l. l ++ parts.1) first.2)
    ∙ ap (λ o. layered parts.1 key (overlaid o below)) (latest_within rows tablets first.0 key ∙ ap (λ b. cond b (latest first.0 key) None) none)
    ∙ none_over known rows tablets key none paths parts.1 parts.3 below

all_over : (known : Ground) (rows : Rows) (tablets : List TabletRecord) (key : Key) → has_holder rows tablets key ≡ true
    → (paths : List (List ℕ)) (layers files : List (List Cell)) → all_told (layer_of known rows tablets) paths ≡ Some layers → all_told (whole_layer known) paths ≡ Some files → (below : Option (List ℕ)) → layered layers key below ≡ layered files key below
all_over known rows tablets key some [] layers files e g below = ap (λ l. layered l key below) (sym (same_Some [] layers e) ∙ same_Some [] files g)
all_over known rows tablets key some (path ∷ paths) layers files e g below =
    let parts = both_parts (layer_of known rows tablets path) (all_told (layer_of known rows tablets) paths) layers e in
    let whole = both_parts (whole_layer known path) (all_told (whole_layer known) paths) files g in
    let first = layer_parts (cells_within rows tablets) (known.cells_of path) parts.0 parts.2 in
    let file = layer_parts (λ cells. cells) (known.cells_of path) whole.0 whole.2 in
    let same : first.0 ≡ file.0 = same_Some first.0 file.0 (sym first.1 ∙ file.1) in
    ap (λ l. layered l key below) (parts.4 ∙ ap (λ l. l ++ parts.1) first.2)
    ∙ ap (λ o. layered parts.1 key (overlaid o below)) (latest_within rows tablets first.0 key ∙ ap (λ b. cond b (latest first.0 key) None) some ∙ ap (λ l. latest l key) same)
    ∙ all_over known rows tablets key some paths parts.1 whole.1 parts.3 whole.3 (overlaid (latest file.0 key) below)
    ∙ sym (ap (λ l. layered l key below) (whole.4 ∙ ap (λ l. l ++ whole.1) file.2))

-- ---- a mark over a chain

module _ (known : Ground) (rows : Rows) (chain : List TabletRecord) (mark : Mark) (layers : List (List Cell)) (key : Key) (below : Option (List ℕ)) (brought : layers_of known rows chain mark ≡ Some layers) where
  pub outside : ((tablet : TabletRecord) → Contains chain tablet → is_lacking mark tablet ≡ true → holds_row rows tablet key.row ≡ true → ⊥) → layered layers key below ≡ below
  outside none =
      none_over known rows (filter (is_lacking mark) chain) key
      (no_holder rows (filter (is_lacking mark) chain) key (λ tablet there holds. (let of = Contains-filter (is_lacking mark) chain tablet there in none tablet of.0 of.1 holds)))
      (mark_paths mark) layers brought below

  pub inside : (tablet : TabletRecord) (files : List (List Cell)) → Contains chain tablet → is_lacking mark tablet ≡ true → holds_row rows tablet key.row ≡ true → all_told (whole_layer known) (mark_paths mark) ≡ Some files → layered layers key below ≡ layered files key below
  inside tablet files there lacks holds told =
      all_over known rows (filter (is_lacking mark) chain) key
      (some_holder rows (filter (is_lacking mark) chain) key tablet (Contains-in_filter (is_lacking mark) chain tablet there lacks) holds)
      (mark_paths mark) layers files brought told below
