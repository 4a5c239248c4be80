-- A key of a table has what the tablet of its row has.
use Rattle.std.proofs.Common.{◌≡◌, Bool, true, false, cond, ◌||◌, List, [], ◌∷◌, Contains, Option, Some, None, refl, sym, ◌∙◌, ap}
use Rattle.std.specs.Option.{option_map, option_and_then}
use Rattle.std.proofs.lemmas.Option.{same_Some, none-some}
use Rattle.row_keys.specs.declared.key.Key.{Key}
use Rattle.metadata_schema.specs.declared.tablet.TabletRecord.{TabletRecord}
use Rattle.cell_merge.specs.declared.cell.Cell.{Cell}
use Rattle.cell_merge.specs.Newest.{clipped, later, latest, newest_at}
use Rattle.cell_merge.proofs.LatestLemmas.{latest-append}
use Rattle.cell_merge.proofs.MergedLemmas.{latest-clipped_outside}
use Rattle.level_rows.specs.Chain.{Rows, IsChain, effective_prev}
use Rattle.level_rows.specs.Extents.{holds_row, HasOneFor}
use Rattle.level_rows.proofs.Membership.{Contains-here, Contains-there}
use Rattle.store_meaning.specs.Ground.{Ground}
use Rattle.store_meaning.specs.Content.{both_told, all_told, file_cells, log_cells, logs_of, tablet_content, contents_of}
use Rattle.store_meaning.proofs.RowLemmas.{later-none}
use Rattle.store_meaning.proofs.MarkLemmas.{has_holder, some_holder, both_parts, later_itself}

-- the content of a tablet has nothing at a key of another's row
apart : (known : Ground) (rows : Rows) (tablet : TabletRecord) (content : List Cell) (key : Key) → tablet_content known rows tablet ≡ Some content → holds_row rows tablet key.row ≡ false → latest content key ≡ None
apart known rows tablet content key told outside = by (both_told (all_told (file_cells known) tablet.files) (all_told (log_cells known tablet) (logs_of tablet))) told
  where
    by : (all : Option (List Cell)) → option_map (clipped (effective_prev rows tablet) tablet.end) all ≡ Some content → latest content key ≡ None
    by None e = absurd (none-some content e)
    by (Some cells) e =
        ap (λ l. latest l key) (sym (same_Some (clipped (effective_prev rows tablet) tablet.end cells) content e)) ∙ latest-clipped_outside (effective_prev rows tablet) tablet.end cells key outside

module _ (known : Ground) (rows : Rows) (key : Key) (tablet : TabletRecord) (content : List Cell) (told : tablet_content known rows tablet ≡ Some content) where
  all_latest : (chain : List TabletRecord) (cells : List Cell) → all_told (tablet_content known rows) chain ≡ Some cells → ((other : TabletRecord) → Contains chain other → holds_row rows other key.row ≡ true → other ≡ tablet)
      → latest cells key ≡ cond (has_holder rows chain key) (latest content key) None
  all_latest [] cells e only = ap (λ l. latest l key) (sym (same_Some [] cells e))
  all_latest (t ∷ ts) cells e only =
      let parts = both_parts (tablet_content known rows t) (all_told (tablet_content known rows) ts) cells e in
      let rest = all_latest ts parts.1 parts.3 (λ other there. only other (Contains-there t other ts there)) in
      ap (λ l. latest l key) parts.4
      ∙ latest-append parts.0 parts.1 key
      ∙ ap (later (latest parts.0 key)) rest
      ∙ by parts.0 parts.2 (holds_row rows t key.row) (has_holder rows ts key) refl
    where
      by : (front : List Cell) → tablet_content known rows t ≡ Some front → (b d : Bool) → holds_row rows t key.row ≡ b → later (latest front key) (cond d (latest content key) None) ≡ cond (b || d) (latest content key) None
      by front is true d h = mine d
        where
          same : front ≡ content
          same = same_Some front content (sym is ∙ ap (tablet_content known rows) (only t (Contains-here t ts) h) ∙ told)

          mine : (d : Bool) → later (latest front key) (cond d (latest content key) None) ≡ latest content key
          mine true = ap (λ l. later (latest l key) (latest content key)) same ∙ later_itself (latest content key)
          mine false = later-none (latest front key) ∙ ap (λ l. latest l key) same
      by front is false d h = ap (λ o. later o (cond d (latest content key) None)) (apart known rows t front key is h)

  pub has_what_its_tablet_has : ((chain : List TabletRecord) → IsChain rows chain → HasOneFor rows chain key.row) → (chain : List TabletRecord) (cells : List Cell) → IsChain rows chain → contents_of known rows chain ≡ Some cells
      → Contains chain tablet → holds_row rows tablet key.row ≡ true → newest_at cells key ≡ newest_at content key
  has_what_its_tablet_has one chain cells is e there holds =
      let owner = one chain is in
      let only : (other : TabletRecord) → Contains chain other → holds_row rows other key.row ≡ true → other ≡ tablet = λ other of so. owner.only other of so ∙ sym (owner.only tablet there holds) in
      ap (option_and_then (λ (c : Cell). c.value)) (all_latest chain cells e only ∙ ap (λ b. cond b (latest content key) None) (some_holder rows chain key tablet there holds))
