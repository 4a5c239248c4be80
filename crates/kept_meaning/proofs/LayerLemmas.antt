-- The layers of a mark and the split points, over a chain of which one record is written again.
use Rattle.std.proofs.Common.{◌≡◌, ℕ, Bool, true, false, cond, ◌||◌, List, [], ◌∷◌, ◌++◌, filter, Contains, Option, Some, None, refl, ◌∙◌, ap}
use Rattle.std.specs.List.{list_any}
use Rattle.std.specs.Option.{option_map}
use Rattle.metadata_schema.specs.declared.tablet.TabletRecord.{TabletRecord}
use Rattle.cell_merge.specs.declared.cell.Cell.{Cell}
use Rattle.cell_merge.specs.Newest.{clipped}
use Rattle.level_rows.specs.Chain.{Rows, effective_prev, same_end}
use Rattle.level_rows.proofs.Membership.{Contains-here, Contains-there}
use Rattle.store_layout.specs.declared.tables.Mark.{Mark}
use Rattle.store_layout.specs.declared.tables.Mark.TheVariants.{Free, Merge, Import}
use Rattle.store_meaning.specs.Ground.{Ground}
use Rattle.store_meaning.specs.Marked.{mark_paths, is_lacking, cells_within, layer_of, layers_of}
use Rattle.store_meaning.specs.Stands.{is_ending}
use Rattle.store_meaning.proofs.UseLemmas.{all_told_same}

-- what a record lacks of a mark is said by its `loaded` columns
pub lacking_same : (mark : Mark) (old new : TabletRecord) → new.loaded ≡ old.loaded → is_lacking mark new ≡ is_lacking mark old
lacking_same Free old new loaded = refl
lacking_same (Merge tid phase from to) old new loaded = refl
lacking_same (Import tid paths) old new loaded = ap (λ entries. is_lacking (Import tid paths) (record old { loaded = entries })) loaded

module _ (old new : Rows) (mark : Mark) (cells : List Cell) where
  abbrev lacking : List TabletRecord → List TabletRecord
  lacking = filter (is_lacking mark)

  -- one tablet in front, whose part of the file is the same
  in_front : (b d : Bool) (t u : TabletRecord) (ts us : List TabletRecord) → d ≡ b → clipped (effective_prev new u) u.end cells ≡ clipped (effective_prev old t) t.end cells → cells_within new us cells ≡ cells_within old ts cells
      → cells_within new (cond d (u ∷ us) us) cells ≡ cells_within old (cond b (t ∷ ts) ts) cells
  in_front true true t u ts us e part rest = ap (λ l. l ++ cells_within new us cells) part ∙ ap (λ l. clipped (effective_prev old t) t.end cells ++ l) rest
  in_front false false t u ts us e part rest = rest
  in_front true false t u ts us e part rest = cc
  in_front false true t u ts us e part rest = cc

  within_same : (tablets : List TabletRecord) → ((tablet : TabletRecord) → Contains tablets tablet → effective_prev new tablet ≡ effective_prev old tablet) → cells_within new (lacking tablets) cells ≡ cells_within old (lacking tablets) cells
  within_same [] stand = refl
  within_same (t ∷ ts) stand =
      in_front (is_lacking mark t) (is_lacking mark t) t t (lacking ts) (lacking ts) refl (ap (λ low. clipped low t.end cells) (stand t (Contains-here t ts)))
      (within_same ts (λ other there. stand other (Contains-there t other ts there)))

  within_in_place : (above below : List TabletRecord) (was is : TabletRecord) → is_lacking mark is ≡ is_lacking mark was → is.end ≡ was.end → effective_prev new is ≡ effective_prev old was
      → ((tablet : TabletRecord) → Contains above tablet → effective_prev new tablet ≡ effective_prev old tablet) → ((tablet : TabletRecord) → Contains below tablet → effective_prev new tablet ≡ effective_prev old tablet)
      → cells_within new (lacking (above ++ is ∷ below)) cells ≡ cells_within old (lacking (above ++ was ∷ below)) cells
  within_in_place [] below was is lacks end prev stand_above stand_below =
      in_front (is_lacking mark was) (is_lacking mark is) was is (lacking below) (lacking below) lacks
      (ap (λ high. clipped (effective_prev new is) high cells) end ∙ ap (λ low. clipped low was.end cells) prev) (within_same below stand_below)
  within_in_place (t ∷ ts) below was is lacks end prev stand_above stand_below =
      in_front (is_lacking mark t) (is_lacking mark t) t t (lacking (ts ++ was ∷ below)) (lacking (ts ++ is ∷ below)) refl (ap (λ low. clipped low t.end cells) (stand_above t (Contains-here t ts)))
      (within_in_place ts below was is lacks end prev (λ other there. stand_above other (Contains-there t other ts there)) stand_below)

module _ (known : Ground) (old new : Rows) (mark : Mark) where
  pub layers_same : (tablets : List TabletRecord) → ((tablet : TabletRecord) → Contains tablets tablet → effective_prev new tablet ≡ effective_prev old tablet) → layers_of known new tablets mark ≡ layers_of known old tablets mark
  layers_same tablets stand = all_told_same (layer_of known old (filter (is_lacking mark) tablets)) (layer_of known new (filter (is_lacking mark) tablets)) (mark_paths mark)
      (λ path there. by (known.cells_of path))
    where
      by : (told : Option (List Cell)) → option_map (λ cells. cells_within new (filter (is_lacking mark) tablets) cells ∷ []) told ≡ option_map (λ cells. cells_within old (filter (is_lacking mark) tablets) cells ∷ []) told
      by None = refl
      by (Some cells) = ap (λ l. Some (l ∷ [])) (within_same old new mark cells tablets stand)

  pub layers_in_place : (above below : List TabletRecord) (was is : TabletRecord) → is_lacking mark is ≡ is_lacking mark was → is.end ≡ was.end → effective_prev new is ≡ effective_prev old was
      → ((tablet : TabletRecord) → Contains above tablet → effective_prev new tablet ≡ effective_prev old tablet) → ((tablet : TabletRecord) → Contains below tablet → effective_prev new tablet ≡ effective_prev old tablet)
      → layers_of known new (above ++ is ∷ below) mark ≡ layers_of known old (above ++ was ∷ below) mark
  layers_in_place above below was is lacks end prev stand_above stand_below = all_told_same (layer_of known old (filter (is_lacking mark) (above ++ was ∷ below))) (layer_of known new (filter (is_lacking mark) (above ++ is ∷ below))) (mark_paths mark)
      (λ path there. by (known.cells_of path))
    where
      by : (told : Option (List Cell)) → option_map (λ cells. cells_within new (filter (is_lacking mark) (above ++ is ∷ below)) cells ∷ []) told ≡ option_map (λ cells. cells_within old (filter (is_lacking mark) (above ++ was ∷ below)) cells ∷ []) told
      by None = refl
      by (Some cells) = ap (λ l. Some (l ∷ [])) (within_in_place old new mark cells above below was is lacks end prev stand_above stand_below)

-- the split points of a chain in which a record of the same end row takes its place
pub ends_in_place : (row : List ℕ) (above below : List TabletRecord) (was is : TabletRecord) → is.end ≡ was.end → list_any (is_ending row) (above ++ is ∷ below) ≡ list_any (is_ending row) (above ++ was ∷ below)
ends_in_place row [] below was is end = ap (λ e. same_end e (Some row) || list_any (is_ending row) below) end
ends_in_place row (t ∷ ts) below was is end = ap (λ b. is_ending row t || b) (ends_in_place row ts below was is end)
