-- Tablets whose cells are read one after another.
use Rattle.std.proofs.Common.{◌≡◌, ◌⊎◌, inl, inr, ℕ, suc, ◌+◌, ◌<◌, List, [], ◌∷◌, ◌++◌, length, take, drop, get_or, Contains, refl, sym, ◌∙◌, ap, subst, append_assoc, append-nil, drop-cons}
use Rattle.std.specs.List.{All}
use Rattle.std.proofs.lemmas.List.{take_more, take-append-drop}
use Rattle.std.proofs.lemmas.List.Elements.{All-contains, Contains-push_cases}
use Rattle.host_model.specs.Picture.{Image}
use Rattle.metadata_schema.specs.declared.tablet.TabletRecord.{TabletRecord}
use Rattle.cell_merge.specs.declared.cell.Cell.{Cell}
use Rattle.level_rows.specs.Chain.{Rows}
use Rattle.level_rows.proofs.Membership.{Contains-nil}
use Rattle.store_meaning.specs.Levels.{IsRecordAt}
use Rattle.level_scan.specs.Tablets.{MemoryAt, IsHosted, AreHosted, HoldsTablet, HoldTablets}

pub hosted_none : (hosted : MemoryAt) → AreHosted hosted []
hosted_none hosted = record { each = λ tablet there. absurd (Contains-nil tablet there) }

hosted_push : (hosted : MemoryAt) (xs : List TabletRecord) (x : TabletRecord) → AreHosted hosted xs → IsHosted hosted x → AreHosted hosted (xs ++ x ∷ [])
hosted_push hosted xs x are is = record { each = λ tablet there. by tablet (Contains-push_cases xs x tablet there) }
  where
    by : (tablet : TabletRecord) → Contains xs tablet ⊎ (x ≡ tablet) → IsHosted hosted tablet
    by tablet (inl front) = are.each tablet front
    by tablet (inr last) = subst (IsHosted hosted) last is

module _ (image : Image) (rows : Rows) (hosted : MemoryAt) where
  hold_push : (xs : List TabletRecord) (x : TabletRecord) (ys zs : List Cell) → HoldTablets image rows hosted xs ys → HoldsTablet image rows hosted x zs → HoldTablets image rows hosted (xs ++ x ∷ []) (ys ++ zs)
  hold_push [] x ys zs none one = (zs, [], one, refl, ap (λ l. l ++ zs) none ∙ sym (append-nil zs))
  hold_push (w ∷ xs) x ys zs all one = (all.0, all.1 ++ zs, all.2, hold_push xs x all.1 zs all.3 one, ap (λ l. l ++ zs) all.4 ∙ append_assoc all.0 all.1 zs)

module _ (chain : List TabletRecord) (i : ℕ) (x : TabletRecord) (lt : i < length chain) (at : x ≡ get_or chain i x) where
  next_take : take (i + 1) chain ≡ take i chain ++ x ∷ []
  next_take = take_more chain i x lt ∙ ap (λ y. take i chain ++ y ∷ []) (sym at)

  -- one tablet more is hosted
  pub hosted_more : (hosted : MemoryAt) → AreHosted hosted (take i chain) → IsHosted hosted x → AreHosted hosted (take (i + 1) chain)
  hosted_more hosted are is = subst (AreHosted hosted) (sym next_take) (hosted_push hosted (take i chain) x are is)

  -- one tablet more is held
  pub hold_more : (image : Image) (rows : Rows) (hosted : MemoryAt) (ys zs : List Cell) → HoldTablets image rows hosted (take i chain) ys → HoldsTablet image rows hosted x zs → HoldTablets image rows hosted (take (i + 1) chain) (ys ++ zs)
  hold_more image rows hosted ys zs all one = subst (λ l. HoldTablets image rows hosted l (ys ++ zs)) (sym next_take) (hold_push image rows hosted (take i chain) x ys zs all one)

  pub parted : chain ≡ take i chain ++ x ∷ drop (suc i) chain
  parted = sym (take-append-drop i chain) ∙ ap (λ l. take i chain ++ l) (drop-cons chain i x lt ∙ ap (λ y. y ∷ drop (suc i) chain) (sym at))

  pub there : Contains chain x
  there = (i, lt, sym at)

-- ---- records at their own places

pub own_place : (table : List ℕ) (tablet : TabletRecord) → IsRecordAt table tablet.end tablet → IsRecordAt tablet.table tablet.end tablet
own_place table tablet at = subst (λ t. IsRecordAt t tablet.end tablet) (sym at.table_is) at

-- the record of each place is at its own
pub placed : (table : List ℕ) (chain : List TabletRecord) → All (λ tablet. IsRecordAt table tablet.end tablet) chain → (i : ℕ) (x : TabletRecord) → i < length chain → x ≡ get_or chain i x → IsRecordAt table x.end x
placed table chain all i x lt at = All-contains (λ (tablet : TabletRecord). IsRecordAt table tablet.end tablet) chain x all (i, lt, sym at)
