-- Records that replace a piece of a chain.
use Rattle.std.specs.Prelude.{is_some}
use Rattle.std.proofs.Common.{◌≡◌, ◌≢◌, ◌⊎◌, inl, inr, ℕ, List, ◌∷◌, ◌++◌, Contains, Option, Some, None, refl, sym, ◌∙◌, ap, subst, append_assoc}
use Rattle.std.proofs.lemmas.Option.{same_Some, none-some}
use Rattle.std.proofs.lemmas.List.Elements.{Contains-append_left, Contains-append_right}
use Rattle.metadata_schema.specs.declared.tablet.TabletRecord.{TabletRecord}
use Rattle.level_rows.specs.Chain.{Rows, IsChain, ends_at, chosen_prev, effective_prev}
use Rattle.level_rows.specs.Changes.{StandAsBefore, with_row}
use Rattle.level_rows.proofs.Membership.{Contains-here}
use Rattle.level_rows.proofs.RewireLemmas.{stand-with_row, effective_prev-with_row, with_row-apart, whole-reach}
use Rattle.level_rows.proofs.SplitLemmas.{replaced}
use Rattle.level_rows.proofs.WayLemmas.{row_of, apart_ends, not_twice}
use Rattle.store_meaning.specs.Ground.{Ground}
use Rattle.store_meaning.specs.Content.{content_of, tablet_content}
use Rattle.store_meaning.specs.ChainWrites.{PieceChange, chain_before, chain_after, ReplacesPiece, RecordChange, piece_of, KeepsExtent, content_in_place}

module _ (rows : Rows) (change : RecordChange) (keeps : KeepsExtent rows change) where
  old_there : rows change.old.end ≡ Some change.old
  old_there = row_of rows None (change.above ++ change.old ∷ change.below) change.old keeps.chain (Contains-append_right change.above (change.old ∷ change.below) change.old (Contains-here change.old change.below))

  new_there : rows change.new.end ≡ Some change.old
  new_there = ap rows keeps.end ∙ old_there

  pub record_replaced : ReplacesPiece rows (with_row rows change.new) (piece_of change)
  record_replaced = record {
    before = keeps.chain;
    after = replaced rows change.above change.below change.old change.new keeps.chain keeps.end keeps.prev;
    above = stand-with_row rows change.new change.old change.above new_there (λ tablet there same. apart_ends rows None change.above change.old change.below tablet keeps.chain (inl there) (same ∙ keeps.end));
    below = stand-with_row rows change.new change.old change.below new_there (λ tablet there same. apart_ends rows None change.above change.old change.below tablet keeps.chain (inr there) (same ∙ keeps.end));
  }

  -- its extent is that of the old one
  pub record_content : (known : Ground) → tablet_content known (with_row rows change.new) change.new ≡ content_in_place known rows change change.new
  record_content known = ap (λ low. content_of known low change.new) (effective_prev-with_row rows change.new change.old change.new new_there ∙ keeps.prev)

-- ---- a record that replaces a piece

outside_chain : (rows : Rows) (piece : PieceChange) (tablet : TabletRecord) → IsChain rows (chain_before piece) → Contains piece.above tablet ⊎ Contains piece.below tablet → rows tablet.end ≡ Some tablet
outside_chain rows piece tablet chain beside = row_of rows None (chain_before piece) tablet chain (elim beside [
  | inl a ↦ Contains-append_left piece.above (piece.gone ++ piece.below) tablet a
  | inr b ↦ Contains-append_right piece.above (piece.gone ++ piece.below) tablet (Contains-append_right piece.gone piece.below tablet b)
])

pub over_piece : (rows : Rows) (piece : PieceChange) (tablet was : TabletRecord) → IsChain rows (chain_before piece) → Contains piece.gone was → tablet.end ≡ was.end
    → IsChain (with_row rows tablet) (chain_after piece) → ReplacesPiece rows (with_row rows tablet) piece
over_piece rows piece tablet was before in_gone end after = record {
  before = before;
  after = after;
  above = stand-with_row rows tablet was piece.above there (λ other a same. apart other (inl a) same);
  below = stand-with_row rows tablet was piece.below there (λ other b same. apart other (inr b) same);
}
  where
    there : rows tablet.end ≡ Some was
    there = ap rows end ∙ row_of rows None (chain_before piece) was before (Contains-append_right piece.above (piece.gone ++ piece.below) was (Contains-append_left piece.gone piece.below was in_gone))

    apart : (other : TabletRecord) → Contains piece.above other ⊎ Contains piece.below other → other.end ≡ tablet.end → ⊥
    apart other beside same =
        let is : was ≡ other = same_Some _ _ (sym there ∙ ap rows (sym same) ∙ outside_chain rows piece other before beside) in
        elim beside [
          | inl a ↦ not_twice rows None piece.above (piece.gone ++ piece.below) other before a (Contains-append_left piece.gone piece.below other (subst (Contains piece.gone) is in_gone))
          | inr b ↦ not_twice rows None (piece.above ++ piece.gone) piece.below other (subst (IsChain rows) (sym (append_assoc piece.above piece.gone piece.below)) before)
              (Contains-append_right piece.above piece.gone other (subst (Contains piece.gone) is in_gone)) b
        ]

pub free_piece : (rows : Rows) (piece : PieceChange) (tablet : TabletRecord) → IsChain rows (chain_before piece) → rows tablet.end ≡ None
    → ((other : TabletRecord) → Contains piece.above other ⊎ Contains piece.below other → (other.old_prev ≡ None) ⊎ (other.prev ≢ tablet.end)) → IsChain (with_row rows tablet) (chain_after piece) → ReplacesPiece rows (with_row rows tablet) piece
free_piece rows piece tablet before free splits after = record {
  before = before;
  after = after;
  above = stands piece.above (λ other a. inl a);
  below = stands piece.below (λ other b. inr b);
}
  where
    ends : (prev : Option (List ℕ)) → prev ≢ tablet.end → ends_at (with_row rows tablet) prev ≡ ends_at rows prev
    ends None apart = refl
    ends (Some prev) apart = ap is_some (with_row-apart rows tablet (Some prev) apart)

    begins : (other : TabletRecord) → (other.old_prev ≡ None) ⊎ (other.prev ≢ tablet.end) → effective_prev (with_row rows tablet) other ≡ effective_prev rows other
    begins other (inl whole) = whole-reach (with_row rows tablet) other whole ∙ sym (whole-reach rows other whole)
    begins other (inr apart) = ap (λ b. chosen_prev other.old_prev b other.prev) (ends other.prev apart)

    stands : (tablets : List TabletRecord) → ((other : TabletRecord) → Contains tablets other → Contains piece.above other ⊎ Contains piece.below other) → StandAsBefore rows (with_row rows tablet) tablets
    stands tablets among = record {
      row = λ other is. with_row-apart rows tablet other.end (λ same. none-some other (sym free ∙ ap rows (sym same) ∙ outside_chain rows piece other before (among other is)));
      prev = λ other is. begins other (splits other (among other is));
    }
