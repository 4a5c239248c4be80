-- The parts of a table.
use Rattle.std.proofs.Common.{◌≡◌, inl, inr, ℕ, ◌+◌, ◌<◌, length, take, get_or, List, [], ◌∷◌, ◌++◌, Contains, Option, None, refl, sym, ◌∙◌, ap, subst}
use Rattle.std.specs.Prelude.{filter}
use Rattle.std.specs.List.{flat_map}
use Rattle.std.specs.Option.{option_map}
use Rattle.std.proofs.lemmas.List.{append-nil}
use Rattle.std.proofs.lemmas.Grind.{flat_map-append}
use Rattle.std.proofs.lemmas.Option.{none-some}
use Rattle.std.proofs.lemmas.List.Elements.{Contains-append_cases}
use Rattle.metadata_schema.specs.declared.tablet.TabletRecord.{TabletRecord}
use Rattle.cell_merge.specs.declared.cell.Cell.{Cell}
use Rattle.cell_merge.specs.Newest.{clipped}
use Rattle.cell_merge.proofs.Membership.{Contains-filter}
use Rattle.level_rows.specs.Chain.{Rows, IsChain, effective_prev}
use Rattle.level_rows.proofs.ChoiceLemmas.{chain_not_broken}
use Rattle.level_rows.proofs.WayLemmas.{one_chain_from}
use Rattle.level_rows.proofs.Membership.{Contains-nil}
use Rattle.store_layout.specs.declared.tables.Mark.{Mark}
use Rattle.store_meaning.specs.Ground.{Ground}
use Rattle.store_meaning.specs.Content.{contents_of}
use Rattle.store_meaning.specs.Readable.{HaveConsistentTablets}
use Rattle.store_meaning.specs.Marked.{mark_paths, is_lacking, cells_within, layer_of}
use Rattle.store_meaning.proofs.MemberLemmas.{all_each}
use Rattle.state_reader.specs.declared.store_reading.Untold.{Untold}
use Rattle.state_reader.specs.declared.store_reading.ChainFault.TheVariants.{Lacks as ChainLacks}
use Rattle.state_reader.specs.Lacks.{AreOfTable, HasLacking}
use Rattle.state_reader.proofs.LackLemmas.{chain_lacks_not, cause_in}
use Rattle.state_reader.proofs.RowLists.{last_is, one_more}
use Rattle.plain_reader.specs.declared.fault.TableFault.{TableFault}
use Rattle.plain_reader.specs.declared.fault.TableFault.TheVariants.{NoChain, Lacks, Twice, LacksMarked, NoMemory}
use Rattle.plain_reader.specs.Parts.{AreParts, IsConsistentIn, IsTwiceIn, IsLackingTable, IsTwiceTable, TableCause, HasNoParts}

-- ---- consistent tablets

-- in each of these tablets no two different cells have the same key and time
pub record AreAllConsistent (known : Ground) (rows : Rows) (tablets : List TabletRecord) : Type 0 where
  pub each : (tablet : TabletRecord) → Contains tablets tablet → IsConsistentIn known rows tablet

pub all_none : (known : Ground) (rows : Rows) → AreAllConsistent known rows []
all_none known rows = record { each = λ tablet there. absurd (Contains-nil tablet there) }

pub all_more : (known : Ground) (rows : Rows) (tablets : List TabletRecord) (tablet : TabletRecord) → AreAllConsistent known rows tablets → IsConsistentIn known rows tablet → AreAllConsistent known rows (tablets ++ tablet ∷ [])
all_more known rows tablets tablet all here = record {
  each = λ other there. (elim (Contains-append_cases tablets (tablet ∷ []) other there) [
    | inl front ↦ all.each other front
    | inr last ↦ subst (IsConsistentIn known rows) (last_is tablet other last) here
  ]);
}

pub have_consistent : (known : Ground) (rows : Rows) (tablets : List TabletRecord) → AreAllConsistent known rows tablets → HaveConsistentTablets known rows tablets
have_consistent known rows tablets all = λ tablet cells there content. (all.each tablet there).each cells content

-- what one of the tablets lacks, the table lacks
pub lacking_table : (known : Ground) (rows : Rows) (tablets : List TabletRecord) (tablet : TabletRecord) (end : Option (List ℕ)) (untold : Untold) → IsChain rows tablets → Contains tablets tablet → HasLacking known (tablet ∷ []) end untold
    → IsLackingTable known rows end untold
lacking_table known rows tablets tablet end untold chain there has = record { chain = tablets; is_chain = chain; lacks = cause_in known tablets tablet there (ChainLacks end untold) has }

pub twice_table : (known : Ground) (rows : Rows) (tablets : List TabletRecord) (tablet : TabletRecord) (end : Option (List ℕ)) → IsChain rows tablets → Contains tablets tablet → tablet.end ≡ end → IsTwiceIn known rows tablet → IsTwiceTable known rows end
twice_table known rows tablets tablet end chain there end_is twice = record { chain = tablets; is_chain = chain; tablet = tablet; there = there; end_is = end_is; twice = twice }

-- ---- layers

pub filtered_of_table : (table : List ℕ) (mark : Mark) (chain : List TabletRecord) → AreOfTable table chain → AreOfTable table (filter (is_lacking mark) chain)
filtered_of_table table mark chain of = record { each = λ tablet there. of.each tablet (Contains-filter (is_lacking mark) chain tablet there).0 }

-- the cells within one tablet more
pub within_more : (rows : Rows) (tablets : List TabletRecord) (i : ℕ) (tablet : TabletRecord) (cells : List Cell) → i < length tablets → tablet ≡ get_or tablets i tablet
    → cells_within rows (take (i + 1) tablets) cells ≡ cells_within rows (take i tablets) cells ++ clipped (effective_prev rows tablet) tablet.end cells
within_more rows tablets i tablet cells lt at =
    let inside : TabletRecord → List Cell = λ t. clipped (effective_prev rows t) t.end cells in
    ap (flat_map inside) (one_more tablets i tablet lt at) ∙ flat_map-append inside (take i tablets) (tablet ∷ []) ∙ ap (λ l. flat_map inside (take i tablets) ++ l) (append-nil (inside tablet))

-- ---- causes

module _ (known : Ground) (rows : Rows) (mark : Mark) (chain : List TabletRecord) (cells : List Cell) (layers : List (List Cell)) (are : AreParts known rows mark chain cells layers) where
  same_chain : (other : List TabletRecord) → IsChain rows other → chain ≡ other
  same_chain other is = one_chain_from rows None chain other are.is_chain is

  excluded : (fault : TableFault) → TableCause known rows mark fault → (fault ≡ NoMemory → ⊥) → ⊥
  excluded NoChain cause other = chain_not_broken rows (chain, are.is_chain) cause
  excluded (Lacks end untold) cause other =
      chain_lacks_not known rows cause.chain cells (ap (contents_of known rows) (sym (same_chain cause.chain cause.is_chain)) ∙ are.content) end untold cause.lacks
  excluded (Twice end) cause other =
      cause.twice.twice (are.consistent cause.tablet cause.twice.cells (subst (λ (l : List TabletRecord). Contains l cause.tablet) (sym (same_chain cause.chain cause.is_chain)) cause.there) cause.twice.content)
  excluded (LacksMarked path) cause other =
      let one = all_each (layer_of known rows (filter (is_lacking mark) chain)) (mark_paths mark) layers are.brought path cause.named in
      none-some one.0 (sym (ap (option_map (λ cells. cells_within rows (filter (is_lacking mark) chain) cells ∷ [])) cause.untold) ∙ one.1)
  excluded NoMemory cause other = other refl

pub no_parts : (known : Ground) (rows : Rows) (mark : Mark) (fault : TableFault) → TableCause known rows mark fault → (fault ≡ NoMemory → ⊥) → HasNoParts known rows mark
no_parts known rows mark fault cause other = record { none = λ chain cells layers are. excluded known rows mark chain cells layers are fault cause other }

-- ---- causes, each as one fact of the fault

pub record IsAnyCause (rows : Rows) (fault : TableFault) : Type 0 where
  pub why : (known : Ground) (mark : Mark) → TableCause known rows mark fault

pub record IsTabletCause (known : Ground) (rows : Rows) (fault : TableFault) : Type 0 where
  pub why : (mark : Mark) → TableCause known rows mark fault

pub record IsMarkCause (known : Ground) (mark : Mark) (fault : TableFault) : Type 0 where
  pub why : (rows : Rows) → TableCause known rows mark fault
