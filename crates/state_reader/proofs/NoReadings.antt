-- A cause excludes every reading.
use Rattle.std.proofs.Common.{◌≡◌, ℕ, List, [], ◌∷◌, Contains, Option, Some, None, refl, sym, ◌∙◌, ap, subst}
use Rattle.std.proofs.lemmas.Option.{same_Some}
use Rattle.row_keys.specs.Forms.{IsTableId}
use Rattle.metadata_schema.specs.declared.tablet.TabletRecord.{TabletRecord}
use Rattle.cell_merge.specs.declared.cell.Cell.{Cell}
use Rattle.level_rows.specs.Chain.{Rows, IsChain, IsChainFrom, IsBelowEnd, GoesOn, effective_prev, rows_of}
use Rattle.level_rows.proofs.ChoiceLemmas.{chain_not_broken}
use Rattle.level_rows.proofs.WayLemmas.{one_chain_from}
use Rattle.level_rows.proofs.Membership.{Contains-here}
use Rattle.store_meaning.specs.Ground.{Ground}
use Rattle.store_meaning.specs.Content.{contents_of}
use Rattle.store_meaning.specs.Levels.{Level, Reading, IsReadingOf, IsRootRecord, IsLevelOf, IsMetadataTable, metadata_id, root_rows, metadata_rows}
use Rattle.store_meaning.proofs.RootLemmas.{one_root}
use Rattle.store_meaning.proofs.ReadingLemmas.{same_level}
use Rattle.state_reader.specs.declared.level.LevelKind.TheVariants.{Metadata, Users}
use Rattle.state_reader.specs.declared.store_reading.ReadFault.{ReadFault}
use Rattle.state_reader.specs.declared.store_reading.ReadFault.TheVariants.{NoRoot, LongRoot, BoundedRoot, RootLacks, BadMetadata, NoChain, MetadataLacks, BadUsers, NoMemory}
use Rattle.state_reader.specs.Reads.{alone, AreRootCells, IsMetadataLevel, IsMetadataChain, AreMetadataCells, ReadCause, HasNoReading}
use Rattle.state_reader.proofs.NoLevels.{no_level_at}
use Rattle.state_reader.proofs.LackLemmas.{chain_lacks_not}

-- a tablet alone with a lower bound is no chain
bounded : (rows : Rows) (root : TabletRecord) (low : List ℕ) → effective_prev rows root ≡ Some low → IsChain rows (root ∷ []) → ⊥
bounded rows root low bound chain = (subst (λ (o : Option (List ℕ)). GoesOn o None (◌≡◌ {A = List TabletRecord} [] []) (λ low. IsChainFrom rows (Some low) [])) bound chain.2).1

module _ (known : Ground) (reading : Reading) (is : IsReadingOf known reading) where
  same_root : (root : TabletRecord) → IsRootRecord known.nodes root → reading.root ≡ root
  same_root root = one_root known.nodes reading.root root is.root

  same_root_cells : (root : TabletRecord) (cells : List Cell) → AreRootCells known root cells → reading.root_cells ≡ cells
  same_root_cells root cells read =
      same_Some reading.root_cells cells (sym is.root_content ∙ ap (λ (tablet : TabletRecord). contents_of known (alone tablet) (tablet ∷ [])) (same_root root read.is) ∙ read.content)

  same_metadata : (level : Level) → IsMetadataLevel known level → reading.metadata ≡ level
  same_metadata level read =
      same_level IsMetadataTable reading.root_cells reading.metadata level is.metadata (subst (λ cells. IsLevelOf IsMetadataTable cells level) (sym (same_root_cells read.root read.cells read.read)) read.is)

  same_chain : (level : Level) (chain : List TabletRecord) → IsMetadataChain known level chain → reading.chain ≡ chain
  same_chain level chain read =
      one_chain_from (reading.metadata.records metadata_id) None reading.chain chain is.chain (subst (λ (l : Level). IsChain (l.records metadata_id) chain) (sym (same_metadata level read.read)) read.is)

  same_cells : (cells : List Cell) → AreMetadataCells known cells → reading.metadata_cells ≡ cells
  same_cells cells read =
      let level = same_metadata read.level read.read.read in
      let chain = same_chain read.level read.chain read.read in
      same_Some reading.metadata_cells cells (sym is.content ∙ (λ i. contents_of known ((level i).records metadata_id) (chain i)) ∙ read.content)

  excluded : (fault : ReadFault) → ReadCause known fault → (fault ≡ NoMemory → ⊥) → (fault ≡ LongRoot → ⊥) → ⊥
  excluded NoRoot cause other short = cause.none reading.root is.root
  excluded LongRoot cause other short = short refl
  excluded (BoundedRoot low) cause other short =
      let root = same_root cause.root cause.is in
      bounded (root_rows reading) reading.root low (ap (λ (tablet : TabletRecord). effective_prev (alone tablet) tablet) root ∙ cause.bound) is.root_chain
  excluded (RootLacks untold) cause other short =
      let root = same_root cause.root cause.is in
      chain_lacks_not known (root_rows reading) (reading.root ∷ []) reading.root_cells is.root_content cause.root.end untold (record {
        tablet = cause.root;
        there = subst (λ (tablet : TabletRecord). Contains (reading.root ∷ []) tablet) root (Contains-here reading.root []);
        end_is = refl;
        lacks = cause.lacks;
      })
  excluded (BadMetadata row) cause other short =
      no_level_at Metadata cause.cells row cause.bad reading.metadata (subst (λ cells. IsLevelOf IsMetadataTable cells reading.metadata) (same_root_cells cause.root cause.cells cause.read) is.metadata)
  excluded NoChain cause other short =
      let level = same_metadata cause.level cause.read in
      chain_not_broken (cause.level.records metadata_id) (reading.chain, subst (λ (l : Level). IsChain (l.records metadata_id) reading.chain) level is.chain) cause.broken
  excluded (MetadataLacks end untold) cause other short =
      let level = same_metadata cause.level cause.read.read in
      let chain = same_chain cause.level cause.chain cause.read in
      chain_lacks_not known (cause.level.records metadata_id) cause.chain reading.metadata_cells ((λ i. contents_of known ((sym level i).records metadata_id) (sym chain i)) ∙ is.content) end untold cause.lacks
  excluded (BadUsers row) cause other short =
      no_level_at Users cause.cells row cause.bad reading.users (subst (λ cells. IsLevelOf IsTableId cells reading.users) (same_cells cause.cells cause.read) is.users)
  excluded NoMemory cause other short = other refl

pub no_reading : (known : Ground) (fault : ReadFault) → ReadCause known fault → (fault ≡ NoMemory → ⊥) → (fault ≡ LongRoot → ⊥) → HasNoReading known
no_reading known fault cause other short = record { none = λ reading is. excluded known reading is fault cause other short }
