-- What tablets hold, and what is told of them.
use Rattle.std.proofs.Common.{◌≡◌, inl, inr, List, [], ◌∷◌, ◌++◌, map, Contains, Some, sym, ◌∙◌, ap, subst}
use Rattle.std.proofs.lemmas.Option.{same_Some}
use Rattle.host_model.specs.Picture.{Image}
use Rattle.metadata_schema.specs.declared.tablet.FileEntry.{FileEntry}
use Rattle.metadata_schema.specs.declared.tablet.TabletRecord.{TabletRecord}
use Rattle.cell_merge.specs.declared.cell.Cell.{Cell}
use Rattle.cell_merge.specs.Newest.{latest, later, clipped}
use Rattle.cell_merge.proofs.LatestLemmas.{latest-append}
use Rattle.data_files.proofs.FileLemmas.{one_list}
use Rattle.level_rows.specs.Chain.{Rows, effective_prev}
use Rattle.level_rows.proofs.Membership.{Contains-nil, Contains-here, Contains-there, Contains-cons_cases}
use Rattle.store_layout.specs.Names.{file_of}
use Rattle.store_meaning.specs.Ground.{Ground, IsGroundOf}
use Rattle.store_meaning.specs.Content.{timed, tablet_content, contents_of}
use Rattle.store_meaning.proofs.AgreeLemmas.{one_file}
use Rattle.store_meaning.proofs.ContentLemmas.{file_told}
use Rattle.store_meaning.proofs.MemberLemmas.{both_parts, all_each}
use Rattle.tablet_scan.specs.Files.{HoldAll, IsBad}
use Rattle.tablet_scan.specs.Scans.{IsMemoryOf, HaveSameLatest}
use Rattle.tablet_scan.proofs.FilesLemmas.{none_bad}
use Rattle.tablet_scan.proofs.ScanLemmas.{latest_of_content}
use Rattle.level_scan.specs.Tablets.{MemoryAt, HaveMemories, HoldsTablet, HoldTablets}
use Rattle.level_scan.specs.Reads.{HasBadFile}

-- ---- one list

-- files hold one list of cells
files_once : (image : Image) (files : List FileEntry) (one other : List Cell) → HoldAll image files one → HoldAll image files other → one ≡ other
files_once image [] one other p q = p ∙ sym q
files_once image (file ∷ more) one other p q =
    let stored = one_file one_list (file_of file.path) image p.2.stored q.2.stored p.2.holds q.2.holds in
    let front : p.0 ≡ q.0 = p.2.are ∙ ap (map (timed file.time)) stored ∙ sym q.2.are in
    let back : p.1 ≡ q.1 = files_once image more p.1 q.1 p.3 q.3 in
    p.4 ∙ (λ i. front i ++ back i) ∙ sym q.4

module _ (image : Image) (rows : Rows) (hosted : MemoryAt) where
  tablet_once : (tablet : TabletRecord) (one other : List Cell) → HoldsTablet image rows hosted tablet one → HoldsTablet image rows hosted tablet other → one ≡ other
  tablet_once tablet one other p q =
      let memory : p.memory ≡ q.memory = same_Some p.memory q.memory (sym p.there ∙ q.there) in
      let stored = files_once image tablet.files p.are.stored q.are.stored p.are.files q.are.files in
      p.are.are ∙ (λ i. clipped (effective_prev rows tablet) tablet.end (stored i ++ (memory i).cells)) ∙ sym q.are.are

  -- tablets hold one list of cells
  pub held_once : (chain : List TabletRecord) (one other : List Cell) → HoldTablets image rows hosted chain one → HoldTablets image rows hosted chain other → one ≡ other
  held_once [] one other p q = p ∙ sym q
  held_once (tablet ∷ more) one other p q =
      let front = tablet_once tablet p.0 q.0 p.2 q.2 in
      let back = held_once more p.1 q.1 p.3 q.3 in
      p.4 ∙ (λ i. front i ++ back i) ∙ sym q.4

  -- ---- bad files

  -- none is bad where all are held
  pub none_bad_in : (chain : List TabletRecord) (cells : List Cell) → HoldTablets image rows hosted chain cells → (tablet : TabletRecord) → Contains chain tablet → (file : FileEntry) → Contains tablet.files file → IsBad image file → ⊥
  none_bad_in [] cells held tablet there file named bad = Contains-nil tablet there
  none_bad_in (x ∷ xs) cells held tablet there file named bad = elim (Contains-cons_cases x tablet xs there) [
    | inl is ↦ none_bad image x.files held.2.are.stored held.2.are.files file (subst (λ (t : TabletRecord). Contains t.files file) (sym is) named) bad
    | inr rest ↦ none_bad_in xs held.1 held.3 tablet rest file named bad
  ]

  pub not_bad : (chain : List TabletRecord) (cells : List Cell) → HoldTablets image rows hosted chain cells → HasBadFile image chain → ⊥
  not_bad chain cells held has = none_bad_in chain cells held has.tablet has.there has.file has.named has.bad

  -- ---- what is told

  module _ (known : Ground) (ground : IsGroundOf image known) where
    -- none is bad where all is told
    pub told_not_bad : (chain : List TabletRecord) (content : List Cell) → contents_of known rows chain ≡ Some content → HasBadFile image chain → ⊥
    told_not_bad chain content e has =
        let own = all_each (tablet_content known rows) chain content e has.tablet has.there in
        let file = file_told known (effective_prev rows has.tablet) has.tablet own.0 own.1 has.file has.named in
        has.bad.none file.0 (ground.cells has.file.path file.0 file.1).holds

    tail_memories : (tablet : TabletRecord) (more : List TabletRecord) → HaveMemories known rows hosted (tablet ∷ more) → HaveMemories known rows hosted more
    tail_memories tablet more have = record { each = λ other there. have.each other (Contains-there tablet other more there) }

    -- with their memories they have the latest cells of their content
    pub latest_held : (chain : List TabletRecord) → HaveMemories known rows hosted chain → (cells content : List Cell) → HoldTablets image rows hosted chain cells → contents_of known rows chain ≡ Some content → HaveSameLatest cells content
    latest_held [] have cells content held e = λ key. ap (λ l. latest l key) (held ∙ same_Some [] content e)
    latest_held (tablet ∷ more) have cells content held e = λ key.
        (let parts = both_parts (tablet_content known rows tablet) (contents_of known rows more) content e in
        let own = have.each tablet (Contains-here tablet more) in
        let memory : own.memory ≡ held.2.memory = same_Some own.memory held.2.memory (sym own.there ∙ held.2.there) in
        let is : IsMemoryOf known (effective_prev rows tablet) tablet held.2.memory = subst (IsMemoryOf known (effective_prev rows tablet) tablet) memory own.is in
        let front : latest held.0 key ≡ latest parts.0 key = latest_of_content image known (effective_prev rows tablet) tablet held.2.memory held.0 parts.0 ground is parts.2 held.2.are key in
        let back : latest held.1 key ≡ latest parts.1 key = latest_held more (tail_memories tablet more have) held.1 parts.1 held.3 parts.3 key in
        ap (λ l. latest l key) held.4 ∙ latest-append held.0 held.1 key ∙ (λ i. later (front i) (back i)) ∙ sym (latest-append parts.0 parts.1 key) ∙ ap (λ l. latest l key) (sym parts.4))
