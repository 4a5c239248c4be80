-- What a level that is read is, and that nothing is damaged where the image shows one.
use Rattle.std.proofs.Common.{◌≡◌, inl, inr, ℕ, List, [], ◌∷◌, Contains, Result, Ok, Err, None, Some, IsTrue, refl, sym, ◌∙◌, subst}
use Rattle.std.specs.Result.{IfOk, IfErr, IsErr}
use Rattle.std.proofs.lemmas.Result.{IfOk-weaker, IfErr-weaker}
use Rattle.std.proofs.lemmas.List.Elements.{Contains-append_right}
use Rattle.std.proofs.lemmas.Option.{none-some}
use Rattle.host_model.specs.Picture.{Image}
use Rattle.host_model.specs.State.{HostState}
use Rattle.host_model.specs.declared.fault.Stop.{Stop}
use Rattle.host_model.specs.declared.fault.Stop.TheVariants.{Host, Damaged, Full, NoMemory}
use Rattle.metadata_schema.specs.declared.tablet.TabletRecord.{TabletRecord}
use Rattle.cell_merge.specs.declared.cell.Cell.{Cell}
use Rattle.level_rows.specs.Chain.{Rows, IsChain, rows_of}
use Rattle.level_rows.specs.Broken.{IsBroken}
use Rattle.level_rows.proofs.ChoiceLemmas.{chain_not_broken}
use Rattle.level_rows.proofs.Membership.{Contains-here}
use Rattle.level_rows.proofs.WayLemmas.{one_chain_from}
use Rattle.store_meaning.specs.Ground.{Ground, IsGroundOf}
use Rattle.store_meaning.specs.Content.{contents_of}
use Rattle.store_meaning.specs.Levels.{Level, Reading, IsLevelOf, metadata_rows, root_id}
use Rattle.state_reader.specs.declared.level.LevelKind.{LevelKind}
use Rattle.state_reader.specs.declared.level.LevelKind.TheVariants.{Metadata, Users}
use Rattle.state_reader.specs.LevelRows.{IsOfKind}
use Rattle.state_reader.specs.Reads.{alone}
use Rattle.level_index.specs.Entries.{LevelMap, level_of}
use Rattle.level_scan.specs.Tablets.{MemoryAt, HaveMemories, AreHosted}
use Rattle.level_scan.specs.Reads.{IsReadOf, HasBadFile, IsFirstBadOf, LacksMemory, TellNoLevel, IsAmiss}
use Rattle.level_scan.specs.Causes.{Blames, LevelStop, UsersStop}
use Rattle.level_scan.specs.Levels.{ShowsMetadata, ShowsUsers, IsUsersRead, AreUsersAmiss, IsNoDamage, own_rows}
use Rattle.level_scan.proofs.SameLevels.{level_moves, one_level}
use Rattle.level_scan.proofs.CauseLemmas.{of_chain}
use Rattle.level_scan.proofs.HeldLemmas.{held_once, not_bad, told_not_bad, latest_held}

-- ---- results

-- it is no Ok where nothing is as an Ok has to be
pub never_ok : {T E : Type 0} (r : Result T E) (P : T → Type 0) → IfOk r P → ((x : T) → P x → ⊥) → IsErr r
never_ok (Ok x) P ok none = absurd (none x ok)
never_ok (Err e) P ok none = refl

-- ---- what excludes a level that is read

module _ (image : Image) (rows : Rows) (hosted : MemoryAt) (chain : List TabletRecord) (kind : LevelKind) where
  pub not_amiss : (index : LevelMap) → IsReadOf image rows hosted chain kind index → IsAmiss image rows hosted chain kind → ⊥
  not_amiss index read (inl bad) = not_bad image rows hosted chain read.cells read.held bad
  not_amiss index read (inr tell) =
      tell.none.none (level_of index) (subst (λ cells. IsLevelOf (IsOfKind kind) cells (level_of index)) (held_once image rows hosted chain read.cells tell.cells read.held tell.held) read.level)

pub not_lacking : (hosted : MemoryAt) (chain : List TabletRecord) → AreHosted hosted chain → LacksMemory hosted chain → ⊥
not_lacking hosted chain are lacks = let own = are.each lacks.tablet lacks.there in none-some own.memory (sym lacks.none ∙ own.there)

-- the first that is bad is bad
bad_there : (image : Image) (rows : Rows) (hosted : MemoryAt) (chain : List TabletRecord) (name : List ℕ) → IsFirstBadOf image rows hosted chain name → HasBadFile image chain
bad_there image rows hosted chain name is = record {
  tablet = is.tablet;
  there = subst (λ l. Contains l is.tablet) (sym is.are) (Contains-append_right is.front (is.tablet ∷ is.back) is.tablet (Contains-here is.tablet is.back));
  file = is.first.file;
  named = subst (λ l. Contains l is.first.file) (sym is.first.are) (Contains-append_right is.first.front (is.first.file ∷ is.first.back) is.first.file (Contains-here is.first.file is.first.back));
  bad = is.first.bad;
}

-- ---- a told level

-- All that the tablets have is told, their memories are there, and this is the level that their content tells.
module _ (image : Image) (rows : Rows) (hosted : MemoryAt) (chain : List TabletRecord) (kind : LevelKind) (known : Ground) (ground : IsGroundOf image known)
    (content : List Cell) (told : contents_of known rows chain ≡ Some content) (memories : HaveMemories known rows hosted chain) (level : Level) (tells : IsLevelOf (IsOfKind kind) content level) where
  -- what is read is that level
  pub read_is : (index : LevelMap) → IsReadOf image rows hosted chain kind index → level_of index ≡ level
  read_is index read = one_level read.cells content (latest_held image rows hosted known ground chain memories read.cells content read.held told) (IsOfKind kind) (level_of index) level read.level tells

  -- the cells tell of a level
  never_none : TellNoLevel image rows hosted chain kind → ⊥
  never_none none =
      none.none.none level
      (level_moves content none.cells (λ key. sym (latest_held image rows hosted known ground chain memories none.cells content none.held told key)) (IsOfKind kind) level tells)

  never_lacking : LacksMemory hosted chain → ⊥
  never_lacking lacks = let own = memories.each lacks.tablet lacks.there in none-some own.memory (sym lacks.none ∙ own.there)

  -- nothing is to be blamed
  pub blameless : (name : List ℕ) (state : HostState) → IsTrue state.is_faithful → state.files ≡ image → Blames rows hosted chain kind name state → ⊥
  blameless name state f same (inl (inl file)) =
      told_not_bad image rows hosted known ground chain content told (bad_there image rows hosted chain name (subst (λ i. IsFirstBadOf i rows hosted chain name) same (file.first f)))
  blameless name state f same (inl (inr memory)) = never_lacking memory.lacks
  blameless name state f same (inr cells) = never_none (subst (λ i. TellNoLevel i rows hosted chain kind) same (cells.none f))

  pub undamaged : (stop : Stop) (old new : HostState) → IsTrue old.is_faithful → old.files ≡ image → LevelStop rows hosted chain kind stop old new → IsNoDamage stop
  undamaged (Host fault) old new f same cause = tt
  undamaged (Damaged name) old new f same cause = blameless name old f same cause
  undamaged Full old new f same cause = cause
  undamaged NoMemory old new f same cause = tt

-- ---- the metadata table's tablets

module _ (image : Image) (hosted : MemoryAt) (root : TabletRecord) (reading : Reading) (shows : ShowsMetadata image hosted root reading) where
  -- with the root record of the reading
  abbrev Own : TabletRecord → LevelMap → Type 0
  Own tablet index = IsReadOf image (alone tablet) hosted (tablet ∷ []) Metadata index

  pub metadata_is : (index : LevelMap) → Own root index → level_of index ≡ reading.metadata
  metadata_is index read =
      read_is image (alone reading.root) hosted (reading.root ∷ []) Metadata shows.known shows.of reading.root_cells shows.is.root_content shows.memories reading.metadata shows.is.metadata index (subst (λ (tablet : TabletRecord). Own tablet index) shows.root_is read)

  pub metadata_undamaged : (stop : Stop) (old new : HostState) → IsTrue old.is_faithful → old.files ≡ image → LevelStop (alone root) hosted (root ∷ []) Metadata stop old new → IsNoDamage stop
  metadata_undamaged stop old new f same cause =
      undamaged image (alone reading.root) hosted (reading.root ∷ []) Metadata shows.known shows.of reading.root_cells shows.is.root_content shows.memories reading.metadata shows.is.metadata stop old new f same
      (subst (λ (tablet : TabletRecord). LevelStop (alone tablet) hosted (tablet ∷ []) Metadata stop old new) shows.root_is cause)

-- the records of the root tablet alone, and its chain, by other words
module _ (root : TabletRecord) (table : List ℕ) (records chain : List TabletRecord) (of : table ≡ root.table) (one : records ≡ root ∷ []) (own : chain ≡ root ∷ []) (at : root.table ≡ root_id) (hosted : MemoryAt) (r : Result LevelMap Stop) where
  alone_rows : rows_of table records ≡ alone root
  alone_rows = λ i. rows_of ((of ∙ at) i) (one i)

  pub alone_read : (image : Image) → IfOk r (IsReadOf image (rows_of table records) hosted chain Metadata) → IfOk r (IsReadOf image (alone root) hosted (root ∷ []) Metadata)
  alone_read image read =
      subst (λ (l : List TabletRecord). IfOk r (IsReadOf image (alone root) hosted l Metadata)) own (subst (λ (rows : Rows). IfOk r (IsReadOf image rows hosted chain Metadata)) alone_rows read)

  pub alone_stop : (old new : HostState) → IfErr r (λ stop. LevelStop (rows_of table records) hosted chain Metadata stop old new) → IfErr r (λ stop. LevelStop (alone root) hosted (root ∷ []) Metadata stop old new)
  alone_stop old new cause =
      subst (λ (l : List TabletRecord). IfErr r (λ stop. LevelStop (alone root) hosted l Metadata stop old new)) own
      (subst (λ (rows : Rows). IfErr r (λ stop. LevelStop rows hosted chain Metadata stop old new)) alone_rows cause)

-- ---- the tablets of all tables

-- the rows of `!0` by other words
module _ (metadata : Level) (rows : Rows) (chain : List TabletRecord) (same : rows ≡ own_rows metadata) (is : IsChain (own_rows metadata) chain) (hosted : MemoryAt) (r : Result LevelMap Stop) where
  pub own_read : (image : Image) → IfOk r (IsReadOf image rows hosted chain Users) → IfOk r (IsUsersRead image hosted metadata)
  own_read image = IfOk-weaker r (IsReadOf image rows hosted chain Users) (IsUsersRead image hosted metadata) (λ index read. record {
    chain = chain;
    is = is;
    read = subst (λ (own : Rows). IsReadOf image own hosted chain Users index) same read;
  })

  pub own_stop : (old new : HostState) → IfErr r (λ stop. LevelStop rows hosted chain Users stop old new) → IfErr r (λ stop. UsersStop (own_rows metadata) hosted stop old new)
  own_stop old new = IfErr-weaker r (λ stop. LevelStop rows hosted chain Users stop old new) (λ stop. UsersStop (own_rows metadata) hosted stop old new) (λ stop cause.
      of_chain (own_rows metadata) hosted chain is stop old new (subst (λ (own : Rows). LevelStop own hosted chain Users stop old new) same cause))

pub users_not_amiss : (image : Image) (hosted : MemoryAt) (metadata : Level) (index : LevelMap) → IsUsersRead image hosted metadata index → AreUsersAmiss image hosted metadata → ⊥
users_not_amiss image hosted metadata index read amiss =
    let chain = one_chain_from (own_rows metadata) None read.chain amiss.chain read.is amiss.is in
    not_amiss image (own_rows metadata) hosted amiss.chain Users index (subst (λ (tablets : List TabletRecord). IsReadOf image (own_rows metadata) hosted tablets Users index) chain read.read) amiss.amiss

pub chain_not_lacking : (hosted : MemoryAt) (rows : Rows) (chain other : List TabletRecord) → IsChain rows chain → AreHosted hosted chain → IsChain rows other → LacksMemory hosted other → ⊥
chain_not_lacking hosted rows chain other is are is_other lacks =
    not_lacking hosted other (subst (AreHosted hosted) (one_chain_from rows None chain other is is_other) are) lacks

pub not_broken : (rows : Rows) (chain : List TabletRecord) → IsChain rows chain → IsBroken rows → ⊥
not_broken rows chain is broken = chain_not_broken rows (chain, is) broken

module _ (image : Image) (hosted : MemoryAt) (metadata : Level) (reading : Reading) (shows : ShowsUsers image hosted metadata reading) where
  -- the chain of the reading is that of the level
  own_chain : IsChain (own_rows metadata) reading.chain
  own_chain = subst (λ (level : Level). IsChain (own_rows level) reading.chain) (sym shows.metadata_is) shows.is.chain

  pub users_are : (index : LevelMap) → IsUsersRead image hosted metadata index → level_of index ≡ reading.users
  users_are index read =
      let chain = one_chain_from (own_rows metadata) None read.chain reading.chain read.is own_chain in
      let own : IsReadOf image (own_rows metadata) hosted reading.chain Users index = subst (λ (tablets : List TabletRecord). IsReadOf image (own_rows metadata) hosted tablets Users index) chain read.read in
      read_is image (metadata_rows reading) hosted reading.chain Users shows.known shows.of reading.metadata_cells shows.is.content shows.memories reading.users shows.is.users index
      (subst (λ (level : Level). IsReadOf image (own_rows level) hosted reading.chain Users index) shows.metadata_is own)

  users_blameless : (name : List ℕ) (state : HostState) (chain : List TabletRecord) → IsTrue state.is_faithful → state.files ≡ image → IsChain (own_rows metadata) chain → Blames (own_rows metadata) hosted chain Users name state → ⊥
  users_blameless name state chain f same is blames =
      let one = one_chain_from (own_rows metadata) None chain reading.chain is own_chain in
      let own : Blames (own_rows metadata) hosted reading.chain Users name state = subst (λ (tablets : List TabletRecord). Blames (own_rows metadata) hosted tablets Users name state) one blames in
      blameless image (metadata_rows reading) hosted reading.chain Users shows.known shows.of reading.metadata_cells shows.is.content shows.memories reading.users shows.is.users name state f same
      (subst (λ (level : Level). Blames (own_rows level) hosted reading.chain Users name state) shows.metadata_is own)

  pub users_undamaged : (stop : Stop) (old new : HostState) → IsTrue old.is_faithful → old.files ≡ image → UsersStop (own_rows metadata) hosted stop old new → IsNoDamage stop
  users_undamaged (Host fault) old new f same cause = tt
  users_undamaged (Damaged name) old new f same (inl chain) = not_broken (own_rows metadata) reading.chain own_chain chain.broken
  users_undamaged (Damaged name) old new f same (inr on) = users_blameless name old on.chain f same on.is on.blames
  users_undamaged Full old new f same cause = cause
  users_undamaged NoMemory old new f same cause = tt
