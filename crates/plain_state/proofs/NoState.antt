-- A cause excludes every state.
use Rattle.std.proofs.Common.{◌≡◌, ◌≢◌, ◌⊎◌, inl, inr, ℕ, true, List, [], ◌∷◌, codes, Contains, Option, Some, None, refl, sym, ◌∙◌, ap, subst}
use Rattle.std.specs.Prelude.{MatchBool}
use Rattle.std.specs.FinMap as map
use Rattle.std.proofs.lemmas.Option.{none-some, same_Some}
use Rattle.plain_model.specs.State.{Table as StateTable, PlainState}
use Rattle.metadata_schema.specs.declared.tablet.TabletRecord.{TabletRecord}
use Rattle.cell_merge.specs.declared.cell.Cell.{Cell}
use Rattle.level_rows.specs.Chain.{Rows}
use Rattle.level_rows.proofs.WayLemmas.{one_chain_from}
use Rattle.store_layout.specs.declared.tables.Mark.{Mark}
use Rattle.store_layout.specs.declared.tables.Mark.TheVariants.{Free}
use Rattle.store_layout.specs.declared.tables.TableNode.{TableNode}
use Rattle.store_layout.specs.Tables.{table_path, Catalog, IsTableAt, IsStagedAt, TellsTable, TellsStaged}
use Rattle.store_meaning.specs.Ground.{Ground}
use Rattle.store_meaning.specs.Levels.{Reading, IsReadingOf, root_rows, metadata_rows}
use Rattle.store_meaning.specs.InUse.{IsRecord, IsFlagged, IsNamedLog}
use Rattle.store_meaning.specs.Readable.{IsTold}
use Rattle.store_meaning.specs.Stands.{is_online, IsTableOf, TableAt, IsStagedOf, StagedAt, TableStands, StandsAs}
use Rattle.store_meaning.proofs.OneState.{one_reading}
use Rattle.state_reader.specs.declared.store_reading.ReadFault.TheVariants.{LongRoot}
use Rattle.state_reader.specs.declared.store_reading.Untold.{Untold}
use Rattle.state_reader.specs.declared.store_reading.Untold.TheVariants.{File, Log}
use Rattle.state_reader.specs.Lacks.{IsLacking}
use Rattle.state_reader.proofs.NoReadings.{no_reading}
use Rattle.plain_reader.specs.declared.fault.TableFault.{TableFault}
use Rattle.plain_reader.specs.Parts.{AreParts, HasNoParts}
use Rattle.plain_reader.proofs.PartLemmas.{no_parts}
use Rattle.table_names.specs.Tables.{IsTold as IsToldTable, HasStray}
use Rattle.table_names.specs.Staged.{HasStrayFile}
use Rattle.table_names.proofs.ListLemmas.{same_table}
use Rattle.plain_state.specs.declared.fault.StateFault.{StateFault}
use Rattle.plain_state.specs.declared.fault.StateFault.TheVariants.{Unread, Root, Metadata, Lacks, LacksFlagged, LacksLog, Unlisted, UnlistedSorted, Unsorted, StrayTable, StrayFile, LacksMarked, Table, NameTaken, LacksStaged, NoMemory}
use Rattle.plain_state.specs.Paths.{paths_behind}
use Rattle.plain_state.specs.Catalogs.{HasByteBounds}
use Rattle.plain_state.specs.States.{TableFails, StandsSo, HasNoState, HasNoByteState}
use Rattle.plain_state.specs.Causes.{IsOnlineNamed, StateCause}
use Rattle.plain_state.proofs.PathLemmas.{IsBehind, node_of}

untold_not : {V : Type 0} (o : Option V) → o ≡ None → IsTold o → ⊥
untold_not o none told = none-some told.value (sym none ∙ told.is)

-- a table that fails has no parts
failed : (known : Ground) (rows : Rows) (mark : Mark) (fault : TableFault) → TableFails known rows mark fault → HasNoParts known rows mark
failed known rows mark fault fails = no_parts known rows mark fault fails.why fails.firm

module _ (known : Ground) (reading : Reading) (catalog : Catalog) (state : PlainState) (is : StandsAs reading catalog known state) where
  same_reading : (other : Reading) → IsReadingOf known other → other ≡ reading
  same_reading other at = one_reading (λ rows one another p q. one_chain_from rows None one another p q) known other reading at is.read.levels

  -- ---- levels

  root_parts : AreParts known (root_rows reading) Free (reading.root ∷ []) reading.root_cells []
  root_parts = record { is_chain = is.read.levels.root_chain; content = is.read.levels.root_content; consistent = is.read.root; brought = refl }

  metadata_parts : AreParts known (metadata_rows reading) Free reading.chain reading.metadata_cells []
  metadata_parts = record { is_chain = is.read.levels.chain; content = is.read.levels.content; consistent = is.read.metadata; brought = refl }

  no_root : (other : Reading) (fault : TableFault) → IsReadingOf known other → TableFails known (root_rows other) Free fault → ⊥
  no_root other fault at fails =
      (subst (λ (r : Reading). HasNoParts known (root_rows r) Free) (same_reading other at) (failed known (root_rows other) Free fault fails)).none (reading.root ∷ []) reading.root_cells [] root_parts

  no_metadata : (other : Reading) (fault : TableFault) → IsReadingOf known other → TableFails known (metadata_rows other) Free fault → ⊥
  no_metadata other fault at fails =
      (subst (λ (r : Reading). HasNoParts known (metadata_rows r) Free) (same_reading other at) (failed known (metadata_rows other) Free fault fails)).none reading.chain reading.metadata_cells [] metadata_parts

  -- ---- what is in use

  nothing_lacks : (tablet : TabletRecord) → IsRecord reading tablet → (untold : Untold) → IsLacking known tablet untold → ⊥
  nothing_lacks tablet of (File path) lacks =
      untold_not (known.cells_of path) lacks.untold (is.read.in_use.files path (inl (record { tablet = tablet; of = of; file = lacks.file; there = lacks.named; is = lacks.path_is })))
  nothing_lacks tablet of (Log log) lacks = untold_not (known.mutations_of log) lacks.untold (is.read.in_use.logs log (inl (record { tablet = tablet; of = of; there = lacks.named })))

  -- ---- tables

  table_there : (id : List ℕ) (node : TableNode) → IsTableAt known.nodes id node → catalog.tables id ≡ Some node
  table_there id node at = by (catalog.tables id) refl (is.nodes.tables id)
    where
      by : (o : Option TableNode) → catalog.tables id ≡ o → TellsTable known.nodes id o → o ≡ Some node
      by None e none = absurd (none-some at.node (sym none ∙ at.there))
      by (Some other) e there = ap Some (same_table known.nodes id id other node refl there at)

  online_table : (id : List ℕ) (node : TableNode) → IsTableAt known.nodes id node → is_online node.state ≡ true → IsTableOf known (reading.users.records id) node (map.get state.tables id)
  online_table id node at online =
      let stands : TableAt known (reading.users.records id) (Some node) (map.get state.tables id) =
      subst (λ o. TableAt known (reading.users.records id) o (map.get state.tables id)) (table_there id node at) (is.tables id) in
      subst (λ b. MatchBool b (IsTableOf known (reading.users.records id) node (map.get state.tables id)) (map.get state.tables id ≡ None)) online stands

  table_parts : (rows : Rows) (node : TableNode) (table : StateTable) → (stands : TableStands known rows node table) → AreParts known rows node.mark stands.chain stands.cells stands.layers
  table_parts rows node table stands = record { is_chain = stands.is_chain; content = stands.content; consistent = stands.consistent; brought = stands.brought }

  no_table : (other : Reading) (id : List ℕ) (node : TableNode) (fault : TableFault) → IsReadingOf known other → IsTableAt known.nodes id node → is_online node.state ≡ true → TableFails known (other.users.records id) node.mark fault → ⊥
  no_table other id node fault at there online fails =
      let of = online_table id node there online in
      (subst (λ (r : Reading). HasNoParts known (r.users.records id) node.mark) (same_reading other at) (failed known (other.users.records id) node.mark fault fails)).none of.stands.chain of.stands.cells of.stands.layers
      (table_parts (reading.users.records id) node of.table of.stands)

  one_name : (name one other : List ℕ) → IsOnlineNamed known.nodes name one → IsOnlineNamed known.nodes name other → one ≡ other
  one_name name one other first second =
      let p = online_table one first.node first.at first.online in
      let q = online_table other second.node second.at second.online in
      is.names.apart one other p.table q.table p.is q.is (p.stands.name ∙ first.named ∙ sym second.named ∙ sym q.stands.name)

  no_stray_table : HasByteBounds catalog → HasStray known.nodes (paths_behind (codes "/tables/") known.nodes) → ⊥
  no_stray_table bytes has = by (catalog.tables behind.rest) refl (is.nodes.tables behind.rest)
    where
      behind : IsBehind (codes "/tables/") known.nodes has.path
      behind = node_of (codes "/tables/") known.nodes has.path has.among

      by : (o : Option TableNode) → catalog.tables behind.rest ≡ o → TellsTable known.nodes behind.rest o → ⊥
      by None e none = none-some behind.node (sym none ∙ ap (map.get known.nodes) (sym behind.place) ∙ behind.there)
      by (Some table) e at =
          has.stray.none table (behind.place ∙ ap table_path (sym at.id_is)) (record { at = subst (λ id. IsTableAt known.nodes id table) (sym at.id_is) at; bytes = bytes.each behind.rest table e })

  -- ---- staged files

  file_there : (name path : List ℕ) → IsStagedAt known.nodes name path → catalog.staged name ≡ Some path
  file_there name path at = by (catalog.staged name) (is.nodes.staged name)
    where
      by : (o : Option (List ℕ)) → TellsStaged known.nodes name o → o ≡ Some path
      by None none = absurd (none-some at.node (sym none ∙ at.there))
      by (Some other) there = ap Some (sym there.value ∙ ap (λ n. n.value) (same_Some there.node at.node (sym there.there ∙ at.there)) ∙ at.value)

  file_told : (name path : List ℕ) → IsStagedAt known.nodes name path → IsTold (known.cells_of path)
  file_told name path at =
      let of : IsStagedOf known path (map.get state.staged name) = subst (λ o. StagedAt known o (map.get state.staged name)) (file_there name path at) (is.staged name) in
      record { value = of.cells; is = of.told }

  no_stray_file : HasStrayFile known.nodes (paths_behind (codes "/staged/") known.nodes) → ⊥
  no_stray_file has = by (catalog.staged behind.rest) (is.nodes.staged behind.rest)
    where
      behind : IsBehind (codes "/staged/") known.nodes has.path
      behind = node_of (codes "/staged/") known.nodes has.path has.among

      by : (o : Option (List ℕ)) → TellsStaged known.nodes behind.rest o → ⊥
      by None none = none-some behind.node (sym none ∙ ap (map.get known.nodes) (sym behind.place) ∙ behind.there)
      by (Some path) at = has.stray.none behind.rest path behind.place at

  -- ---- all faults

  excluded : (fault : StateFault) → StateCause known fault → fault ≢ NoMemory → fault ≢ Unread LongRoot → (fault ≡ StrayTable → HasByteBounds catalog) → ⊥
  excluded (Unread fault) cause firm short bytes = (no_reading known fault cause.why cause.firm (λ e. short (ap Unread e))).none reading is.read.levels
  excluded (Root fault) cause firm short bytes = no_root cause.reading fault cause.read cause.fails
  excluded (Metadata fault) cause firm short bytes = no_metadata cause.reading fault cause.read cause.fails
  excluded (Lacks untold) cause firm short bytes = nothing_lacks cause.tablet (subst (λ (r : Reading). IsRecord r cause.tablet) (same_reading cause.reading cause.read) cause.of) untold cause.lacks
  excluded (LacksFlagged path) cause firm short bytes =
      untold_not (known.cells_of path) cause.untold (is.read.in_use.files path (inr (subst (λ (r : Reading). IsFlagged r.metadata path ⊎ IsFlagged r.users path) (same_reading cause.reading cause.read) cause.flagged)))
  excluded (LacksLog log) cause firm short bytes = untold_not (known.mutations_of log) cause.untold (is.read.in_use.logs log (inr (inl cause.listed)))
  excluded (Unlisted log) cause firm short bytes = cause.unlisted (is.read.logs.named log (subst (λ (r : Reading). IsNamedLog r log) (same_reading cause.reading cause.read) cause.named))
  excluded (UnlistedSorted log) cause firm short bytes = cause.unlisted (is.read.logs.sorted log cause.sorted)
  excluded (Unsorted log) cause firm short bytes = cause.none (is.read.in_use.sorted log cause.sorted)
  excluded StrayTable cause firm short bytes = no_stray_table (bytes refl) cause
  excluded StrayFile cause firm short bytes = no_stray_file cause
  excluded (LacksMarked path) cause firm short bytes =
      untold_not (known.cells_of path) cause.untold (is.marked path (record { id = cause.node.id; table = cause.node; there = table_there cause.node.id cause.node cause.at; marked = cause.named }))
  excluded (Table id fault) cause firm short bytes = no_table cause.reading id cause.node fault cause.read cause.at cause.online cause.fails
  excluded (NameTaken name) cause firm short bytes = cause.apart (one_name name cause.one cause.other cause.first cause.second)
  excluded (LacksStaged path) cause firm short bytes = untold_not (known.cells_of path) cause.untold (file_told cause.name path cause.at)
  excluded NoMemory cause firm short bytes = firm refl

pub no_state : (known : Ground) (fault : StateFault) → StateCause known fault → fault ≢ NoMemory → fault ≢ Unread LongRoot → fault ≢ StrayTable → HasNoState known
no_state known fault cause firm short other = record { none = λ reading catalog state is. excluded known reading catalog state is fault cause firm short (λ e. absurd (other e)) }

pub no_byte_state : (known : Ground) (fault : StateFault) → StateCause known fault → fault ≢ NoMemory → fault ≢ Unread LongRoot → HasNoByteState known
no_byte_state known fault cause firm short = record { none = λ state is. excluded known is.reading is.catalog state is.stands fault cause firm short (λ e. is.bytes) }
