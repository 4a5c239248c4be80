-- A row beside the chains that count.
use Rattle.std.proofs.Common.{◌≡◌, ◌≢◌, ℕ, Bool, true, false, List, [], Option, Some, None, Contains, refl, sym, ◌∙◌, ap, subst}
use Rattle.plain_model.specs.State.{Table, PlainState}
use Rattle.metadata_schema.specs.declared.mutation.Mutation.{Mutation}
use Rattle.metadata_schema.specs.declared.tablet.TabletRecord.{TabletRecord}
use Rattle.metadata_schema.specs.Bytes.{same}
use Rattle.level_rows.specs.Chain.{Rows, IsChain}
use Rattle.level_rows.proofs.EndLemmas.{same-true, same-itself}
use Rattle.level_rows.proofs.Membership.{Contains-nil}
use Rattle.level_rows.proofs.WayLemmas.{one_chain_from}
use Rattle.store_layout.specs.Tables.{Catalog}
use Rattle.store_layout.specs.declared.tables.TableNode.{TableNode}
use Rattle.store_layout.specs.declared.tables.TableState.{TableState}
use Rattle.store_layout.specs.declared.tables.TableState.TheVariants.{New, Online, Deleting}
use Rattle.store_meaning.specs.Ground.{Ground}
use Rattle.store_meaning.specs.Levels.{Flag, Reading}
use Rattle.store_meaning.specs.RowWrites.{RecordRow, CandidateRow, FlagRow, RowWrite, row_written, with_level_row, WritesUserRow, user_row_written}
use Rattle.store_meaning.specs.ChainWrites.{user_rows_with}
use Rattle.store_meaning.specs.Stands.{is_online, TableStands, StandsAs}
use Rattle.store_meaning.specs.Kept.{is_deleting, IsInSomeLog, IsKeptAs}
use Rattle.store_meaning.proofs.ChainWriteLemmas.{rows_of_other_table}
use Rattle.kept_meaning.specs.Rows.{RowFits, IsTabletKept, HaveSameChains, WritesAside, WritesUnseenRow}
use Rattle.kept_meaning.proofs.RowLemmas.{row_stands, aside_table, aside_kept, row_kept}

-- an ONLINE table isn't being deleted
pub online_stays : (s : TableState) → is_online s ≡ true → is_deleting s ≡ false
online_stays New e = refl
online_stays Online e = refl
online_stays Deleting e = cc

-- for each id, by whether it is this one
pub by_table : (P : List ℕ → Type 0) (table : List ℕ) → P table → ((id : List ℕ) → id ≢ table → P id) → (id : List ℕ) → P id
by_table P table own others id = by (same id table) refl
  where
    by : (b : Bool) → same id table ≡ b → P id
    by true e = subst P (sym (same-true id table e)) own
    by false e = others id (λ at. (let wrong : true ≡ false = sym (same-itself id table at) ∙ e in cc))

-- a table that has this chain before and after has the same chains
pub chains_of_one : (old new : Rows) (chain : List TabletRecord) → IsChain old chain → IsChain new chain → HaveSameChains old new
chains_of_one old new chain was is other =
    (λ of_old. subst (IsChain new) (one_chain_from old None chain other was of_old) is, λ of_new. subst (IsChain old) (one_chain_from new None chain other is of_new) was)

-- the rows of other tables than that of a record
pub rows_apart : (reading : Reading) (write : RowWrite) (table : List ℕ) (end : Option (List ℕ)) (tablet : Option TabletRecord) → write.row ≡ RecordRow table end tablet → (other : List ℕ) → other ≢ table
    → user_rows_with reading write other ≡ reading.users.records other
rows_apart reading write table end tablet row other apart = ap (λ r. (with_level_row reading.users r).records other) row ∙ rows_of_other_table reading.users table other end tablet apart

pub same_rows : (old new : Rows) → new ≡ old → HaveSameChains old new
same_rows old new e chain = (λ was. subst (λ r. IsChain r chain) (sym e) was, λ is. subst (λ r. IsChain r chain) e is)

-- a tablet without files, of a table of which no log has a mutation, is kept
pub new_kept : (known : Ground) (table : List ℕ) (rows : Rows) (tablet : TabletRecord) → ((log : List ℕ) (mutation : Mutation) → IsInSomeLog known log mutation → mutation.table ≢ table) → tablet.files ≡ [] → IsTabletKept known table rows tablet
new_kept known table rows tablet none files = record {
  logged = λ log mutation there past. absurd (none log mutation there past.of);
  removals = λ file cells cell named told there removed. absurd (Contains-nil file (subst (λ l. Contains l file) files named));
}

module _ (reading : Reading) (catalog : Catalog) (known : Ground) (state : PlainState) where
  -- ---- aside

  pub aside_stands : StandsAs reading catalog known state → (write : RowWrite) → WritesAside known reading catalog write → StandsAs (user_row_written known reading write) catalog (row_written known write) state
  aside_stands is write change = row_stands reading catalog known state is write change.writes change.fits
      (λ id node there online. aside_table reading catalog known state is write change.writes id node there (λ chain. (change.aside id node there (online_stays node.state online) chain).0))

  pub aside_is_kept : IsKeptAs reading catalog known state → (write : RowWrite) → WritesAside known reading catalog write → IsKeptAs (user_row_written known reading write) catalog (row_written known write) state
  aside_is_kept is write change = row_kept reading catalog known state is write change.writes change.fits
      (λ id node there stays chain is_chain. aside_kept reading catalog known state is write change.writes change.fits id node there stays chain ((change.aside id node there stays chain).1 is_chain) is_chain)
      (aside_stands is.stands write change)

  pub candidate_aside : (write : RowWrite) → WritesUserRow known reading write → RowFits known write → (path : List ℕ) (is_there : Bool) → write.row ≡ CandidateRow path is_there → WritesAside known reading catalog write
  candidate_aside write writes fits path is_there row = record {
    writes = writes;
    fits = fits;
    aside = λ table node there stays. same_rows (reading.users.records table) (user_rows_with reading write table) (ap (λ r. (with_level_row reading.users r).records table) row);
  }

  pub flag_aside : (write : RowWrite) → WritesUserRow known reading write → RowFits known write → (path : List ℕ) (flag : Option Flag) → write.row ≡ FlagRow path flag → WritesAside known reading catalog write
  flag_aside write writes fits path flag row = record {
    writes = writes;
    fits = fits;
    aside = λ table node there stays. same_rows (reading.users.records table) (user_rows_with reading write table) (ap (λ r. (with_level_row reading.users r).records table) row);
  }

  -- a record beside the chain of its table
  pub record_aside : (write : RowWrite) → WritesUserRow known reading write → RowFits known write → (table : List ℕ) (end : Option (List ℕ)) (tablet : Option TabletRecord) → write.row ≡ RecordRow table end tablet
      → HaveSameChains (reading.users.records table) (user_rows_with reading write table) → WritesAside known reading catalog write
  record_aside write writes fits table end tablet row same = record {
    writes = writes;
    fits = fits;
    aside = λ id node there stays. by_table (λ t. HaveSameChains (reading.users.records t) (user_rows_with reading write t)) table same
        (λ other apart. same_rows (reading.users.records other) (user_rows_with reading write other) (rows_apart reading write table end tablet row other apart)) id;
  }

  -- ---- a table that isn't seen

  module _ (write : RowWrite) (table : List ℕ) (end : Option (List ℕ)) (tablet : Option TabletRecord) (change : WritesUnseenRow known reading catalog write table end tablet) where
    other_chains : (other : List ℕ) → other ≢ table → HaveSameChains (reading.users.records other) (user_rows_with reading write other)
    other_chains other apart = same_rows (reading.users.records other) (user_rows_with reading write other) (rows_apart reading write table end tablet change.row other apart)

    pub unseen_stands : StandsAs reading catalog known state → StandsAs (user_row_written known reading write) catalog (row_written known write) state
    unseen_stands is = row_stands reading catalog known state is write change.writes change.fits
        (by_table (λ id. (node : TableNode) → catalog.tables id ≡ Some node → is_online node.state ≡ true → (t : Table) → TableStands known (reading.users.records id) node t → TableStands (row_written known write) (user_rows_with reading write id) node t) table
        (λ node there online t was. absurd (let wrong : true ≡ false = sym online ∙ change.unseen node there in cc))
        (λ id apart node there online. aside_table reading catalog known state is write change.writes id node there (λ chain. (other_chains id apart chain).0)))

    pub unseen_kept : IsKeptAs reading catalog known state → IsKeptAs (user_row_written known reading write) catalog (row_written known write) state
    unseen_kept is = row_kept reading catalog known state is write change.writes change.fits
        (by_table (λ id. (node : TableNode) → catalog.tables id ≡ Some node → is_deleting node.state ≡ false → (chain : List TabletRecord) → IsChain (user_rows_with reading write id) chain → (other : TabletRecord) → Contains chain other → IsTabletKept known id (user_rows_with reading write id) other) table
        change.kept
        (λ id apart node there stays chain is_chain. aside_kept reading catalog known state is write change.writes change.fits id node there stays chain ((other_chains id apart chain).1 is_chain) is_chain))
        (unseen_stands is.stands)
