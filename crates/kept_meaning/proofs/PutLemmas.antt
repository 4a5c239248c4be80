-- Cells that are put in a row of a user table.
use Rattle.std.proofs.Common.{◌≡◌, ◌≢◌, inl, inr, ℕ, ◌<◌, Bool, true, false, List, Option, Some, None, Contains, refl, sym, ◌∙◌, ap, subst}
use Rattle.std.specs.Prelude.{MatchBool}
use Rattle.std.specs.FinMap as map_of
use Rattle.std.specs.List.{list_any}
use Rattle.std.proofs.lemmas.Bool.{and_parts}
use Rattle.row_keys.specs.declared.key.Key.{Key}
use Rattle.row_keys.specs.Forms.{IsUserTableId}
use Rattle.row_keys.specs.RowOrder.{is_within}
use Rattle.plain_model.specs.State.{PairMap, Table, PlainState}
use Rattle.plain_model.specs.Apply.{put_table}
use Rattle.plain_model.specs.Laws.{AreNamedApart}
use Rattle.plain_model.proofs.LawsLemmas.{get_own, get_other, get_put}
use Rattle.metadata_schema.specs.declared.mutation.Mutation.{Mutation}
use Rattle.metadata_schema.specs.declared.tablet.TabletRecord.{TabletRecord}
use Rattle.metadata_schema.specs.Bytes.{same}
use Rattle.cell_merge.specs.declared.cell.Cell.{Cell}
use Rattle.cell_merge.specs.Newest.{latest, newest_at}
use Rattle.cell_merge.specs.Changes.{overlaid}
use Rattle.cell_merge.proofs.LatestLemmas.{latest-some, newest-gains}
use Rattle.level_rows.specs.Chain.{Rows, IsChain, effective_prev}
use Rattle.level_rows.specs.Extents.{holds_row}
use Rattle.level_rows.proofs.EndLemmas.{same-true, same-itself}
use Rattle.level_rows.proofs.WayLemmas.{row_of, one_chain_from}
use Rattle.store_layout.specs.Numbers.{base36_number}
use Rattle.store_layout.specs.Tables.{Catalog}
use Rattle.store_layout.specs.declared.tables.TableNode.{TableNode}
use Rattle.store_meaning.specs.Ground.{Ground}
use Rattle.store_meaning.specs.Content.{cells_of_mutation, contents_of, counts_for, logs_of}
use Rattle.store_meaning.specs.Levels.{Reading}
use Rattle.store_meaning.specs.InUse.{IsRecord}
use Rattle.store_meaning.specs.Marked.{is_lacking, layers_of, layered}
use Rattle.store_meaning.specs.Readable.{HaveConsistentTablets}
use Rattle.store_meaning.specs.Stands.{is_online, is_ending, TableStands, IsTableOf, TableAt, StagedAt, StandsAs}
use Rattle.store_meaning.specs.Kept.{AreRowsOf, IsChainTablet, IsKeptAs}
use Rattle.store_meaning.specs.Writes.{appended}
use Rattle.store_meaning.proofs.ChainWriteLemmas.{chain_of_user, put_gained, put_consistent, put_elsewhere}
use Rattle.store_meaning.proofs.ContentLemmas.{of_mutation}
use Rattle.store_meaning.proofs.LevelLemmas.{consistent_mutation}
use Rattle.store_meaning.proofs.MarkLemmas.{outside}
use Rattle.store_meaning.proofs.NamingLemmas.{put_read}
use Rattle.store_meaning.proofs.WrittenLemmas.{one_holder, consistent_contents, consistent_elsewhere}
use Rattle.kept_meaning.specs.Puts.{with_cells, state_with, PutsPairs}
use Rattle.kept_meaning.proofs.LoggedLemmas.{in_log_cases, holder_names, logged_appended}
use Rattle.kept_meaning.proofs.PairLemmas.{mutation_pairs, state_there, state_none}

module _ (reading : Reading) (catalog : Catalog) (known : Ground) (state : PlainState) (is : StandsAs reading catalog known state)
    (log : List ℕ) (mutation : Mutation) (chain : List TabletRecord) (change : PutsPairs known reading catalog log mutation chain) where
  abbrev after : Ground
  after = appended known log mutation

  abbrev fresh : List Cell
  fresh = cells_of_mutation mutation

  abbrev later : PlainState
  later = state_with mutation.table fresh state

  abbrev rows : Rows
  rows = reading.users.records mutation.table

  -- the tablet of the mutation's row
  abbrev holder : TabletRecord
  holder = change.puts.stands.holder

  holder_holds : holds_row rows holder mutation.row ≡ true
  holder_holds = (and_parts (counts_for holder mutation) (is_within (effective_prev rows holder) holder.end mutation.row) change.puts.stands.counts).1

  holder_record : IsRecord reading holder
  holder_record = inr (inr (record { table = mutation.table; end = holder.end; there = row_of rows None chain holder change.puts.is_chain change.puts.stands.there }))

  holder_table : holder.table ≡ mutation.table
  holder_table = chain_of_user known reading is.read.levels mutation.table chain change.puts.is_chain holder change.puts.stands.there

  -- ---- its table

  module _ (node : TableNode) (there : catalog.tables mutation.table ≡ Some node) (table : Table) (was : TableStands known rows node table) where
    same_chain : was.chain ≡ chain
    same_chain = one_chain_from rows None was.chain chain was.is_chain change.puts.is_chain

    content : contents_of known rows chain ≡ Some was.cells
    content = subst (λ c. contents_of known rows c ≡ Some was.cells) same_chain was.content

    consistent : HaveConsistentTablets known rows chain
    consistent = subst (HaveConsistentTablets known rows) same_chain was.consistent

    brought : layers_of known rows chain node.mark ≡ Some was.layers
    brought = subst (λ c. layers_of known rows c node.mark ≡ Some was.layers) same_chain was.brought

    -- no layer of a mark is over the mutation's row
    nothing_over : (key : Key) (below : Option (List ℕ)) → key.row ≡ mutation.row → layered was.layers key below ≡ below
    nothing_over key below row = outside known rows chain node.mark was.layers key below brought (λ tablet among lacks holds. (
        let one : tablet ≡ holder = one_holder known rows chain change.puts.is_chain mutation.row tablet holder among change.puts.stands.there (ap (holds_row rows tablet) (sym row) ∙ holds) holder_holds in
        let wrong : true ≡ false = sym lacks ∙ ap (is_lacking node.mark) one ∙ change.loaded node there in
        cc))

    over : (key : Key) (found : Option Cell) → latest fresh key ≡ found → overlaid found (layered was.layers key (newest_at was.cells key)) ≡ layered was.layers key (overlaid found (newest_at was.cells key))
    over key None e = refl
    over key (Some cell) e =
        let at = latest-some fresh key cell e in
        sym (nothing_over key cell.value (ap (λ (k : Key). k.row) (sym at.at) ∙ (of_mutation mutation cell at.there).0))

    own_table : TableStands after rows node (record table { pairs = with_cells fresh table.pairs })
    own_table =
        let gained = put_gained known reading is.read.levels log mutation chain change.puts was.cells content in
        let ok = consistent_contents known rows chain change.puts.is_chain consistent was.cells content in
        record {
          chain = chain;
          is_chain = change.puts.is_chain;
          cells = gained.cells;
          content = gained.is;
          consistent = put_consistent known reading is.read.levels log mutation chain change.puts was.cells content consistent;
          layers = was.layers;
          brought = brought;
          name = was.name;
          points = λ row. was.points row ∙ ap (list_any (is_ending row)) same_chain;
          pairs = λ key.
              mutation_pairs mutation table.pairs key
              ∙ ap (overlaid (latest fresh key)) (was.pairs key)
              ∙ over key (latest fresh key) refl
              ∙ ap (layered was.layers key) (sym (newest-gains fresh was.cells gained.cells key ok (consistent_mutation mutation change.puts.order) gained.gains));
        }

  own_at : (found : Option TableNode) → catalog.tables mutation.table ≡ found → (there : Option Table) → map_of.get state.tables mutation.table ≡ there → TableAt known rows found there → TableAt after rows found (map_of.get later.tables mutation.table)
  own_at None e there at none = ap (λ (s : PlainState). map_of.get s.tables mutation.table) (state_none state mutation.table fresh (at ∙ none)) ∙ at ∙ none
  own_at (Some node) e there at table = by (is_online node.state) table
    where
      by : (b : Bool) → MatchBool b (IsTableOf known rows node there) (there ≡ None) → MatchBool b (IsTableOf after rows node (map_of.get later.tables mutation.table)) (map_of.get later.tables mutation.table ≡ None)
      by true one = record {
        table = record (one.table) { pairs = with_cells fresh one.table.pairs };
        is = ap (λ (s : PlainState). map_of.get s.tables mutation.table) (state_there state mutation.table fresh one.table (at ∙ one.is)) ∙ get_own state.tables mutation.table _;
        stands = own_table node e one.table one.stands;
      }
      by false none = ap (λ (s : PlainState). map_of.get s.tables mutation.table) (state_none state mutation.table fresh (at ∙ none)) ∙ at ∙ none

  -- ---- other tables

  other_get : (id : List ℕ) → id ≢ mutation.table → map_of.get later.tables id ≡ map_of.get state.tables id
  other_get id apart = by (map_of.get state.tables mutation.table) refl
    where
      by : (found : Option Table) → map_of.get state.tables mutation.table ≡ found → map_of.get later.tables id ≡ map_of.get state.tables id
      by None e = ap (λ (s : PlainState). map_of.get s.tables id) (state_none state mutation.table fresh e)
      by (Some table) e = ap (λ (s : PlainState). map_of.get s.tables id) (state_there state mutation.table fresh table e) ∙ get_other state.tables mutation.table _ id apart

  other_table : (id : List ℕ) → id ≢ mutation.table → (node : TableNode) (table : Table) → TableStands known (reading.users.records id) node table → TableStands after (reading.users.records id) node table
  other_table id apart node table was = record {
    chain = was.chain;
    is_chain = was.is_chain;
    cells = was.cells;
    content = put_elsewhere known reading is.read.levels log mutation chain change.puts id was.chain apart was.is_chain ∙ was.content;
    consistent = consistent_elsewhere known log mutation (reading.users.records id) was.chain
        (λ tablet there same. apart (sym (chain_of_user known reading is.read.levels id was.chain was.is_chain tablet there) ∙ same)) was.consistent;
    layers = was.layers;
    brought = was.brought;
    name = was.name;
    points = was.points;
    pairs = was.pairs;
  }

  other_at : (id : List ℕ) → id ≢ mutation.table → (found : Option TableNode) (there : Option Table) → TableAt known (reading.users.records id) found there → TableAt after (reading.users.records id) found there
  other_at id apart None there none = none
  other_at id apart (Some node) there table = by (is_online node.state) table
    where
      by : (b : Bool) → MatchBool b (IsTableOf known (reading.users.records id) node there) (there ≡ None) → MatchBool b (IsTableOf after (reading.users.records id) node there) (there ≡ None)
      by true one = record { table = one.table; is = one.is; stands = other_table id apart node one.table one.stands }
      by false none = none

  tables : (id : List ℕ) → TableAt after (reading.users.records id) (catalog.tables id) (map_of.get later.tables id)
  tables id = by (same id mutation.table) refl
    where
      own : TableAt after rows (catalog.tables mutation.table) (map_of.get later.tables mutation.table)
      own = own_at (catalog.tables mutation.table) refl (map_of.get state.tables mutation.table) refl (is.tables mutation.table)

      by : (b : Bool) → same id mutation.table ≡ b → TableAt after (reading.users.records id) (catalog.tables id) (map_of.get later.tables id)
      by true e = subst (λ t. TableAt after (reading.users.records t) (catalog.tables t) (map_of.get later.tables t)) (sym (same-true id mutation.table e)) own
      by false e =
          let apart : id ≢ mutation.table = λ at. (let wrong : true ≡ false = sym (same-itself id mutation.table at) ∙ e in cc) in
          subst (TableAt after (reading.users.records id) (catalog.tables id)) (sym (other_get id apart)) (other_at id apart (catalog.tables id) (map_of.get state.tables id) (is.tables id))

  -- ---- the state

  staged_still : map_of.get later.staged ≡ map_of.get state.staged
  staged_still = by (map_of.get state.tables mutation.table) refl
    where
      by : (found : Option Table) → map_of.get state.tables mutation.table ≡ found → map_of.get later.staged ≡ map_of.get state.staged
      by None e = ap (λ (s : PlainState). map_of.get s.staged) (state_none state mutation.table fresh e)
      by (Some table) e = ap (λ (s : PlainState). map_of.get s.staged) (state_there state mutation.table fresh table e)

  staged_at : (found : Option (List ℕ)) (there : Option PairMap) → StagedAt known found there → StagedAt after found there
  staged_at None there none = none
  staged_at (Some path) there one = record { staged = one.staged; is = one.is; cells = one.cells; told = one.told; pairs = one.pairs }

  -- the table keeps its name
  names_apart : AreNamedApart later
  names_apart = by (map_of.get state.tables mutation.table) refl
    where
      renamed : (table : Table) → map_of.get state.tables mutation.table ≡ Some table → AreNamedApart (put_table mutation.table (record table { pairs = with_cells fresh table.pairs }) state)
      renamed table e = record {
        apart = λ one two a b found_one found_two name.
            get_put state.tables mutation.table _ one a (one ≡ two) found_one
            (λ at is_new. get_put state.tables mutation.table _ two b (one ≡ two) found_two
            (λ also also_new. at ∙ sym also)
            (λ old. is.names.apart one two table b (ap (map_of.get state.tables) at ∙ e) old (ap (λ (t : Table). t.name) (sym is_new) ∙ name)))
            (λ old. get_put state.tables mutation.table _ two b (one ≡ two) found_two
            (λ also also_new. is.names.apart one two a table old (ap (map_of.get state.tables) also ∙ e) (name ∙ ap (λ (t : Table). t.name) also_new))
            (λ also_old. is.names.apart one two a b old also_old name));
      }

      by : (found : Option Table) → map_of.get state.tables mutation.table ≡ found → AreNamedApart later
      by None e = subst AreNamedApart (sym (state_none state mutation.table fresh e)) is.names
      by (Some table) e = subst AreNamedApart (sym (state_there state mutation.table fresh table e)) (renamed table e)

  pub put_stands : StandsAs reading catalog after later
  put_stands = record {
    read = put_read known reading is.read log mutation chain change.puts change.unsorted;
    nodes = record { tables = is.nodes.tables; staged = is.nodes.staged };
    marked = is.marked;
    tables = tables;
    staged = λ name. staged_at (catalog.staged name) (map_of.get later.staged name) (subst (StagedAt known (catalog.staged name)) (sym (ap (λ f. f name) staged_still)) (is.staged name));
    names = names_apart;
  }

  -- the tablet of a chain that holds the row names the log
  names_log : (other : Rows) (tablet : TabletRecord) → IsChainTablet reading catalog mutation.table other tablet → holds_row other tablet mutation.row ≡ true → Contains (logs_of tablet) log
  names_log other tablet of holds = by of.of
    where
      by : AreRowsOf reading catalog mutation.table other → Contains (logs_of tablet) log
      by (inl root) = absurd (change.puts.not_root root.0)
      by (inr (inl metadata)) = absurd (change.puts.user metadata.0)
      by (inr (inr user)) =
          let is_chain = subst (λ r. IsChain r of.chain) user.is of.is_chain in
          let one : of.chain ≡ chain = one_chain_from rows None of.chain chain is_chain change.puts.is_chain in
          holder_names known rows chain change.puts.is_chain log mutation change.puts.stands tablet (subst (λ c. Contains c tablet) one of.there) (ap (λ r. holds_row r tablet mutation.row) (sym user.is) ∙ holds)

-- what is kept stays so
pub put_kept : (reading : Reading) (catalog : Catalog) (known : Ground) (state : PlainState) → IsKeptAs reading catalog known state → (log : List ℕ) (mutation : Mutation) (chain : List TabletRecord)
    → PutsPairs known reading catalog log mutation chain → IsKeptAs reading catalog (appended known log mutation) (state_with mutation.table (cells_of_mutation mutation) state)
put_kept reading catalog known state is log mutation chain change = record {
  stands = put_stands reading catalog known state is.stands log mutation chain change;
  names = is.names;
  ids = record {
    next = is.ids.next;
    counter = is.ids.counter;
    tables = is.ids.tables;
    records = is.ids.records;
    mutations = λ other m there user. elim (in_log_cases known log mutation other m there) [
      | inl before ↦ is.ids.mutations other m before user
      | inr now ↦
          let of_table = holder_table reading catalog known state is.stands log mutation chain change in
          let at : change.puts.stands.holder.table ≡ m.table = of_table ∙ ap (λ (x : Mutation). x.table) now.1 in
          subst (λ t. base36_number t < is.ids.next) at (is.ids.records change.puts.stands.holder (holder_record reading catalog known state is.stands log mutation chain change) (subst IsUserTableId (sym at) user))
    ];
  };
  sessions = is.sessions;
  logged = logged_appended reading catalog known log mutation is.logged (λ rows tablet of holds. names_log reading catalog known state is.stands log mutation chain change rows tablet of holds);
  removals = is.removals;
}
