-- Why an ONLINE table isn't put.
use Rattle.std.proofs.Common.{◌≡◌, ℕ, Bool, true, false, List, ◌++◌, take, drop, Contains, Option, Some, None, refl, sym, ◌∙◌, ap, subst}
use Rattle.std.specs.Prelude.{MatchBool}
use Rattle.std.specs.FinMap as map
use Rattle.std.proofs.lemmas.List.{take-append-drop}
use Rattle.std.proofs.lemmas.List.Elements.{Contains-append_left}
use Rattle.std.proofs.lemmas.Option.{none-some, same_Some}
use Rattle.plain_model.specs.State.{Table as StateTable, PlainState}
use Rattle.level_rows.specs.Chain.{Rows}
use Rattle.store_layout.specs.declared.tables.TableNode.{TableNode}
use Rattle.store_layout.specs.Tables.{IsTableAt}
use Rattle.store_meaning.specs.Ground.{Ground}
use Rattle.store_meaning.specs.Levels.{Reading, IsReadingOf}
use Rattle.store_meaning.specs.Stands.{is_online, IsTableOf, TableAt}
use Rattle.plain_reader.specs.declared.fault.TableFault.{TableFault}
use Rattle.plain_state.specs.declared.fault.StateFault.{StateFault}
use Rattle.plain_state.specs.declared.fault.StateFault.TheVariants.{Unread, Root, Metadata, Lacks, LacksFlagged, LacksLog, Unlisted, UnlistedSorted, Unsorted, StrayTable, StrayFile, LacksMarked, Table, NameTaken, LacksStaged, NoMemory}
use Rattle.plain_state.specs.Catalogs.{AreAllTables, table_of}
use Rattle.plain_state.specs.States.{ArePut, TableFails, PutFails}
use Rattle.plain_state.specs.Causes.{HasBadTable, HasTwoNamed, StateCause}
use Rattle.plain_state.proofs.CatalogLemmas.{table_found, table_at}
use Rattle.plain_state.proofs.TableLemmas.{name_taken}

-- what is in front is among all
pub in_front : {X : Type 0} (i : ℕ) (xs : List X) (x : X) → Contains (take i xs) x → Contains xs x
in_front i xs x there = subst (λ l. Contains l x) (take-append-drop i xs) (Contains-append_left (take i xs) (drop i xs) x there)

-- the cause, as one fact of the fault
pub record IsPutFailure (known : Ground) (rows : Rows) (node : TableNode) (state : PlainState) (fault : StateFault) : Type 0 where
  pub why : PutFails known rows node state fault

module _ (known : Ground) (reading : Reading) (tables front : List TableNode) (table : TableNode) (state : PlainState) (read : IsReadingOf known reading) (all : AreAllTables known.nodes tables) (within : (t : TableNode) → Contains front t → Contains tables t) (there : Contains tables table) (are : ArePut known reading front state) (fresh : table_of front table.id ≡ None) (online : is_online table.state ≡ true) where
  own : IsTableAt known.nodes table.id table
  own = table_at known.nodes tables all table there

  bad_table : (id : List ℕ) (fault : TableFault) → id ≡ table.id → TableFails known (reading.users.records table.id) table.mark fault → HasBadTable known id fault
  bad_table id fault is fails = subst (λ i. HasBadTable known i fault) (sym is) (record { reading = reading; read = read; node = table; at = own; online = online; fails = fails })

  two : (id : List ℕ) (node : TableNode) → table_of front id ≡ Some node → is_online node.state ≡ true → node.name ≡ table.name → HasTwoNamed known.nodes table.name
  two id node e live same_names =
      let place = table_found front id node e in
      record {
        one = id;
        other = table.id;
        first = record { node = node; at = subst (λ i. IsTableAt known.nodes i node) place.1 (table_at known.nodes tables all node (within node place.0)); online = live; named = same_names };
        second = record { node = table; at = own; online = online; named = refl };
        apart = λ ids. none-some node (sym fresh ∙ ap (table_of front) (sym ids) ∙ e);
      }

  named : (id : List ℕ) (t : StateTable) → map.get state.tables id ≡ Some t → t.name ≡ table.name → HasTwoNamed known.nodes table.name
  named id t found is = by (table_of front id) refl (are.each id)
    where
      at : (node : TableNode) → table_of front id ≡ Some node → (b : Bool) → is_online node.state ≡ b → MatchBool b (IsTableOf known (reading.users.records id) node (map.get state.tables id)) (map.get state.tables id ≡ None) → HasTwoNamed known.nodes table.name
      at node e true live of = two id node e live (sym of.stands.name ∙ ap (λ (x : StateTable). x.name) (same_Some of.table t (sym of.is ∙ found)) ∙ is)
      at node e false live none = absurd (none-some t (sym none ∙ found))

      by : (o : Option TableNode) → table_of front id ≡ o → TableAt known (reading.users.records id) o (map.get state.tables id) → HasTwoNamed known.nodes table.name
      by None e none = absurd (none-some t (sym none ∙ found))
      by (Some node) e stands = at node e (is_online node.state) refl stands

  pub cause_of_put : (fault : StateFault) → PutFails known (reading.users.records table.id) table state fault → StateCause known fault
  cause_of_put (Unread fault) fails = absurd fails
  cause_of_put (Root fault) fails = absurd fails
  cause_of_put (Metadata fault) fails = absurd fails
  cause_of_put (Lacks untold) fails = absurd fails
  cause_of_put (LacksFlagged path) fails = absurd fails
  cause_of_put (LacksLog log) fails = absurd fails
  cause_of_put (Unlisted log) fails = absurd fails
  cause_of_put (UnlistedSorted log) fails = absurd fails
  cause_of_put (Unsorted log) fails = absurd fails
  cause_of_put StrayTable fails = absurd fails
  cause_of_put StrayFile fails = absurd fails
  cause_of_put (LacksMarked path) fails = absurd fails
  cause_of_put (Table id fault) fails = bad_table id fault fails.0 fails.1
  cause_of_put (NameTaken name) fails =
      let taken = name_taken table.name state fails.1 in
      subst (HasTwoNamed known.nodes) (sym fails.0) (named taken.0 taken.1 taken.2 taken.3)
  cause_of_put (LacksStaged path) fails = absurd fails
  cause_of_put NoMemory fails = tt
