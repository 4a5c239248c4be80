-- Nodes of servers and of logs come and go.
use Rattle.std.proofs.Common.{◌⊎◌, inl, inr, ℕ, ◌<◌, List, codes, Option, Some, None, Contains, refl, sym, ◌∙◌, subst}
use Rattle.std.specs.FinMap as map_of
use Rattle.std.proofs.lemmas.Option.{same_Some}
use Rattle.row_keys.specs.Forms.{IsLogName}
use Rattle.plain_model.specs.State.{PlainState}
use Rattle.metadata_schema.specs.declared.mutation.Mutation.{Mutation}
use Rattle.level_rows.proofs.Membership.{Contains-nil}
use Rattle.node_store.specs.Nodes.{Nodes}
use Rattle.store_layout.specs.Nodes.{IsNext}
use Rattle.store_layout.specs.Numbers.{base16_number, log_number}
use Rattle.store_layout.specs.Tables.{Catalog, TellsTable, TellsStaged}
use Rattle.store_layout.specs.declared.tables.TableNode.{TableNode}
use Rattle.store_meaning.specs.Ground.{Ground, with_nodes}
use Rattle.store_meaning.specs.Levels.{Reading}
use Rattle.store_meaning.specs.InUse.{IsLogInUse}
use Rattle.store_meaning.specs.Marked.{IsFileCounted}
use Rattle.store_meaning.specs.Stands.{StandsAs}
use Rattle.store_meaning.specs.Kept.{IsCandidate, IsInSomeLog, IsServerSession, IsLogSession, IsHolderSession, IsKeptAs}
use Rattle.store_meaning.proofs.NodeLemmas.{nodes_read}
use Rattle.kept_meaning.specs.Nodes.{IsCounterPath}
use Rattle.kept_meaning.specs.Servers.{ChangesServers}
use Rattle.kept_meaning.proofs.NodeLemmas.{table_still, staged_still}

module _ (reading : Reading) (catalog : Catalog) (known : Ground) (state : PlainState) (nodes : Nodes) (change : ChangesServers known reading nodes) where
  table_there : (id : List ℕ) (found : Option TableNode) → TellsTable known.nodes id found → TellsTable nodes id found
  table_there id None none = change.tables id ∙ none
  table_there id (Some table) at = record { node = at.node; there = change.tables id ∙ at.there; value = at.value; id_is = at.id_is; form = at.form }

  staged_there : (name : List ℕ) (found : Option (List ℕ)) → TellsStaged known.nodes name found → TellsStaged nodes name found
  staged_there name None none = change.staged name ∙ none
  staged_there name (Some path) at = record { node = at.node; there = change.staged name ∙ at.there; value = at.value; name_form = at.name_form; path_form = at.path_form }

  pub servers_stand : StandsAs reading catalog known state → StandsAs reading catalog (with_nodes known nodes) state
  servers_stand is = record {
    read = nodes_read known reading is.read nodes change.fit;
    nodes = record { tables = λ id. table_there id (catalog.tables id) (is.nodes.tables id); staged = λ name. staged_there name (catalog.staged name) (is.nodes.staged name) };
    marked = is.marked;
    tables = λ id. table_still known nodes (reading.users.records id) (catalog.tables id) (map_of.get state.tables id) (is.tables id);
    staged = λ name. staged_still known nodes (catalog.staged name) (map_of.get state.staged name) (is.staged name);
    names = is.names;
  }

  counter_there : (path : List ℕ) → IsCounterPath path → (number : ℕ) → IsNext known.nodes path number → IsNext nodes path number
  counter_there path of number is = record { node = is.node; there = change.counters path of ∙ is.there; value = is.value }

  -- a log that comes has no mutation
  in_log_before : (log : List ℕ) (mutation : Mutation) → IsInSomeLog (with_nodes known nodes) log mutation → IsInSomeLog known log mutation
  in_log_before log mutation there = elim (change.empty log there.listed) [
    | inl listed ↦ record { listed = listed; mutations = there.mutations; told = there.told; there = there.there }
    | inr none ↦ absurd (Contains-nil mutation (subst (λ l. Contains l mutation) (same_Some _ _ (sym there.told ∙ none)) there.there))
  ]

  path_before : (path : List ℕ) → IsFileCounted reading catalog path ⊎ IsCandidate nodes reading path → IsFileCounted reading catalog path ⊎ IsCandidate known.nodes reading path
  path_before path (inl counted) = inl counted
  path_before path (inr (inl candidate)) = inr (inl candidate)
  path_before path (inr (inr (inl candidate))) = inr (inr (inl candidate))
  path_before path (inr (inr (inr listed))) = inr (inr (inr (record { node = listed.node; there = sym (change.candidates _) ∙ listed.there })))

  module _ (is : IsKeptAs reading catalog known state) where
    of_nodes : (session : List ℕ) → IsServerSession nodes session ⊎ IsLogSession nodes session → base16_number session < is.sessions.next
    of_nodes session used = elim (change.sessions session used) [
      | inl was ↦ elim was [ inl server ↦ is.sessions.sessions session (inl server) | inr log ↦ is.sessions.sessions session (inr (inl log)) ]
      | inr drawn ↦ drawn is.sessions.next is.sessions.counter
    ]

    session_below : (session : List ℕ) → IsServerSession nodes session ⊎ IsLogSession nodes session ⊎ IsHolderSession reading session → base16_number session < is.sessions.next
    session_below session (inl server) = of_nodes session (inl server)
    session_below session (inr (inl log)) = of_nodes session (inr log)
    session_below session (inr (inr holder)) = is.sessions.sessions session (inr (inr holder))

    log_below : (log : List ℕ) → IsLogInUse nodes reading log → (form : IsLogName log) → log_number form < is.sessions.next
    log_below log (inl named) form = is.sessions.logs log (inl named) form
    log_below log (inr listed) form = elim (change.logs log listed) [
      | inl was ↦ is.sessions.logs log (inr was) form
      | inr drawn ↦ drawn form is.sessions.next is.sessions.counter
    ]

    pub servers_kept : IsKeptAs reading catalog (with_nodes known nodes) state
    servers_kept = record {
      stands = servers_stand is.stands;
      names = record {
        next = is.names.next;
        counter = counter_there _ (codes "name", refl) is.names.next is.names.counter;
        files = λ path used. is.names.files path (path_before path used);
        directories = is.names.directories;
      };
      ids = record {
        next = is.ids.next;
        counter = counter_there _ (codes "table", refl) is.ids.next is.ids.counter;
        tables = is.ids.tables;
        records = is.ids.records;
        mutations = λ log mutation there. is.ids.mutations log mutation (in_log_before log mutation there);
      };
      sessions = record {
        next = is.sessions.next;
        counter = counter_there _ (codes "session", refl) is.sessions.next is.sessions.counter;
        sessions = session_below;
        logs = log_below;
      };
      logged = λ table rows tablet log mutation of there past. is.logged table rows tablet log mutation (record { of = of.of; chain = of.chain; is_chain = of.is_chain; there = of.there }) (in_log_before log mutation there) past;
      removals = λ table rows tablet file cells cell of named told there removed. is.removals table rows tablet file cells cell (record { of = of.of; chain = of.chain; is_chain = of.is_chain; there = of.there }) named told there removed;
    }
