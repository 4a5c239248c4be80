-- The nodes of a new store.
use Rattle.std.proofs.Common.{◌≡◌, ℕ, Bool, true, false, not, cond, List, [], ◌∷◌, ◌++◌, map, codes, Option, Some, None, Ok, refl, sym, ◌∙◌, ap}
use Rattle.std.specs.Ordering.{eq_by_cmp}
use Rattle.std.specs.List.{list_all}
use Rattle.std.specs.FinMap as map_of
use Rattle.std.specs.FinMap.{get-insert, get-empty}
use Rattle.std.specs.Cmp.Lexicographic.{nat_list_cmp_total}
use Rattle.std.proofs.lemmas.Bool.{and_parts}
use Rattle.node_store.specs.declared.changes.Node.{Node}
use Rattle.node_store.specs.declared.changes.NodeOp.{NodeOp}
use Rattle.node_store.specs.declared.changes.NodeOp.TheVariants.{Create}
use Rattle.node_store.specs.PathsTo.{path_cmp, with_entry}
use Rattle.node_store.specs.Nodes.{Nodes, multi_applied, turned, and_then}
use Rattle.store_layout.specs.Nodes.{instance_path, root_path, next_table_path, next_transaction_path, next_name_path, next_session_path, next_lock_path}

abbrev pub fresh : List ℕ → Node
fresh value = record { value = value; version = 0 }

-- a node that is created leaves a multi of the others
created : (path value : List ℕ) (more : List NodeOp) (nodes after : Nodes) → multi_applied (Create path value ∷ more) nodes ≡ Ok after → multi_applied more (map_of.insert nodes path (fresh value)) ≡ Ok after
created path value more nodes after = by (map_of.get nodes path)
  where
    by : (o : Option Node) → and_then (and_then (turned (Create path value) o) (λ w. Ok (with_entry nodes path w))) (λ n. multi_applied more n) ≡ Ok after
        → multi_applied more (map_of.insert nodes path (fresh value)) ≡ Ok after
    by None e = e
    by (Some node) e = cc

abbrev creates : List (List ℕ × List ℕ) → List NodeOp
creates items = map (λ item. Create item.0 item.1) items

abbrev is_other : List ℕ → List ℕ × List ℕ → Bool
is_other path item = not (eq_by_cmp path_cmp path item.0)

not-true : (b : Bool) → not b ≡ true → b ≡ false
not-true true e = cc
not-true false e = refl

-- what is at no path of theirs stays
stays : (items : List (List ℕ × List ℕ)) (nodes after : Nodes) (path : List ℕ) → list_all (is_other path) items ≡ true → multi_applied (creates items) nodes ≡ Ok after → map_of.get after path ≡ map_of.get nodes path
stays [] nodes after path others e = let same : nodes ≡ after = cc e in ap (λ n. map_of.get n path) (sym same)
stays (item ∷ items) nodes after path others e =
    let parts = and_parts (is_other path item) (list_all (is_other path) items) others in
    stays items (map_of.insert nodes item.0 (fresh item.1)) after path parts.1 (created item.0 item.1 (creates items) nodes after e)
    ∙ get-insert nat_list_cmp_total nodes item.0 (fresh item.1) path
    ∙ ap (λ b. cond b (Some (fresh item.1)) (map_of.get nodes path)) (not-true _ parts.0)

-- a node is at `/root`, and none under `/logs` and `/sorted`
pub record HasFirstNodes (root : List ℕ) (nodes : Nodes) : Type 0 where
  pub root_is : map_of.get nodes root_path ≡ Some (fresh root)
  pub no_logs : (session : List ℕ) → map_of.get nodes (codes "/logs/" ++ session) ≡ None
  pub no_sorted : (log : List ℕ) → map_of.get nodes (codes "/sorted/" ++ log) ≡ None

pub first_nodes : (a b c d e f g : List ℕ) (nodes : Nodes)
    → multi_applied (Create instance_path a ∷ Create root_path b ∷ Create next_table_path c ∷ Create next_transaction_path d ∷ Create next_name_path e ∷ Create next_session_path f ∷ Create next_lock_path g ∷ []) map_of.empty ≡ Ok nodes
    → HasFirstNodes b nodes
first_nodes a b c d e f g nodes made = record {
  root_is =
      stays later (map_of.insert first root_path (fresh b)) nodes root_path refl (created root_path b (creates later) first nodes (created instance_path a (creates ((root_path, b) ∷ later)) map_of.empty nodes made))
      ∙ get-insert nat_list_cmp_total first root_path (fresh b) root_path;
  no_logs = λ session. stays all map_of.empty nodes (codes "/logs/" ++ session) refl made ∙ get-empty path_cmp (codes "/logs/" ++ session);
  no_sorted = λ log. stays all map_of.empty nodes (codes "/sorted/" ++ log) refl made ∙ get-empty path_cmp (codes "/sorted/" ++ log);
}
  where
    later : List (List ℕ × List ℕ)
    later = (next_table_path, c) ∷ (next_transaction_path, d) ∷ (next_name_path, e) ∷ (next_session_path, f) ∷ (next_lock_path, g) ∷ []

    all : List (List ℕ × List ℕ)
    all = (instance_path, a) ∷ (root_path, b) ∷ later

    first : Nodes
    first = map_of.insert map_of.empty instance_path (fresh a)

-- what stands at a path where a node was created, and then others elsewhere
made_at : (nodes : Nodes) (path value : List ℕ) (more : List (List ℕ × List ℕ)) (after : Nodes) → eq_by_cmp path_cmp path path ≡ true → list_all (is_other path) more ≡ true
    → multi_applied (creates ((path, value) ∷ more)) nodes ≡ Ok after → map_of.get after path ≡ Some (fresh value)
made_at nodes path value more after itself others e =
    stays more (map_of.insert nodes path (fresh value)) after path others (created path value (creates more) nodes after e)
    ∙ get-insert nat_list_cmp_total nodes path (fresh value) path
    ∙ ap (λ b. cond b (Some (fresh value)) (map_of.get nodes path)) itself

-- the counters are there, and no node of a table, a staged file, a candidate or a server
pub record HasFirstCounters (table name session : List ℕ) (nodes : Nodes) : Type 0 where
  pub table_is : map_of.get nodes next_table_path ≡ Some (fresh table)
  pub name_is : map_of.get nodes next_name_path ≡ Some (fresh name)
  pub session_is : map_of.get nodes next_session_path ≡ Some (fresh session)
  pub no_tables : (id : List ℕ) → map_of.get nodes (codes "/tables/" ++ id) ≡ None
  pub no_staged : (staged : List ℕ) → map_of.get nodes (codes "/staged/" ++ staged) ≡ None
  pub no_candidates : (file : List ℕ) → map_of.get nodes (codes "/gc/" ++ file) ≡ None
  pub no_servers : (server : List ℕ) → map_of.get nodes (codes "/servers/" ++ server) ≡ None

pub first_counters : (a b c d e f g : List ℕ) (nodes : Nodes)
    → multi_applied (Create instance_path a ∷ Create root_path b ∷ Create next_table_path c ∷ Create next_transaction_path d ∷ Create next_name_path e ∷ Create next_session_path f ∷ Create next_lock_path g ∷ []) map_of.empty ≡ Ok nodes
    → HasFirstCounters c e f nodes
first_counters a b c d e f g nodes made = record {
  table_is = made_at two next_table_path c behind_table nodes refl refl by_two;
  name_is = made_at four next_name_path e behind_name nodes refl refl by_four;
  session_is = made_at five next_session_path f behind_session nodes refl refl by_five;
  no_tables = λ id. stays all map_of.empty nodes (codes "/tables/" ++ id) refl made ∙ get-empty path_cmp (codes "/tables/" ++ id);
  no_staged = λ staged. stays all map_of.empty nodes (codes "/staged/" ++ staged) refl made ∙ get-empty path_cmp (codes "/staged/" ++ staged);
  no_candidates = λ file. stays all map_of.empty nodes (codes "/gc/" ++ file) refl made ∙ get-empty path_cmp (codes "/gc/" ++ file);
  no_servers = λ server. stays all map_of.empty nodes (codes "/servers/" ++ server) refl made ∙ get-empty path_cmp (codes "/servers/" ++ server);
}
  where
    behind_session : List (List ℕ × List ℕ)
    behind_session = (next_lock_path, g) ∷ []

    behind_name : List (List ℕ × List ℕ)
    behind_name = (next_session_path, f) ∷ behind_session

    behind_table : List (List ℕ × List ℕ)
    behind_table = (next_transaction_path, d) ∷ (next_name_path, e) ∷ behind_name

    all : List (List ℕ × List ℕ)
    all = (instance_path, a) ∷ (root_path, b) ∷ (next_table_path, c) ∷ behind_table

    two : Nodes
    two = map_of.insert (map_of.insert map_of.empty instance_path (fresh a)) root_path (fresh b)

    four : Nodes
    four = map_of.insert (map_of.insert two next_table_path (fresh c)) next_transaction_path (fresh d)

    five : Nodes
    five = map_of.insert four next_name_path (fresh e)

    by_two : multi_applied (creates ((next_table_path, c) ∷ behind_table)) two ≡ Ok nodes
    by_two =
        created root_path b (creates ((next_table_path, c) ∷ behind_table)) (map_of.insert map_of.empty instance_path (fresh a)) nodes
        (created instance_path a (creates ((root_path, b) ∷ (next_table_path, c) ∷ behind_table)) map_of.empty nodes made)

    by_four : multi_applied (creates ((next_name_path, e) ∷ behind_name)) four ≡ Ok nodes
    by_four =
        created next_transaction_path d (creates ((next_name_path, e) ∷ behind_name)) (map_of.insert two next_table_path (fresh c)) nodes
        (created next_table_path c (creates behind_table) two nodes by_two)

    by_five : multi_applied (creates ((next_session_path, f) ∷ behind_session)) five ≡ Ok nodes
    by_five = created next_name_path e (creates behind_name) four nodes by_four
