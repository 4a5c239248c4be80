-- Nodes of servers that go leave what is kept so.
use Rattle.std.proofs.Common.{◌≡◌, ◌⊎◌, inl, inr, ⊎_elim, ℕ, Bool, true, false, cond, nat_eq, List, [], ◌∷◌, ◌++◌, map, codes, Option, Some, None, Result, Ok, refl, sym, ◌∙◌, ap, subst}
use Rattle.std.specs.FinMap as finite
use Rattle.std.specs.FinMap.{get-remove}
use Rattle.std.specs.List.{AllByRecursion, starts_with}
use Rattle.std.specs.Ordering.{eq_by_cmp}
use Rattle.std.specs.Cmp.Lexicographic.{nat_list_cmp_total}
use Rattle.std.proofs.lemmas.Bool.{and_parts}
use Rattle.std.proofs.lemmas.Option.{none-some}
use Rattle.host_model.specs.Picture.{Image}
use Rattle.plain_model.specs.State.{PlainState}
use Rattle.node_store.specs.declared.changes.Node.{Node}
use Rattle.node_store.specs.declared.changes.NodeOp.TheVariants.{Delete}
use Rattle.node_store.specs.declared.changes.NodeStop.{NodeStop}
use Rattle.node_store.specs.Nodes.{Nodes, turned, and_then, applied, multi_applied}
use Rattle.node_store.specs.PathsTo.{path_cmp, with_entry}
use Rattle.node_store.specs.Children.{is_child, children_of}
use Rattle.node_store.specs.Image.{HasNodes, IsStored}
use Rattle.node_store.specs.Steps.{OthersStay, HasApplied}
use Rattle.node_store.specs.Value.{StoreValue}
use Rattle.node_store.proofs.ImageLemmas.{one_nodes, stored_has}
use Rattle.store_layout.specs.Names.{nodes_name}
use Rattle.store_layout.specs.Nodes.{root_path}
use Rattle.store_layout.specs.Tables.{Catalog, table_path, staged_path}
use Rattle.store_meaning.specs.Ground.{Ground, IsGroundOf, with_nodes}
use Rattle.store_meaning.specs.Levels.{Reading}
use Rattle.store_meaning.specs.InUse.{IsListedLog, IsListedSorted}
use Rattle.store_meaning.specs.Kept.{IsKept, IsKeptAs, IsServerSession, IsLogSession}
use Rattle.store_meaning.proofs.ChangeLemmas.{nodes_changed}
use Rattle.kept_meaning.specs.Drawn.{IsSessionDrawn}
use Rattle.kept_meaning.specs.Servers.{ChangesServers}
use Rattle.kept_meaning.proofs.ServerLemmas.{servers_kept}
use Rattle.server_nodes.specs.Sessions.{server_path, log_path}
use Rattle.server_nodes.specs.Ending.{delete_op, GivesAny, MayGiveAny}
use Rattle.server_nodes.specs.Grounds.{IsGroundWithout}
use Rattle.server_nodes.proofs.PutLemmas.{not_same}

-- the path begins as that of a server
abbrev pub is_server : List ℕ → Bool
is_server path = starts_with nat_eq path (codes "/servers/")

-- ---- nodes that are taken out

-- other paths stay, and each stays or goes
pub record OnlyServersGo (old new : Nodes) : Type 0 where
  pub others : (path : List ℕ) → is_server path ≡ false → finite.get new path ≡ finite.get old path
  pub each : (path : List ℕ) → (finite.get new path ≡ finite.get old path) ⊎ (finite.get new path ≡ None)

-- a node that was taken out was there
pub deleted_as : (nodes : Nodes) (path : List ℕ) (found : Option Node) → finite.get nodes path ≡ found → (rest : Nodes → Result Nodes NodeStop) (after : Nodes) → and_then (applied (delete_op path) nodes) rest ≡ Ok after → rest (finite.remove nodes path) ≡ Ok after
deleted_as nodes path None is rest after done =
    absurd (let refused = ap (λ o. and_then (and_then (turned (Delete path None) o) (λ left. Ok (with_entry nodes path left))) rest) is in let wrong = sym refused ∙ done in cc)
deleted_as nodes path (Some node) is rest after done = sym (ap (λ o. and_then (and_then (turned (Delete path None) o) (λ left. Ok (with_entry nodes path left))) rest) is) ∙ done

removed : (nodes : Nodes) (path q : List ℕ) → (finite.get (finite.remove nodes path) q ≡ finite.get nodes q) ⊎ (finite.get (finite.remove nodes path) q ≡ None)
removed nodes path q = by (eq_by_cmp path_cmp q path) (get-remove nat_list_cmp_total nodes path q)
  where
    by : (b : Bool) → finite.get (finite.remove nodes path) q ≡ cond b None (finite.get nodes q) → (finite.get (finite.remove nodes path) q ≡ finite.get nodes q) ⊎ (finite.get (finite.remove nodes path) q ≡ None)
    by true is = inr is
    by false is = inl is

removed_other : (nodes : Nodes) (path q : List ℕ) → is_server path ≡ true → is_server q ≡ false → finite.get (finite.remove nodes path) q ≡ finite.get nodes q
removed_other nodes path q server other = get-remove nat_list_cmp_total nodes path q ∙ ap (λ b. cond b None (finite.get nodes q)) (not_same path q (λ at. (let wrong = sym server ∙ ap is_server (sym at) ∙ other in cc)))

pub servers_go : (paths : List (List ℕ)) (nodes after : Nodes) → AllByRecursion (λ path. is_server path ≡ true) paths → multi_applied (map delete_op paths) nodes ≡ Ok after → OnlyServersGo nodes after
servers_go [] nodes after all done = let same_nodes : nodes ≡ after = cc in record { others = λ path is. ap (λ n. finite.get n path) (sym same_nodes); each = λ path. inl (ap (λ n. finite.get n path) (sym same_nodes)) }
servers_go (first ∷ more) nodes after all done =
    let rest = servers_go more (finite.remove nodes first) after all.1 (deleted_as nodes first (finite.get nodes first) refl (λ left. multi_applied (map delete_op more) left) after done) in
    record {
      others = λ path is. rest.others path is ∙ removed_other nodes first path all.0 is;
      each = λ path. ⊎_elim (λ stays. ⊎_elim (λ was. inl (stays ∙ was)) (λ none. inr (stays ∙ none)) (removed nodes first path)) (λ none. inr none) (rest.each path);
    }

pub children_are_servers : (paths : List (List ℕ)) → AllByRecursion (λ path. is_server path ≡ true) (children_of (codes "/servers") paths)
children_are_servers [] = tt
children_are_servers (path ∷ more) = by (children_are_servers more) (is_child (codes "/servers") path) refl
  where
    by : AllByRecursion (λ path. is_server path ≡ true) (children_of (codes "/servers") more) → (b : Bool) → is_child (codes "/servers") path ≡ b → AllByRecursion (λ path. is_server path ≡ true) (children_of (codes "/servers") (path ∷ more))
    by rest true is = rw is ((and_parts (is_server path) _ is).0, rest)
    by rest false is = rw is rest

-- ---- what is kept

module _ (reading : Reading) (catalog : Catalog) (known : Ground) (state : PlainState) (kept : IsKeptAs reading catalog known state) (new : Nodes) (go : OnlyServersGo known.nodes new) where
  listed_still : (log : List ℕ) → IsListedLog known.nodes log → IsListedLog new log
  listed_still log is = record { session = is.session; node = is.node; there = go.others (log_path is.session) refl ∙ is.there; is = is.is }

  listed_before : (log : List ℕ) → IsListedLog new log → IsListedLog known.nodes log
  listed_before log is = record { session = is.session; node = is.node; there = sym (go.others (log_path is.session) refl) ∙ is.there; is = is.is }

  sorted_before : (log : List ℕ) → IsListedSorted new log → IsListedSorted known.nodes log
  sorted_before log is = record { node = is.node; there = sym (go.others (codes "/sorted/" ++ log) refl) ∙ is.there }

  sessions_before : (session : List ℕ) → IsServerSession new session ⊎ IsLogSession new session → (IsServerSession known.nodes session ⊎ IsLogSession known.nodes session) ⊎ IsSessionDrawn known.nodes session
  sessions_before session (inl of) = ⊎_elim
      (λ stays. inl (inl (record { server = of.server; node = of.node; there = sym stays ∙ of.there; is = of.is })))
      (λ none. absurd (none-some of.node (sym none ∙ of.there)))
      (go.each (server_path of.server))
  sessions_before session (inr of) = inl (inr (record { node = of.node; there = sym (go.others (log_path session) refl) ∙ of.there }))

  changes : ChangesServers known reading new
  changes = record {
    fit = record {
      root = go.others root_path refl;
      named = λ log of. listed_still log (kept.stands.read.logs.named log of);
      sorted = λ log of. listed_still log (kept.stands.read.logs.sorted log (sorted_before log of));
      logs = λ log of. inl (listed_before log of);
      sorted_logs = λ log of. inl (sorted_before log of);
    };
    empty = λ log of. inl (listed_before log of);
    sessions = sessions_before;
    logs = λ log of. elim of [
      | inl listed ↦ inl (inl (listed_before log listed))
      | inr sorted ↦ inl (inr (sorted_before log sorted))
    ];
    tables = λ id. go.others (table_path id) refl;
    staged = λ name. go.others (staged_path name) refl;
    candidates = λ file. go.others (codes "/gc/" ++ file) refl;
    counters = λ path of. go.others path (ap is_server of.1);
  }

  pub gone_kept : IsKeptAs reading catalog (with_nodes known new) state
  gone_kept = servers_kept reading catalog known state new changes kept

module _ (old : Image) (state : PlainState) (is : IsKept old state) (store : StoreValue) (named : store.name ≡ nodes_name) (stored : IsStored store old) (paths : List (List ℕ)) (servers : AllByRecursion (λ path. is_server path ≡ true) paths) where
  same_nodes : store.nodes ≡ is.known.nodes
  same_nodes = one_nodes nodes_name old store.nodes is.known.nodes (subst (λ n. HasNodes n old store.nodes) named (stored_has store old stored)) is.of.nodes

  left : (new : Image) → OthersStay store.name old new → HasApplied (map delete_op paths) store new → IsGroundWithout paths is.reading is.catalog is.known state new
  left new others applied = record {
    nodes = applied.after;
    gone = subst (λ nodes. multi_applied (map delete_op paths) nodes ≡ Ok applied.after) same_nodes applied.applies;
    of = nodes_changed old new is.known applied.after is.of (subst (λ n. OthersStay n old new) named others) (subst (λ n. HasNodes n new applied.after) named applied.has);
    kept = gone_kept is.reading is.catalog is.known state is.kept applied.after (subst (λ nodes. OnlyServersGo nodes applied.after) same_nodes (servers_go paths store.nodes applied.after servers applied.applies));
  }

  gone : (new : Image) → OthersStay store.name old new → HasApplied (map delete_op paths) store new → IsKept new state
  gone new others applied =
      let ground = left new others applied in
      record { known = with_nodes is.known ground.nodes; of = ground.of; reading = is.reading; catalog = is.catalog; kept = ground.kept }

  same_kept : (new : Image) → OthersStay store.name old new → HasNodes store.name new store.nodes → IsKept new state
  same_kept new others has = record {
    known = with_nodes is.known is.known.nodes;
    of = nodes_changed old new is.known is.known.nodes is.of (subst (λ n. OthersStay n old new) named others) (subst (λ nodes. HasNodes nodes_name new nodes) same_nodes (subst (λ n. HasNodes n new store.nodes) named has));
    reading = is.reading;
    catalog = is.catalog;
    kept = is.kept;
  }

stays_kept : (old new : Image) (state : PlainState) → IsKept old state → new ≡ old → IsKept new state
stays_kept old new state is same_image = subst (λ image. IsKept image state) (sym same_image) is

-- what servers that were taken out leave
pub given_left : (old new : Image) (state : PlainState) (is : IsKept old state) (store : StoreValue) → store.name ≡ nodes_name → IsStored store old → (paths : List (List ℕ)) → AllByRecursion (λ path. is_server path ≡ true) paths
    → GivesAny (map delete_op paths) store old new → IsGroundWithout paths is.reading is.catalog is.known state new
given_left old new state is store named stored [] servers stays = record {
  nodes = is.known.nodes;
  gone = refl;
  of = subst (λ image. IsGroundOf image is.known) (sym stays) is.of;
  kept = is.kept;
}
given_left old new state is store named stored (path ∷ more) servers gives = left old state is store named stored (path ∷ more) servers new gives.others (gives.nodes stored)

-- so images in which servers are taken out
pub given_kept : (old new : Image) (state : PlainState) → IsKept old state → (store : StoreValue) → store.name ≡ nodes_name → IsStored store old → (paths : List (List ℕ)) → AllByRecursion (λ path. is_server path ≡ true) paths
    → GivesAny (map delete_op paths) store old new → IsKept new state
given_kept old new state is store named stored [] servers stays = stays_kept old new state is stays
given_kept old new state is store named stored (path ∷ more) servers gives = gone old state is store named stored (path ∷ more) servers new gives.others (gives.nodes stored)

pub maybe_kept : (old new : Image) (state : PlainState) → IsKept old state → (store : StoreValue) → store.name ≡ nodes_name → IsStored store old → (paths : List (List ℕ)) → AllByRecursion (λ path. is_server path ≡ true) paths
    → MayGiveAny (map delete_op paths) store old new → IsKept new state
maybe_kept old new state is store named stored [] servers stays = stays_kept old new state is stays
maybe_kept old new state is store named stored (path ∷ more) servers may =
    ⊎_elim (λ keeps. same_kept old state is store named stored (path ∷ more) servers new may.others keeps.has) (λ applied. gone old state is store named stored (path ∷ more) servers new may.others applied) (may.nodes stored)
