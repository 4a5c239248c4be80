-- A new store whose root tablet gets a server.
use Rattle.std.proofs.Common.{◌≡◌, ◌≢◌, inl, inr, ℕ, ◌<◌, ◌^◌, Bool, true, false, cond, codes, length, List, [], ◌++◌, Contains, Some, None, refl, sym, ◌∙◌, ap, subst}
use Rattle.std.specs.FinMap as map_of
use Rattle.std.specs.FinMap.{get-insert}
use Rattle.std.specs.Fmt.{decimal}
use Rattle.std.specs.Ordering.{eq_by_cmp, is_eq}
use Rattle.std.specs.Cmp.Lexicographic.{nat_list_cmp_total}
use Rattle.std.proofs.lemmas.Bool.{cases_Bool}
use Rattle.std.proofs.lemmas.Cmp.{tied_itself}
use Rattle.std.proofs.lemmas.Map.Lookups.{exact_bytes}
use Rattle.std.proofs.lemmas.Map.Views.{tells_apart}
use Rattle.std.proofs.lemmas.Option.{same_Some, none-some}
use Rattle.host_model.specs.Picture.{Image}
use Rattle.metadata_schema.specs.declared.tablet.Holder.{Holder}
use Rattle.metadata_schema.specs.declared.tablet.TabletRecord.{TabletRecord}
use Rattle.metadata_schema.specs.Records.{IsHolder}
use Rattle.level_rows.proofs.EndLemmas.{same-refl}
use Rattle.level_rows.proofs.Membership.{Contains-nil, Contains-cons_cases}
use Rattle.node_store.specs.declared.changes.Node.{Node}
use Rattle.node_store.specs.Nodes.{Nodes}
use Rattle.node_store.specs.PathsTo.{path_cmp}
use Rattle.store_layout.specs.Nodes.{root_path, root_value, instance_value}
use Rattle.store_layout.specs.NewStore.{IsNewStore, first_root, first_cells}
use Rattle.store_meaning.specs.Ground.{Ground, with_nodes, with_mutations}
use Rattle.store_meaning.specs.Content.{logs_of, content_of}
use Rattle.store_meaning.specs.Levels.{Reading, IsRecordAt, root_id, root_rows}
use Rattle.store_meaning.specs.InUse.{IsListedLog, IsListedSorted}
use Rattle.store_meaning.specs.Readable.{IsTold, IsReadAs}
use Rattle.store_meaning.specs.RowWrites.{WritesRoot, root_written}
use Rattle.store_meaning.specs.Holders.{HasSameCells}
use Rattle.store_meaning.proofs.NewNodes.{HasFirstNodes, first_nodes}
use Rattle.store_meaning.proofs.NewLevel.{FormsNew}
use Rattle.store_meaning.proofs.NewStoreLemmas.{new_ground, new_reading, new_reading_is, new_in_use, new_lists, new_root_consistent, new_metadata_consistent}
use Rattle.store_meaning.proofs.UseLemmas.{read_same}
use Rattle.store_meaning.proofs.NodeLemmas.{nodes_read}
use Rattle.store_meaning.proofs.NamingLemmas.{root_read}
use Rattle.store_meaning.proofs.HolderLemmas.{holders_same, same_covered}
use Rattle.store_meaning.proofs.ChainWriteLemmas.{one_content}

-- another node is what it was
other_node : (nodes : Nodes) (path other : List ℕ) (node : Node) → eq_by_cmp path_cmp other path ≡ false → map_of.get (map_of.insert nodes path node) other ≡ map_of.get nodes other
other_node nodes path other node apart = get-insert nat_list_cmp_total nodes path node other ∙ ap (λ b. cond b (Some node) (map_of.get nodes other)) apart

own_path : (path : List ℕ) → eq_by_cmp path_cmp path path ≡ true
own_path path = ap is_eq (tied_itself nat_list_cmp_total path)

paths_apart : (path other : List ℕ) → other ≢ path → eq_by_cmp path_cmp other path ≡ false
paths_apart path other apart = elim (cases_Bool (eq_by_cmp path_cmp other path)) [
  | inl is ↦ absurd (apart (tells_apart exact_bytes other path is))
  | inr is ↦ is
]

module _ (image : Image) (new : IsNewStore image) (forms : FormsNew) (holder : Holder) (form : IsHolder holder) where
  abbrev pub log : List ℕ
  log = codes "log-" ++ holder.session

  has : HasFirstNodes (root_value first_root) new.nodes
  has = first_nodes instance_value (root_value first_root) (decimal 1) (decimal 1) (decimal 2) (decimal 1) (decimal 1) new.nodes new.made

  -- ---- the new store

  pub first_read : IsReadAs new_reading (new_ground new.nodes)
  first_read = record {
    levels = new_reading_is forms new.nodes has (subst (λ bytes. length bytes < 2 ^ 64) new.root.file.is new.root.file.short);
    in_use = new_in_use new.nodes has;
    logs = new_lists new.nodes has;
    root = new_root_consistent new.nodes new.root.file.cells_are.rising;
    metadata = new_metadata_consistent new.nodes;
  }

  -- ---- with an empty log

  abbrev pub logged : Ground
  logged = with_mutations (new_ground new.nodes) log (Some [])

  logged_read : IsReadAs new_reading logged
  logged_read = read_same new_reading (new_ground new.nodes) logged (record {
    nodes = refl;
    cells = λ path used. refl;
    mutations = λ other used. absurd (let t = first_read.in_use.logs other used in none-some t.value t.is);
    sorted = λ other used. refl;
  }) first_read

  pub log_empty : logged.mutations_of log ≡ Some []
  log_empty = ap (λ b. cond b (Some []) None) (same-refl log)

  -- ---- and a node that lists it

  abbrev pub log_node : Node
  log_node = record { value = log; version = 0 }

  abbrev pub listing : Nodes
  listing = map_of.insert new.nodes (codes "/logs/" ++ holder.session) log_node

  pub log_listed : IsListedLog listing log
  log_listed = record {
    session = holder.session;
    node = log_node;
    there = get-insert nat_list_cmp_total new.nodes (codes "/logs/" ++ holder.session) log_node (codes "/logs/" ++ holder.session)
        ∙ ap (λ b. cond b (Some log_node) (map_of.get new.nodes (codes "/logs/" ++ holder.session))) (own_path (codes "/logs/" ++ holder.session));
    is = refl;
  }

  none_sorted : (nodes : Nodes) → ((other : List ℕ) → map_of.get nodes (codes "/sorted/" ++ other) ≡ None) → (other : List ℕ) → IsListedSorted nodes other → ⊥
  none_sorted nodes none other sorted = none-some sorted.node (sym (none other) ∙ sorted.there)

  listing_sorted : (other : List ℕ) → map_of.get listing (codes "/sorted/" ++ other) ≡ None
  listing_sorted other = other_node new.nodes (codes "/logs/" ++ holder.session) (codes "/sorted/" ++ other) log_node refl ∙ has.no_sorted other

  -- a log that is listed now is the empty one
  listing_told : (other : List ℕ) → IsListedLog listing other → IsTold (logged.mutations_of other)
  listing_told other listed = by (eq_by_cmp path_cmp (codes "/logs/" ++ listed.session) (codes "/logs/" ++ holder.session))
      (sym (get-insert nat_list_cmp_total new.nodes (codes "/logs/" ++ holder.session) log_node (codes "/logs/" ++ listed.session)) ∙ listed.there)
    where
      by : (b : Bool) → cond b (Some log_node) (map_of.get new.nodes (codes "/logs/" ++ listed.session)) ≡ Some listed.node → IsTold (logged.mutations_of other)
      by true e =
          let is : log ≡ other = ap (λ (n : Node). n.value) (same_Some _ _ e) ∙ listed.is in
          record { value = []; is = ap logged.mutations_of (sym is) ∙ log_empty }
      by false e = absurd (none-some listed.node (sym (has.no_logs listed.session) ∙ e))

  listing_read : IsReadAs new_reading (with_nodes logged listing)
  listing_read = nodes_read logged new_reading logged_read listing (record {
    root = other_node new.nodes (codes "/logs/" ++ holder.session) root_path log_node refl;
    named = λ other named. absurd (let l = logged_read.logs.named other named in none-some l.node (sym (has.no_logs l.session) ∙ l.there));
    sorted = λ other sorted. absurd (none_sorted listing listing_sorted other sorted);
    logs = λ other listed. inr (listing_told other listed);
    sorted_logs = λ other sorted. absurd (none_sorted listing listing_sorted other sorted);
  })

  -- ---- and a root record with the holder

  abbrev pub held_root : TabletRecord
  held_root = record first_root { loc = Some holder }

  held_form : IsRecordAt root_id None held_root
  held_form =
      let at = first_read.levels.root.at in
      let f = at.form in
      record {
        name = at.name;
        table_is = refl;
        end_is = refl;
        form = record { order = record { files = f.order.files; logs = f.order.logs; loaded = f.order.loaded }; dir = f.dir; bar = f.bar; prev = f.prev; old_prev = f.old_prev; merged = f.merged; loc = form; future = f.future; files = f.files; logs = f.logs; loaded = f.loaded };
      }

  abbrev pub held_node : Node
  held_node = record { value = root_value held_root; version = 1 }

  abbrev pub held_nodes : Nodes
  held_nodes = map_of.insert listing root_path held_node

  abbrev pub listed_ground : Ground
  listed_ground = with_nodes logged listing

  -- its log holds nothing
  pub log_named : (other : List ℕ) → Contains (logs_of held_root) other → log ≡ other
  log_named other there = elim (Contains-cons_cases log other [] there) [ inl is ↦ is | inr none ↦ absurd (Contains-nil other none) ]

  pub held_same : HasSameCells first_cells (content_of listed_ground None held_root)
  held_same = holders_same listed_ground None first_root held_root (record {
    table = refl;
    end = refl;
    bar = refl;
    files = refl;
    comes = λ other there. inr (record { mutations = []; told = ap logged.mutations_of (sym (log_named other there)) ∙ log_empty; none = λ mutation in_it. absurd (Contains-nil mutation in_it) });
    goes = λ other there. absurd (Contains-nil other there);
  }) first_cells refl

  root_writes : WritesRoot listed_ground new_reading held_nodes held_root
  root_writes =
      let covered = same_covered first_cells (content_of listed_ground None held_root) held_same in
      record {
        node = record {
          node = held_node;
          there = get-insert nat_list_cmp_total listing root_path held_node root_path ∙ ap (λ b. cond b (Some held_node) (map_of.get listing root_path)) (own_path root_path);
          value = refl;
          at = held_form;
        };
        others = λ path apart. other_node listing root_path path held_node (paths_apart root_path path apart);
        is_chain = (refl, refl, refl);
        cells = covered.cells;
        content = one_content listed_ground (root_rows (root_written listed_ground new_reading held_root)) held_root covered.cells covered.is;
        covers = covered.covers;
      }

  abbrev pub held_ground : Ground
  held_ground = with_nodes listed_ground held_nodes

  abbrev pub held_reading : Reading
  held_reading = root_written listed_ground new_reading held_root

  pub held_read : IsReadAs held_reading held_ground
  held_read = root_read listed_ground new_reading listing_read held_nodes held_root root_writes (record {
    files = λ file there. listing_read.in_use.files file.path (inl (record { tablet = first_root; of = inl refl; file = file; there = there; is = refl }));
    logs = λ other there. subst (IsListedLog listing) (log_named other there) log_listed;
  })

  -- no log is sorted
  pub held_unsorted : (other : List ℕ) → IsListedSorted held_nodes other → ⊥
  held_unsorted other sorted = none_sorted held_nodes (λ one. other_node listing root_path (codes "/sorted/" ++ one) held_node refl ∙ listing_sorted one) other sorted

  -- the log has a node
  pub held_listed : IsListedLog held_nodes log
  held_listed = record {
    session = log_listed.session;
    node = log_listed.node;
    there = other_node listing root_path (codes "/logs/" ++ log_listed.session) held_node refl ∙ log_listed.there;
    is = log_listed.is;
  }

  pub held_empty : held_ground.mutations_of log ≡ Some []
  held_empty = log_empty
