-- A table comes ONLINE.
use Rattle.std.proofs.Common.{◌≡◌, ◌≢◌, inl, inr, ℕ, Bool, true, false, cond, List, ◌++◌, codes, Option, Some, None, Contains, refl, sym, ◌∙◌, ap, subst, arith}
use Rattle.std.specs.FinMap as map_of
use Rattle.std.proofs.lemmas.List.{append_cancel_left}
use Rattle.std.proofs.lemmas.Option.{same_Some}
use Rattle.plain_model.specs.State.{Table, PlainState}
use Rattle.plain_model.specs.Laws.{AreNamedApart}
use Rattle.plain_model.specs.Apply.{put_table}
use Rattle.plain_model.proofs.LawsLemmas.{get_own, get_other, get_put}
use Rattle.metadata_schema.specs.Bytes.{same}
use Rattle.level_rows.proofs.EndLemmas.{same-true, same-itself}
use Rattle.node_store.specs.Nodes.{Nodes}
use Rattle.store_layout.specs.Tables.{Catalog, IsTableAt, TellsTable, TellsStaged, table_path}
use Rattle.store_layout.specs.declared.tables.TableNode.{TableNode}
use Rattle.store_meaning.specs.Ground.{Ground, with_nodes}
use Rattle.store_meaning.specs.Levels.{Reading}
use Rattle.store_meaning.specs.Marked.{mark_paths, IsMarkedFile, IsFileOfNodes}
use Rattle.store_meaning.specs.Stands.{TableStands, TableAt, StandsAs}
use Rattle.store_meaning.specs.Kept.{is_deleting, IsKeptAs}
use Rattle.store_meaning.proofs.AsideLemmas.{read_aside}
use Rattle.store_meaning.proofs.NewState.{second_byte}
use Rattle.kept_meaning.specs.Nodes.{AgreeBeside, IsNoLower, online_node, catalog_with, MakesOnline}
use Rattle.kept_meaning.proofs.NodeLemmas.{IsWithin, stands_still, table_still, staged_still, nodes_kept}

module _ (reading : Reading) (catalog : Catalog) (known : Ground) (state : PlainState) (nodes : Nodes) (id : List ℕ) (node : TableNode) (table : Table) (makes : MakesOnline known reading catalog state nodes id node table) where
  abbrev later : Catalog
  later = catalog_with catalog id node

  abbrev next : PlainState
  next = put_table id table state

  counter_stays : (path : List ℕ) → path ≢ table_path id → IsNoLower path known.nodes nodes
  counter_stays path apart number is = (number, record { node = is.node; there = makes.sets.others path apart ∙ is.there; value = is.value }, omega arith)

  beside : AgreeBeside known.nodes nodes
  beside = record {
    aside = record {
      root = makes.sets.others _ (λ e. (let at : ◌≡◌ {A = ℕ} 114 116 = ap second_byte e in omega (arith, at)));
      logs = λ session. makes.sets.others _ (λ e. (let at : ◌≡◌ {A = ℕ} 108 116 = ap second_byte e in omega (arith, at)));
      sorted = λ log. makes.sets.others _ (λ e. (let at : ◌≡◌ {A = ℕ} 115 116 = ap second_byte e in omega (arith, at)));
    };
    candidates = λ name. makes.sets.others _ (λ e. (let at : ◌≡◌ {A = ℕ} 103 116 = ap second_byte e in omega (arith, at)));
    servers = λ server. makes.sets.others _ (λ e. (let at : ◌≡◌ {A = ℕ} 115 116 = ap second_byte e in omega (arith, at)));
    names = counter_stays _ (λ e. (let at : ◌≡◌ {A = ℕ} 110 116 = ap second_byte e in omega (arith, at)));
    ids = counter_stays _ (λ e. (let at : ◌≡◌ {A = ℕ} 110 116 = ap second_byte e in omega (arith, at)));
    sessions = counter_stays _ (λ e. (let at : ◌≡◌ {A = ℕ} 110 116 = ap second_byte e in omega (arith, at)));
  }

  apart_from : (other : List ℕ) → same other id ≡ false → other ≢ id
  apart_from other e at = let wrong : true ≡ false = sym (same-itself other id at) ∙ e in cc

  -- ---- the catalog

  table_there : (other : List ℕ) → other ≢ id → (found : Option TableNode) → TellsTable known.nodes other found → TellsTable nodes other found
  table_there other apart found = by found
    where
      stays : map_of.get nodes (table_path other) ≡ map_of.get known.nodes (table_path other)
      stays = makes.sets.others (table_path other) (λ e. apart (append_cancel_left (codes "/tables/") other id e))

      by : (found : Option TableNode) → TellsTable known.nodes other found → TellsTable nodes other found
      by None none = stays ∙ none
      by (Some one) at = record { node = at.node; there = stays ∙ at.there; value = at.value; id_is = at.id_is; form = at.form }

  tells_table : (b : Bool) (other : List ℕ) → same other id ≡ b → TellsTable known.nodes other (catalog.tables other) → TellsTable nodes other (cond b (Some (online_node node)) (catalog.tables other))
  tells_table true other e was = subst (λ i. IsTableAt nodes i (online_node node)) (sym (same-true other id e)) makes.sets.set
  tells_table false other e was = table_there other (apart_from other e) (catalog.tables other) was

  tells_staged : (name : List ℕ) (found : Option (List ℕ)) → TellsStaged known.nodes name found → TellsStaged nodes name found
  tells_staged name found = by found
    where
      stays : map_of.get nodes (codes "/staged/" ++ name) ≡ map_of.get known.nodes (codes "/staged/" ++ name)
      stays = makes.sets.others _ (λ e. (let at : ◌≡◌ {A = ℕ} 115 116 = ap second_byte e in omega (arith, at)))

      by : (found : Option (List ℕ)) → TellsStaged known.nodes name found → TellsStaged nodes name found
      by None none = stays ∙ none
      by (Some path) at = record { node = at.node; there = stays ∙ at.there; value = at.value; name_form = at.name_form; path_form = at.path_form }

  -- the mark of a table that is there now was there
  was_there : (b : Bool) (other : List ℕ) (is : TableNode) → same other id ≡ b → cond b (Some (online_node node)) (catalog.tables other) ≡ Some is
      → (was : TableNode) × (catalog.tables other ≡ Some was) × (is.mark ≡ was.mark) × (is_deleting is.state ≡ false → is_deleting was.state ≡ false)
  was_there true other is e there = (
    node,
    ap catalog.tables (same-true other id e) ∙ makes.sets.there,
    ap (λ (n : TableNode). n.mark) (sym (same_Some _ _ there)),
    λ stays. ap is_deleting makes.sets.new,
  )
  was_there false other is e there = (is, there, refl, λ stays. stays)

  marked_before : (path : List ℕ) → IsMarkedFile later path → IsMarkedFile catalog path
  marked_before path marked =
      let was = was_there (same marked.id id) marked.id marked.table refl marked.there in
      record { id = marked.id; table = was.0; there = was.1; marked = subst (λ m. Contains (mark_paths m) path) was.2 marked.marked }

  within : IsWithin catalog later
  within = record {
    tables = λ other is there. (let was = was_there (same other id) other is refl there in (was.0, was.1, was.3));
    files = files;
  }
    where
      files : (path : List ℕ) → IsFileOfNodes later path → IsFileOfNodes catalog path
      files path (inl marked) = inl (marked_before path marked)
      files path (inr staged) = inr (record { name = staged.name; there = staged.there })

  -- ---- the state

  table_at : (b : Bool) (other : List ℕ) → same other id ≡ b → TableAt known (reading.users.records other) (catalog.tables other) (map_of.get state.tables other)
      → TableAt (with_nodes known nodes) (reading.users.records other) (cond b (Some (online_node node)) (catalog.tables other)) (map_of.get next.tables other)
  table_at true other e was = record {
    table = table;
    is = ap (map_of.get next.tables) (same-true other id e) ∙ get_own state.tables id table;
    stands = subst (λ i. TableStands (with_nodes known nodes) (reading.users.records i) (online_node node) table) (sym (same-true other id e)) (stands_still known nodes (reading.users.records id) (online_node node) table makes.stands);
  }
  table_at false other e was = subst (TableAt (with_nodes known nodes) (reading.users.records other) (catalog.tables other)) (sym (get_other state.tables id table other (apart_from other e)))
      (table_still known nodes (reading.users.records other) (catalog.tables other) (map_of.get state.tables other) was)

  names_apart : AreNamedApart state → AreNamedApart next
  names_apart were = record {
    apart = λ one two a b found_one found_two name.
        get_put state.tables id table one a (one ≡ two) found_one
        (λ at is. get_put state.tables id table two b (one ≡ two) found_two
        (λ also also_is. at ∙ sym also)
        (λ old. absurd (makes.named two b old (sym name ∙ ap (λ (t : Table). t.name) is ∙ makes.stands.name))))
        (λ old. get_put state.tables id table two b (one ≡ two) found_two
        (λ also is. absurd (makes.named one a old (name ∙ ap (λ (t : Table). t.name) is ∙ makes.stands.name)))
        (λ also_old. were.apart one two a b old also_old name));
  }

  pub online_stands : StandsAs reading catalog known state → StandsAs reading later (with_nodes known nodes) next
  online_stands is = record {
    read = read_aside reading known nodes beside.aside is.read;
    nodes = record {
      tables = λ other. tells_table (same other id) other refl (is.nodes.tables other);
      staged = λ name. tells_staged name (catalog.staged name) (is.nodes.staged name);
    };
    marked = λ path marked. is.marked path (marked_before path marked);
    tables = λ other. table_at (same other id) other refl (is.tables other);
    staged = λ name. staged_still known nodes (catalog.staged name) (map_of.get state.staged name) (is.staged name);
    names = names_apart is.names;
  }

  pub online_kept : IsKeptAs reading catalog known state → IsKeptAs reading later (with_nodes known nodes) next
  online_kept is = nodes_kept reading catalog later known state next nodes beside within is (online_stands is.stands)
