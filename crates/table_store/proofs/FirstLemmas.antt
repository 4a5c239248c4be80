-- The nodes of a new store say that there are no tables.
use Rattle.std.proofs.Common.{◌≡◌, inl, ℕ, ◌<◌, ◌^◌, List, [], ◌∷◌, Some, None, Ok, refl, sym, ◌∙◌, ap, subst, arith}
use Rattle.std.specs.Prelude.{Contains}
use Rattle.std.specs.FinMap as map
use Rattle.std.specs.FinMap.{find, get-from_entries, get-empty}
use Rattle.std.specs.FinMap.Entries.{is_some-find}
use Rattle.std.specs.Map.{keys_of}
use Rattle.std.specs.Fmt.{decimal}
use Rattle.std.specs.Option.{is_some}
use Rattle.std.specs.Cmp.Lexicographic.{nat_list_cmp_total}
use Rattle.std.proofs.lemmas.List.Elements.{All-from_recursion, All-contains}
use Rattle.std.proofs.lemmas.Map.Views.{tells_apart, Contains-from_any}
use Rattle.std.proofs.lemmas.Map.Lookups.{exact_bytes}
use Rattle.node_store.specs.PathsTo.{path_cmp}
use Rattle.node_store.specs.Nodes.{Nodes, multi_applied}
use Rattle.node_store.specs.declared.changes.Node.{Node}
use Rattle.node_store.specs.declared.changes.NodeOp.{NodeOp}
use Rattle.node_store.specs.declared.changes.NodeOp.TheVariants.{Create}
use Rattle.store_layout.specs.Nodes.{instance_path, instance_value, root_path, root_value, next_table_path, next_transaction_path, next_name_path, next_session_path, next_lock_path, IsNext}
use Rattle.store_layout.specs.NewStore.{first_ops, first_root}
use Rattle.table_store.specs.Tables.{no_tables}
use Rattle.table_store.specs.Layout.{counter_paths, fixed_paths, table_path}
use Rattle.table_store.specs.Reading.{HasNext, IsReading}
use Rattle.table_store.proofs.ReadingLemmas.{table_not_fixed}
use Rattle.table_store.proofs.TablesLemmas.{create_applied, same_Ok}

abbrev at : List ℕ → List ℕ → List ℕ × Node
at path value = (path, record { value = value; version = 0 })

abbrev makes : List ℕ → ℕ → NodeOp
makes path number = Create path (decimal number)

-- whatever is at `/root`
module _ (root : List ℕ) where
  -- the entries, from the last that is made on
  abbrev instance_entries : List (List ℕ × Node)
  instance_entries = at instance_path instance_value ∷ []

  abbrev root_entries : List (List ℕ × Node)
  root_entries = at root_path root ∷ instance_entries

  abbrev table_entries : List (List ℕ × Node)
  table_entries = at next_table_path (decimal 1) ∷ root_entries

  abbrev transaction_entries : List (List ℕ × Node)
  transaction_entries = at next_transaction_path (decimal 1) ∷ table_entries

  abbrev name_entries : List (List ℕ × Node)
  name_entries = at next_name_path (decimal 2) ∷ transaction_entries

  abbrev session_entries : List (List ℕ × Node)
  session_entries = at next_session_path (decimal 1) ∷ name_entries

  abbrev entries : List (List ℕ × Node)
  entries = at next_lock_path (decimal 1) ∷ session_entries

  abbrev first_nodes : Nodes
  first_nodes = map.from_entries entries

  made_one : (es : List (List ℕ × Node)) (path value : List ℕ) (more : List NodeOp) → find path_cmp path es ≡ None
      → multi_applied (Create path value ∷ more) (map.from_entries {R = path_cmp} es) ≡ multi_applied more (map.from_entries {R = path_cmp} (at path value ∷ es))
  made_one es path value more none = create_applied (map.from_entries es) path value more (get-from_entries nat_list_cmp_total es path ∙ none)

  first_applied : multi_applied (Create instance_path instance_value ∷ Create root_path root ∷ makes next_table_path 1 ∷ makes next_transaction_path 1 ∷ makes next_name_path 2 ∷ makes next_session_path 1 ∷ makes next_lock_path 1 ∷ []) map.empty ≡ Ok first_nodes
  first_applied =
      made_one [] instance_path instance_value (Create root_path root ∷ makes next_table_path 1 ∷ makes next_transaction_path 1 ∷ makes next_name_path 2 ∷ makes next_session_path 1 ∷ makes next_lock_path 1 ∷ []) refl
      ∙ made_one instance_entries root_path root (makes next_table_path 1 ∷ makes next_transaction_path 1 ∷ makes next_name_path 2 ∷ makes next_session_path 1 ∷ makes next_lock_path 1 ∷ []) refl
      ∙ made_one root_entries next_table_path (decimal 1) (makes next_transaction_path 1 ∷ makes next_name_path 2 ∷ makes next_session_path 1 ∷ makes next_lock_path 1 ∷ []) refl
      ∙ made_one table_entries next_transaction_path (decimal 1) (makes next_name_path 2 ∷ makes next_session_path 1 ∷ makes next_lock_path 1 ∷ []) refl
      ∙ made_one transaction_entries next_name_path (decimal 2) (makes next_session_path 1 ∷ makes next_lock_path 1 ∷ []) refl
      ∙ made_one name_entries next_session_path (decimal 1) (makes next_lock_path 1 ∷ []) refl
      ∙ made_one session_entries next_lock_path (decimal 1) [] refl

  present : (path : List ℕ) (node : Node) → find path_cmp path entries ≡ Some node → map.get first_nodes path ≡ Some node
  present path node some = get-from_entries nat_list_cmp_total entries path ∙ some

  counter : (path : List ℕ) (number : ℕ) → 0 < number → number < 2 ^ 63 → find path_cmp path entries ≡ Some (record { value = decimal number; version = 0 }) → IsNext first_nodes path number
  counter path number positive below some = record {
    node = record { value = decimal number; version = 0 };
    there = present path _ some;
    value = record { is = refl; least = positive; most = below };
  }

  at_one : (path : List ℕ) → find path_cmp path entries ≡ Some (record { value = decimal 1; version = 0 }) → HasNext first_nodes path
  at_one path some = record { number = 1; is = counter path 1 (omega arith) (omega arith) some }

  at_two : (path : List ℕ) → find path_cmp path entries ≡ Some (record { value = decimal 2; version = 0 }) → HasNext first_nodes path
  at_two path some = record { number = 2; is = counter path 2 (omega arith) (omega arith) some }

  among : (path : List ℕ) (node : Node) → map.get first_nodes path ≡ Some node → Contains fixed_paths path
  among path node is = All-contains (Contains fixed_paths) (keys_of entries) path
      (All-from_recursion (Contains fixed_paths) (keys_of entries) ((6, omega arith, refl), ((5, omega arith, refl), ((4, omega arith, refl), ((3, omega arith, refl), ((2, omega arith, refl), ((1, omega arith, refl), ((0, omega arith, refl), tt))))))))
      (Contains-from_any (tells_apart exact_bytes) path (keys_of entries) (sym (is_some-find path_cmp path entries) ∙ ap is_some (sym (get-from_entries nat_list_cmp_total entries path) ∙ is)))

  none_named : (name id : List ℕ) → map.get no_tables.by_name name ≡ Some id → ⊥
  none_named name id found = let none : map.get no_tables.by_name name ≡ None = get-empty path_cmp name in cc

  first_reading : IsReading first_nodes no_tables
  first_reading = record {
    instance = record { node = record { value = instance_value; version = 0 }; is = present instance_path _ refl; value_is = refl };
    root = record { node = record { value = root; version = 0 }; is = present root_path _ refl };
    counters = All-from_recursion (HasNext first_nodes) counter_paths (at_one _ refl, (at_one _ refl, (at_two _ refl, (at_one _ refl, (at_one _ refl, tt)))));
    next = counter next_table_path 1 (omega arith) (omega arith) refl;
    known = λ path node is. inl (among path node is);
    there = λ name id found. absurd (none_named name id found);
    listed = λ id node is. absurd (table_not_fixed id (among (table_path id) node is));
    named = λ name id found. absurd (none_named name id found);
    ids = record { drawn = λ name id found. absurd (none_named name id found); differ = λ one two id found other. absurd (none_named one id found) };
  }

pub reading_first : (nodes : Nodes) → multi_applied first_ops map.empty ≡ Ok nodes → IsReading nodes no_tables
reading_first nodes is = subst (λ n. IsReading n no_tables) (same_Ok _ _ (sym (first_applied (root_value first_root)) ∙ is)) (first_reading (root_value first_root))
