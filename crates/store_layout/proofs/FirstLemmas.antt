-- What a new store has: its cells may be written to a file, and its nodes are made of none.
use Rattle.std.proofs.Common.{◌≡◌, inl, ℕ, ◌<◌, ◌≤◌, ◌^◌, List, [], ◌∷◌, length, All, Some, None, Ok, refl, ◌∙◌, ap, arith, lit<, lit≤}
use Rattle.std.specs.Prelude.{codes}
use Rattle.std.specs.FinMap as map
use Rattle.std.specs.FinMap.{find, get-from_entries}
use Rattle.std.specs.Fmt.{decimal, digits}
use Rattle.std.specs.List.Sorted.{IsStrictlySortedBy}
use Rattle.std.specs.Cmp.Lexicographic.{nat_list_cmp_total}
use Rattle.std.proofs.lemmas.List.Elements.{All-from_recursion}
use Rattle.cell_merge.specs.Newest.{HaveRisingKeys}
use Rattle.data_files.specs.Cells.{FitsCell, AreFileCells}
use Rattle.node_store.specs.PathsTo.{path_cmp, with_entry}
use Rattle.node_store.specs.Nodes.{Nodes, turned, and_then, multi_applied}
use Rattle.node_store.specs.declared.changes.Node.{Node}
use Rattle.node_store.specs.declared.changes.NodeOp.{NodeOp}
use Rattle.node_store.specs.declared.changes.NodeOp.TheVariants.{Create}
use Rattle.metadata_schema.specs.Paths.{IsFilePath}
use Rattle.store_layout.specs.Nodes.{instance_path, instance_value, root_path, root_value, next_table_path, next_transaction_path, next_name_path, next_session_path, next_lock_path}
use Rattle.store_layout.specs.NewStore.{counter, first_cells, first_ops, first_root, root_file_path}

-- ---- the first nodes

abbrev entry : List ℕ → List ℕ → List ℕ × Node
entry path value = (path, record { value = value; version = 0 })

abbrev instance_entries : List (List ℕ × Node)
instance_entries = entry instance_path instance_value ∷ []

abbrev root_entries : List ℕ → List (List ℕ × Node)
root_entries root = entry root_path root ∷ instance_entries

abbrev table_entries : List ℕ → List (List ℕ × Node)
table_entries root = entry next_table_path (decimal 1) ∷ root_entries root

abbrev transaction_entries : List ℕ → List (List ℕ × Node)
transaction_entries root = entry next_transaction_path (decimal 1) ∷ table_entries root

abbrev name_entries : List ℕ → List (List ℕ × Node)
name_entries root = entry next_name_path (decimal 2) ∷ transaction_entries root

abbrev session_entries : List ℕ → List (List ℕ × Node)
session_entries root = entry next_session_path (decimal 1) ∷ name_entries root

abbrev entries : List ℕ → List (List ℕ × Node)
entries root = entry next_lock_path (decimal 1) ∷ session_entries root

abbrev made : List (List ℕ × Node) → Nodes
made es = map.from_entries {R = path_cmp} es

made_one : (es : List (List ℕ × Node)) (path value : List ℕ) (more : List NodeOp) → find path_cmp path es ≡ None → multi_applied (Create path value ∷ more) (made es) ≡ multi_applied more (made (entry path value ∷ es))
made_one es path value more none = ap (λ o. and_then (and_then (turned (Create path value) o) (λ after. Ok (with_entry (made es) path after))) (λ after. multi_applied more after)) (get-from_entries nat_list_cmp_total es path ∙ none)

abbrev behind_name : List NodeOp
behind_name = counter next_session_path 1 ∷ counter next_lock_path 1 ∷ []

abbrev behind_table : List NodeOp
behind_table = counter next_transaction_path 1 ∷ counter next_name_path 2 ∷ behind_name

applied : (root : List ℕ) → multi_applied (Create instance_path instance_value ∷ Create root_path root ∷ counter next_table_path 1 ∷ behind_table) map.empty ≡ Ok (made (entries root))
applied root =
    made_one [] instance_path instance_value (Create root_path root ∷ counter next_table_path 1 ∷ behind_table) refl
    ∙ made_one instance_entries root_path root (counter next_table_path 1 ∷ behind_table) refl
    ∙ made_one (root_entries root) next_table_path (decimal 1) behind_table refl
    ∙ made_one (table_entries root) next_transaction_path (decimal 1) (counter next_name_path 2 ∷ behind_name) refl
    ∙ made_one (transaction_entries root) next_name_path (decimal 2) behind_name refl
    ∙ made_one (name_entries root) next_session_path (decimal 1) (counter next_lock_path 1 ∷ []) refl
    ∙ made_one (session_entries root) next_lock_path (decimal 1) [] refl

abbrev pub first_nodes : Nodes
first_nodes = made (entries (root_value first_root))

pub first_applied : multi_applied first_ops map.empty ≡ Ok first_nodes
first_applied = applied (root_value first_root)

-- ---- the first file

fits : (row family qualifier value : List ℕ) → length row ≤ 300 → length family < 2 ^ 8 → length qualifier < 2 ^ 8 → length value < 2 ^ 16 → FitsCell (record { key = record { row = row; family = family; qualifier = qualifier }; time = 1; value = Some value })
fits row family qualifier value one two three four = record { key = record { row = one; family = two; qualifier = three }; time = lit< tt; value = four }

first_fit : All FitsCell first_cells
unfolding digits
first_fit = All-from_recursion FitsCell first_cells (
  fits _ _ _ _ (lit≤ tt) (lit< tt) (lit< tt) (lit< tt),
  (
    fits _ _ _ _ (lit≤ tt) (lit< tt) (lit< tt) (lit< tt),
    (
      fits _ _ _ _ (lit≤ tt) (lit< tt) (lit< tt) (lit< tt),
      (
        fits _ _ _ _ (lit≤ tt) (lit< tt) (lit< tt) (lit< tt),
        (fits _ _ _ _ (lit≤ tt) (lit< tt) (lit< tt) (lit< tt), (fits _ _ _ _ (lit≤ tt) (lit< tt) (lit< tt) (lit< tt), tt)),
      ),
    ),
  ),
)

first_rising : HaveRisingKeys first_cells
unfolding IsStrictlySortedBy
first_rising = ((refl, (refl, (refl, (refl, (refl, tt))))), ((refl, (refl, (refl, (refl, tt)))), ((refl, (refl, (refl, tt))), ((refl, (refl, tt)), ((refl, tt), (tt, tt))))))

pub first_form : AreFileCells first_cells
first_form = record { each = first_fit; rising = first_rising }

pub root_path_form : IsFilePath root_file_path
root_path_form = record {
  id = codes "+r";
  dir = codes "root_tablet";
  name = codes "A0000001.rf";
  parts = record {
    is_id = inl refl;
    is_dir = inl refl;
    is_name = record {
      kind = 65;
      text = codes "0000001";
      is_kind = refl;
      drawn = record { form = record { least = lit≤ tt; most = lit≤ tt; each = refl }; plain = λ rest is. short rest is };
      is = refl;
    };
  };
  is = refl;
}
  where
    short : (rest : List ℕ) → codes "0000001" ≡ 48 ∷ rest → length rest < 7
    short rest is = let e = ap (length {A = ℕ}) is in omega (arith, e)
