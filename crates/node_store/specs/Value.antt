-- What contracts see of a node store.
use Rattle.std.specs.Prelude.{ℕ, List, refl}
use Rattle.std.specs.Coded.{Coded, code_by, coded×, coded_ℕ, coded_list}
use Rattle.std.specs.FinMap as map
use Rattle.node_store.specs.declared.changes.Node.{Node}
use Rattle.node_store.specs.Nodes.{Nodes}

pub record StoreValue : Type 0 where
  -- of its file
  pub name : List ℕ
  pub nodes : Nodes
  -- where its file goes on
  pub end : ℕ

-- a node is stored as the pair of its fields
abbrev pub node_code : Coded Node
node_code = code_by (List ℕ × ℕ) (coded× (coded_list coded_ℕ) coded_ℕ) (λ node. (node.value, node.version)) (λ p. record { value = p.0; version = p.1 }) (λ _. refl)

-- a store's value as the pairs of its fields
abbrev pub store_code : Coded StoreValue
store_code =
    code_by (List ℕ × (Nodes × ℕ)) (coded× (coded_list coded_ℕ) (coded× (map.code (coded_list coded_ℕ) node_code) coded_ℕ)) (λ store. (store.name, (store.nodes, store.end)))
    (λ p. record { name = p.0; nodes = p.1.0; end = p.1.1 }) (λ _. refl)
