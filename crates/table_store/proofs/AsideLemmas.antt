-- Making a table leaves the nodes that tell of tablets and logs.
use Rattle.std.proofs.Common.{◌≡◌, ◌+◌, ◌^◌, ℕ, nat_lt, Bool, true, false, List, ◌++◌, codes, Ok, refl, sym, ◌∙◌, ap, subst, arith, get_or}
use Rattle.std.specs.FinMap as map
use Rattle.node_store.specs.Nodes.{Nodes, multi_applied}
use Rattle.node_store.specs.declared.changes.Node.{Node}
use Rattle.store_layout.specs.Nodes.{root_path, next_table_path}
use Rattle.store_meaning.specs.NodesAside.{AgreeAside}
use Rattle.table_store.specs.Numbers.{base36}
use Rattle.table_store.specs.Tables.{Tables, is_taken}
use Rattle.table_store.specs.Layout.{table_path, create_ops}
use Rattle.table_store.specs.Reading.{IsReading}
use Rattle.table_store.proofs.TablesLemmas.{made, got_rest, creates, same_Ok, not_Ok}

pub aside_same : (nodes : Nodes) → AgreeAside nodes nodes
aside_same nodes = record { root = refl; logs = λ session. refl; sorted = λ log. refl }

second : (one two : List ℕ) → one ≡ two → get_or one 1 0 ≡ get_or two 1 0
second one two same = ap (λ (l : List ℕ). get_or l 1 0) same

module _ (nodes : Nodes) (tables : Tables) (name : List ℕ) (reading : IsReading nodes tables) (free : is_taken name tables ≡ false) where
  -- a path whose second byte is neither that of a table's path nor that of the counter's
  elsewhere : (node : Node) (path : List ℕ) → (get_or path 1 0 ≡ 116 → ⊥) → (get_or path 1 0 ≡ 110 → ⊥) → map.get (made nodes node (base36 tables.next) name (tables.next + 1)) path ≡ map.get nodes path
  elsewhere node path no_table no_counter =
      got_rest nodes tables name reading free node path (λ same. no_table (second path (table_path (base36 tables.next)) same)) (λ same. no_counter (second path next_table_path same))

  aside_made : (node : Node) → AgreeAside nodes (made nodes node (base36 tables.next) name (tables.next + 1))
  aside_made node = record {
    root = elsewhere node root_path (λ e. omega arith) (λ e. omega arith);
    logs = λ session. elsewhere node (codes "/logs/" ++ session) (λ e. omega arith) (λ e. omega arith);
    sorted = λ log. elsewhere node (codes "/sorted/" ++ log) (λ e. omega arith) (λ e. omega arith);
  }

  pub aside_created : (after : Nodes) → multi_applied (create_ops (base36 tables.next) name (tables.next + 1)) nodes ≡ Ok after → AgreeAside nodes after
  aside_created after is = at (nat_lt (reading.next.node.version + 1) (2 ^ 63)) refl
    where
      at : (b : Bool) → nat_lt (reading.next.node.version + 1) (2 ^ 63) ≡ b → AgreeAside nodes after
      at true lt = subst (λ n. AgreeAside nodes n) (same_Ok _ _ (sym (creates nodes tables name reading free true lt) ∙ is)) (aside_made reading.next.node)
      at false lt = absurd (not_Ok _ _ (sym (creates nodes tables name reading free false lt) ∙ is))
