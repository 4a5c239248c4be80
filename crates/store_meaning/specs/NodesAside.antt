-- Nodes that count for nothing here: all but `/root` and those of logs.
use Rattle.std.specs.Prelude.{◌≡◌, ℕ, List, ◌++◌, codes}
use Rattle.std.specs.FinMap as map_of
use Rattle.node_store.specs.Nodes.{Nodes}
use Rattle.store_layout.specs.Nodes.{root_path}

-- the same node at `/root`, and at each path below `/logs` and `/sorted`
pub record AgreeAside (old new : Nodes) : Type 0 where
  pub root : map_of.get new root_path ≡ map_of.get old root_path
  pub logs : (session : List ℕ) → map_of.get new (codes "/logs/" ++ session) ≡ map_of.get old (codes "/logs/" ++ session)
  pub sorted : (log : List ℕ) → map_of.get new (codes "/sorted/" ++ log) ≡ map_of.get old (codes "/sorted/" ++ log)
