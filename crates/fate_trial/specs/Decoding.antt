-- The nodes of an image as a function of it. That it is right is the law `nodes_are_those_of_the_image`.
use Rattle.std.specs.Prelude.{◌≡◌, ℕ, zero, suc, ◌==◌, if◌then◌else◌, List, [], ◌∷◌, take, drop, length, Option, Some, None, Result, Ok, Err}
use Rattle.std.specs.FinMap as map
use Rattle.byteorder.specs.Endian.{big_number}
use Rattle.host_model.specs.Picture.{Image, file_at}
use Rattle.node_store.specs.declared.changes.NodeOp.{NodeOp}
use Rattle.node_store.specs.declared.changes.NodeOp.TheVariants.{Create, Set, Delete}
use Rattle.node_store.specs.declared.changes.NodeStop.{NodeStop}
use Rattle.node_store.specs.Nodes.{Nodes, multi_applied}
use Rattle.node_store.specs.Image.{HasNodes}

-- the bytes behind a number of this width that counts them
abbrev pub counted : ℕ → List ℕ → List ℕ
counted width bytes = take (big_number width bytes) (drop width bytes)

-- what stands behind these bytes
abbrev pub behind : ℕ → List ℕ → List ℕ
behind width bytes = drop (big_number width bytes) (drop width bytes)

-- the payloads of at most so many records, up to a closed gate
unfoldable pub payloads : ℕ → List ℕ → List (List ℕ)
payloads zero bytes = []
payloads (suc more) [] = []
payloads (suc more) (gate ∷ bytes) = if gate == 1 then counted 4 bytes ∷ payloads more (behind 4 bytes) else []

-- the change in front of these bytes
unfoldable pub change_at : List ℕ → NodeOp
change_at [] = Delete [] None
change_at (kind ∷ bytes) =
    if kind == 3 then Delete (counted 2 bytes) None else (if kind == 2 then Set (counted 2 bytes) (counted 4 (behind 2 bytes)) None else Create (counted 2 bytes) (counted 4 (behind 2 bytes)))

-- what stands behind it
unfoldable pub behind_change : List ℕ → List ℕ
behind_change [] = []
behind_change (kind ∷ bytes) = if kind == 3 then behind 2 bytes else behind 4 (behind 2 bytes)

-- so many changes
unfoldable pub changes_at : ℕ → List ℕ → List NodeOp
changes_at zero bytes = []
changes_at (suc more) bytes = change_at bytes ∷ changes_at more (behind_change bytes)

abbrev pub or_same : Nodes → Result Nodes NodeStop → Nodes
or_same nodes (Ok after) = after
or_same nodes (Err stop) = nodes

-- the nodes after these multis; one that is refused changes nothing
unfoldable pub nodes_after : List (List ℕ) → Nodes → Nodes
nodes_after [] nodes = nodes
nodes_after (payload ∷ more) nodes = nodes_after more (or_same nodes (multi_applied (changes_at (big_number 4 payload) (drop 4 payload)) nodes))

abbrev pub nodes_of_file : Option (List ℕ) → Nodes
nodes_of_file None = map.empty
nodes_of_file (Some file) = nodes_after (payloads (length file) file) map.empty

-- the nodes in the file of this name
unfoldable pub nodes_in : List ℕ → Image → Nodes
nodes_in name image = nodes_of_file (file_at image name)

-- where an image has nodes, they are the ones that are read
abbrev pub NodesAreRead : Type 0
NodesAreRead = (name : List ℕ) (image : Image) (nodes : Nodes) → HasNodes name image nodes → nodes_in name image ≡ nodes
