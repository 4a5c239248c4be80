-- What contracts see of a site, and what changes of its nodes make of a picture.
use Rattle.std.specs.Prelude.{◌≡◌, ◌⊎◌, ℕ, List, [], Some, None, IsTrue}
use Rattle.host_model.specs.Picture.{Picture}
use Rattle.host_model.specs.State.{HostState}
use Rattle.host_model.specs.declared.fault.Stop.{Stop}
use Rattle.host_model.specs.declared.fault.Stop.TheVariants as stops
use Rattle.node_store.specs.declared.changes.NodeOp.{NodeOp}
use Rattle.node_store.specs.Nodes.{Nodes}
use Rattle.node_store.specs.Image.{HasNodes, IsStored}
use Rattle.node_store.specs.Steps.{OthersStay}
use Rattle.fate_trial.specs.declared.site.Halt.{Halt}
use Rattle.fate_trial.specs.declared.site.Halt.TheVariants.{Host, Full, NoMemory}
use Rattle.fate_trial.specs.declared.site.Site.{Site}
use Rattle.fate_trial.specs.Decoding.{nodes_in}
use Rattle.fate_trial.specs.Layout.{nodes_name, value_at, written}

-- the nodes of a picture
abbrev pub nodes_of : Picture → Nodes
nodes_of p = nodes_in nodes_name p.image

-- the picture has a file of nodes
abbrev pub IsReadable : Picture → Type 0
IsReadable p = HasNodes nodes_name p.image (nodes_of p)

-- these changes of the nodes, and nothing else
pub record Makes (ops : List NodeOp) (old new : Picture) : Type 0 where
  pub said : new.said ≡ old.said
  pub others : OthersStay nodes_name old.image new.image
  pub readable : IsReadable old → IsReadable new
  pub values : (path : List ℕ) → value_at (nodes_of new) path ≡ written ops path (value_at (nodes_of old) path)

-- they are made, or none is
abbrev pub MayMake : List NodeOp → Picture → Picture → Type 0
MayMake ops old new = Makes [] old new ⊎ Makes ops old new

abbrev pub stop_of : Halt → Stop
stop_of (Host fault) = stops.Host fault
stop_of Full = stops.Full
stop_of NoMemory = stops.NoMemory

module _ {H : Type 0} (state : H → HostState) where
  -- the disk has the nodes that are in memory, unless it has stopped
  pub record GoesOn (site : Site H) : Type 0 where
    pub named : site.nodes.name ≡ nodes_name
    pub stored : site.stopped ≡ None → IsTrue (state site.host).is_faithful → IsStored site.nodes (state site.host).files

  -- beside the disk all is as it was, and it goes on
  pub record IsBeside (old new : Site H) : Type 0 where
    pub goes_on : GoesOn new

  -- it has stopped so
  pub record IsDead (site : Site H) (stop : Stop) : Type 0 where
    pub halt : Halt
    pub is : site.stopped ≡ Some halt
    pub same : stop ≡ stop_of halt
