-- A still ground in memory, and what it tells.
use Rattle.std.specs.FinMap as map
use Rattle.state_reader.specs.declared.still.StillGround.{StillGround}
use Rattle.store_meaning.specs.Ground.{Ground}

-- it tells of the files, logs and sorted logs that it has, and of no others
abbrev pub ground_of : StillGround → Ground
ground_of still = record {
  nodes = still.nodes.nodes;
  cells_of = λ path. map.get still.files path;
  mutations_of = λ log. map.get still.logs log;
  sorted_of = λ log. map.get still.sorted log;
}
