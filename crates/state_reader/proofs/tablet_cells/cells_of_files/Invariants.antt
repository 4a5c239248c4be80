use Rattle.std.proofs.Common.{◌≡◌, Some, take}
use Rattle.store_meaning.specs.Content.{all_told, file_cells}
use Rattle.state_reader.specs.Still.{ground_of}
use Rattle.state_reader.proofs.tablet_cells.cells_of_files.Given as goal

abbrev pub invariant-loop-file : goal.invariant-loop-file
invariant-loop-file l = all_told (file_cells (ground_of l.still)) (take l.file-index l.files) ≡ Some l.all.items
