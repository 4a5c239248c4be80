use Rattle.std.proofs.Common.{◌≡◌, ◌++◌}
use Rattle.table_store.specs.Tables.{texts_of}
use Rattle.table_store.proofs.index.TableIndex.texts.Given as goal

abbrev pub invariant-loop-name : goal.invariant-loop-name
invariant-loop-name l = l.texts ++ texts_of l.name-iterator ≡ texts_of l.initial.name-iterator
