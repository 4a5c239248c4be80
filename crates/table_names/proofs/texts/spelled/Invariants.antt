use Rattle.std.proofs.Common.{◌≡◌, take}
use Rattle.std.specs.List.{flat_map}
use Rattle.store_layout.specs.Words.{spelled_byte}
use Rattle.table_names.proofs.texts.spelled.Given as goal

abbrev pub invariant-loop-byte : goal.invariant-loop-byte
invariant-loop-byte l = l.word.items ≡ flat_map spelled_byte (take l.byte-index l.text)
