use Rattle.std.proofs.Common.{◌≡◌, take, map}
use Rattle.store_layout.specs.Names.{name_byte}
use Rattle.store_layout.proofs.names.file_bytes.Given as goal

abbrev pub invariant-loop-byte : goal.invariant-loop-byte
invariant-loop-byte l = l.bytes.items ≡ map name_byte (take l.byte-index l.fn.path)
