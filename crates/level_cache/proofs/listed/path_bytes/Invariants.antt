use Rattle.std.proofs.Common.{◌≡◌, take, map}
use Rattle.level_cache.specs.Marks.{path_byte}
use Rattle.level_cache.proofs.listed.path_bytes.Given as goal

abbrev pub invariant-loop-byte : goal.invariant-loop-byte
invariant-loop-byte l = l.bytes.items ≡ map path_byte (take l.byte-index l.fn.name)
