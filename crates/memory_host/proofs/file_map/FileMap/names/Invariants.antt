use Rattle.std.proofs.Common.{◌≡◌, ℕ, List, Bor, map}
use Rattle.memory_host.proofs.file_map.FileMap.names.Given as goal

abbrev pub invariant-loop-name : goal.invariant-loop-name
invariant-loop-name l = l.names.items ≡ map (λ (name : Bor (List ℕ)). name.now) l.yielded
