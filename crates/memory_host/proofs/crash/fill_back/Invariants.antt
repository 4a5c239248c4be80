use Rattle.std.proofs.Common.{◌≡◌, ℕ, List, vec_len}
use Rattle.host_model.specs.Picture.{file_at}
use Rattle.memory_host.specs.Crash.{ones}
use Rattle.memory_host.specs.Walk.{filled}
use Rattle.memory_host.proofs.crash.fill_back.Given as goal

abbrev pub invariant-loop-written : goal.invariant-loop-written
invariant-loop-written l = (name : List ℕ) → filled ones name l.initial.taken.items (file_at l.initial.files name) ≡ filled ones name l.taken.items (file_at l.files name)

abbrev pub decreases-loop-written : goal.decreases-loop-written
decreases-loop-written l = vec_len l.taken
