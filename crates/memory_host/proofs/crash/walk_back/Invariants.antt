use Rattle.std.proofs.Common.{◌≡◌, ℕ, List, [], reverse, false, vec_len}
use Rattle.std.specs.Ordering.{nat_cmp}
use Rattle.std.specs.Cmp.Lexicographic.{slice_cmp}
use Rattle.std.specs.BTreeSet.{contains}
use Rattle.memory_host.specs.declared.event.Written.{Written}
use Rattle.memory_host.specs.Walk.{here_of}
use Rattle.memory_host.proofs.crash.walk_back.Given as goal

abbrev pub invariant-loop-event : goal.invariant-loop-event
invariant-loop-event l =
    (rule : Written → List ℕ → List ℕ) (name : List ℕ) → here_of rule name (λ _. false) l.initial.files (reverse l.initial.past.items) [] ≡ here_of rule name (contains (slice_cmp nat_cmp) l.settled) l.files (reverse l.past.items) l.taken.items

abbrev pub decreases-loop-event : goal.decreases-loop-event
decreases-loop-event l = vec_len l.past
