use Rattle.std.proofs.Common.{◌≡◌, List, ℕ, length}
use Rattle.std.specs.List.{flat_map}
use Rattle.store_layout.specs.Words.{spelled_byte}
use Rattle.table_names.specs.Words.{AreBytes}
use Rattle.table_names.proofs.TextLemmas.{GoesOn}
use Rattle.table_names.proofs.texts.unspelled.Given as goal

abbrev pub invariant-loop-byte : goal.invariant-loop-byte
invariant-loop-byte l = record { reads : (spelled : List ℕ) → AreBytes spelled → l.word ≡ flat_map spelled_byte spelled → GoesOn l.text.items l.rest spelled; bytes : AreBytes l.text.items }

abbrev pub decreases-loop-byte : goal.decreases-loop-byte
decreases-loop-byte l = length l.rest
