use Rattle.std.proofs.Common.{arith}
use Rattle.table_names.proofs.BoundLemmas.{too_long}
use Rattle.table_names.proofs.words.read_bound.Goals as goal

pub returns-then-len-gt-MAX_ROW : goal.returns-then-len-gt-MAX_ROW
returns-then-len-gt-MAX_ROW c =
    let read = rw c.in-Some.is at c.in_ok-text.ensures in
    too_long c.args.word.now c.in-Some.text.items read.0 (omega (arith, c.len.ensures, c.if-len-gt-MAX_ROW.true))
