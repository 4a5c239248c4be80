use Rattle.std.proofs.Common.{◌≡◌, length, take, subst, arith}
use Rattle.level_index.proofs.RowLemmas.{AreOfRow, of_row_more, first_ends, first_whole}
use Rattle.level_index.proofs.rows.first_row.Goals as goal

pub returns-then-not-is_in_row : goal.returns-then-not-is_in_row
returns-then-not-is_in_row c =
    first_ends c.args.row.now c.args.pairs.now c.loop-at.at c.index-pairs-at.result c.loop-at-test.true c.index-pairs-at.is c.if-not-is_in_row.ensures c.loop-at.invariant _ _ c.split_at.ensures.front c.split_at.ensures.back

pub loop-at-preserved : goal.loop-at-preserved
loop-at-preserved c = of_row_more c.args.row.now c.args.pairs.now c.loop-at.at c.index-pairs-at.result c.loop-at-test.true c.index-pairs-at.is c.if-not-is_in_row.ensures c.loop-at.invariant

pub returns : goal.returns
returns c =
    let past = c.loop-at-test.false in
    let within = c.loop-at.auto.at-end in
    let at : c.loop-at.at ≡ length c.args.pairs.now = omega (arith, past, within) in
    first_whole c.args.row.now c.args.pairs.now (subst (λ n. AreOfRow c.args.row.now (take n c.args.pairs.now)) at c.loop-at.invariant) _ _ c.split_at-2.ensures.front c.split_at-2.ensures.back
