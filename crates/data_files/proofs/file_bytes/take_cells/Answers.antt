use Rattle.std.proofs.Common.{◌∙◌, sym, ap, subst, arith, length, List, [], ◌∷◌, ◌++◌}
use Rattle.std.proofs.lemmas.Bool.{false≢true}
use Rattle.cell_merge.specs.declared.cell.Cell.{Cell}
use Rattle.cell_merge.specs.Newest.{HaveRisingKeys}
use Rattle.data_files.proofs.FileLemmas.{ReadSoFar, read_none, read_more, cut_short, out_of_order}
use Rattle.data_files.proofs.OrderLemmas.{rising-none}
use Rattle.data_files.proofs.file_bytes.take_cells.Goals as goal

pub loop-init : goal.loop-init
loop-init c = record {
  so_far = subst (λ (l : List Cell). ReadSoFar c.args.bytes.now l c.args.bytes.now) (sym c.new-cells.ensures.items) (read_none c.args.bytes.now rising-none);
  counts = ap length c.new-cells.ensures.items;
}

pub returns-in_default : goal.returns-in_default
returns-in_default c =
    let none = rw c.in_default.is at c.in_ok-cell.ensures in
    cut_short c.args.count c.args.bytes.now c.loop.cells.items c.loop.rest.now c.loop.invariant.so_far (omega (arith, c.loop.invariant.counts, c.loop-test.true)) none

pub returns-then-not-follows : goal.returns-then-not-follows
returns-then-not-follows c =
    let there = rw c.in-Some.is at c.in_ok-cell.ensures in
    out_of_order c.args.count c.args.bytes.now c.loop.cells.items c.loop.rest.now c.in-Some.cell c.in-Some.after.now c.loop.invariant.so_far (omega (arith, c.loop.invariant.counts, c.loop-test.true)) there (λ rises. false≢true (sym c.if-not-follows.true ∙ c.follows.ensures.1 (subst (λ (l : List Cell). HaveRisingKeys (l ++ c.in-Some.cell ∷ [])) (sym c.deref.ensures.value) rises)))

pub loop-preserved : goal.loop-preserved
loop-preserved c =
    let there = rw c.in-Some.is at c.in_ok-cell.ensures in
    record {
      so_far = subst (λ (l : List Cell). ReadSoFar c.args.bytes.now l c.in-Some.after.now) (sym c.in_ok-push.ensures.items) (read_more c.args.bytes.now c.loop.cells.items c.loop.rest.now c.in-Some.cell c.in-Some.after.now c.loop.invariant.so_far there (subst (λ (l : List Cell). HaveRisingKeys (l ++ c.in-Some.cell ∷ [])) c.deref.ensures.value (c.follows.ensures.0 c.if-not-follows.false)));
      counts = omega (arith, c.in_ok-push.ensures.len, c.loop.invariant.counts, c.push.new.self.ok.0, c.loop.cells.ok.0);
    }
