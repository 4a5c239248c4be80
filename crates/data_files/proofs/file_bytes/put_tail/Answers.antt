use Rattle.std.proofs.Common.{◌≡◌, ◌∙◌, ap, arith, ◌+◌, length, take, ◌++◌}
use Rattle.std.proofs.lemmas.List.{take_all}
use Rattle.std.proofs.lemmas.Result.{on_ok_weaker}
use Rattle.data_files.specs.Cells.{spelled_cells}
use Rattle.data_files.proofs.FileLemmas.{tail_put, index_put, size_put}
use Rattle.data_files.proofs.SizeLemmas.{index, length-spelled_cells-take}
use Rattle.data_files.proofs.file_bytes.put_tail.Goals as goal

pub overflow_add-offset : goal.overflow_add-offset
overflow_add-offset c =
    omega (arith, c.requires.short, c.loop-number.invariant.counts, c.cell_size-offset.ensures, size_put c.args.cells.now c.loop-number.number c.index-cells-number.result c.loop-number-test.true c.index-cells-number.is, length-spelled_cells-take c.args.cells.now (c.loop-number.number + 1))

pub loop-number-preserved : goal.loop-number-preserved
loop-number-preserved c = record {
  spelled = index_put c.args.cells.now c.loop-number.number c.index-cells-number.result c.args.out.now.items c.loop-number.out.items c.put_offset.new.out.items c.loop-number.offset c.loop-number-test.true c.index-cells-number.is c.loop-number.invariant.spelled c.loop-number.invariant.counts c.in_ok-put_offset.ensures;
  counts = omega (arith, c.loop-number.invariant.counts, c.cell_size-offset.ensures, size_put c.args.cells.now c.loop-number.number c.index-cells-number.result c.loop-number-test.true c.index-cells-number.is);
}

pub returns : goal.returns
returns c =
    let all : take c.loop-number.number c.args.cells.now ≡ c.args.cells.now = take_all c.loop-number.number c.args.cells.now c.loop-number-test.false in
    on_ok_weaker c.put_u64.result (λ last. tail_put c.args.cells.now c.args.out.now.items c.loop-number.out.items c.put_u64.new.out.items c.loop-number.offset (c.loop-number.invariant.spelled ∙ ap (λ l. c.args.out.now.items ++ index l) all) (c.loop-number.invariant.counts ∙ ap (λ l. 24 + length (spelled_cells l)) all) last) c.put_u64.ensures.ok
