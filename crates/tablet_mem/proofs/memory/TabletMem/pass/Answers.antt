use Rattle.std.proofs.Common.{◌≤◌, sym, subst, arith, All}
use Rattle.cell_merge.specs.declared.cell.Cell.{Cell}
use Rattle.tablet_mem.proofs.MemoryLemmas.{known-later}
use Rattle.tablet_mem.proofs.memory.TabletMem.pass.Goals as goal

pub invariant_of-self : goal.invariant_of-self
invariant_of-self c = record {
  index = c.self.invariant.index;
  known = subst (λ t. All (λ (x : Cell). x.time ≤ t) c.self.inside.unflushed.cells.items) (sym c.later-self-inside.ensures) (known-later c.self.inside.unflushed.cells.items c.self.inside.clock c.args.time c.self.invariant.known);
  fits = let fits = c.self.invariant.fits in let is = c.later-self-inside.ensures in let small = c.requires in omega arith;
}
