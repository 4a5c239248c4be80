use Rattle.std.proofs.Common.{◌≡◌, ◌∙◌, ◌≤◌, sym, ap, subst, arith, All}
use Rattle.std.specs.Prelude.{max}
use Rattle.cell_merge.specs.declared.cell.Cell.{Cell}
use Rattle.tablet_mem.specs.Memory.{Memory, cells_of_mutation, put}
use Rattle.tablet_mem.proofs.CountLemmas.{put-items}
use Rattle.tablet_mem.proofs.MemoryLemmas.{known-put, memory-made}
use Rattle.tablet_mem.proofs.memory.TabletMem.put.Goals as goal

pub invariant_of-self-2 : goal.invariant_of-self-2
invariant_of-self-2 c =
    let mutation = c.args.mutation.now in
    let was = c.self.inside.unflushed in
    let made = memory-made was c.make_ready.new.self c.self.inside.clock c.in_ok-ready.ensures.cells c.in_ok-ready.ensures.places c.self.invariant in
    let now = put-items was.cells.items c.make_ready.new.self.cells.items c.put_ready.new.self.cells.items (cells_of_mutation mutation) c.in_ok-ready.ready.items c.put_ready.ensures.cells c.in_ok-ready.ensures.cells c.in_ok-ready.ensures.ready in
    record {
      index = c.put_ready.ensures.index made.index;
      known = subst (λ t. All (λ (x : Cell). x.time ≤ t) c.put_ready.new.self.cells.items) (sym c.later-self-inside.ensures)
          (subst (All (λ (x : Cell). x.time ≤ max c.self.inside.clock mutation.time)) (sym now) (known-put was.cells.items c.self.inside.clock mutation c.self.invariant.known));
      fits = let fits = c.self.invariant.fits in let is = c.later-self-inside.ensures in let small = c.requires in omega arith;
    }

pub returns-clause-ok : goal.returns-clause-ok
returns-clause-ok c =
    let mutation = c.args.mutation.now in
    let now = put-items c.self.inside.unflushed.cells.items c.make_ready.new.self.cells.items c.put_ready.new.self.cells.items (cells_of_mutation mutation) c.in_ok-ready.ready.items c.put_ready.ensures.cells c.in_ok-ready.ensures.cells c.in_ok-ready.ensures.ready in
    let is = c.later-self-inside.ensures in
    let fields : _ ≡ put (record { cells = c.self.inside.unflushed.cells.items; clock = c.self.inside.clock }) mutation = λ i. record { cells = now i; clock = is i } in
    fields ∙ ap (λ (m : Memory). put m mutation) c.self.view_is
