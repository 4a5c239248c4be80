use Rattle.std.proofs.Common.{◌≡◌, ◌∙◌, ◌≤◌, ◌++◌, sym, ap, subst, refl, All}
use Rattle.std.specs.Prelude.{max}
use Rattle.cell_merge.specs.declared.cell.Cell.{Cell}
use Rattle.tablet_mem.specs.Memory.{Memory, PreparedPut, cells_of_mutation, put}
use Rattle.tablet_mem.specs.Room.{cells_of}
use Rattle.tablet_mem.proofs.CountLemmas.{put-items, cells-ready}
use Rattle.tablet_mem.proofs.MemoryLemmas.{timed-put, memory-made}
use Rattle.tablet_mem.proofs.memory.TabletMem.prepare.Goals as goal

pub invariant_of-result : goal.invariant_of-result
invariant_of-result c =
    let mutation = c.args.mutation.now in
    record {
      memory = memory-made c.self.inside.unflushed c.make_ready.new.self c.self.inside.clock c.in-Ok.ensures.cells c.in-Ok.ensures.places c.self.invariant;
      room = c.in-Ok.ensures.room;
      timed = subst (All (λ (x : Cell). x.time ≤ mutation.time)) (sym (ap cells_of c.in-Ok.ensures.ready ∙ cells-ready (cells_of_mutation mutation))) (timed-put mutation);
      fits = c.requires;
    }

pub returns-in-Ok-clause-ok : goal.returns-in-Ok-clause-ok
returns-in-Ok-clause-ok c =
    let mutation = c.args.mutation.now in
    let inside : Memory = record { cells = c.self.inside.unflushed.cells.items; clock = c.self.inside.clock } in
    let made = c.make_ready.new.self.cells.items in
    let same = c.in-Ok.ensures.cells in
    let now = put-items c.self.inside.unflushed.cells.items made (made ++ cells_of c.in-Ok.ready.items) (cells_of_mutation mutation) c.in-Ok.ready.items refl same c.in-Ok.ensures.ready in
    let later = max c.self.inside.clock mutation.time in
    let with_put : Memory → PreparedPut = λ m. record { before = m; after = put m mutation } in
    let fields : _ ≡ with_put inside = λ i. record { before = record { cells = same i; clock = c.self.inside.clock }; after = record { cells = now i; clock = later } } in
    fields ∙ ap with_put c.self.view_is
