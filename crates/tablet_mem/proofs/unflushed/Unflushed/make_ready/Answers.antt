use Rattle.std.proofs.Common.{◌∙◌, sym, subst, arith, All}
use Rattle.std.specs.BTreeMap.{ContainsKey}
use Rattle.tablet_mem.specs.declared.ready.Ready.{Ready}
use Rattle.tablet_mem.specs.Index.{spot_cmp}
use Rattle.tablet_mem.specs.Memory.{cells_of_mutation}
use Rattle.tablet_mem.specs.Room.{IsReady}
use Rattle.tablet_mem.proofs.CountLemmas.{ready_all}
use Rattle.tablet_mem.proofs.unflushed.Unflushed.make_ready.Goals as goal

pub returns-clause-room : goal.returns-clause-room
returns-clause-room c =
    let placed = subst (All (λ (one : Ready). ContainsKey spot_cmp c.make_places.new.places one.spot)) (c.deref.ensures.value ∙ c.in_ok-ready.ensures) c.in_ok-make_places.ensures.made in
    record {
      room =
          let fits : _ = c.in_ok-reserve.ensures.ok in
          let held = c.reserve.new.self.ok.0 in
          let more = c.len.ensures in
          let many = c.in_ok-ready.ready.ok.0 in
          omega arith;
      each = subst (All (IsReady c.make_places.new.places)) (sym c.in_ok-ready.ensures) (ready_all c.make_places.new.places (cells_of_mutation c.args.mutation.now) placed);
    }
