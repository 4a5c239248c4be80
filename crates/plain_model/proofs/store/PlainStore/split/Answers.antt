use Rattle.std.proofs.Common.{◌∙◌, refl}
use Rattle.std.specs.Prelude.{Result, Ok, Err, if◌then◌else◌}
use Rattle.plain_model.specs.declared.stop.PlainStop.TheVariants.{Exists}
use Rattle.plain_model.specs.State.{has_point, with_point}
use Rattle.std.specs.Vec.{with_item}
use Rattle.plain_model.specs.State.{Table}
use Rattle.plain_model.specs.declared.stop.PlainStop.{PlainStop}
use Rattle.plain_model.specs.declared.store.PlainStore.TheInside.{Inside}
use Rattle.plain_model.proofs.StoreLemmas.{edited, item_is}
use Rattle.plain_model.proofs.store.PlainStore.split.Goals as goal

pub invariant_of-self : goal.invariant_of-self
invariant_of-self c =
    let was = c.index_mut.ensures.value ∙ item_is c.self.inside c.args.self.now c.self.view_is c.self.invariant c.args.id.now c.in_ok-place.place c.in_ok-place.ensures c.index_mut.result.now in
    let make : Table → Result Table PlainStop = λ table. if has_point table.points c.args.at.now then Err Exists else Ok (record table { points = with_point table.points c.args.at.now }) in
    let next : Inside = record { alloc = c.self.inside.alloc; tables = with_item c.self.inside.tables c.in_ok-place.place c.split.new.table; staged = c.self.inside.staged } in
    let done = edited c.self.inside c.args.self.now c.self.view_is c.self.invariant c.args.id.now c.in_ok-place.place c.in_ok-place.ensures c.split.result c.index_mut.result.now c.split.new.table next was refl refl make c.split.ensures in
    done.0

pub returns : goal.returns
returns c =
    let was = c.index_mut.ensures.value ∙ item_is c.self.inside c.args.self.now c.self.view_is c.self.invariant c.args.id.now c.in_ok-place.place c.in_ok-place.ensures c.index_mut.result.now in
    let make : Table → Result Table PlainStop = λ table. if has_point table.points c.args.at.now then Err Exists else Ok (record table { points = with_point table.points c.args.at.now }) in
    let next : Inside = record { alloc = c.self.inside.alloc; tables = with_item c.self.inside.tables c.in_ok-place.place c.split.new.table; staged = c.self.inside.staged } in
    let done = edited c.self.inside c.args.self.now c.self.view_is c.self.invariant c.args.id.now c.in_ok-place.place c.in_ok-place.ensures c.split.result c.index_mut.result.now c.split.new.table next was refl refl make c.split.ensures in
    done.1
