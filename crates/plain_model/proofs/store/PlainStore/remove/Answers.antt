use Rattle.std.proofs.Common.{◌∙◌, refl}
use Rattle.std.specs.Prelude.{Result, Ok}
use Rattle.std.specs.FinMap as map
use Rattle.std.specs.Vec.{with_item}
use Rattle.plain_model.specs.State.{Table}
use Rattle.plain_model.specs.declared.stop.PlainStop.{PlainStop}
use Rattle.plain_model.specs.declared.store.PlainStore.TheInside.{Inside}
use Rattle.plain_model.proofs.StoreLemmas.{edited, item_is}
use Rattle.plain_model.proofs.store.PlainStore.remove.Goals as goal

pub invariant_of-self : goal.invariant_of-self
invariant_of-self c =
    let was = c.index_mut.ensures.value ∙ item_is c.self.inside c.args.self.now c.self.view_is c.self.invariant c.args.id.now c.in_ok-place.place c.in_ok-place.ensures c.index_mut.result.now in
    let make : Table → Result Table PlainStop = λ table. Ok (record table { pairs = map.remove table.pairs c.args.key.now }) in
    let next : Inside = record { alloc = c.self.inside.alloc; tables = with_item c.self.inside.tables c.in_ok-place.place c.remove.new.table; staged = c.self.inside.staged } in
    let done = edited c.self.inside c.args.self.now c.self.view_is c.self.invariant c.args.id.now c.in_ok-place.place c.in_ok-place.ensures c.remove.result c.index_mut.result.now c.remove.new.table next was refl refl make c.remove.ensures in
    done.0

pub returns : goal.returns
returns c =
    let was = c.index_mut.ensures.value ∙ item_is c.self.inside c.args.self.now c.self.view_is c.self.invariant c.args.id.now c.in_ok-place.place c.in_ok-place.ensures c.index_mut.result.now in
    let make : Table → Result Table PlainStop = λ table. Ok (record table { pairs = map.remove table.pairs c.args.key.now }) in
    let next : Inside = record { alloc = c.self.inside.alloc; tables = with_item c.self.inside.tables c.in_ok-place.place c.remove.new.table; staged = c.self.inside.staged } in
    let done = edited c.self.inside c.args.self.now c.self.view_is c.self.invariant c.args.id.now c.in_ok-place.place c.in_ok-place.ensures c.remove.result c.index_mut.result.now c.remove.new.table next was refl refl make c.remove.ensures in
    done.1
