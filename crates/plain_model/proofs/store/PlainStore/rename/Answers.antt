use Rattle.std.proofs.Common.{◌∙◌, refl, subst, sym}
use Rattle.std.specs.Prelude.{Result, Ok, Err, if◌then◌else◌}
use Rattle.plain_model.specs.Apply.{change_table}
use Rattle.plain_model.specs.Applies.{Applies}
use Rattle.plain_model.specs.Inside.{view_of}
use Rattle.plain_model.specs.declared.stop.PlainStop.TheVariants.{Exists}
use Rattle.std.specs.Vec.{with_item}
use Rattle.plain_model.specs.State.{Table}
use Rattle.plain_model.specs.declared.stop.PlainStop.{PlainStop}
use Rattle.plain_model.specs.declared.store.PlainStore.TheInside.{Inside}
use Rattle.plain_model.proofs.StoreLemmas.{edited, item_is}
use Rattle.plain_model.proofs.store.PlainStore.rename.Goals as goal

pub invariant_of-self : goal.invariant_of-self
invariant_of-self c =
    let was = c.index_mut.ensures.value ∙ item_is c.self.inside c.args.self.now c.self.view_is c.self.invariant c.args.id.now c.in_ok-place.place c.in_ok-place.ensures c.index_mut.result.now in
    let make : Table → Result Table PlainStop = λ table. Ok (record table { name = c.args.name.now }) in
    let next : Inside = record { alloc = c.self.inside.alloc; tables = with_item c.self.inside.tables c.in_ok-place.place c.rename.new.table; staged = c.self.inside.staged } in
    let done = edited c.self.inside c.args.self.now c.self.view_is c.self.invariant c.args.id.now c.in_ok-place.place c.in_ok-place.ensures c.rename.result c.index_mut.result.now c.rename.new.table next was refl refl make c.rename.ensures in
    done.0

pub returns : goal.returns
returns c =
    let was = c.index_mut.ensures.value ∙ item_is c.self.inside c.args.self.now c.self.view_is c.self.invariant c.args.id.now c.in_ok-place.place c.in_ok-place.ensures c.index_mut.result.now in
    let make : Table → Result Table PlainStop = λ table. Ok (record table { name = c.args.name.now }) in
    let next : Inside = record { alloc = c.self.inside.alloc; tables = with_item c.self.inside.tables c.in_ok-place.place c.rename.new.table; staged = c.self.inside.staged } in
    let done = edited c.self.inside c.args.self.now c.self.view_is c.self.invariant c.args.id.now c.in_ok-place.place c.in_ok-place.ensures c.rename.result c.index_mut.result.now c.rename.new.table next was refl refl make c.rename.ensures in
    subst (λ b. Applies (change_table c.args.id.now c.args.self.now (λ table. if b then Err Exists else Ok (record table { name = c.args.name.now }))) c.args.self.now c.rename.result (view_of next)) (sym c.if-has_name.false ∙ c.has_name.ensures) done.1
