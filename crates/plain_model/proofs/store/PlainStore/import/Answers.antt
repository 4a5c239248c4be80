use Rattle.std.proofs.Common.{◌∙◌, refl, subst}
use Rattle.std.specs.Prelude.{Result, Ok, Err}
use Rattle.std.specs.Option.{option_map_or}
use Rattle.std.specs.Vec.{with_item}
use Rattle.plain_model.specs.State.{Table}
use Rattle.plain_model.specs.Apply.{apply, put_files}
use Rattle.plain_model.specs.Applies.{Applies}
use Rattle.plain_model.specs.Inside.{view_of}
use Rattle.plain_model.specs.declared.operation.Op.TheVariants.{Import}
use Rattle.plain_model.specs.declared.stop.PlainStop.{PlainStop}
use Rattle.plain_model.specs.declared.stop.PlainStop.TheVariants.{NoStaged}
use Rattle.plain_model.specs.declared.store.PlainStore.TheInside.{Inside}
use Rattle.plain_model.proofs.StoreLemmas.{edited, item_is, staged_are}
use Rattle.plain_model.proofs.store.PlainStore.import.Goals as goal

pub invariant_of-self : goal.invariant_of-self
invariant_of-self c =
    let was = c.index_mut.ensures.value ∙ item_is c.self.inside c.args.self.now c.self.view_is c.self.invariant c.args.id.now c.in_ok-place.place c.in_ok-place.ensures c.index_mut.result.now in
    let make : Table → Result Table PlainStop = λ table. option_map_or (λ pairs. Ok (record table { pairs = pairs })) (put_files c.as_slice.result.now c.args.self.now.staged table.pairs) (Err NoStaged) in
    let next : Inside = record { alloc = c.self.inside.alloc; tables = with_item c.self.inside.tables c.in_ok-place.place c.import.new.table; staged = c.self.inside.staged } in
    let done = edited c.self.inside c.args.self.now c.self.view_is c.self.invariant c.args.id.now c.in_ok-place.place c.in_ok-place.ensures c.import.result c.index_mut.result.now c.import.new.table next was refl refl make (c.import.ensures c.args.self.now.staged (c.deref.ensures.value ∙ staged_are c.self.inside c.args.self.now c.self.view_is c.self.invariant)) in
    done.0

pub returns : goal.returns
returns c =
    let was = c.index_mut.ensures.value ∙ item_is c.self.inside c.args.self.now c.self.view_is c.self.invariant c.args.id.now c.in_ok-place.place c.in_ok-place.ensures c.index_mut.result.now in
    let make : Table → Result Table PlainStop = λ table. option_map_or (λ pairs. Ok (record table { pairs = pairs })) (put_files c.as_slice.result.now c.args.self.now.staged table.pairs) (Err NoStaged) in
    let next : Inside = record { alloc = c.self.inside.alloc; tables = with_item c.self.inside.tables c.in_ok-place.place c.import.new.table; staged = c.self.inside.staged } in
    let done = edited c.self.inside c.args.self.now c.self.view_is c.self.invariant c.args.id.now c.in_ok-place.place c.in_ok-place.ensures c.import.result c.index_mut.result.now c.import.new.table next was refl refl make (c.import.ensures c.args.self.now.staged (c.deref.ensures.value ∙ staged_are c.self.inside c.args.self.now c.self.view_is c.self.invariant)) in
    subst (λ names. Applies (apply (Import c.args.id.now names) c.args.self.now) c.args.self.now c.import.result (view_of next)) c.as_slice.ensures done.1
