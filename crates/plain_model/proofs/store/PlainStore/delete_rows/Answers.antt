use Rattle.std.proofs.Common.{◌∙◌, refl, subst}
use Rattle.std.specs.Prelude.{Result, Ok, Err, Option, List, ℕ, if◌then◌else◌}
use Rattle.std.specs.Option.{option_copied}
use Rattle.row_keys.specs.RowOrder.{is_interval}
use Rattle.plain_model.specs.declared.operation.Op.TheVariants.{DeleteRows}
use Rattle.plain_model.specs.declared.stop.PlainStop.TheVariants.{BadRange}
use Rattle.plain_model.specs.Apply.{apply, points_outside, pairs_outside}
use Rattle.plain_model.specs.Applies.{Applies}
use Rattle.plain_model.specs.Inside.{view_of}
use Rattle.std.specs.Vec.{with_item}
use Rattle.plain_model.specs.State.{Table}
use Rattle.plain_model.specs.declared.stop.PlainStop.{PlainStop}
use Rattle.plain_model.specs.declared.store.PlainStore.TheInside.{Inside}
use Rattle.plain_model.proofs.StoreLemmas.{edited, item_is}
use Rattle.plain_model.proofs.store.PlainStore.delete_rows.Goals as goal

pub invariant_of-self : goal.invariant_of-self
invariant_of-self c =
    let was = c.index_mut.ensures.value ∙ item_is c.self.inside c.args.self.now c.self.view_is c.self.invariant c.args.id.now c.in_ok-place.place c.in_ok-place.ensures c.index_mut.result.now in
    let make : Table → Result Table PlainStop = λ table. if is_interval (option_copied c.as_ref.result) (option_copied c.as_ref-2.result) then Ok (record table { points = points_outside (option_copied c.as_ref.result) (option_copied c.as_ref-2.result) table.points; pairs = pairs_outside (option_copied c.as_ref.result) (option_copied c.as_ref-2.result) table.pairs }) else Err BadRange in
    let next : Inside = record { alloc = c.self.inside.alloc; tables = with_item c.self.inside.tables c.in_ok-place.place c.delete_rows.new.table; staged = c.self.inside.staged } in
    let done = edited c.self.inside c.args.self.now c.self.view_is c.self.invariant c.args.id.now c.in_ok-place.place c.in_ok-place.ensures c.delete_rows.result c.index_mut.result.now c.delete_rows.new.table next was refl refl make c.delete_rows.ensures in
    done.0

pub returns : goal.returns
returns c =
    let was = c.index_mut.ensures.value ∙ item_is c.self.inside c.args.self.now c.self.view_is c.self.invariant c.args.id.now c.in_ok-place.place c.in_ok-place.ensures c.index_mut.result.now in
    let make : Table → Result Table PlainStop = λ table. if is_interval (option_copied c.as_ref.result) (option_copied c.as_ref-2.result) then Ok (record table { points = points_outside (option_copied c.as_ref.result) (option_copied c.as_ref-2.result) table.points; pairs = pairs_outside (option_copied c.as_ref.result) (option_copied c.as_ref-2.result) table.pairs }) else Err BadRange in
    let next : Inside = record { alloc = c.self.inside.alloc; tables = with_item c.self.inside.tables c.in_ok-place.place c.delete_rows.new.table; staged = c.self.inside.staged } in
    let done = edited c.self.inside c.args.self.now c.self.view_is c.self.invariant c.args.id.now c.in_ok-place.place c.in_ok-place.ensures c.delete_rows.result c.index_mut.result.now c.delete_rows.new.table next was refl refl make c.delete_rows.ensures in
    subst (λ (from : Option (List ℕ)). Applies (apply (DeleteRows c.args.id.now from c.args.to.now) c.args.self.now) c.args.self.now c.delete_rows.result (view_of next)) c.as_ref.ensures.value
    (subst (λ (to : Option (List ℕ)). Applies (apply (DeleteRows c.args.id.now (option_copied c.as_ref.result) to) c.args.self.now) c.args.self.now c.delete_rows.result (view_of next)) c.as_ref-2.ensures.value done.1)
