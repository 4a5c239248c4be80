use Rattle.std.proofs.Common.{◌∙◌, ap, refl, sym, subst}
use Rattle.std.specs.Prelude.{Ok, Err, remove}
use Rattle.std.specs.FinMap as map
use Rattle.plain_model.specs.State.{Table}
use Rattle.plain_model.specs.Apply.{Outcome}
use Rattle.plain_model.specs.Applies.{Applies}
use Rattle.plain_model.specs.Inside.{view_of}
use Rattle.plain_model.specs.declared.store.PlainStore.TheInside.{Inside}
use Rattle.plain_model.specs.declared.stop.PlainStop.TheVariants.{NoTable}
use Rattle.plain_model.proofs.StoreLemmas.{tables_are, with_tables, at_found}
use Rattle.plain_model.proofs.store.PlainStore.delete.Goals as goal

pub invariant_of-self : goal.invariant_of-self
invariant_of-self c =
    let found = c.in_ok-place.ensures in
    let lists = c.remove.ensures.items ∙ ap (λ items. remove items c.in_ok-place.place) (tables_are c.self.inside c.args.self.now c.self.view_is c.self.invariant) ∙ found.removed in
    (with_tables c.self.inside c.args.self.now c.self.view_is c.self.invariant _ (map.remove c.args.self.now.tables c.args.id.now) lists refl).0

pub returns : goal.returns
returns c =
    let found = c.in_ok-place.ensures in
    let lists = c.remove.ensures.items ∙ ap (λ items. remove items c.in_ok-place.place) (tables_are c.self.inside c.args.self.now c.self.view_is c.self.invariant) ∙ found.removed in
    let next : Inside = record { alloc = c.self.inside.alloc; tables = c.remove.new.self; staged = c.self.inside.staged } in
    let done = with_tables c.self.inside c.args.self.now c.self.view_is c.self.invariant next (map.remove c.args.self.now.tables c.args.id.now) lists refl in
    let make : Table → Outcome = λ table. Ok (record c.args.self.now { tables = map.remove c.args.self.now.tables c.args.id.now }) in
    subst (λ outcome. Applies outcome c.args.self.now (Ok tt) (view_of next)) (sym (at_found c.self.inside c.args.self.now c.self.view_is c.self.invariant c.args.id.now c.in_ok-place.place found make (Err NoTable))) done.1
