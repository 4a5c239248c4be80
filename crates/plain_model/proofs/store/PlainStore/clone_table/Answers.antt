use Rattle.std.proofs.Common.{◌≡◌, ◌∙◌, ap, refl, sym, subst}
use Rattle.std.specs.Prelude.{Ok, Err, if◌then◌else◌}
use Rattle.std.specs.FinMap as map
use Rattle.plain_model.specs.declared.tables.PlainTable.{PlainTable}
use Rattle.plain_model.specs.declared.stop.PlainStop.TheVariants.{Exists, NoTable}
use Rattle.plain_model.specs.declared.store.PlainStore.TheInside.{Inside}
use Rattle.plain_model.specs.State.{Table}
use Rattle.plain_model.specs.Apply.{Outcome, has_name, put_table}
use Rattle.plain_model.specs.Applies.{Applies}
use Rattle.plain_model.specs.Inside.{view_of}
use Rattle.plain_model.specs.Listed.{table_item}
use Rattle.plain_model.proofs.StoreLemmas.{tables_are, put_done, with_tables, item_is, at_found}
use Rattle.plain_model.proofs.store.PlainStore.clone_table.Goals as goal

pub invariant_of-self-2 : goal.invariant_of-self-2
invariant_of-self-2 c =
    let found = c.in_ok-place.ensures in
    let value : Table = record found.value { name = c.args.name.now } in
    let original = c.index.ensures ∙ item_is c.self.inside c.args.self.now c.self.view_is c.self.invariant c.args.id.now c.in_ok-place.place found _ in
    let same = c.in_ok-copy.ensures ∙ ap (λ (t : PlainTable). record t { id = c.args.new_id.now; name = c.args.name.now }) original in
    let is : c.in_ok-copy.copy ≡ table_item (c.in_ok-copy.copy.id, value) = same ∙ ap (λ id. table_item (id, value)) (sym (ap (λ (t : PlainTable). t.id) same)) in
    put_done c.self.inside c.args.self.now c.self.view_is c.self.invariant _ c.in_ok-copy.copy.id value c.put_table.result (c.put_table.ensures.ok c.args.self.now.tables value (tables_are c.self.inside c.args.self.now c.self.view_is c.self.invariant) is) c.put_table.ensures.err refl

pub returns : goal.returns
returns c =
    let found = c.in_ok-place.ensures in
    let value : Table = record found.value { name = c.args.name.now } in
    let original = c.index.ensures ∙ item_is c.self.inside c.args.self.now c.self.view_is c.self.invariant c.args.id.now c.in_ok-place.place found _ in
    let same = c.in_ok-copy.ensures ∙ ap (λ (t : PlainTable). record t { id = c.args.new_id.now; name = c.args.name.now }) original in
    let is : c.in_ok-copy.copy ≡ table_item (c.in_ok-copy.copy.id, value) = same ∙ ap (λ id. table_item (id, value)) (sym (ap (λ (t : PlainTable). t.id) same)) in
    let next : Inside = record { alloc = c.self.inside.alloc; tables = c.put_table.new.tables; staged = c.self.inside.staged } in
    let done = with_tables c.self.inside c.args.self.now c.self.view_is c.self.invariant next (map.insert c.args.self.now.tables c.in_ok-copy.copy.id value) (c.in_ok-put_table.ensures.ok c.args.self.now.tables value (tables_are c.self.inside c.args.self.now c.self.view_is c.self.invariant) is) refl in
    let put : view_of next ≡ put_table c.args.new_id.now value c.args.self.now = done.1 ∙ ap (λ id. put_table id value c.args.self.now) (ap (λ (t : PlainTable). t.id) same) in
    let make : Table → Outcome = λ table. if has_name c.args.name.now c.args.self.now then Err Exists else Ok (put_table c.args.new_id.now (record table { name = c.args.name.now }) c.args.self.now) in
    subst (λ outcome. Applies outcome c.args.self.now (Ok tt) (view_of next)) (sym (at_found c.self.inside c.args.self.now c.self.view_is c.self.invariant c.args.id.now c.in_ok-place.place found make (Err NoTable)))
    (subst (λ b. Applies (if b then Err Exists else Ok (put_table c.args.new_id.now value c.args.self.now)) c.args.self.now (Ok tt) (view_of next)) (sym c.if-has_name.false ∙ c.has_name.ensures) put)
