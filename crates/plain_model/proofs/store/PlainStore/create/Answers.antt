use Rattle.std.proofs.Common.{◌≡◌, ◌∙◌, ap, refl, sym, subst, List, ℕ, map as mapped}
use Rattle.std.specs.Prelude.{Ok, Err, if◌then◌else◌}
use Rattle.std.specs.FinMap as map
use Rattle.row_keys.specs.Keys.{key_cmp}
use Rattle.plain_model.specs.declared.tables.PlainTable.{PlainTable}
use Rattle.plain_model.specs.declared.stop.PlainStop.TheVariants.{Exists}
use Rattle.plain_model.specs.declared.store.PlainStore.TheInside.{Inside}
use Rattle.plain_model.specs.State.{Table, with_points}
use Rattle.plain_model.specs.Apply.{put_table}
use Rattle.plain_model.specs.Applies.{Applies}
use Rattle.plain_model.specs.Inside.{view_of}
use Rattle.plain_model.specs.Listed.{listed, point_item, pair_item, table_item}
use Rattle.plain_model.proofs.InOrder.{entries-empty}
use Rattle.plain_model.proofs.StoreLemmas.{tables_are, put_done, with_tables}
use Rattle.plain_model.proofs.store.PlainStore.create.Goals as goal

pub invariant_of-self-2 : goal.invariant_of-self-2
invariant_of-self-2 c =
    let value : Table = record { name = c.args.name.now; points = with_points c.args.splits.now map.empty; pairs = map.empty } in
    let table : PlainTable = record { id = c.in_ok-copy.field-0; name = c.in_ok-copy-2.field-0; splits = c.in_ok-points_in_order.field-0; pairs = c.new.result } in
    let splits = c.in_ok-points_in_order.ensures ∙ ap (λ rows. listed point_item (with_points rows map.empty)) c.as_slice.ensures in
    let pairs = c.new.ensures ∙ ap (mapped pair_item) (sym (entries-empty (List ℕ) key_cmp)) in
    let is : table ≡ table_item (c.in_ok-copy.field-0, value) = λ i. record { id = c.in_ok-copy.field-0; name = c.in_ok-copy-2.ensures.ok i; splits = splits i; pairs = pairs i } in
    put_done c.self.inside c.args.self.now c.self.view_is c.self.invariant _ c.in_ok-copy.field-0 value c.put_table.result (c.put_table.ensures.ok c.args.self.now.tables value (tables_are c.self.inside c.args.self.now c.self.view_is c.self.invariant) is) c.put_table.ensures.err refl

pub returns : goal.returns
returns c =
    let value : Table = record { name = c.args.name.now; points = with_points c.args.splits.now map.empty; pairs = map.empty } in
    let table : PlainTable = record { id = c.in_ok-copy.field-0; name = c.in_ok-copy-2.field-0; splits = c.in_ok-points_in_order.field-0; pairs = c.new.result } in
    let splits = c.in_ok-points_in_order.ensures ∙ ap (λ rows. listed point_item (with_points rows map.empty)) c.as_slice.ensures in
    let pairs = c.new.ensures ∙ ap (mapped pair_item) (sym (entries-empty (List ℕ) key_cmp)) in
    let is : table ≡ table_item (c.in_ok-copy.field-0, value) = λ i. record { id = c.in_ok-copy.field-0; name = c.in_ok-copy-2.ensures.ok i; splits = splits i; pairs = pairs i } in
    let next : Inside = record { alloc = c.self.inside.alloc; tables = c.put_table.new.tables; staged = c.self.inside.staged } in
    let done = with_tables c.self.inside c.args.self.now c.self.view_is c.self.invariant next (map.insert c.args.self.now.tables c.in_ok-copy.field-0 value) (c.in_ok-put_table.ensures.ok c.args.self.now.tables value (tables_are c.self.inside c.args.self.now c.self.view_is c.self.invariant) is) refl in
    subst (λ b. Applies (if b then Err Exists else Ok (put_table c.args.id.now value c.args.self.now)) c.args.self.now (Ok tt) (view_of next)) (sym c.if-has_name.false ∙ c.has_name.ensures)
    (done.1 ∙ ap (λ id. put_table id value c.args.self.now) c.in_ok-copy.ensures.ok)
