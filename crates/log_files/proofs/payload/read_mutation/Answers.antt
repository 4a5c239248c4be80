use Rattle.std.proofs.Common.{sym, subst, List}
use Rattle.metadata_schema.specs.declared.mutation.Update.{Update}
use Rattle.log_files.specs.Mutations.{IsMutation}
use Rattle.log_files.proofs.ManyLemmas.{is_nothing, is_something}
use Rattle.log_files.proofs.MutationLemmas.{without_table, without_row, without_time, without_updates, more_behind, some_mutation}
use Rattle.log_files.proofs.payload.read_mutation.Goals as goal

pub returns-in_default : goal.returns-in_default
returns-in_default c =
    let none = rw c.in_default.is at c.in_ok-table.ensures in
    without_table c.args.bytes.now none

pub returns-in_default-2 : goal.returns-in_default-2
returns-in_default-2 c =
    let table = rw c.in-Some.is at c.in_ok-table.ensures in
    let none = rw c.in_default-2.is at c.in_ok-row.ensures in
    without_row c.args.bytes.now c.in-Some.table c.in-Some.rest.now table none

pub returns-in_default-take_time : goal.returns-in_default-take_time
returns-in_default-take_time c =
    let table = rw c.in-Some.is at c.in_ok-table.ensures in
    let row = rw c.in-Some-2.is at c.in_ok-row.ensures in
    without_time c.args.bytes.now c.in-Some.table c.in-Some.rest.now c.in-Some-2.row c.in-Some-2.rest.now table row c.in_default-take_time.ensures

pub returns-in_default-3 : goal.returns-in_default-3
returns-in_default-3 c =
    let table = rw c.in-Some.is at c.in_ok-table.ensures in
    let row = rw c.in-Some-2.is at c.in_ok-row.ensures in
    let none = rw c.in_default-3.is at c.in_ok-updates.ensures in
    without_updates c.args.bytes.now c.in-Some.table c.in-Some.rest.now c.in-Some-2.row c.in-Some-2.rest.now c.in-Some-take_time.time c.in-Some-take_time.rest.now table row c.in-Some-take_time.ensures none

pub returns-then-not-is_empty : goal.returns-then-not-is_empty
returns-then-not-is_empty c =
    let table = rw c.in-Some.is at c.in_ok-table.ensures in
    let row = rw c.in-Some-2.is at c.in_ok-row.ensures in
    let updates = rw c.in-Some-3.is at c.in_ok-updates.ensures in
    more_behind c.args.bytes.now c.in-Some.table c.in-Some.rest.now c.in-Some-2.row c.in-Some-2.rest.now c.in-Some-take_time.time c.in-Some-take_time.rest.now c.in-Some-3.updates.items c.in-Some-3.rest.now table row c.in-Some-take_time.ensures updates
    (is_something c.is_empty.result c.in-Some-3.rest.now c.is_empty.ensures c.if-not-is_empty.true)

pub returns : goal.returns
returns c =
    let table = rw c.in-Some.is at c.in_ok-table.ensures in
    let row = rw c.in-Some-2.is at c.in_ok-row.ensures in
    let updates = rw c.in-Some-3.is at c.in_ok-updates.ensures in
    let is = some_mutation c.args.bytes.now c.in-Some.table c.in-Some.rest.now c.in-Some-2.row c.in-Some-2.rest.now c.in-Some-take_time.time c.in-Some-take_time.rest.now c.in-Some-3.updates.items c.in-Some-3.rest.now table row c.in-Some-take_time.ensures updates
    (is_nothing c.is_empty.result c.in-Some-3.rest.now c.is_empty.ensures c.if-not-is_empty.false) in
    subst (λ (us : List Update). IsMutation c.args.bytes.now (record { table = c.in-Some.table; row = c.in-Some-2.row; time = c.in-Some-take_time.time; updates = us })) (sym c.from_vec.ensures) is
