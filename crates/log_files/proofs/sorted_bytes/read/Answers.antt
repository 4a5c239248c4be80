use Rattle.std.proofs.Common.{arith}
use Rattle.log_files.proofs.ManyLemmas.{is_nothing, is_something}
use Rattle.log_files.proofs.SortedLemmas.{no_head, fewer_entries, more_behind, some_sorted}
use Rattle.log_files.proofs.sorted_bytes.read.Goals as goal

pub returns-in_default : goal.returns-in_default
returns-in_default c = no_head c.args.bytes.now c.in_default.ensures

pub returns-in_default-2 : goal.returns-in_default-2
returns-in_default-2 c =
    let none = rw c.in_default-2.is at c.in_ok-mutations.ensures in
    fewer_entries c.args.bytes.now c.in-Some.count c.in-Some.rest.now c.in-Some.ensures none

pub returns-then-not-is_empty : goal.returns-then-not-is_empty
returns-then-not-is_empty c =
    let many = rw c.in-Some-2.is at c.in_ok-mutations.ensures in
    more_behind c.args.bytes.now c.in-Some.count c.in-Some.rest.now c.in-Some-2.mutations.items c.in-Some-2.rest.now c.in-Some.ensures many
    (is_something c.is_empty.result c.in-Some-2.rest.now c.is_empty.ensures c.if-not-is_empty.true)

pub returns : goal.returns
returns c =
    let many = rw c.in-Some-2.is at c.in_ok-mutations.ensures in
    some_sorted c.args.bytes.now c.in-Some.count c.in-Some.rest.now c.in-Some-2.mutations.items c.in-Some-2.rest.now (omega arith) c.in-Some.ensures many
    (is_nothing c.is_empty.result c.in-Some-2.rest.now c.is_empty.ensures c.if-not-is_empty.false)
