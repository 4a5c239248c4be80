use Rattle.std.proofs.Common.{◌∙◌, sym, ap, arith}
use Rattle.data_files.specs.Files.{greatest_time, tail}
use Rattle.data_files.proofs.FileLemmas.{no_head, no_cells, other_greatest, other_tail, some_file}
use Rattle.data_files.proofs.file_bytes.read.Goals as goal

pub returns-in_default : goal.returns-in_default
returns-in_default c = no_head c.args.bytes.now c.in_default.ensures

pub returns-in_default-2 : goal.returns-in_default-2
returns-in_default-2 c =
    let none = rw c.in_default-2.is at c.in_ok-cells.ensures in
    no_cells c.args.bytes.now c.in-Some.count c.in-Some.greatest c.in-Some.rest.now c.in-Some.ensures none

pub returns-then-greatest_time-greatest : goal.returns-then-greatest_time-greatest
returns-then-greatest_time-greatest c =
    let front = rw c.in-Some-2.is at c.in_ok-cells.ensures in
    other_greatest c.args.bytes.now c.in-Some.count c.in-Some.greatest c.in-Some.rest.now c.in-Some-2.cells.items c.in-Some-2.rest.now c.in-Some.ensures front (λ e. c.if-greatest_time-greatest.true (c.greatest_time.ensures ∙ ap greatest_time c.deref.ensures.value ∙ e))

pub returns-then-not-branch : goal.returns-then-not-branch
returns-then-not-branch c =
    let front = rw c.in-Some-2.is at c.in_ok-cells.ensures in
    let other = rw c.if-not-branch.true at c.in_ok-is_tail.ensures in
    other_tail c.args.bytes.now c.in-Some.count c.in-Some.greatest c.in-Some.rest.now c.in-Some-2.cells.items c.in-Some-2.rest.now c.in-Some.ensures front (λ e. other (e ∙ ap tail (sym c.deref-2.ensures.value)))

pub returns : goal.returns
returns c =
    let front = rw c.in-Some-2.is at c.in_ok-cells.ensures in
    let end = rw c.if-not-branch.false at c.in_ok-is_tail.ensures in
    some_file c.args.bytes.now c.in-Some.count c.in-Some.greatest c.in-Some.rest.now c.in-Some-2.cells.items c.in-Some-2.rest.now (omega arith) c.in-Some.ensures front
    (ap greatest_time (sym c.deref.ensures.value) ∙ sym c.greatest_time.ensures ∙ c.if-greatest_time-greatest.false) (end ∙ ap tail c.deref-2.ensures.value)
