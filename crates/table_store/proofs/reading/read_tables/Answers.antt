use Rattle.std.proofs.Common.{sym, subst}
use Rattle.store_layout.specs.Nodes.{IsNext}
use Rattle.table_store.proofs.ReadingLemmas.{reads_all, none_read}
use Rattle.table_store.proofs.reading.read_tables.Goals as goal

pub returns-in_default : goal.returns-in_default
returns-in_default c =
    let none = rw c.in_default.is at c.in_ok-next.ensures in
    record { none = λ tables reading. none.none tables.next (subst (λ p. IsNext c.args.nodes.now.nodes p tables.next) (sym c.in_ok-path.ensures) reading.next) }

pub returns-in-Some-2 : goal.returns-in-Some-2
returns-in-Some-2 c =
    let nodes = c.args.nodes.now.nodes in
    let instance = rw c.if-not-branch.false at c.in_ok-has_instance.ensures in
    let root = rw c.if-not-branch-2.false at c.in_ok-has_root.ensures in
    let counters = rw c.if-not-branch-3.false at c.in_ok-has_counters.ensures in
    let here = rw c.in-Some.is at c.in_ok-next.ensures in
    let counter = subst (λ p. IsNext nodes p c.in-Some.next) c.in_ok-path.ensures here in
    let reads = rw c.in-Some-2.is at c.in_ok-tables.ensures in
    reads_all nodes c.in-Some.next c.in-Some-2.tables instance root counters counter reads

pub returns : goal.returns
returns c =
    let nodes = c.args.nodes.now.nodes in
    let here = rw c.in-Some.is at c.in_ok-next.ensures in
    let counter = subst (λ p. IsNext nodes p c.in-Some.next) c.in_ok-path.ensures here in
    let none = rw c.in-None.is at c.in_ok-tables.ensures in
    none_read nodes c.in-Some.next counter none
