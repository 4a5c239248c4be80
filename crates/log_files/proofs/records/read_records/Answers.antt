use Rattle.std.proofs.Common.{sym, subst, ◌+◌, take, List}
use Rattle.metadata_schema.specs.declared.mutation.Mutation.{Mutation}
use Rattle.log_files.specs.Mutations.{Bytes}
use Rattle.log_files.specs.Parts.{AreMutations, IsEntry, IsNoEntry}
use Rattle.log_files.proofs.LogLemmas.{no_record, one_more}
use Rattle.log_files.proofs.records.read_records.Goals as goal

pub returns-in_default : goal.returns-in_default
returns-in_default c =
    let none = rw c.in_default.is at c.in_ok-mutation.ensures in
    no_record c.args.records.now c.loop-record.record-index c.record-item.result c.loop-record-test.true c.record-item.is (subst IsNoEntry c.as_bytes.ensures none)

pub loop-record-preserved : goal.loop-record-preserved
loop-record-preserved c =
    let one = rw c.in-Some.is at c.in_ok-mutation.ensures in
    subst (λ (ms : List Mutation). AreMutations (take (c.loop-record.record-index + 1) c.args.records.now) ms) (sym c.in_ok-push.ensures.items)
    (one_more c.args.records.now c.loop-record.record-index c.record-item.result c.loop-record.mutations.items c.in-Some.mutation c.loop-record-test.true c.record-item.is c.loop-record.invariant (subst (λ (bytes : Bytes). IsEntry bytes c.in-Some.mutation) c.as_bytes.ensures one))
