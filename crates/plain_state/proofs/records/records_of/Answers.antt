use Rattle.std.proofs.Common.{◌++◌, ◌∷◌, [], sym, ◌∙◌, ap, subst}
use Rattle.state_reader.specs.Reads.{reading_of}
use Rattle.plain_state.specs.Records.{AreRecords}
use Rattle.plain_state.proofs.RecordLemmas.{records_are}
use Rattle.plain_state.proofs.records.records_of.Goals as goal

pub returns : goal.returns
returns c =
    let low = c.in_ok-records.records.items in
    let high = c.in_ok-records_in.field-0.items in
    let all = c.in_ok-push.ensures.items ∙ (λ i. c.in_ok-append.ensures.items i ++ c.in_ok-copy.ensures i ∷ []) in
    subst (AreRecords (reading_of c.args.read.now)) (sym all) (records_are (reading_of c.args.read.now) low high c.in_ok-records.ensures c.in_ok-records_in.ensures)
