use Rattle.std.proofs.Common.{List, subst}
use Rattle.std.proofs.lemmas.Result.{on_ok_weaker}
use Rattle.metadata_schema.specs.declared.tablet.TabletRecord.{TabletRecord}
use Rattle.store_meaning.specs.Levels.{metadata_rows}
use Rattle.store_meaning.specs.Readable.{HaveConsistentTablets}
use Rattle.state_reader.specs.Reads.{reading_of}
use Rattle.state_reader.specs.Still.{ground_of}
use Rattle.plain_state.specs.Records.{AreAllTold}
use Rattle.plain_state.proofs.ReadLemmas.{read_as}
use Rattle.plain_state.proofs.RecordLemmas.{files_there, flag_told}
use Rattle.plain_state.proofs.reading.check.Goals as goal

pub returns-clause-ok : goal.returns-clause-ok
returns-clause-ok c =
    let known = ground_of c.args.still.now in
    let read = c.args.read.now in
    let reading = reading_of read in
    let records = c.in_ok-records.records.items in
    let told = subst (AreAllTold known) c.deref.ensures.value c.in_ok-check_records.ensures.ok in
    let files = files_there known reading records c.in_ok-records.ensures told
    (λ path is. flag_told known read.metadata path c.in_ok-check_flags.ensures.metadata is)
    (λ path is. flag_told known read.users path c.in_ok-check_flags.ensures.users is) in
    on_ok_weaker c.check_metadata.result
    (λ (metadata : HaveConsistentTablets known (metadata_rows reading) read.chain). read_as known reading c.requires files c.in_ok-check_logs.ensures.ok c.in_ok-check_root.ensures.ok metadata) c.check_metadata.ensures.ok
