use Rattle.std.proofs.Common.{List, subst}
use Rattle.level_rows.specs.Chain.{rows_of}
use Rattle.metadata_schema.specs.declared.tablet.TabletRecord.{TabletRecord}
use Rattle.store_layout.specs.declared.tables.Mark.TheVariants.{Free}
use Rattle.store_meaning.specs.Levels.{metadata_id, metadata_rows}
use Rattle.state_reader.specs.Reads.{reading_of}
use Rattle.state_reader.specs.Still.{ground_of}
use Rattle.plain_reader.specs.Parts.{AreParts}
use Rattle.plain_state.proofs.ReadLemmas.{consistent_chain}
use Rattle.plain_state.proofs.consistent.check_metadata.Goals as goal

pub returns-in-Ok-clause-ok : goal.returns-in-Ok-clause-ok
returns-in-Ok-clause-ok c =
    let known = ground_of c.args.still.now in
    let reading = reading_of c.args.read.now in
    let parts = c.in-Ok.field-0 in
    let here = subst (λ (l : List TabletRecord). AreParts known (rows_of c.in_ok-table.table l) Free parts.chain.items parts.cells parts.layers.items) c.as_slice-records.ensures c.in-Ok.ensures.ok in
    let own = subst (λ id. AreParts known (rows_of id c.args.read.now.metadata.records) Free parts.chain.items parts.cells parts.layers.items) c.in_ok-table.ensures here in
    consistent_chain known (metadata_rows reading) Free parts.chain.items c.args.read.now.chain parts.cells parts.layers.items c.requires.chain own
