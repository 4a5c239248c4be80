use Rattle.std.proofs.Common.{List, [], ◌∷◌, ◌∙◌, subst}
use Rattle.level_rows.specs.Chain.{rows_of}
use Rattle.metadata_schema.specs.declared.tablet.TabletRecord.{TabletRecord}
use Rattle.store_layout.specs.declared.tables.Mark.TheVariants.{Free}
use Rattle.store_meaning.specs.Levels.{root_rows}
use Rattle.state_reader.specs.Reads.{reading_of}
use Rattle.state_reader.specs.Still.{ground_of}
use Rattle.plain_reader.specs.Parts.{AreParts}
use Rattle.plain_state.proofs.ReadLemmas.{consistent_chain, root_table}
use Rattle.plain_state.proofs.consistent.check_root.Goals as goal

pub returns-in-Ok-clause-ok : goal.returns-in-Ok-clause-ok
returns-in-Ok-clause-ok c =
    let known = ground_of c.args.still.now in
    let reading = reading_of c.args.read.now in
    let parts = c.in-Ok.field-0 in
    let here = subst (λ (l : List TabletRecord). AreParts known (rows_of c.args.read.now.root.table l) Free parts.chain.items parts.cells parts.layers.items) (c.deref.ensures.value ∙ c.in_ok-records.ensures) c.in-Ok.ensures.ok in
    let own = subst (λ id. AreParts known (rows_of id (c.args.read.now.root ∷ [])) Free parts.chain.items parts.cells parts.layers.items) (root_table known reading c.requires) here in
    consistent_chain known (root_rows reading) Free parts.chain.items (c.args.read.now.root ∷ []) parts.cells parts.layers.items c.requires.root_chain own
