use Rattle.std.proofs.Common.{◌∙◌, List, ℕ, ap, subst}
use Rattle.cell_merge.specs.declared.cell.Cell.{Cell}
use Rattle.plain_model.specs.Apply.{put_table}
use Rattle.level_rows.specs.Chain.{rows_of}
use Rattle.store_meaning.specs.Marked.{layered}
use Rattle.state_reader.specs.Still.{ground_of}
use Rattle.plain_reader.specs.Puts.{put_over, PutsOver}
use Rattle.plain_reader.specs.Tables.{ends_of, bare_table}
use Rattle.plain_reader.proofs.TableLemmas.{created, table_put}
use Rattle.plain_reader.proofs.stands.put_table.Goals as goal

pub put_cells-requires : goal.put_cells-requires
put_cells-requires c = created c.args.node.now.id (bare_table c.args.node.now.name c.from_vec-splits.result) c.args.state.now c.create.new.state c.in_ok-create.ensures.ok

pub returns-clause-ok : goal.returns-clause-ok
returns-clause-ok c =
    let node = c.args.node.now in
    let old = c.args.state.now in
    let parts = c.in-Ok.parts in
    let made = c.create.new.state in
    let mid = c.put_cells.new.state in
    let new = c.put_layers.new.state in
    let splits = c.from_vec-splits.ensures ∙ c.in_ok-ends_of.ensures ∙ ap ends_of c.deref.ensures.value in
    let begun = c.in_ok-create.ensures.ok ∙ ap (λ (l : List (List ℕ)). put_table node.id (bare_table node.name l) old) splits in
    let first = subst (λ (l : List Cell). PutsOver node.id (put_over l) made mid) c.as_slice.ensures c.in_ok-put_cells.ensures in
    let second = subst (λ (l : List (List Cell)). PutsOver node.id (layered l) mid new) c.deref-2.ensures.value c.in_ok-put_layers.ensures in
    table_put (ground_of c.args.still.now) (rows_of node.id c.args.records.now) node parts.chain.items parts.cells parts.layers.items c.in-Ok.ensures.ok old made mid new begun first second
