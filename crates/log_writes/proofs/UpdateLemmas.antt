-- The columns of a row that gets updates, and the record that they give.
use Rattle.std.proofs.Common.{◌≡◌, ℕ, List, map, Option, Some, None, refl, sym, ◌∙◌, ap, subst}
use Rattle.std.specs.Option.{option_and_then, option_map, option_map_or, option_flatten}
use Rattle.row_keys.specs.MetadataRow.{metadata_row}
use Rattle.row_keys.proofs.MetadataRowsLemmas.{one_to_one}
use Rattle.metadata_schema.specs.declared.fault.SchemaFault.{SchemaFault}
use Rattle.metadata_schema.specs.declared.fault.SchemaFault.TheVariants as schema
use Rattle.metadata_schema.specs.declared.mutation.Update.{Update}
use Rattle.metadata_schema.specs.declared.tablet.TabletRecord.{TabletRecord}
use Rattle.metadata_schema.specs.Between.{column_after}
use Rattle.metadata_schema.specs.Columns.{columns_of, column_at, update_at}
use Rattle.metadata_schema.specs.Records.{IsRecordOf}
use Rattle.metadata_schema.specs.Refusals.{AreColumns, HasPrev, HasColumns, HasValues}
use Rattle.metadata_schema.proofs.AcceptedLemmas.{are_columns, prev_there, columns_named, values_formed}
use Rattle.cell_merge.specs.declared.cell.Cell.{Cell}
use Rattle.cell_merge.specs.Newest.{later, newest_at}
use Rattle.cell_merge.proofs.LatestLemmas.{latest-append}
use Rattle.store_layout.specs.NewStore.{cell_of}
use Rattle.store_meaning.specs.Levels.{SpellsRow, root_id}
use Rattle.store_meaning.proofs.RowLemmas.{key_at, given, own_latest}
use Rattle.state_reader.proofs.ColumnLemmas.{spelled_once}
use Rattle.state_reader.proofs.RootReads.{root_name}
use Rattle.log_writes.specs.declared.fault.RootFault.{RootFault}
use Rattle.log_writes.specs.Updating.{UpdatesRoot, UpdatesToNone, UpdateCause, FaultOf, updated_cells}

value_of : Option Cell → Option (List ℕ)
value_of o = option_and_then (λ cell. cell.value) o

over : (row family qualifier : List ℕ) (o : Option (Option (List ℕ))) (u : Option (Option (List ℕ)))
    → value_of (later (option_map (given row 0 family qualifier) o) (option_map (given row 1 family qualifier) u)) ≡ option_map_or (λ value. value) u (option_flatten o)
unfolding value_of
over row family qualifier None None = refl
over row family qualifier None (Some w) = refl
over row family qualifier (Some None) None = refl
over row family qualifier (Some (Some v)) None = refl
over row family qualifier (Some v) (Some w) = refl

newest_after : (columns : List Update) (row : List ℕ) (updates : List Update) (family qualifier : List ℕ) → newest_at (updated_cells columns row updates) (key_at row family qualifier) ≡ column_after updates columns family qualifier
unfolding value_of
newest_after columns row updates family qualifier =
    ap value_of (latest-append (map (cell_of row 0) columns) (map (cell_of row 1) updates) (key_at row family qualifier)
    ∙ (λ i. later (own_latest row 0 columns family qualifier i) (own_latest row 1 updates family qualifier i)))
    ∙ over row family qualifier (update_at columns family qualifier) (update_at updates family qualifier)

module _ (root : TabletRecord) (updates : List Update) (row : List ℕ) (place : row ≡ metadata_row root_id None) (columns : List Update) (spells : SpellsRow (updated_cells (columns_of root) row updates) row columns) where
  -- the record of these columns
  pub updates_root : (new : TabletRecord) → IsRecordOf row columns new → UpdatesRoot root updates new
  updates_root new is =
      let names = one_to_one new.table root_id new.end None is.named.name root_name (sym is.named.is ∙ place) in
      record {
        at = record { name = root_name; table_is = names.0; end_is = names.1; form = is.form };
        gives = λ family qualifier. sym (newest_after (columns_of root) row updates family qualifier) ∙ spells.each family qualifier ∙ ap (λ (l : List Update). column_at l family qualifier) is.spelled;
      }

  -- and where they are refused there is none
  pub updates_none : AreColumns columns → (HasPrev columns → HasColumns columns → HasValues columns → ⊥) → UpdatesToNone root updates
  updates_none are refuses = record {
    none = λ new is.
        let own : SpellsRow (updated_cells (columns_of root) row updates) row (columns_of new) = record { each = λ family qualifier. newest_after (columns_of root) row updates family qualifier ∙ is.gives family qualifier } in
        let same = sym (spelled_once (updated_cells (columns_of root) row updates) row columns (columns_of new) spells own are (are_columns new is.at.form.order)) in
        refuses (subst HasPrev same (prev_there new)) (subst HasColumns same (columns_named new is.at.form)) (subst HasValues same (values_formed new is.at.form));
  }

-- why there is none
pub cause_of : (root : TabletRecord) (updates : List Update) (fault : SchemaFault) (own : RootFault) → FaultOf fault own → ((fault ≡ schema.NoMemory → ⊥) → UpdatesToNone root updates) → UpdateCause root updates own
cause_of root updates schema.NoPrev own is none = subst (UpdateCause root updates) (sym is) (none (λ e. cc))
cause_of root updates schema.BadColumn own is none = subst (UpdateCause root updates) (sym is) (none (λ e. cc))
cause_of root updates schema.BadValue own is none = subst (UpdateCause root updates) (sym is) (none (λ e. cc))
cause_of root updates schema.NoMemory own is none = subst (UpdateCause root updates) (sym is) tt
