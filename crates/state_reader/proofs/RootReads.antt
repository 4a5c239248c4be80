-- What the value of `/root` spells.
use Rattle.std.proofs.Common.{◌≡◌, inl, ℕ, ◌+◌, ◌<◌, ◌≤◌, ◌^◌, List, [], ◌∷◌, ◌++◌, length, length-append, codes, None, refl, sym, ◌∙◌, ap, subst, arith}
use Rattle.std.specs.Prelude.{IsSome}
use Rattle.std.specs.Int.{w32}
use Rattle.std.specs.List.{All, flat_map}
use Rattle.std.proofs.lemmas.List.{append-nil}
use Rattle.row_keys.specs.MetadataRow.{metadata_row, IsTabletName}
use Rattle.row_keys.proofs.MetadataRowsLemmas.{one_to_one}
use Rattle.bytes_form.specs.Fields.{number_field}
use Rattle.metadata_schema.specs.declared.mutation.Update.{Update}
use Rattle.metadata_schema.specs.declared.tablet.TabletRecord.{TabletRecord}
use Rattle.metadata_schema.specs.Columns.{columns_of}
use Rattle.metadata_schema.specs.Records.{IsWellFormed, IsRecordOf}
use Rattle.metadata_schema.specs.Refusals.{HasPrev, HasColumns, HasValues}
use Rattle.metadata_schema.proofs.AcceptedLemmas.{are_columns, prev_there, columns_named, values_formed}
use Rattle.log_files.specs.Mutations.{spelled_update, spelled_updates, AreUpdates}
use Rattle.log_files.specs.Parts.{Starts, StartsNone}
use Rattle.log_files.proofs.UpdateLemmas.{IsPrefixFree-updates}
use Rattle.store_layout.specs.Nodes.{root_value}
use Rattle.store_layout.proofs.FitLemmas.{columns_are_updates}
use Rattle.store_layout.proofs.RoomLemmas.{length-update}
use Rattle.store_meaning.specs.Levels.{root_id}
use Rattle.state_reader.specs.Roots.{IsRootValue, IsNoRootValue, SpellsColumns}

pub root_name : IsTabletName root_id None
root_name = record { id = inl refl; short = tt }

-- ---- there are fewer updates than bytes

fewer_each : (us : List Update) → length us ≤ length (flat_map spelled_update us)
fewer_each [] = omega arith
fewer_each (u ∷ us) = omega (arith, length-append (spelled_update u) (flat_map spelled_update us), length-update u, fewer_each us)

fewer : (us : List Update) → length us ≤ length (spelled_updates us)
unfolding spelled_updates
fewer us = omega (arith, length-append (number_field w32 (length us)) (flat_map spelled_update us), fewer_each us)

-- the columns of the root record of a short value are updates
root_updates : (value : List ℕ) (root : TabletRecord) → length value < 2 ^ 32 → IsRootValue value root → AreUpdates (columns_of root)
root_updates value root short is =
    let least = fewer (columns_of root) in
    let same = ap (length {A = ℕ}) is.is in
    columns_are_updates root is.at.form (omega (arith, least, same, short))

-- ---- columns

-- the value has one list of columns in front
same_front : (value : List ℕ) (columns : List Update) (rest : List ℕ) → length value < 2 ^ 32 → Starts AreUpdates spelled_updates value columns rest → (root : TabletRecord) → IsRootValue value root → (columns ≡ columns_of root) × (rest ≡ [])
same_front value columns rest short starts root is =
    IsPrefixFree-updates columns (columns_of root) rest [] starts.value_fits (root_updates value root short is) (sym starts.is ∙ is.is ∙ sym (append-nil (root_value root)))

pub no_front : (value : List ℕ) → length value < 2 ^ 32 → StartsNone AreUpdates spelled_updates value → IsNoRootValue value
no_front value short starts = record {
  none = λ root is. starts.none (columns_of root) [] (record { is = is.is ∙ sym (append-nil (root_value root)); value_fits = root_updates value root short is });
}

pub more_behind : (value : List ℕ) (columns : List Update) (rest : List ℕ) → length value < 2 ^ 32 → Starts AreUpdates spelled_updates value columns rest → (rest ≡ [] → ⊥) → IsNoRootValue value
more_behind value columns rest short starts some = record { none = λ root is. some (same_front value columns rest short starts root is).1 }

pub removed_there : (value : List ℕ) (columns : List Update) (rest : List ℕ) → length value < 2 ^ 32 → Starts AreUpdates spelled_updates value columns rest → (All (λ (update : Update). IsSome update.value) columns → ⊥) → IsNoRootValue value
removed_there value columns rest short starts removed = record {
  none = λ root is. removed (subst (All (λ (update : Update). IsSome update.value)) (sym (same_front value columns rest short starts root is).0) (are_columns root is.at.form.order).written);
}

pub columns_spelled : (value : List ℕ) (columns : List Update) (rest : List ℕ) → Starts AreUpdates spelled_updates value columns rest → rest ≡ [] → All (λ (update : Update). IsSome update.value) columns → SpellsColumns value columns
columns_spelled value columns rest starts none written = record {
  is = starts.is ∙ ap (λ l. spelled_updates columns ++ l) none ∙ append-nil (spelled_updates columns);
  fit = starts.value_fits;
  are = record { written = written; order = starts.value_fits.rising };
}

-- ---- the record

pub root_read : (value : List ℕ) (columns : List Update) (row : List ℕ) (root : TabletRecord) → SpellsColumns value columns → row ≡ metadata_row root_id None → IsRecordOf row columns root → IsRootValue value root
root_read value columns row root spells place is =
    let names = one_to_one root.table root_id root.end None is.named.name root_name (sym is.named.is ∙ place) in
    record {
      is = spells.is ∙ ap spelled_updates is.spelled;
      at = record { name = root_name; table_is = names.0; end_is = names.1; form = is.form };
    }

pub no_record : (value : List ℕ) (columns : List Update) → length value < 2 ^ 32 → SpellsColumns value columns → (HasPrev columns → HasColumns columns → HasValues columns → ⊥) → IsNoRootValue value
no_record value columns short spells refuses = record {
  none = λ root is.
      let front : Starts AreUpdates spelled_updates value columns [] = record { is = spells.is ∙ sym (append-nil (spelled_updates columns)); value_fits = spells.fit } in
      let same = sym (same_front value columns [] short front root is).0 in
      refuses (subst HasPrev same (prev_there root)) (subst HasColumns same (columns_named root is.at.form)) (subst HasValues same (values_formed root is.at.form));
}
