-- How many bytes the first changes of the nodes have: there is always room for them.
use Rattle.std.proofs.Common.{◌≡◌, ℕ, ◌+◌, ◌<◌, ◌^◌, true, false, List, [], ◌∷◌, ◌++◌, length, length-append, Option, Some, None, refl, ap, arith, lit<}
use Rattle.std.specs.Fmt.{digits}
use Rattle.std.specs.Int.{w8, w16, w32}
use Rattle.std.specs.List.{flat_map}
use Rattle.bytes_form.specs.Fields.{number_field, flag_field, short_field, long_field, sized_field}
use Rattle.bytes_form.proofs.FieldsLemmas.{length-number_field, length-counted_field, length-flag_field}
use Rattle.metadata_schema.specs.declared.mutation.Update.{Update}
use Rattle.metadata_schema.specs.Columns.{columns_of}
use Rattle.log_files.specs.Mutations.{spelled_value, spelled_update, spelled_updates}
use Rattle.node_store.specs.declared.changes.NodeOp.{NodeOp}
use Rattle.node_store.specs.declared.changes.NodeOp.TheVariants.{Create, Set, Delete}
use Rattle.node_store.specs.Multi.{spelled_change, spelled_multi}
use Rattle.store_layout.specs.Nodes.{root_value}
use Rattle.store_layout.specs.NewStore.{first_ops, first_root}
use Rattle.store_layout.proofs.RootLemmas.{root_of}
use Rattle.store_layout.proofs.SizeLemmas.{first_size, value_size}

-- ---- the value of `/root`

length-value : (value : Option (List ℕ)) → length (spelled_value value) ≡ value_size value
length-value None = length-flag_field false
length-value (Some value) = omega (arith, length-append (flag_field true) (long_field value), length-flag_field true, length-counted_field w16 value)

abbrev update_size : Update → ℕ
update_size update = 2 + length update.family + length update.qualifier + value_size update.value

pub length-update : (update : Update) → length (spelled_update update) ≡ update_size update
length-update u =
    omega (
      arith,
      length-append (short_field u.family ++ short_field u.qualifier) (spelled_value u.value),
      length-append (short_field u.family) (short_field u.qualifier),
      length-counted_field w8 u.family,
      length-counted_field w8 u.qualifier,
      length-value u.value,
    )

abbrev updates_size : List Update → ℕ
updates_size [] = 0
updates_size (u ∷ us) = update_size u + updates_size us

length-each : (us : List Update) → length (flat_map spelled_update us) ≡ updates_size us
length-each [] = refl
length-each (u ∷ us) = omega (arith, length-append (spelled_update u) (flat_map spelled_update us), length-update u, length-each us)

length-updates : (us : List Update) → length (spelled_updates us) ≡ 4 + updates_size us
unfolding spelled_updates
length-updates us = omega (arith, length-append (number_field w32 (length us)) (flat_map spelled_update us), length-number_field w32 (length us), length-each us)

root_size : updates_size (columns_of (root_of 222)) < 2 ^ 16
unfolding digits
root_size = lit< tt

length-root : length (root_value first_root) < 2 ^ 17
length-root = omega (arith, length-updates (columns_of first_root), ap (λ n. updates_size (columns_of (root_of n))) first_size, root_size)

-- ---- the changes

abbrev change_size : NodeOp → ℕ
change_size (Create path value) = 7 + length path + length value
change_size (Set path value version) = 7 + length path + length value
change_size (Delete path version) = 3 + length path

length-change : (op : NodeOp) → length (spelled_change op) ≡ change_size op
length-change (Create path value) = omega (arith, length-append (long_field path) (sized_field value), length-counted_field w16 path, length-counted_field w32 value)
length-change (Set path value version) = omega (arith, length-append (long_field path) (sized_field value), length-counted_field w16 path, length-counted_field w32 value)
length-change (Delete path version) = omega (arith, length-counted_field w16 path)

abbrev changes_size : List NodeOp → ℕ
changes_size [] = 0
changes_size (op ∷ more) = change_size op + changes_size more

length-changes : (ops : List NodeOp) → length (flat_map spelled_change ops) ≡ changes_size ops
length-changes [] = refl
length-changes (op ∷ more) = omega (arith, length-append (spelled_change op) (flat_map spelled_change more), length-change op, length-changes more)

length-multi : (ops : List NodeOp) → length (spelled_multi ops) ≡ 4 + changes_size ops
length-multi ops = omega (arith, length-append (number_field w32 (length ops)) (flat_map spelled_change ops), length-number_field w32 (length ops), length-changes ops)

first_sizes : changes_size first_ops < 2 ^ 17 + length (root_value first_root)
unfolding digits
first_sizes = omega arith

pub first_short : length (spelled_multi first_ops) < 2 ^ 20
first_short = omega (arith, length-multi first_ops, first_sizes, length-root)
