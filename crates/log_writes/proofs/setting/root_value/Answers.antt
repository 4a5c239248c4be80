use Rattle.std.proofs.Common.{◌∙◌, ◌<◌, ◌^◌, length, sym, ap, subst}
use Rattle.metadata_schema.specs.declared.mutation.Update.{Update}
use Rattle.metadata_schema.specs.Columns.{columns_of}
use Rattle.log_files.specs.Mutations.{AreUpdates}
use Rattle.store_layout.proofs.FitLemmas.{columns_are_updates}
use Rattle.log_writes.proofs.setting.root_value.Goals as goal

pub put_updates-requires : goal.put_updates-requires
put_updates-requires c =
    let are = c.deref.ensures.value ∙ c.in_ok-columns.ensures in
    let few : length (columns_of c.args.root.now) < 2 ^ 32 = subst (λ n. n < 2 ^ 32) (c.len.ensures ∙ sym c.deref.ensures.len ∙ ap (length {A = Update}) are) c.if-len-ge-END_OF_COUNTS.false in
    subst AreUpdates (sym are) (columns_are_updates c.args.root.now c.requires few)
