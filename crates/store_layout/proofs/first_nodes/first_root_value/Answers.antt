use Rattle.std.proofs.Common.{◌<◌, ◌^◌, arith, sym, ap, subst}
use Rattle.log_files.specs.Mutations.{AreUpdates}
use Rattle.metadata_schema.specs.Columns.{columns_of}
use Rattle.store_layout.proofs.RootLemmas.{root_updates}
use Rattle.store_layout.proofs.first_nodes.first_root_value.Goals as goal

pub root_value-requires : goal.root_value-requires
root_value-requires c = let small : c.args.size < 2 ^ 64 = omega arith in subst AreUpdates (ap columns_of (sym c.in_ok-tablet.ensures)) (root_updates (subst (λ n. n < 2 ^ 64) c.requires small))
