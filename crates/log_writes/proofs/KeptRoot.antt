-- Images in which the root record is set.
use Rattle.std.proofs.Common.{◌≡◌, ◌⊎◌, inl, inr, ⊎_elim, subst}
use Rattle.host_model.specs.Picture.{Image}
use Rattle.plain_model.specs.State.{PlainState}
use Rattle.metadata_schema.specs.declared.tablet.TabletRecord.{TabletRecord}
use Rattle.node_store.specs.Nodes.{Nodes}
use Rattle.node_store.specs.Image.{HasNodes, IsStored}
use Rattle.node_store.specs.Steps.{OthersStay, KeepsNodes, HasApplied, MayGive, Gives}
use Rattle.node_store.specs.Value.{StoreValue}
use Rattle.node_store.proofs.ImageLemmas.{one_nodes, stored_has}
use Rattle.store_layout.specs.Names.{nodes_name}
use Rattle.store_meaning.specs.Ground.{Ground, IsGroundOf, with_nodes}
use Rattle.store_meaning.specs.Kept.{IsKept}
use Rattle.store_meaning.specs.Levels.{Reading}
use Rattle.store_meaning.specs.RowWrites.{root_written}
use Rattle.store_meaning.proofs.ChangeLemmas.{nodes_changed}
use Rattle.kept_meaning.specs.UpperRows.{WritesRootKept}
use Rattle.log_writes.specs.Setting.{root_ops, SetsRoot, IsGroundWithRoot, KeepsWithRoot, RootMayBe}
use Rattle.log_writes.proofs.RootLemmas.{sets_root, set_others, set_record}

module _ (old new : Image) (known : Ground) (root : TabletRecord) (store : StoreValue) (of : IsGroundOf old known) (named : store.name ≡ nodes_name) (stored : IsStored store old) where
  same_nodes : store.nodes ≡ known.nodes
  same_nodes = one_nodes nodes_name old store.nodes known.nodes (subst (λ n. HasNodes n old store.nodes) named (stored_has store old stored)) of.nodes

  set_in : OthersStay store.name old new → HasApplied (root_ops root) store new → IsGroundWithRoot root known new
  set_in others applied = record {
    nodes = applied.after;
    sets = subst (λ (nodes : Nodes). SetsRoot root nodes applied.after) same_nodes (sets_root store.nodes root applied.after applied.applies);
    of = nodes_changed old new known applied.after of (subst (λ n. OthersStay n old new) named others) (subst (λ n. HasNodes n new applied.after) named applied.has);
  }

  kept_in : OthersStay store.name old new → KeepsNodes store.name store.nodes old new → IsGroundOf new known
  kept_in others keeps =
      nodes_changed old new known known.nodes of (subst (λ n. OthersStay n old new) named others) (subst (λ nodes. HasNodes nodes_name new nodes) same_nodes (subst (λ n. HasNodes n new store.nodes) named keeps.has))

  pub ground_set : Gives (root_ops root) store old new → IsGroundWithRoot root known new
  ground_set gives = set_in gives.others (gives.nodes stored)

  pub ground_either : MayGive (root_ops root) store old new → IsGroundOf new known ⊎ IsGroundWithRoot root known new
  ground_either may = ⊎_elim (λ keeps. inl (kept_in may.others keeps)) (λ applied. inr (set_in may.others applied)) (may.nodes stored)

module _ (old new : Image) (state : PlainState) (is : IsKept old state) (root : TabletRecord) (store : StoreValue) (named : store.name ≡ nodes_name) (stored : IsStored store old) (keeps : KeepsWithRoot is.reading is.catalog is.known state root) where
  with_root : IsGroundWithRoot root is.known new → IsKept new state
  with_root ground = record { known = with_nodes is.known ground.nodes; of = ground.of; reading = root_written is.known is.reading root; catalog = is.catalog; kept = keeps.kept ground.nodes ground.sets }

  as_before : IsGroundOf new is.known → IsKept new state
  as_before of = record { known = is.known; of = of; reading = is.reading; catalog = is.catalog; kept = is.kept }

  pub kept_set : Gives (root_ops root) store old new → IsKept new state
  kept_set gives = with_root (ground_set old new is.known root store is.of named stored gives)

  pub kept_either : MayGive (root_ops root) store old new → IsKept new state
  kept_either may = ⊎_elim as_before with_root (ground_either old new is.known root store is.of named stored may)

-- the guard, once it is set
pub writes_kept : (known : Ground) (reading : Reading) (root : TabletRecord) → RootMayBe known reading root → (nodes : Nodes) → SetsRoot root known.nodes nodes → WritesRootKept known reading nodes root
writes_kept known reading root may nodes sets = record {
  writes = record { node = set_record known.nodes nodes root may.at sets; others = set_others known.nodes nodes root sets; is_chain = may.is_chain; cells = may.cells; content = may.content; covers = may.covers };
  names = may.names;
  drawn = may.drawn;
  kept = may.kept;
}
