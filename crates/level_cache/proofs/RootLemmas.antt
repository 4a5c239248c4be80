-- The record of the root tablet in a store that is read.
use Rattle.std.proofs.Common.{◌≡◌, inl, inr, ℕ, ◌^◌, ◌<◌, ◌&&◌, length, Bool, true, false, cond, List, [], ◌∷◌, Some, None, Contains, refl, sym, ◌∙◌, ap, subst, arith}
use Rattle.std.specs.FinMap as map
use Rattle.host_model.specs.Picture.{Image}
use Rattle.host_model.specs.declared.fault.Stop.{Stop}
use Rattle.host_model.specs.declared.fault.Stop.TheVariants.{Host, Damaged, Full, NoMemory}
use Rattle.metadata_schema.specs.Bytes.{same}
use Rattle.metadata_schema.specs.declared.tablet.TabletRecord.{TabletRecord}
use Rattle.level_rows.specs.Chain.{is_named, rows_of, same_end}
use Rattle.level_rows.proofs.EndLemmas.{named-from}
use Rattle.level_rows.proofs.Membership.{Contains-nil, Contains-here, Contains-cons_cases}
use Rattle.node_store.specs.Image.{HasNodes, IsStored}
use Rattle.node_store.specs.Nodes.{Nodes}
use Rattle.node_store.specs.Value.{StoreValue}
use Rattle.node_store.proofs.ImageLemmas.{one_nodes, stored_has}
use Rattle.store_layout.specs.Names.{nodes_name}
use Rattle.store_layout.specs.Nodes.{root_path}
use Rattle.store_meaning.specs.Ground.{Ground, IsGroundOf}
use Rattle.store_meaning.specs.Levels.{Reading, IsReadingOf, IsRootRecord, IsRecordAt, root_id}
use Rattle.store_meaning.proofs.RootLemmas.{one_root}
use Rattle.ground_store.specs.Acts.{IsAgain}
use Rattle.ground_store.specs.Drawing.{IsOwn}
use Rattle.level_scan.specs.Causes.{LacksRoot, RootStop}
use Rattle.level_scan.specs.Levels.{IsNoDamage}
use Rattle.level_cache.specs.Tables.{AreRecordsAt}
use Rattle.level_cache.proofs.ShortNodes.{nodes_short}

-- ---- stops

pub root_own : (nodes : Nodes) (stop : Stop) → RootStop nodes stop → IsOwn stop
root_own nodes (Host fault) cause = cause
root_own nodes (Damaged name) cause = tt
root_own nodes Full cause = tt
root_own nodes NoMemory cause = tt

-- the answer to such a stop is such a stop
pub root_again : (nodes : Nodes) (stop answer : Stop) → RootStop nodes stop → IsAgain stop answer → RootStop nodes answer
root_again nodes (Host fault) answer cause again = absurd cause
root_again nodes (Damaged name) answer cause (inl is) = subst (RootStop nodes) (sym is) cause
root_again nodes (Damaged name) answer cause (inr is) = subst (RootStop nodes) (sym is) tt
root_again nodes Full answer cause again = absurd cause
root_again nodes NoMemory answer cause again = subst (RootStop nodes) (sym again) tt

-- ---- a store that is read

module _ (image : Image) (store : StoreValue) (named : store.name ≡ nodes_name) (stored : IsStored store image) (known : Ground) (reading : Reading) (of : IsGroundOf image known) (is : IsReadingOf known reading) where
  same_nodes : known.nodes ≡ store.nodes
  same_nodes = one_nodes nodes_name image known.nodes store.nodes of.nodes (subst (λ n. HasNodes n image store.nodes) named (stored_has store image stored))

  own_root : IsRootRecord store.nodes reading.root
  own_root = subst (λ (nodes : Nodes). IsRootRecord nodes reading.root) same_nodes is.root

  -- the nodes have no other root record than the reading's
  pub root_is : (root : TabletRecord) → IsRootRecord store.nodes root → root ≡ reading.root
  root_is root other = one_root store.nodes root reading.root other own_root

  never_lacking : LacksRoot store.nodes → ⊥
  never_lacking (inl none) = none.none reading.root own_root
  never_lacking (inr long) =
      let short : length long.node.value < 2 ^ 32 = (nodes_short nodes_name image known.nodes of.nodes).each root_path long.node (ap (λ (nodes : Nodes). map.get nodes root_path) same_nodes ∙ long.there) in omega (arith, short, long.long)

  pub root_undamaged : (stop : Stop) → RootStop store.nodes stop → IsNoDamage stop
  root_undamaged (Host fault) cause = absurd cause
  root_undamaged (Damaged name) cause = never_lacking cause.1
  root_undamaged Full cause = cause
  root_undamaged NoMemory cause = tt

-- ---- its table

module _ (root : TabletRecord) (at : IsRecordAt root_id None root) where
  -- it is the record of the last tablet
  pub root_last : rows_of root_id (root ∷ []) None ≡ Some root
  root_last = ap (λ b. cond b (Some root) None) (named-from root_id None root at.table_is at.end_is)

  -- no other end row has one
  pub root_none : (end : List ℕ) → rows_of root_id (root ∷ []) (Some end) ≡ None
  root_none end = ap (λ b. cond b (Some root) None) (ap (λ o. same root.table root_id && same_end o (Some end)) at.end_is) ∙ by (same root.table root_id)
    where
      by : (b : Bool) → cond (b && false) (Some root) None ≡ None
      by true = refl
      by false = refl

  pub root_listed : AreRecordsAt (rows_of root_id (root ∷ [])) (root ∷ [])
  root_listed = record { each = λ tablet. (there tablet, back tablet); order = refl }
    where
      there : (tablet : TabletRecord) → Contains (root ∷ []) tablet → rows_of root_id (root ∷ []) tablet.end ≡ Some tablet
      there tablet has = elim (Contains-cons_cases root tablet [] has) [
        | inl same ↦ subst (λ (t : TabletRecord). rows_of root_id (root ∷ []) t.end ≡ Some t) same (ap (rows_of root_id (root ∷ [])) at.end_is ∙ root_last)
        | inr more ↦ absurd (Contains-nil tablet more)
      ]

      by : (tablet : TabletRecord) (b : Bool) → cond b (Some root) None ≡ Some tablet → root ≡ tablet
      by tablet true e = let both : Some root ≡ Some tablet = e in cc
      by tablet false e = absurd (let wrong : None ≡ Some tablet = e in cc)

      back : (tablet : TabletRecord) → rows_of root_id (root ∷ []) tablet.end ≡ Some tablet → Contains (root ∷ []) tablet
      back tablet e = subst (Contains (root ∷ [])) (by tablet (is_named root_id tablet.end root) e) (Contains-here root [])
