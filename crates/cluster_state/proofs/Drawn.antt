-- A number of a name is drawn.
use Rattle.std.proofs.Common.{◌≡◌, inl, inr, ℕ, None, Result, Ok, Err, IfOk, refl, sym, ◌∙◌, subst}
use Rattle.std.proofs.lemmas.Option.{none-some}
use Rattle.host_model.specs.Picture.{Image}
use Rattle.host_model.specs.State.{HostState}
use Rattle.host_model.specs.declared.fault.Stop.{Stop}
use Rattle.plain_model.specs.State.{PlainState}
use Rattle.node_store.specs.Image.{IsStored}
use Rattle.node_store.specs.Steps.{MayGive, HasApplied}
use Rattle.node_store.specs.Value.{StoreValue}
use Rattle.store_layout.specs.Names.{nodes_name}
use Rattle.store_layout.specs.Nodes.{draw_ops, next_name_path}
use Rattle.store_layout.specs.Tables.{Catalog}
use Rattle.store_meaning.specs.Ground.{Ground, with_nodes}
use Rattle.store_meaning.specs.Levels.{Reading}
use Rattle.store_meaning.specs.Kept.{IsKept}
use Rattle.kept_meaning.proofs.DrawnLemmas.{one_next}
use Rattle.ground_store.specs.Value.{GroundValue}
use Rattle.ground_store.specs.Acts.{Acts, stop_of}
use Rattle.ground_store.specs.Drawing.{Draws, HasDrawn, IsDrawn, MayDraw}
use Rattle.new_files.proofs.KeptFiles.{applied_drawn, draws_first, made_ground, number_kept}
use Rattle.server_list.specs.Servers.{Servers}
use Rattle.cluster_state.specs.Value.{ClusterValue}
use Rattle.cluster_state.specs.Served.{IsCluster}
use Rattle.cluster_state.specs.Station.{IsStationOf}
use Rattle.cluster_state.proofs.Moved.{moved_station}
use Rattle.cluster_state.proofs.Written.{drawn_cluster, drawn_open}

module _ (store : StoreValue) (named : store.name ≡ nodes_name) (number : ℕ) (drawn : IsDrawn store.nodes number) (old : Image) (stored : IsStored store old) (new : Image) where
  -- whether it is drawn or not
  pub may_draw_keeps : MayDraw store old new → (plain : PlainState) → IsKept old plain → IsKept new plain
  may_draw_keeps (inl stays) plain is = subst (λ image. IsKept image plain) (sym stays) is
  may_draw_keeps (inr half) plain is = draws_first old is.reading is.catalog is.known plain is.of is.kept store named stored new (record {
    number = number;
    drawn = drawn;
    gives = subst (λ n. MayGive (draw_ops next_name_path n) store old new) (one_next store.nodes next_name_path half.number number half.next drawn.next) half.gives;
  })

  -- where it is drawn
  pub draw_keeps : Draws store old new → (plain : PlainState) → IsKept old plain → IsKept new plain
  draw_keeps draws plain is = may_draw_keeps (inr (record { number = draws.number; next = draws.next; gives = record { others = draws.gives.others; nodes = λ s. inr (draws.gives.nodes s) } })) plain is

-- the cluster then; where none was drawn, the ground has stopped
pub draw_cluster : {H : Type 0} (state : H → HostState) {D A : Image → Image → Type 0} (old new : GroundValue H) (servers : Servers) (result : Result ℕ Stop) → Acts state D A (stop_of result) old new → old.stopped ≡ None → IsCluster old servers
    → IfOk result (λ number. HasDrawn number old.nodes.nodes new.nodes.nodes) → new.logs ≡ old.logs → new.stopped ≡ None → IsCluster new servers
draw_cluster state old new servers (Ok number) acts ran was drawn logs runs = drawn_cluster old new servers number drawn logs was
draw_cluster state old new servers (Err stop) acts ran was drawn logs runs = absurd (let kept = (acts.goes ran).goes_on in none-some kept.own (sym runs ∙ kept.is))

module _ {H : Type 0} (state : H → HostState) (reading : Reading) (catalog : Catalog) (known : Ground) (plain : PlainState) (old new : ClusterValue H) (beside : new ≡ record old { base = new.base })
    (is : IsStationOf state old reading catalog known plain) (runs : new.base.stopped ≡ None) (store : StoreValue) (named : store.name ≡ nodes_name) (stored : IsStored store (state old.base.host).files)
    (draws : Draws store (state old.base.host).files (state new.base.host).files) (number : ℕ) (drawn : IsDrawn store.nodes number) where
  abbrev applied : HasApplied (draw_ops next_name_path draws.number) store (state new.base.host).files
  applied = draws.gives.nodes stored

  own_number : IsDrawn store.nodes draws.number
  own_number = subst (IsDrawn store.nodes) (one_next store.nodes next_name_path number draws.number drawn.next draws.next) drawn

  has : HasDrawn draws.number known.nodes applied.after
  has = applied_drawn (state old.base.host).files reading catalog known plain is.of is.kept store named stored draws.number (state new.base.host).files own_number applied

  pub drawn_station : (now : Ground) × IsStationOf state new reading catalog now plain
  drawn_station = (
    with_nodes known applied.after,
    moved_station state reading catalog known plain old new beside is runs (with_nodes known applied.after) catalog plain
        (record { files = λ path used. refl; logs = λ log named. refl })
        (λ server there. drawn_open known.nodes applied.after draws.number has server.session (is.logs server there))
        (made_ground (state old.base.host).files reading catalog known plain is.of is.kept store named stored (state new.base.host).files applied.after draws.gives.others applied.has)
        (number_kept reading catalog known plain is.kept draws.number applied.after has),
  )
