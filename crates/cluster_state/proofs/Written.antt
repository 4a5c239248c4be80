-- Stations in which a data file is written under a drawn name.
use Rattle.std.proofs.Common.{◌≡◌, inl, ℕ, Bool, true, false, cond, is_some, List, codes, Some, None, Result, Ok, Err, IfOk, refl, sym, ◌∙◌, ap, subst}
use Rattle.std.specs.FinMap as map
use Rattle.std.proofs.lemmas.Option.{none-some}
use Rattle.host_model.specs.Picture.{Image}
use Rattle.host_model.specs.State.{HostState}
use Rattle.host_model.specs.declared.fault.Stop.{Stop}
use Rattle.plain_model.specs.State.{PlainState}
use Rattle.metadata_schema.specs.Bytes.{same}
use Rattle.cell_merge.specs.declared.cell.Cell.{Cell}
use Rattle.level_rows.proofs.EndLemmas.{same-true}
use Rattle.node_store.specs.Nodes.{Nodes}
use Rattle.store_layout.specs.Tables.{Catalog}
use Rattle.store_meaning.specs.Ground.{Ground}
use Rattle.store_meaning.specs.Levels.{Reading}
use Rattle.store_meaning.specs.InUse.{IsFileInUse}
use Rattle.ground_store.specs.Value.{GroundValue}
use Rattle.ground_store.specs.Acts.{Acts, stop_of}
use Rattle.ground_store.specs.Drawing.{HasDrawn}
use Rattle.server_list.specs.Servers.{Servers}
use Rattle.server_nodes.specs.Sessions.{log_of, log_path, server_path}
use Rattle.new_files.specs.declared.kinds.FileKind.{FileKind}
use Rattle.new_files.specs.declared.putting.NewFile.{NewFile}
use Rattle.new_files.specs.Names.{new_path}
use Rattle.new_files.specs.Written.{IsNewFile, IsWrittenIn, with_file}
use Rattle.new_files.proofs.DrawLemmas.{raises}
use Rattle.cluster_state.specs.Value.{ClusterValue}
use Rattle.cluster_state.specs.Served.{IsCluster}
use Rattle.cluster_state.specs.Station.{IsStationOf, HasOpenLog}
use Rattle.cluster_state.proofs.OpenLogs.{sorted_path, log_no_counter, server_no_counter, sorted_no_counter, still_has, still_open}
use Rattle.cluster_state.proofs.Moved.{moved_station}

-- the servers have their nodes and logs still
pub drawn_cluster : {H : Type 0} (old new : GroundValue H) (servers : Servers) (number : ℕ) → HasDrawn number old.nodes.nodes new.nodes.nodes → new.logs ≡ old.logs → IsCluster old servers → IsCluster new servers
drawn_cluster old new servers number drawn logs is = record {
  served = λ server there.
      let own = is.served server there in
      record {
        node = still_has old.nodes.nodes new.nodes.nodes (server_path server.name) server.session ((raises old.nodes.nodes new.nodes.nodes number drawn).others (server_path server.name) (server_no_counter server.name (codes "name"))) own.node;
        log = ap (λ l. is_some (map.get l (log_of server.session))) logs ∙ own.log;
      };
  apart = is.apart;
}

-- a log is open still
pub drawn_open : (old new : Nodes) (number : ℕ) → HasDrawn number old new → (session : List ℕ) → HasOpenLog old session → HasOpenLog new session
drawn_open old new number drawn session = still_open old new session
    ((raises old new number drawn).others (log_path session) (log_no_counter session (codes "name")))
    ((raises old new number drawn).others (sorted_path (log_of session)) (sorted_no_counter (log_of session) (codes "name")))

-- so where the file was written; where it wasn't, the ground has stopped
pub file_cluster : {H : Type 0} (state : H → HostState) {D A : Image → Image → Type 0} (table dir : List ℕ) (kind : FileKind) (cells : List Cell) (old new : GroundValue H) (servers : Servers) (result : Result NewFile Stop) → Acts state D A (stop_of result) old new
    → old.stopped ≡ None → IsCluster old servers → IfOk result (λ file. IsNewFile table dir kind cells file old.nodes.nodes new.nodes.nodes) → new.logs ≡ old.logs → new.stopped ≡ None → IsCluster new servers
file_cluster state table dir kind cells old new servers (Ok file) acts ran was written logs runs = drawn_cluster old new servers written.number written.drawn logs was
file_cluster state table dir kind cells old new servers (Err stop) acts ran was written logs runs = absurd (let kept = (acts.goes ran).goes_on in none-some kept.own (sym runs ∙ kept.is))

module _ {H : Type 0} (state : H → HostState) (reading : Reading) (catalog : Catalog) (known : Ground) (plain : PlainState) (table dir : List ℕ) (kind : FileKind) (cells : List Cell) (old new : ClusterValue H) (beside : new ≡ record old { base = new.base })
    (is : IsStationOf state old reading catalog known plain) (runs : new.base.stopped ≡ None) (written : IsWrittenIn reading catalog known plain table dir kind cells (state new.base.host).files) where
  abbrev path : List ℕ
  path = new_path table dir kind written.number

  abbrev now : Ground
  now = with_file known written.nodes path cells

  -- what is told of a file in use stays
  told_still : (other : List ℕ) → IsFileInUse reading other → now.cells_of other ≡ known.cells_of other
  told_still other used = by (same other path) refl
    where
      by : (b : Bool) → same other path ≡ b → cond b (Some cells) (known.cells_of other) ≡ known.cells_of other
      by true at = absurd (written.uncounted (inl (subst (IsFileInUse reading) (same-true other path at) used)))
      by false at = refl

  pub written_station : IsStationOf state new reading catalog now plain
  written_station = moved_station state reading catalog known plain old new beside is runs now catalog plain
      (record { files = told_still; logs = λ log named. refl })
      (λ server there. drawn_open known.nodes written.nodes written.number written.drawn server.session (is.logs server there))
      written.of
      written.kept
