-- A new file leaves what is kept so.
use Rattle.std.proofs.Common.{◌≡◌, inl, inr, ⊎_elim, ℕ, ◌+◌, List, Some, sym, subst, arith}
use Rattle.std.proofs.lemmas.Option.{same_Some}
use Rattle.host_model.specs.Picture.{Image}
use Rattle.host_model.proofs.Images.{step_of}
use Rattle.row_keys.specs.Forms.{IsTableId}
use Rattle.plain_model.specs.State.{PlainState}
use Rattle.metadata_schema.specs.Paths.{IsDirectory, IsFilePath}
use Rattle.cell_merge.specs.declared.cell.Cell.{Cell}
use Rattle.node_store.specs.Nodes.{Nodes}
use Rattle.node_store.specs.Image.{HasNodes, IsStored}
use Rattle.node_store.specs.Steps.{OthersStay, HasApplied}
use Rattle.node_store.specs.Value.{StoreValue}
use Rattle.node_store.proofs.ImageLemmas.{one_nodes, stored_has}
use Rattle.data_files.specs.Files.{HoldsCells, spelled_file}
use Rattle.store_layout.specs.Names.{nodes_name, file_of}
use Rattle.store_layout.specs.Nodes.{draw_ops, next_name_path}
use Rattle.store_layout.specs.Tables.{Catalog}
use Rattle.store_meaning.specs.Ground.{Ground, IsGroundOf, with_nodes}
use Rattle.store_meaning.specs.Levels.{Reading}
use Rattle.store_meaning.specs.Marked.{IsFileCounted}
use Rattle.store_meaning.specs.Kept.{IsKept, IsKeptAs}
use Rattle.store_meaning.proofs.ChangeLemmas.{nodes_changed, file_changed}
use Rattle.store_meaning.proofs.UnnamedLemmas as unnamed
use Rattle.kept_meaning.specs.Drawn.{IsNewName}
use Rattle.kept_meaning.proofs.CounterLemmas.{counter_draws}
use Rattle.kept_meaning.proofs.DrawnLemmas.{one_next, new_name}
use Rattle.kept_meaning.proofs.ImageLemmas.{file_kept}
use Rattle.kept_meaning.proofs.NodeLemmas.{drawn_kept}
use Rattle.ground_store.specs.Drawing.{HasDrawn, IsDrawn}
use Rattle.new_files.specs.declared.kinds.FileKind.{FileKind}
use Rattle.new_files.specs.Names.{new_path}
use Rattle.new_files.specs.Putting.{PutsNew, MayDrawFirst, DrawsFirst, MayPutNew}
use Rattle.new_files.specs.Written.{IsWrittenIn, with_file}
use Rattle.new_files.proofs.PathLemmas.{path_form, path_number}
use Rattle.new_files.proofs.DrawLemmas.{has_drawn, raises}

-- ---- a ground whose number is drawn

module _ (reading : Reading) (catalog : Catalog) (known : Ground) (state : PlainState) (kept : IsKeptAs reading catalog known state) (number : ℕ) (nodes : Nodes) (drawn : HasDrawn number known.nodes nodes) where
  pub number_kept : IsKeptAs reading catalog (with_nodes known nodes) state
  number_kept = drawn_kept reading catalog known state nodes (counter_draws known.nodes nodes next_name_path (raises known.nodes nodes number drawn)) kept

  pub fresh : IsNewName reading catalog known.nodes number
  fresh = new_name reading catalog known state kept number number drawn.was (omega arith)

  module _ (table dir : List ℕ) (kind : FileKind) (is_id : IsTableId table) (is_dir : IsDirectory dir) where
    pub form : IsFilePath (new_path table dir kind number)
    form = path_form table dir kind number is_id is_dir drawn.was.value.most

    -- nothing counts the file
    pub uncounted : IsFileCounted reading catalog (new_path table dir kind number) → ⊥
    uncounted counted = fresh.files (new_path table dir kind number) (inl counted) form (path_number table dir kind number is_id is_dir drawn.was.value.most form)

-- ---- images

module _ (old : Image) (reading : Reading) (catalog : Catalog) (known : Ground) (state : PlainState) (of : IsGroundOf old known) (kept : IsKeptAs reading catalog known state) (store : StoreValue) (named : store.name ≡ nodes_name) (stored : IsStored store old) where
  same_nodes : store.nodes ≡ known.nodes
  same_nodes = one_nodes nodes_name old store.nodes known.nodes (subst (λ n. HasNodes n old store.nodes) named (stored_has store old stored)) of.nodes

  own_drawn : (number : ℕ) (nodes : Nodes) → HasDrawn number store.nodes nodes → HasDrawn number known.nodes nodes
  own_drawn number nodes drawn = subst (λ ns. HasDrawn number ns nodes) same_nodes drawn

  -- the nodes that an image with its number drawn has
  pub applied_drawn : (number : ℕ) (made : Image) → IsDrawn store.nodes number → (applied : HasApplied (draw_ops next_name_path number) store made) → HasDrawn number known.nodes applied.after
  applied_drawn number made drawn applied = own_drawn number applied.after (has_drawn store.nodes applied.after number drawn applied.applies)

  pub made_ground : (made : Image) (nodes : Nodes) → OthersStay store.name old made → HasNodes store.name made nodes → IsGroundOf made (with_nodes known nodes)
  made_ground made nodes others has = nodes_changed old made known nodes of (subst (λ n. OthersStay n old made) named others) (subst (λ n. HasNodes n made nodes) named has)

  number_drawn : (number : ℕ) (made : Image) → IsDrawn store.nodes number → OthersStay store.name old made → HasApplied (draw_ops next_name_path number) store made → IsKept made state
  number_drawn number made drawn others applied = record {
    known = with_nodes known applied.after;
    of = made_ground made applied.after others applied.has;
    reading = reading;
    catalog = catalog;
    kept = number_kept reading catalog known state kept number applied.after (applied_drawn number made drawn applied);
  }

  pub nodes_stayed : (made : Image) → OthersStay store.name old made → HasNodes store.name made store.nodes → IsKept made state
  nodes_stayed made others has = record {
    known = with_nodes known known.nodes;
    of = made_ground made known.nodes others (subst (HasNodes store.name made) same_nodes has);
    reading = reading;
    catalog = catalog;
    kept = kept;
  }

  pub draws_first : (new : Image) → MayDrawFirst store old new → IsKept new state
  draws_first new may = ⊎_elim
      (λ keeps. nodes_stayed new may.gives.others keeps.has)
      (λ applied. number_drawn may.number new may.drawn may.gives.others applied)
      (may.gives.nodes stored)

  module _ (table dir : List ℕ) (kind : FileKind) (is_id : IsTableId table) (is_dir : IsDirectory dir) where
    file_torn : (new : Image) → DrawsFirst table dir kind store old new → IsKept new state
    unfolding number_drawn
    file_torn new draws =
        let applied = draws.gives.nodes stored in
        let has = applied_drawn draws.number draws.made draws.drawn applied in
        unnamed.file_kept draws.made new state (number_drawn draws.number draws.made draws.drawn draws.gives.others applied) (new_path table dir kind draws.number)
        (form reading catalog known state kept draws.number applied.after has table dir kind is_id is_dir) (uncounted reading catalog known state kept draws.number applied.after has table dir kind is_id is_dir) draws.writes

    pub may_put_keeps : (new : Image) → MayPutNew table dir kind store old new → IsKept new state
    may_put_keeps new (inl stays) = subst (λ image. IsKept image state) (sym stays) (record { known = known; of = of; reading = reading; catalog = catalog; kept = kept })
    may_put_keeps new (inr (inl may)) = draws_first new may
    may_put_keeps new (inr (inr draws)) = file_torn new draws

    module _ (cells : List Cell) (new : Image) (puts : PutsNew table dir kind cells store old new) where
      abbrev path : List ℕ
      path = new_path table dir kind puts.number

      abbrev applied : HasApplied (draw_ops next_name_path puts.number) store puts.made
      applied = puts.gives.nodes stored

      has_number : HasDrawn puts.number known.nodes applied.after
      has_number = applied_drawn puts.number puts.made puts.drawn applied

      holds : HoldsCells (file_of path) cells new
      holds = record { bytes = spelled_file cells; there = step_of puts.writes; file = puts.file }

      is_form : IsFilePath path
      is_form = form reading catalog known state kept puts.number applied.after has_number table dir kind is_id is_dir

      apart : IsFileCounted reading catalog path → ⊥
      apart = uncounted reading catalog known state kept puts.number applied.after has_number table dir kind is_id is_dir

      pub put_told : IsWrittenIn reading catalog known state table dir kind cells new
      put_told = record {
        number = puts.number;
        nodes = applied.after;
        drawn = has_number;
        fresh = fresh reading catalog known state kept puts.number applied.after has_number;
        of = file_changed puts.made new (with_nodes known applied.after) (made_ground puts.made applied.after puts.gives.others applied.has) path (Some cells) is_form puts.writes
            (λ other is. subst (λ cs. HoldsCells (file_of path) cs new) (same_Some _ _ is) holds);
        kept = file_kept reading catalog (with_nodes known applied.after) state path (Some cells) apart (number_kept reading catalog known state kept puts.number applied.after has_number);
        uncounted = apart;
        named = λ any next counter.
            let one = one_next applied.after next_name_path next (puts.number + 1) counter has_number.is in
            let spelled = path_number table dir kind puts.number is_id is_dir has_number.was.value.most any in
            omega (arith, one, spelled);
      }

      pub put_keeps : IsKept new state
      put_keeps = let told = put_told in record { known = with_file known told.nodes (new_path table dir kind told.number) cells; of = told.of; reading = reading; catalog = catalog; kept = told.kept }
