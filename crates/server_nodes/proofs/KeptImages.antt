-- Images in which a server starts.
use Rattle.std.proofs.Common.{◌≡◌, inl, inr, ⊎_elim, ℕ, List, [], ◌∷◌, Some, refl, sym, ◌∙◌, subst, arith}
use Rattle.std.proofs.lemmas.List.Elements.{All-nil}
use Rattle.std.proofs.lemmas.Option.{same_Some}
use Rattle.host_model.specs.Picture.{Image, file_at}
use Rattle.host_model.proofs.Images.{others_stay, step_of}
use Rattle.row_keys.specs.Forms.{IsLogName}
use Rattle.plain_model.specs.State.{PlainState}
use Rattle.node_store.specs.Image.{HasNodes, IsStored}
use Rattle.node_store.specs.Steps.{OthersStay, KeepsNodes, HasApplied}
use Rattle.node_store.specs.Value.{StoreValue}
use Rattle.node_store.proofs.ImageLemmas.{one_nodes, stored_has, others_dont_count}
use Rattle.log_files.specs.Logs.{HasLog}
use Rattle.store_layout.specs.Names.{nodes_name}
use Rattle.store_layout.proofs.NameLemmas.{log_is_no_nodes}
use Rattle.store_meaning.specs.Ground.{Ground, IsGroundOf, with_nodes}
use Rattle.store_meaning.specs.Kept.{IsKept}
use Rattle.store_meaning.proofs.ChangeLemmas.{nodes_changed, log_changed}
use Rattle.store_meaning.proofs.UnnamedLemmas as unnamed
use Rattle.ground_store.specs.Steps.{Writes}
use Rattle.server_nodes.specs.Sessions.{session_of, log_of}
use Rattle.server_nodes.specs.Starting.{start_ops, IsDrawable, Starts, MakesLog, MakesLogFirst, MayStart}
use Rattle.server_nodes.specs.Started.{HasStarted}
use Rattle.server_nodes.specs.Grounds.{IsStartedGround, started_ground}
use Rattle.server_nodes.proofs.DigitLemmas.{session_form}
use Rattle.server_nodes.proofs.StartLemmas.{has_started}
use Rattle.server_nodes.proofs.KeptStart.{fresh, logged, logged_kept, start_kept}

log_form : (number : ℕ) → IsLogName (log_of (session_of number))
log_form number = record { session = session_of number; is = refl; form = session_form number }

-- a new log has no mutation
new_log : (log : List ℕ) (image : Image) → file_at image log ≡ Some (0 ∷ []) → HasLog log [] image
new_log log image there = record {
  bytes = 0 ∷ [];
  there = there;
  is_log = record { records = record { gate = 0; rest = []; shut = λ is. omega (arith, is); is = refl; short = All-nil _ }; each = All-nil _ };
}

module _ (old : Image) (state : PlainState) (is : IsKept old state) (name : List ℕ) (store : StoreValue) (named : store.name ≡ nodes_name) (stored : IsStored store old) where
  same_nodes : store.nodes ≡ is.known.nodes
  same_nodes = one_nodes nodes_name old store.nodes is.known.nodes (subst (λ n. HasNodes n old store.nodes) named (stored_has store old stored)) is.of.nodes

  known_drawn : (number : ℕ) → IsDrawable store.nodes number → IsDrawable is.known.nodes number
  known_drawn number drawn = subst (λ nodes. IsDrawable nodes number) same_nodes drawn

  -- ---- the log is made

  log_torn : (new : Image) → MakesLog store old new → IsKept new state
  log_torn new makes =
      unnamed.log_kept old new state is (log_of (session_of makes.number)) (log_form makes.number) (fresh is.reading is.catalog is.known state is.kept makes.number (known_drawn makes.number makes.drawn)).in_use makes.writes

  module _ (number : ℕ) (drawn : IsDrawable store.nodes number) (made : Image) (writes : Writes (log_of (session_of number)) (0 ∷ []) old made) where
    abbrev told : Ground
    told = logged is.reading is.catalog is.known state is.kept number (known_drawn number drawn)

    made_told : IsGroundOf made told
    made_told = log_changed old made is.known is.of (log_of (session_of number)) (Some []) (log_form number) writes (λ mutations e.
        subst (λ ms. HasLog (log_of (session_of number)) ms made) (same_Some _ _ e) (new_log (log_of (session_of number)) made (step_of writes)))

    made_stored : IsStored store made
    made_stored = (others_dont_count store.name old made (record { each = λ file at. subst (λ n. file_at made n ≡ file_at old n) (sym (at ∙ named)) (others_stay nodes_name (log_is_no_nodes (log_of (session_of number)) (log_form number)) writes) })).stored store refl stored

    -- ---- the nodes are changed

    ground_started : (new : Image) → OthersStay store.name made new → HasApplied (start_ops store.nodes name number) store new → IsStartedGround name is.reading is.catalog is.known state new
    ground_started new others applied =
        let started : HasStarted name number is.known.nodes applied.after =
        subst (λ nodes. HasStarted name number nodes applied.after) same_nodes (has_started store.nodes name number applied.after drawn.next applied.applies) in
        record {
          number = number;
          drawn = known_drawn number drawn;
          fresh = fresh is.reading is.catalog is.known state is.kept number (known_drawn number drawn);
          nodes = applied.after;
          started = started;
          of = nodes_changed made new told applied.after made_told (subst (λ n. OthersStay n made new) named others) (subst (λ n. HasNodes n new applied.after) named applied.has);
          kept = start_kept is.reading is.catalog is.known state is.kept number (known_drawn number drawn) name applied.after started;
        }

    nodes_started : (new : Image) → OthersStay store.name made new → HasApplied (start_ops store.nodes name number) store new → IsKept new state
    nodes_started new others applied =
        let ground = ground_started new others applied in
        record { known = started_ground is.known ground.number ground.nodes; of = ground.of; reading = is.reading; catalog = is.catalog; kept = ground.kept }

    nodes_stayed : (new : Image) → OthersStay store.name made new → KeepsNodes store.name store.nodes made new → IsKept new state
    nodes_stayed new others keeps = record {
      known = with_nodes told is.known.nodes;
      of = nodes_changed made new told is.known.nodes made_told (subst (λ n. OthersStay n made new) named others) (subst (λ nodes. HasNodes nodes_name new nodes) same_nodes (subst (λ n. HasNodes n new store.nodes) named keeps.has));
      reading = is.reading;
      catalog = is.catalog;
      kept = logged_kept is.reading is.catalog is.known state is.kept number (known_drawn number drawn);
    }

  pub start_leaves : (new : Image) → Starts name store old new → IsStartedGround name is.reading is.catalog is.known state new
  start_leaves new starts = ground_started starts.number starts.drawn starts.made starts.log new starts.gives.others (starts.gives.nodes (made_stored starts.number starts.drawn starts.made starts.log))

  pub start_keeps : (new : Image) → Starts name store old new → IsKept new state
  start_keeps new starts = nodes_started starts.number starts.drawn starts.made starts.log new starts.gives.others (starts.gives.nodes (made_stored starts.number starts.drawn starts.made starts.log))

  log_first : (new : Image) → MakesLogFirst name store old new → IsKept new state
  log_first new makes = ⊎_elim
      (λ keeps. nodes_stayed makes.number makes.drawn makes.made makes.log new makes.gives.others keeps)
      (λ applied. nodes_started makes.number makes.drawn makes.made makes.log new makes.gives.others applied)
      (makes.gives.nodes (made_stored makes.number makes.drawn makes.made makes.log))

  pub may_start_keeps : (new : Image) → MayStart name store old new → IsKept new state
  may_start_keeps new (inl stays) = subst (λ image. IsKept image state) (sym stays) is
  may_start_keeps new (inr (inl makes)) = log_torn new makes
  may_start_keeps new (inr (inr makes)) = log_first new makes
