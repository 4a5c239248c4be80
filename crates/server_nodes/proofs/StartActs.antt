-- A start, as one action behind another.
use Rattle.std.proofs.Common.{◌≡◌, inl, inr, ℕ, List, [], ◌∷◌, Some, None, subst}
use Rattle.host_model.specs.Picture.{Image}
use Rattle.host_model.specs.State.{HostState}
use Rattle.host_model.specs.Calls.{IsSound}
use Rattle.host_model.specs.declared.fault.Stop.{Stop}
use Rattle.node_store.specs.declared.changes.NodeOp.{NodeOp}
use Rattle.node_store.specs.Steps.{MayGive, Gives}
use Rattle.ground_store.specs.Value.{GroundValue}
use Rattle.ground_store.specs.Acts.{Acts}
use Rattle.ground_store.specs.Steps.{MayWrite, Writes}
use Rattle.ground_store.proofs.EventLemmas.{acts_then}
use Rattle.server_nodes.specs.Sessions.{session_of, log_of}
use Rattle.server_nodes.specs.Starting.{start_ops, IsDrawable, MayStart, Starts}

abbrev Change : Type 1
Change = Image → Image → Type 0

-- where an action stopped it may have led to anything
failed : {H : Type 0} (state : H → HostState) {D A : Change} (B : Change) {stop : Stop} {x y : GroundValue H} → Acts state D A (Some stop) x y → Acts state D B (Some stop) x y
failed state B acts = record {
  goes = λ runs. let own = acts.goes runs in record { quiet = own.quiet; tried = own.tried; done = λ f. tt; leaves = own.leaves; rests = own.rests; goes_on = own.goes_on };
  stays = acts.stays;
}

module _ {H : Type 0} (state : H → HostState) {x y : GroundValue H} (sound : IsSound (state x.host)) (name : List ℕ) (number : ℕ) (log : List ℕ) (ops : List NodeOp) (drawn : IsDrawable x.nodes.nodes number)
    (log_is : log ≡ log_of (session_of number)) (ops_are : ops ≡ start_ops x.nodes.nodes name number) (same : y.nodes ≡ x.nodes) (makes : Acts state (MayWrite log) (Writes log (0 ∷ [])) None x y) where
  made : Acts state (MayWrite (log_of (session_of number))) (Writes (log_of (session_of number)) (0 ∷ [])) None x y
  made = subst (λ l. Acts state (MayWrite l) (Writes l (0 ∷ [])) None x y) log_is makes

  abbrev own_ops : List NodeOp
  own_ops = start_ops x.nodes.nodes name number

  -- the log is made, and then the nodes are changed
  pub starts : {z : GroundValue H} → Acts state (MayGive ops y.nodes) (Gives ops y.nodes) None y z → Acts state (MayStart name x.nodes) (Starts name x.nodes) None x z
  starts {z} gives =
      let own : Acts state (MayGive own_ops x.nodes) (Gives own_ops x.nodes) None y z = subst (λ n. Acts state (MayGive own_ops n) (Gives own_ops n) None y z) same (subst (λ l. Acts state (MayGive l y.nodes) (Gives l y.nodes) None y z) ops_are gives) in
      acts_then state (MayStart name x.nodes) (Starts name x.nodes) sound made own
      (λ f i writes. inr (inl (record { number = number; drawn = drawn; writes = writes })))
      (λ f log_made i may. inr (inr (record { number = number; drawn = drawn; made = (state y.host).files; log = log_made; gives = may })))
      (λ f log_made given. record { number = number; drawn = drawn; made = (state y.host).files; log = log_made; gives = given })

  -- or they aren't
  pub starts_no_server : {stop : Stop} {A : Change} {z : GroundValue H} → Acts state (MayGive ops y.nodes) A (Some stop) y z → Acts state (MayStart name x.nodes) (Starts name x.nodes) (Some stop) x z
  starts_no_server {stop} {z = z} gives =
      let own : Acts state (MayGive own_ops x.nodes) (Gives own_ops x.nodes) (Some stop) y z =
      subst (λ n. Acts state (MayGive own_ops n) (Gives own_ops n) (Some stop) y z) same (subst (λ l. Acts state (MayGive l y.nodes) (Gives l y.nodes) (Some stop) y z) ops_are (failed state (Gives ops y.nodes) gives)) in
      acts_then state (MayStart name x.nodes) (Starts name x.nodes) sound made own
      (λ f i writes. inr (inl (record { number = number; drawn = drawn; writes = writes })))
      (λ f log_made i may. inr (inr (record { number = number; drawn = drawn; made = (state y.host).files; log = log_made; gives = may })))
      (λ f log_made given. record { number = number; drawn = drawn; made = (state y.host).files; log = log_made; gives = given })
