-- The changes with which a server starts.
use Rattle.std.proofs.Common.{◌≡◌, ◌≢◌, ◌⊎◌, inl, inr, ⊎_elim, ℕ, ◌+◌, ◌^◌, ◌≤◌, List, [], ◌∷◌, get_or, None, Result, Ok, Err, refl, sym, ◌∙◌, ap, subst, arith}
use Rattle.std.specs.Fmt.{decimal}
use Rattle.host_model.specs.State.{HostState}
use Rattle.host_model.specs.declared.fault.Stop.TheVariants.{Full}
use Rattle.node_store.specs.declared.changes.NodeOp.{NodeOp}
use Rattle.node_store.specs.declared.changes.NodeOp.TheVariants.{Set}
use Rattle.node_store.specs.declared.changes.NodeStop.{NodeStop}
use Rattle.node_store.specs.declared.changes.NodeStop.TheVariants.{Exists, Missing, Version, Stop}
use Rattle.node_store.specs.Nodes.{Nodes, applied, multi_applied}
use Rattle.node_store.specs.Value.{StoreValue}
use Rattle.node_store.specs.Answers.{IsFull, MultiCause, IsRefusal, AnswersOrNoMemory}
use Rattle.store_layout.specs.Nodes.{IsNext, next_session_path}
use Rattle.kept_meaning.proofs.DrawnLemmas.{one_next}
use Rattle.server_nodes.specs.Sessions.{session_of, log_of, server_path, log_path}
use Rattle.server_nodes.specs.Starting.{start_ops, put_op, IsDrawable, IsStartFull}
use Rattle.server_nodes.specs.Started.{HasStarted}
use Rattle.server_nodes.proofs.PutLemmas.{MadeOrFull, made_then, GivesValue, set_made, put_made}

-- ---- paths that are apart

second : List ℕ → ℕ
second path = get_or path 1 0

log_is_no_counter : (session : List ℕ) → log_path session ≢ next_session_path
unfolding second
log_is_no_counter session is = absurd (let e : second (log_path session) ≡ second next_session_path = ap second is in let n : 108 ≡ 110 = e in omega (arith, n))

server_is_no_counter : (name : List ℕ) → server_path name ≢ next_session_path
unfolding second
server_is_no_counter name is = absurd (let e : second (server_path name) ≡ second next_session_path = ap second is in let n : 115 ≡ 110 = e in omega (arith, n))

server_is_no_log : (name session : List ℕ) → server_path name ≢ log_path session
unfolding second
server_is_no_log name session is = absurd (let e : second (server_path name) ≡ second (log_path session) = ap second is in let n : 115 ≡ 108 = e in omega (arith, n))

-- ---- the changes are made

module _ (nodes : Nodes) (name : List ℕ) (number : ℕ) where
  abbrev session : List ℕ
  session = session_of number

  all_put : (one two three : Nodes) → GivesValue next_session_path (decimal (number + 1)) nodes one → GivesValue (log_path session) (log_of session) one two → GivesValue (server_path name) session two three
      → HasStarted name number nodes three
  all_put one two three a b c = record {
    counter = record { node = a.has.node; there = c.others next_session_path (λ is. server_is_no_counter name (sym is)) ∙ b.others next_session_path (λ is. log_is_no_counter session (sym is)) ∙ a.has.there; is = a.has.is };
    log = record { node = b.has.node; there = c.others (log_path session) (λ is. server_is_no_log name session (sym is)) ∙ b.has.there; is = b.has.is };
    server = c.has;
    others = λ path no_counter no_log no_server. c.others path no_server ∙ b.others path no_log ∙ a.others path no_counter;
  }

  third : (one two : Nodes) → GivesValue next_session_path (decimal (number + 1)) nodes one → GivesValue (log_path session) (log_of session) one two
      → MadeOrFull (multi_applied (put_op nodes (server_path name) session ∷ []) two) (HasStarted name number nodes)
  third one two a b = made_then (applied (put_op nodes (server_path name) session) two) (λ after. Ok after)
      (put_made nodes two (server_path name) session (b.others (server_path name) (server_is_no_log name session) ∙ a.others (server_path name) (server_is_no_counter name)))
      (λ three c. inl (three, refl, all_put one two three a b c))

  behind : (one : Nodes) → GivesValue next_session_path (decimal (number + 1)) nodes one
      → MadeOrFull (multi_applied (put_op nodes (log_path session) (log_of session) ∷ put_op nodes (server_path name) session ∷ []) one) (HasStarted name number nodes)
  behind one a = made_then (applied (put_op nodes (log_path session) (log_of session)) one) (λ after. multi_applied (put_op nodes (server_path name) session ∷ []) after)
      (put_made nodes one (log_path session) (log_of session) (a.others (log_path session) (log_is_no_counter session))) (λ two b. third one two a b)

  pub start_made : IsNext nodes next_session_path number → MadeOrFull (multi_applied (start_ops nodes name number) nodes) (HasStarted name number nodes)
  start_made next = made_then (applied (Set next_session_path (decimal (number + 1)) None) nodes)
      (λ after. multi_applied (put_op nodes (log_path session) (log_of session) ∷ put_op nodes (server_path name) session ∷ []) after)
      (set_made nodes next_session_path (decimal (number + 1)) next.node next.there) (λ one a. behind one a)

  -- once they are made, this is what they made
  pub has_started : (after : Nodes) → IsNext nodes next_session_path number → multi_applied (start_ops nodes name number) nodes ≡ Ok after → HasStarted name number nodes after
  has_started after next done = ⊎_elim
      (λ made. let same : made.0 ≡ after = same_ok (sym made.1 ∙ done) in subst (HasStarted name number nodes) same made.2)
      (λ full. absurd (no_ok (sym full ∙ done)))
      (start_made next)
    where
      same_ok : {a b : Nodes} → ◌≡◌ {A = Result Nodes NodeStop} (Ok a) (Ok b) → a ≡ b
      same_ok is = cc

      no_ok : {stop : NodeStop} {b : Nodes} → ◌≡◌ {A = Result Nodes NodeStop} (Err stop) (Ok b) → ⊥
      no_ok is = cc

-- they are refused for want of room alone
pub not_refused : (nodes : Nodes) (name : List ℕ) (number : ℕ) (ops : List NodeOp) (stop : NodeStop) → IsNext nodes next_session_path number → ops ≡ start_ops nodes name number → multi_applied ops nodes ≡ Err stop → stop ≡ Stop Full
not_refused nodes name number ops stop next are refused = ⊎_elim
    (λ made. absurd (let ok : multi_applied (start_ops nodes name number) nodes ≡ Ok made.0 = made.1 in let err : multi_applied (start_ops nodes name number) nodes ≡ Err stop = ap (λ l. multi_applied l nodes) (sym are) ∙ refused in cc))
    (λ full. let err : multi_applied (start_ops nodes name number) nodes ≡ Err stop = ap (λ l. multi_applied l nodes) (sym are) ∙ refused in let is : multi_applied (start_ops nodes name number) nodes ≡ Err (Stop Full) = full in cc)
    (start_made nodes name number next)

-- where the number is the last one or there is no room, the changes aren't made
pub full_not_made : (name : List ℕ) (store : StoreValue) (number : ℕ) (ops : List NodeOp) → IsDrawable store.nodes number → ops ≡ start_ops store.nodes name number → IsStartFull name store → IsFull ops store
full_not_made name store number ops plan are full = at full.full
  where
    same : full.number ≡ number
    same = one_next store.nodes next_session_path full.number number full.next plan.next

    at : (2 ^ 63 ≤ full.number + 1) ⊎ IsFull (start_ops store.nodes name full.number) store → IsFull ops store
    at (inl late) = absurd (omega (arith, same, late, plan.more))
    at (inr none) = subst (λ l. IsFull l store) (sym are) (subst (λ n. IsFull (start_ops store.nodes name n) store) same none)

pub not_full : {T : Type 0} (u : T) → AnswersOrNoMemory {T = T} (Err (Stop Full)) (Ok u) → ⊥
not_full u answers = ⊎_elim (λ same. cc) (λ same. cc) answers.either

-- ---- a refusal

-- a refused multi has to be refused so
refused_so : (ops : List NodeOp) (store : StoreValue) (stop : NodeStop) (old new : HostState) → MultiCause ops store stop old new → IsRefusal stop → multi_applied ops store.nodes ≡ Err stop
refused_so ops store Exists old new cause refusal = cause
refused_so ops store Missing old new cause refusal = cause
refused_so ops store (Version found) old new cause refusal = cause
refused_so ops store (Stop stop) old new cause refusal = absurd refusal

-- changes that are made or lack room aren't refused
pub never_refused : (ops : List NodeOp) (store : StoreValue) (stop : NodeStop) (old new : HostState) → ((other : NodeStop) → multi_applied ops store.nodes ≡ Err other → other ≡ Stop Full) → MultiCause ops store stop old new → IsRefusal stop → ⊥
never_refused ops store stop old new full cause refusal = subst IsRefusal (full stop (refused_so ops store stop old new cause refusal)) refusal
