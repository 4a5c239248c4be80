-- A server that starts leaves what is kept so.
use Rattle.std.proofs.Common.{◌≡◌, ◌≢◌, ◌⊎◌, inl, inr, ⊎_elim, ℕ, ◌+◌, ◌<◌, ◌^◌, Bool, true, false, cond, List, [], ◌++◌, get_or, drop, codes, Option, Some, refl, sym, ◌∙◌, ap, subst, arith}
use Rattle.std.specs.FinMap as map
use Rattle.std.specs.FinMap.{get-insert}
use Rattle.std.specs.Cmp.Lexicographic.{nat_list_cmp_total}
use Rattle.std.proofs.lemmas.Cmp.{eq_by_cmp_equiv}
use Rattle.std.proofs.lemmas.Option.{same_Some}
use Rattle.plain_model.specs.State.{PlainState}
use Rattle.metadata_schema.specs.declared.mutation.Mutation.{Mutation}
use Rattle.metadata_schema.specs.Bytes.{same}
use Rattle.level_rows.proofs.EndLemmas.{same-true, same-refl}
use Rattle.node_store.specs.declared.changes.Node.{Node}
use Rattle.node_store.specs.Nodes.{Nodes}
use Rattle.store_layout.specs.Nodes.{IsNext, next_session_path, root_path}
use Rattle.store_layout.specs.Numbers.{base16_number}
use Rattle.store_layout.specs.Tables.{Catalog, table_path, staged_path}
use Rattle.store_meaning.specs.Ground.{Ground, with_told, with_nodes, with_mutations}
use Rattle.store_meaning.specs.Levels.{Reading}
use Rattle.store_meaning.specs.InUse.{IsLogInUse, IsListedLog, IsListedSorted}
use Rattle.store_meaning.specs.Naming.{NodesFit}
use Rattle.store_meaning.specs.Kept.{IsKeptAs, IsServerSession, IsLogSession}
use Rattle.store_meaning.proofs.CountedLemmas.{kept_same}
use Rattle.kept_meaning.specs.Drawn.{IsNewSession, IsSessionDrawn}
use Rattle.kept_meaning.specs.Nodes.{RaisesCounter}
use Rattle.kept_meaning.specs.Servers.{ChangesServers, IsLogDrawn}
use Rattle.kept_meaning.proofs.DrawnLemmas.{one_next, new_session}
use Rattle.kept_meaning.proofs.CounterLemmas.{counter_draws}
use Rattle.kept_meaning.proofs.NodeLemmas.{drawn_kept}
use Rattle.kept_meaning.proofs.ServerLemmas.{servers_kept}
use Rattle.server_nodes.specs.Sessions.{session_of, log_of, server_path, log_path}
use Rattle.server_nodes.specs.Starting.{IsDrawable}
use Rattle.server_nodes.specs.Started.{HasStarted}
use Rattle.server_nodes.proofs.DigitLemmas.{session_form, session_number}
use Rattle.server_nodes.proofs.PutLemmas.{not_same}

-- ---- paths

abbrev second : List ℕ → ℕ
second path = get_or path 1 0

abbrev third : List ℕ → ℕ
third path = get_or path 2 0

-- a path that doesn't begin as that of a log
no_log : (path session : List ℕ) (byte : ℕ) → second path ≡ byte → byte ≢ 108 → path ≢ log_path session
no_log path session byte is differs at = differs (sym is ∙ ap second at)

-- nor as that of a server
no_server : (path name : List ℕ) (byte : ℕ) → second path ≡ byte → byte ≢ 115 → path ≢ server_path name
no_server path name byte is differs at = differs (sym is ∙ ap second at)

no_server_third : (path name : List ℕ) (byte : ℕ) → third path ≡ byte → byte ≢ 101 → path ≢ server_path name
no_server_third path name byte is differs at = differs (sym is ∙ ap third at)

log_apart : (session : List ℕ) → log_path session ≢ next_session_path
log_apart session at = let n : 108 ≡ 110 = ap second at in omega (arith, n)

same_or_apart : (a b : List ℕ) → (a ≡ b) ⊎ (a ≢ b)
same_or_apart a b = by (same a b) refl
  where
    by : (t : Bool) → same a b ≡ t → (a ≡ b) ⊎ (a ≢ b)
    by true e = inl (same-true a b e)
    by false e = inr (λ at. (let wrong : true ≡ false = sym (same-refl b) ∙ ap (λ o. same o b) (sym at) ∙ e in cc))

session_in_path : (a b : List ℕ) → log_path a ≡ log_path b → a ≡ b
session_in_path a b at = ap (drop 6) at

-- ---- a ground that tells of the log

-- what is told of another log stays
told_elsewhere : (tells : List ℕ → Option (List Mutation)) (log : List ℕ) (told : Option (List Mutation)) (other : List ℕ) → other ≢ log → with_told tells log told other ≡ tells other
told_elsewhere tells log told other apart = by (same other log) refl
  where
    by : (b : Bool) → same other log ≡ b → cond b told (tells other) ≡ tells other
    by true e = absurd (apart (same-true other log e))
    by false e = refl

told_here : (tells : List ℕ → Option (List Mutation)) (log : List ℕ) (told : Option (List Mutation)) → with_told tells log told log ≡ told
told_here tells log told = ap (λ b. cond b told (tells log)) (same-refl log)

module _ (reading : Reading) (catalog : Catalog) (known : Ground) (state : PlainState) (kept : IsKeptAs reading catalog known state) where
  -- a log that isn't in use may be told otherwise
  pub log_kept : (log : List ℕ) (told : Option (List Mutation)) → (IsLogInUse known.nodes reading log → ⊥) → IsKeptAs reading catalog (with_mutations known log told) state
  log_kept log told unused = kept_same reading catalog known (with_mutations known log told) (record {
    in_use = record {
      nodes = refl;
      cells = λ path used. refl;
      mutations = λ other used. told_elsewhere known.mutations_of log told other (λ at. unused (subst (IsLogInUse known.nodes reading) at used));
      sorted = λ other used. refl;
    };
    of_nodes = λ path named. refl;
  }) state kept

  module _ (number : ℕ) (drawn : IsDrawable known.nodes number) where
    abbrev session : List ℕ
    session = session_of number

    small : number < 2 ^ 63
    small = let more = drawn.more in omega arith

    pub fresh : IsNewSession reading known.nodes session
    fresh = new_session reading catalog known state kept number session drawn.next (session_form number) (let spelled = session_number number small in omega arith)

    -- the log is made
    abbrev pub logged : Ground
    logged = with_mutations known (log_of session) (Some [])

    pub logged_kept : IsKeptAs reading catalog logged state
    logged_kept = log_kept (log_of session) (Some []) fresh.in_use

    module _ (name : List ℕ) (new : Nodes) (started : HasStarted name number known.nodes new) where
      -- ---- the number is drawn

      abbrev raised : Nodes
      raised = map.insert known.nodes next_session_path started.counter.node

      raised_there : map.get raised next_session_path ≡ Some started.counter.node
      raised_there = get-insert nat_list_cmp_total known.nodes next_session_path started.counter.node next_session_path
          ∙ ap (λ b. cond b (Some started.counter.node) (map.get known.nodes next_session_path)) ((eq_by_cmp_equiv nat_list_cmp_total).refl next_session_path)

      raised_counter : IsNext raised next_session_path (number + 1)
      raised_counter = record {
        node = started.counter.node;
        there = raised_there;
        value = record { is = started.counter.is; least = omega arith; most = drawn.more };
      }

      raised_elsewhere : (path : List ℕ) → path ≢ next_session_path → map.get raised path ≡ map.get known.nodes path
      raised_elsewhere path apart = get-insert nat_list_cmp_total known.nodes next_session_path started.counter.node path
          ∙ ap (λ b. cond b (Some started.counter.node) (map.get known.nodes path)) (not_same next_session_path path apart)

      raises : RaisesCounter known.nodes raised next_session_path
      raises = record {
        of = (codes "session", refl);
        raised = λ before is. (number + 1, raised_counter, let one = one_next known.nodes next_session_path before number is drawn.next in omega arith);
        others = raised_elsewhere;
      }

      raised_kept : IsKeptAs reading catalog (with_nodes logged raised) state
      raised_kept = drawn_kept reading catalog logged state raised (counter_draws known.nodes raised next_session_path raises) logged_kept

      -- ---- the nodes of the log and of the server come

      abbrev grown : Ground
      grown = with_nodes logged raised

      still : (path : List ℕ) → path ≢ log_path session → path ≢ server_path name → map.get new path ≡ map.get raised path
      still path apart_log apart_server = ⊎_elim
          (λ at. subst (λ p. map.get new p ≡ map.get raised p) (sym at) (started.counter.there ∙ sym raised_there))
          (λ apart. started.others path apart apart_log apart_server ∙ sym (raised_elsewhere path apart))
          (same_or_apart path next_session_path)

      other_log : (other : List ℕ) → log_path other ≢ log_path session → map.get new (log_path other) ≡ map.get raised (log_path other)
      other_log other apart = still (log_path other) apart (no_server (log_path other) name 108 refl (λ at. omega (arith, at)))

      other_server : (other : List ℕ) → server_path other ≢ server_path name → map.get new (server_path other) ≡ map.get raised (server_path other)
      other_server other apart = still (server_path other) (no_log (server_path other) session 115 refl (λ at. omega (arith, at))) apart

      sorted_still : (log : List ℕ) → map.get new (codes "/sorted/" ++ log) ≡ map.get raised (codes "/sorted/" ++ log)
      sorted_still log = still (codes "/sorted/" ++ log) (no_log (codes "/sorted/" ++ log) session 115 refl (λ at. omega (arith, at))) (no_server_third (codes "/sorted/" ++ log) name 111 refl (λ at. omega (arith, at)))

      sorted_before : (log : List ℕ) → IsListedSorted new log → IsListedSorted raised log
      sorted_before log is = record { node = is.node; there = sym (sorted_still log) ∙ is.there }

      -- the session's log had no node
      unlisted : (node : Node) → map.get raised (log_path session) ≡ Some node → ⊥
      unlisted node there = fresh.log (record { node = node; there = sym (raised_elsewhere (log_path session) (log_apart session)) ∙ there })

      -- a listed log is so still
      listed_still : (log : List ℕ) → IsListedLog raised log → IsListedLog new log
      listed_still log is = ⊎_elim
          (λ at. absurd (unlisted is.node (subst (λ p. map.get raised p ≡ Some is.node) at is.there)))
          (λ apart. record { session = is.session; node = is.node; there = other_log is.session apart ∙ is.there; is = is.is })
          (same_or_apart (log_path is.session) (log_path session))

      -- a listed log was so before, or is the session's
      listed_before : (log : List ℕ) → IsListedLog new log → IsListedLog raised log ⊎ (log ≡ log_of session)
      listed_before log is = ⊎_elim
          (λ at.
          let same_node = same_Some _ _ (sym (subst (λ p. map.get new p ≡ Some is.node) at is.there) ∙ started.log.there) in
          inr (sym is.is ∙ ap (λ (n : Node). n.value) same_node ∙ started.log.is))
          (λ apart. inl (record { session = is.session; node = is.node; there = sym (other_log is.session apart) ∙ is.there; is = is.is }))
          (same_or_apart (log_path is.session) (log_path session))

      session_drawn : (other : List ℕ) → other ≡ session → IsSessionDrawn raised other
      session_drawn other is next counter =
          let one = one_next raised next_session_path next (number + 1) counter raised_counter in let spelled = ap base16_number is ∙ session_number number small in omega arith

      log_drawn : (log : List ℕ) → log ≡ log_of session → IsLogDrawn raised log
      log_drawn log is form next counter = session_drawn form.session (ap (drop 4) (sym form.is ∙ is)) next counter

      sessions_before : (other : List ℕ) → IsServerSession new other ⊎ IsLogSession new other → (IsServerSession raised other ⊎ IsLogSession raised other) ⊎ IsSessionDrawn raised other
      sessions_before other (inl of) = ⊎_elim
          (λ at.
          let same_node = same_Some _ _ (sym (subst (λ p. map.get new p ≡ Some of.node) at of.there) ∙ started.server.there) in
          inr (session_drawn other (sym of.is ∙ ap (λ (n : Node). n.value) same_node ∙ started.server.is)))
          (λ apart. inl (inl (record { server = of.server; node = of.node; there = sym (other_server of.server apart) ∙ of.there; is = of.is })))
          (same_or_apart (server_path of.server) (server_path name))
      sessions_before other (inr of) = ⊎_elim
          (λ at. inr (session_drawn other (session_in_path other session at)))
          (λ apart. inl (inr (record { node = of.node; there = sym (other_log other apart) ∙ of.there })))
          (same_or_apart (log_path other) (log_path session))

      told_empty : (log : List ℕ) → log ≡ log_of session → grown.mutations_of log ≡ Some []
      told_empty log is = ap grown.mutations_of is ∙ told_here known.mutations_of (log_of session) (Some [])

      fits : NodesFit grown reading new
      fits = record {
        root = still root_path (no_log root_path session 114 refl (λ at. omega (arith, at))) (no_server root_path name 114 refl (λ at. omega (arith, at)));
        named = λ log of. listed_still log (raised_kept.stands.read.logs.named log of);
        sorted = λ log of. listed_still log (raised_kept.stands.read.logs.sorted log (sorted_before log of));
        logs = λ log of. ⊎_elim (λ was. inl was) (λ is. inr (record { value = []; is = told_empty log is })) (listed_before log of);
        sorted_logs = λ log of. inl (sorted_before log of);
      }

      changes : ChangesServers grown reading new
      changes = record {
        fit = fits;
        empty = λ log of. ⊎_elim (λ was. inl was) (λ is. inr (told_empty log is)) (listed_before log of);
        sessions = sessions_before;
        logs = λ log of. elim of [
          | inl listed ↦ ⊎_elim (λ was. inl (inl was)) (λ is. inr (log_drawn log is)) (listed_before log listed)
          | inr sorted ↦ inl (inr (sorted_before log sorted))
        ];
        tables = λ id. still (table_path id) (no_log (table_path id) session 116 refl (λ at. omega (arith, at))) (no_server (table_path id) name 116 refl (λ at. omega (arith, at)));
        staged = λ staged. still (staged_path staged) (no_log (staged_path staged) session 115 refl (λ at. omega (arith, at))) (no_server_third (staged_path staged) name 116 refl (λ at. omega (arith, at)));
        candidates = λ file. still (codes "/gc/" ++ file) (no_log (codes "/gc/" ++ file) session 103 refl (λ at. omega (arith, at))) (no_server (codes "/gc/" ++ file) name 103 refl (λ at. omega (arith, at)));
        counters = λ path of. still path (no_log path session 110 (ap second of.1) (λ at. omega (arith, at))) (no_server path name 110 (ap second of.1) (λ at. omega (arith, at)));
      }

      pub start_kept : IsKeptAs reading catalog (with_nodes logged new) state
      start_kept = servers_kept reading catalog grown state new changes raised_kept
