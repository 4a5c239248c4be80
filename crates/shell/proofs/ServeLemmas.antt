-- A line is done, and then its reply is said.
use Rattle.std.proofs.Common.{◌≡◌, ◌⊎◌, inl, inr, ⊎_elim, ℕ, List, ◌++◌, take, Option, Some, None, Result, Ok, Err, IsTrue, refl, sym, ◌∙◌, ap, subst}
use Rattle.std.proofs.lemmas.List.{append-nil}
use Rattle.host_model.specs.Picture.{Picture}
use Rattle.host_model.specs.State.{HostState}
use Rattle.host_model.specs.Calls.{IsSound, Says, IsOfSink}
use Rattle.host_model.specs.Kinds.{IsOfScript}
use Rattle.host_model.specs.Leaves.{LeavesOnly, Shows, Told, AllSettled}
use Rattle.host_model.specs.declared.call.HostCall.TheVariants.{Sync}
use Rattle.host_model.specs.declared.fault.HostFault.{HostFault}
use Rattle.host_model.specs.declared.fault.HostFault.TheVariants.{Disk, Source, Sink, Memory}
use Rattle.host_model.specs.declared.fault.Stop.{Stop}
use Rattle.host_model.specs.declared.fault.Stop.TheVariants.{Host, Full, NoMemory}
use Rattle.host_model.proofs.CallsLemmas.{keeps-then, faulted-then, still_faithful, still_honest, was_faithful}
use Rattle.host_model.proofs.LeavesLemmas.{leaves_weaker, leaves_then, says_leave, rests_after_say}
use Rattle.node_store.specs.Image.{IsStored}
use Rattle.script_words.specs.declared.line.Line.{Line}
use Rattle.script_words.specs.declared.reply.Answer.{Answer}
use Rattle.script_words.specs.Replies.{reply_of}
use Rattle.table_store.specs.Kept.{SaysTables}
use Rattle.table_store.specs.StoreValue.{StoreValue, IsUnasked}
use Rattle.shell.specs.Serving.{spelled, tables_after, reply_to}
use Rattle.shell.specs.LineServed.{IsLinePicture, IsReplyStop, IsUnchanged, IsLastOfWork, DoesLine, ServesLine}
use Rattle.shell.proofs.LastCallLemmas.{not_full}
use Rattle.shell.proofs.WalkLemmas.{steps-tables}
use Rattle.shell.proofs.ReadableLemmas.{stays_said, stays_then}

no_fault_full : (fault : HostFault) → ◌≡◌ {A = Stop} (Host fault) Full → ⊥
no_fault_full fault is = cc

module _ (number : ℕ) (line : Line) (old new : StoreValue) (before mid : HostState) where
  -- nothing of the reply was said
  silent : (p : Picture) → Shows (λ image. SaysTables image old.tables ⊎ SaysTables image (tables_after line old.tables)) before.said p → IsLinePicture number line old.tables before.said p
  silent p shows =
      ⊎_elim
      (λ kept. inl (record { says = kept; said_is = shows.said_is }))
      (λ kept. inr (record { says = kept; count = 0; said_is = shows.said_is ∙ sym (append-nil before.said) }))
      shows.image

  -- the line stopped before its reply
  pub stops_first : (T : Type 0) (stop : Stop) → DoesLine number line (Err stop) old new before mid → ServesLine number line {T = T} (Err stop) old new before mid
  stops_first T stop does = record {
    keeps = does.quiet.keeps;
    script = does.quiet.script;
    running = tt;
    sure = tt;
    doubt = tt;
    steps = tt;
    history = tt;
    said = λ f. tt;
    halts = λ f. ⊎_elim (λ none. inl none) (λ doubt. inr (inl doubt)) (does.halts f);
    stops = does.stops;
    call = λ at. tt;
    full = λ is. does.unasked (subst (λ (s : Stop). IsUnasked s) (sym is) tt);
    readable = does.readable;
    leaves = λ h rests. leaves_weaker (does.leaves h rests) silent;
    rests = λ h rests. tt;
  }

  -- a blank line has no reply
  pub serves_blank : {T : Type 0} (u : T) → DoesLine number line (Ok None) old new before mid → ServesLine number line {T = T} (Ok u) old new before mid
  serves_blank u does = record {
    keeps = does.quiet.keeps;
    script = does.quiet.script;
    running = does.running;
    sure = does.sure;
    doubt = does.doubt;
    steps = does.steps;
    history = does.history;
    said = λ f. does.quiet.said f ∙ sym (append-nil before.said) ∙ ap (λ (a : Option Answer). before.said ++ spelled number a) does.answer;
    halts = λ f. tt;
    stops = tt;
    full = tt;
    call = λ at. subst IsOfScript (sym (does.blank refl).last) at;
    readable = does.readable;
    leaves = λ h rests. leaves_weaker (does.leaves h rests) silent;
    rests = does.rests;
  }

  module _ (answer : Answer) (does : DoesLine number line (Ok (Some answer)) old new before mid) where
    after_says : IsTrue before.is_faithful → SaysTables mid.files (tables_after line old.tables)
    after_says f = subst (λ t. SaysTables mid.files t) (steps-tables line _ _ does.steps) (does.sure.says (still_faithful does.quiet.keeps f))

    worked : IsUnchanged before mid ⊎ (mid.last ≡ Some Sync) → IsOfScript before.last → IsLastOfWork mid.last
    worked (inl same) at = inl (subst IsOfScript (sym same.last) at)
    worked (inr synced) at = inr synced

    -- there was no memory for the reply
    pub unspelled : (T : Type 0) → ServesLine number line {T = T} (Err NoMemory) old new before mid
    unspelled T = record {
      keeps = does.quiet.keeps;
      script = does.quiet.script;
      running = tt;
      sure = tt;
      doubt = tt;
      steps = tt;
      history = tt;
      said = λ f. tt;
      halts = λ f. inr (inr (record { why = tt; steps = does.steps; history = does.history; doubt = does.doubt; count = 0; said = does.quiet.said f ∙ sym (append-nil before.said); says = after_says f; call = worked does.call }));
      stops = tt;
      full = λ is. absurd (not_full is);
      call = λ at. tt;
      readable = does.readable;
      leaves = λ h rests. leaves_weaker (does.leaves h rests) silent;
      rests = λ h rests. tt;
    }

    module _ (reply : List ℕ) (spelt : reply ≡ reply_of number answer) (now : HostState) (sound : IsSound before) (at_mid : IsSound mid) where
      reply_is : reply ≡ reply_to number line old.tables
      reply_is = spelt ∙ ap (λ (a : Option Answer). spelled number a) does.answer

      module _ {T : Type 0} {result : Result T HostFault} (says : Says reply result mid now) where
        pub all_leaves : IsTrue before.is_honest → AllSettled before → LeavesOnly (IsLinePicture number line old.tables before.said) before now
        all_leaves h rests = leaves_then (leaves_weaker (does.leaves h rests) silent) (says_leave (IsLinePicture number line old.tables before.said) at_mid (still_honest does.quiet.keeps h) (does.rests h rests) says told)
          where
            told : (p : Picture) → Told mid.files mid.said reply p → IsLinePicture number line old.tables before.said p
            told p is = inr (record {
              says = subst (λ i. SaysTables i (tables_after line old.tables)) (sym is.image_is) (after_says (sound.faithful h));
              count = is.count;
              said_is = is.said_is ∙ ap (λ l. l ++ take is.count reply) (does.quiet.said (sound.faithful h)) ∙ ap (λ l. before.said ++ take is.count l) reply_is;
            })

      pub serves_all : {T U : Type 0} {t : T} (u : U) → Says reply {T = T} (Ok t) mid now → ServesLine number line {T = U} (Ok u) old new before now
      serves_all u says = record {
        keeps = keeps-then does.quiet.keeps says.keeps;
        script = λ f. (says.same (still_faithful does.quiet.keeps f)).1 ∙ does.quiet.script f;
        running = does.running;
        sure = record {
          stored = λ f. let at = was_faithful says.keeps f in subst (λ i. IsStored new.nodes i) (sym (says.same at).0) (does.sure.stored at);
          says = λ f. let at = was_faithful says.keeps f in subst (λ i. SaysTables i new.tables) (sym (says.same at).0) (does.sure.says at);
        };
        doubt = does.doubt;
        steps = does.steps;
        history = does.history;
        said = λ f. says.done (still_faithful does.quiet.keeps f) ∙ ap (λ l. l ++ reply) (does.quiet.said f) ∙ ap (λ l. before.said ++ l) reply_is;
        halts = λ f. tt;
        stops = tt;
        full = tt;
        call = λ at. subst IsOfScript (sym says.last) tt;
        readable = stays_then sound does.quiet.keeps does.rests does.readable (stays_said at_mid says);
        leaves = all_leaves says;
        rests = λ h rests. rests_after_say (still_honest does.quiet.keeps h) (still_faithful does.quiet.keeps (sound.faithful h)) says (does.rests h rests);
      }

      replying : (fault : HostFault) → IsOfSink fault → IsReplyStop (Host fault)
      replying Disk of = of
      replying Source of = of
      replying Sink of = tt
      replying Memory of = tt

      pub unsaid : {T U : Type 0} (fault : HostFault) → Says reply {T = T} (Err fault) mid now → ServesLine number line {T = U} (Err (Host fault)) old new before now
      unsaid fault says = record {
        keeps = keeps-then does.quiet.keeps says.keeps;
        script = λ f. (says.same (still_faithful does.quiet.keeps f)).1 ∙ does.quiet.script f;
        running = tt;
        sure = tt;
        doubt = tt;
        steps = tt;
        history = tt;
        said = λ f. tt;
        halts = λ f.
            let at = still_faithful does.quiet.keeps f in
            let tried = says.tried at in
            inr (inr (record {
              why = replying fault says.counted.0;
              steps = does.steps;
              history = does.history;
              doubt = does.doubt;
              count = tried.count;
              said = tried.said ∙ ap (λ l. l ++ take tried.count reply) (does.quiet.said f) ∙ ap (λ l. before.said ++ take tried.count l) reply_is;
              says = subst (λ i. SaysTables i (tables_after line old.tables)) (sym (says.same at).0) (after_says f);
              call = λ before_said. inl (subst IsOfScript (sym says.last) tt);
            }));
        stops = faulted-then does.quiet.keeps says.counted.1;
        full = λ is. absurd (no_fault_full fault is);
        call = λ at. tt;
        readable = stays_then sound does.quiet.keeps does.rests does.readable (stays_said at_mid says);
        leaves = all_leaves says;
        rests = λ h rests. tt;
      }

-- said of another spelling of the line
pub at_line : {number : ℕ} {line other : Line} {T : Type 0} {result : Result T Stop} {old new : StoreValue} {before now : HostState} → line ≡ other → ServesLine number line result old new before now → ServesLine number other result old new before now
at_line {number} {result = result} {old} {new} {before} {now} same serves = subst (λ l. ServesLine number l result old new before now) same serves
