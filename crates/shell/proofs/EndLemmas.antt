-- How the serving of a script ends.
use Rattle.std.proofs.Common.{◌≡◌, ◌⊎◌, inl, inr, ⊎_elim, ℕ, ◌+◌, ◌≤◌, List, [], ◌++◌, length, take, drop, codes, Result, Ok, Err, IsTrue, IfErr, IfOk, OnOk, refl, sym, ◌∙◌, ap, subst, arith, length-append, length-drop}
use Rattle.std.proofs.lemmas.List.{append-nil, nil_from_length}
use Rattle.host_model.specs.Picture.{Picture, Image}
use Rattle.host_model.specs.State.{HostState}
use Rattle.host_model.specs.Calls.{IsSound}
use Rattle.host_model.specs.Kinds.{IsOfScript}
use Rattle.host_model.specs.Leaves.{AllSettled}
use Rattle.host_model.specs.declared.fault.HostFault.TheVariants.{Disk, Source, Sink, Memory}
use Rattle.host_model.specs.declared.fault.Stop.{Stop}
use Rattle.host_model.specs.declared.fault.Stop.TheVariants.{Host, Damaged, Full, NoMemory}
use Rattle.host_model.proofs.CallsLemmas.{keeps-then, faulted-then, still_faithful, still_honest}
use Rattle.host_model.proofs.LeavesLemmas.{leaves_weaker, leaves_then}
use Rattle.script_source.specs.Script.{lines_of}
use Rattle.script_source.specs.Hearing.{Listens, TakesLine, MeetsLongLine, Takes, HearingStops}
use Rattle.script_source.specs.declared.script.Heard.{Heard}
use Rattle.script_source.specs.declared.script.Heard.TheVariants.{End, Line, TooLong}
use Rattle.shell.proofs.SplitLemmas.{get_at}
use Rattle.script_words.specs.Lines.{line_of}
use Rattle.script_words.specs.Replies.{numbered}
use Rattle.table_store.specs.Tables.{Tables}
use Rattle.table_store.specs.Kept.{SaysTables}
use Rattle.table_store.specs.Room.{Station}
use Rattle.table_store.specs.StoreValue.{StoreValue, station_of}
use Rattle.plain_model.specs.declared.operation.Entry.{Entry}
use Rattle.shell.specs.Serving.{tables_after, reply_to, entries_of}
use Rattle.shell.specs.Script.{texts_of, max_lines, AreWithin, IsOver}
use Rattle.shell.specs.LineServed.{DidNothing, IsInDoubt, IsUnreported, IsReplyStop, LineHalts, StopCounts, ServesLine}
use Rattle.shell.specs.declared.ending.Ending.{Ending}
use Rattle.shell.specs.declared.ending.Ending.TheVariants.{NoLine}
use Rattle.shell.specs.Walk.{Walks}
use Rattle.shell.specs.ScriptServed.{tables_at, replies_at, entries_at, HasDone, HasReplied, LastLine, HasServedAll, HasRefused, IsHearingStop, StopsBefore, StopsInside, StopsBehind, HasStopped, HasEnded}
use Rattle.shell.specs.Crash.{IsLastPicture, LeavesFronts}
use Rattle.shell.specs.Serve.{IsScriptPicture, HasServed, RefusesLine}
use Rattle.shell.specs.Readable.{StaysReadable}
use Rattle.shell.proofs.ReadableLemmas.{stays_then, stays_image}
use Rattle.shell.proofs.StepLemmas.{tables_are, heard_leaves, heard_rests, heard_readable, tables_next, entries_next, walks_next, text_next, within_next, line_leaves}

-- a picture between lines is one at the end
at_last : {tables : Tables} {texts : List (List ℕ)} {n : ℕ} {said : List ℕ} (p : Picture) → IsScriptPicture tables texts n said p → IsLastPicture tables texts n said p
at_last p is = record { done = is.done; within = is.within; says = is.says; quiet = inr is.quiet }

no_rest : (xs ys : List ℕ) → xs ++ ys ≡ [] → ys ≡ []
no_rest xs ys e = nil_from_length ys (omega (arith, ap length e, length-append xs ys))

module _ {first : HostState} {start : Station} {n : ℕ} {pending : List ℕ} {store : StoreValue} {now : HostState} (sound : IsSound first) (sound_now : IsSound now) (served : HasServed first start n pending store now) where
  abbrev tables : Tables
  tables = start.tables

  abbrev texts : List (List ℕ)
  texts = texts_of first.script

  -- what was said of this moment is said of a later one with the same files
  done_at : {later : HostState} → IsTrue first.is_faithful → later.files ≡ now.files → HasDone first start n store.history later
  done_at f same = record {
    within = served.within f;
    station = station_of store;
    walks = served.walks f;
    history = served.history f;
    says = subst (λ i. SaysTables i (tables_at n texts tables)) (sym same) (subst (λ t. SaysTables now.files t) (tables_are sound sound_now served f) (served.sure.says (still_faithful served.keeps f)));
  }

  all_is : (f : IsTrue first.is_faithful) → store.history ++ store.doubt ≡ entries_at n texts tables
  all_is f = ap (λ (l : List Entry). store.history ++ l) served.doubt ∙ append-nil store.history ∙ served.history f

  module _ {mid : HostState} (listens : Listens now mid) where
    mid_files : IsTrue first.is_faithful → mid.files ≡ now.files
    mid_files f = (listens.same (still_faithful served.keeps f)).0

    mid_said : IsTrue first.is_faithful → HasReplied first tables n mid
    mid_said f = (listens.same (still_faithful served.keeps f)).1 ∙ served.said f

    mid_honest : IsTrue first.is_honest → IsTrue mid.is_honest
    mid_honest h = still_honest listens.keeps (still_honest served.keeps h)

    mid_faithful : IsTrue first.is_faithful → IsTrue mid.is_faithful
    mid_faithful f = still_faithful listens.keeps (still_faithful served.keeps f)

    counted : (stop : Stop) (later : HostState) → StopCounts stop mid later → StopCounts stop first later
    counted (Host fault) later why = faulted-then (keeps-then served.keeps listens.keeps) why
    counted (Damaged name) later why = why
    counted Full later why = tt
    counted NoMemory later why = tt

    -- nothing was tried behind the lines that were served
    pub fronts : IsTrue first.is_honest → AllSettled first → LeavesFronts first tables store.history store.doubt mid
    fronts h rests =
        let f = sound.faithful h in
        record { tried = n; within = served.within f; all = all_is f; leaves = leaves_weaker (heard_leaves sound sound_now served listens h rests) at_last }

    -- the script is at its end
    pub all_served : (pending' : List ℕ) → (IsTrue now.is_faithful → (pending ++ now.script ≡ []) × (pending' ++ mid.script ≡ [])) → (f : IsTrue first.is_faithful) → HasServedAll first start n store.history store.doubt mid
    all_served pending' ends f =
        let at = still_faithful served.keeps f in
        let none : drop n (lines_of first.script) ≡ [] = sym (served.left f) ∙ ap lines_of (ends at).0 in
        record {
          all = omega (arith, (served.within f).there, ap length none, length-drop n (lines_of first.script));
          heard = no_rest pending' mid.script (ends at).1;
          done = done_at f (mid_files f);
          doubt = served.doubt;
          said = mid_said f;
        }

    hearing : (stop : Stop) → HearingStops stop now mid → IsHearingStop stop
    hearing (Host Disk) why = why.0
    hearing (Host Source) why = tt
    hearing (Host Sink) why = why.0
    hearing (Host Memory) why = tt
    hearing (Damaged name) why = why
    hearing Full why = why
    hearing NoMemory why = tt

    -- a stop while a line was heard, or before it
    pub stopped_hearing : (stop : Stop) → HearingStops stop now mid → IsOfScript mid.last ⊎ (n ≡ 0) × (mid.script ≡ first.script) → (f : IsTrue first.is_faithful) → HasStopped stop first start n store.history store.doubt mid
    stopped_hearing stop why call f = inl (record { why = hearing stop why; done = done_at f (mid_files f); doubt = served.doubt; said = mid_said f; call = call })

    pub hearing_counts : (stop : Stop) → HearingStops stop now mid → StopCounts stop first mid
    hearing_counts (Host fault) why = faulted-then served.keeps why.1
    hearing_counts (Damaged name) why = why
    hearing_counts Full why = tt
    hearing_counts NoMemory why = tt

    module _ {text rest : List ℕ} (sound_mid : IsSound mid) (takes : IsTrue now.is_faithful → TakesLine (pending ++ now.script) text rest) (number : ℕ) (number_is : number ≡ n + 1) (few : n + 1 ≤ max_lines) {T : Type 0} (stop : Stop) {store' : StoreValue} {later : HostState} (serves : ServesLine number (line_of text) {T = T} (Err stop) store store' mid later) where
      says_before : IsTrue first.is_faithful → {i : Image} → SaysTables i store.tables → SaysTables i (tables_at n texts tables)
      says_before f {i} says = subst (λ t. SaysTables i t) (tables_are sound sound_now served f) says

      says_behind : IsTrue first.is_faithful → {i : Image} → SaysTables i (tables_after (line_of text) store.tables) → SaysTables i (tables_at number texts tables)
      says_behind f {i} says = subst (λ t. SaysTables i t) (tables_next sound sound_now served listens sound_mid takes number number_is few serves f ∙ ap (λ m. tables_at m texts tables) (sym number_is)) says

      last_line : IsTrue first.is_faithful → LastLine first number
      last_line f = record {
        before = n;
        lines_are = number_is;
        within = subst (λ m. AreWithin (lines_of first.script) m) (sym number_is) (within_next sound sound_now served listens sound_mid takes number number_is few serves f);
        text = text;
        is = text_next sound sound_now served listens sound_mid takes number number_is few serves f;
      }

      entries_behind : (f : IsTrue first.is_faithful) → store.history ++ entries_of number (line_of text) store.tables ≡ entries_at number texts tables
      entries_behind f = entries_next sound sound_now served listens sound_mid takes number number_is few serves f ∙ ap (λ m. entries_at m texts tables) (sym number_is)

      nothing : (f : IsTrue first.is_faithful) → IsOfScript mid.last → DidNothing stop (line_of text) store store' mid later → StopsBefore stop first start number store'.history store'.doubt later
      unfolding last_line
      nothing f call none = record {
        last = last_line f;
        done = record {
          within = served.within f;
          station = station_of store;
          walks = served.walks f;
          history = none.history ∙ served.history f;
          says = says_before f none.says;
        };
        why = none.why;
        doubt = none.doubt;
        said = none.said ∙ mid_said f;
        call = subst IsOfScript (sym none.same.last) call;
      }

      inside : (f : IsTrue first.is_faithful) → IsInDoubt stop number (line_of text) store store' mid later → StopsInside stop first start number store'.history store'.doubt later
      unfolding last_line
      inside f doubt = record {
        why = doubt.why;
        last = last_line f;
        history = doubt.history ∙ served.history f;
        doubt = doubt.doubt ∙ ap (λ (t : Tables). entries_of number (line_of text) t) (tables_are sound sound_now served f);
        says = ⊎_elim (λ kept. inl (says_before f kept)) (λ kept. inr (says_behind f kept)) doubt.says;
        said = doubt.said ∙ mid_said f;
      }

      behind : (f : IsTrue first.is_faithful) → IsOfScript mid.last → IsUnreported stop number (line_of text) store store' mid later → StopsBehind stop first start number store'.history store'.doubt later
      unfolding last_line
      behind f call unsaid = record {
        why = unsaid.why;
        last = last_line f;
        done = record {
          within = subst (λ m. AreWithin (lines_of first.script) m) (sym number_is) (within_next sound sound_now served listens sound_mid takes number number_is few serves f);
          station = station_of store';
          walks = subst (λ m. Walks (take m texts) start (station_of store')) (sym number_is) (walks_next sound sound_now served listens sound_mid takes number number_is few serves f (station_of store') unsaid.steps);
          history = unsaid.history ∙ entries_behind f;
          says = says_behind f unsaid.says;
        };
        doubt = unsaid.doubt;
        count = unsaid.count;
        said = unsaid.said ∙ ap (λ l. l ++ take unsaid.count (reply_to number (line_of text) store.tables)) (mid_said f)
            ∙ ap (λ (t : Tables). first.said ++ replies_at n texts tables ++ take unsaid.count (reply_to number (line_of text) t)) (tables_are sound sound_now served f);
        call = unsaid.call call;
      }

      halted : (f : IsTrue first.is_faithful) → IsOfScript mid.last → LineHalts stop number (line_of text) store store' mid later → HasStopped stop first start number store'.history store'.doubt later
      halted f call (inl none) = inr (inr (inl (nothing f call none)))
      halted f call (inr (inl doubt)) = inr (inr (inr (inl (inside f doubt))))
      halted f call (inr (inr unsaid)) = inr (inr (inr (inr (behind f call unsaid))))

      pub stopped_line : (f : IsTrue first.is_faithful) → IsOfScript mid.last → HasStopped stop first start number store'.history store'.doubt later
      stopped_line f call = halted f call (serves.halts (mid_faithful f))

      pub line_counts : StopCounts stop first later
      line_counts = counted stop later serves.stops

      -- where the history and what is in doubt are the entries up to and with the line
      tried_line : (h : IsTrue first.is_honest) → AllSettled first → store'.history ++ store'.doubt ≡ entries_at number texts tables → LeavesFronts first tables store'.history store'.doubt later
      tried_line h rests all =
          let f = sound.faithful h in
          record {
            tried = n + 1;
            within = within_next sound sound_now served listens sound_mid takes number number_is few serves f;
            all = all ∙ ap (λ m. entries_at m texts tables) number_is;
            leaves = leaves_weaker (line_leaves sound sound_now served listens sound_mid takes number number_is few serves h rests) at_last;
          }

      fronts_of : (h : IsTrue first.is_honest) → AllSettled first → LineHalts stop number (line_of text) store store' mid later → LeavesFronts first tables store'.history store'.doubt later
      fronts_of h rests (inl none) =
          let f = sound.faithful h in
          record {
            tried = n;
            within = served.within f;
            all = ap (λ (l : List Entry). store'.history ++ l) none.doubt ∙ append-nil store'.history ∙ none.history ∙ served.history f;
            leaves = leaves_then (leaves_weaker (heard_leaves sound sound_now served listens h rests) at_last)
                (leaves_weaker (none.leaves (mid_honest h) (heard_rests sound sound_now served listens h rests)) (λ p before. record { done = n; within = omega arith; says = says_before f before.says; quiet = inl refl }));
          }
      fronts_of h rests (inr (inl doubt)) =
          tried_line h rests (ap (λ (l : List Entry). l ++ store'.doubt) doubt.history ∙ ap (λ (l : List Entry). store.history ++ l) doubt.doubt ∙ entries_behind (sound.faithful h))
      fronts_of h rests (inr (inr unsaid)) =
          tried_line h rests (ap (λ (l : List Entry). store'.history ++ l) unsaid.doubt ∙ append-nil store'.history ∙ unsaid.history ∙ entries_behind (sound.faithful h))

      pub line_fronts : IsTrue first.is_honest → AllSettled first → LeavesFronts first tables store'.history store'.doubt later
      line_fronts h rests = fronts_of h rests (serves.halts (mid_faithful (sound.faithful h)))

    -- the next line is too long, or one too many
    module _ {later : HostState} (sound_mid : IsSound mid) (number : ℕ) (number_is : number ≡ n + 1) (over : IsTrue first.is_faithful → IsOver (lines_of first.script) n) {result : Result Ending Stop} (refuses : RefusesLine number result mid later) where
      refused : (f : IsTrue first.is_faithful) (front : List ℕ) → later.said ≡ mid.said ++ front → HasRefused first start number store.history store.doubt front later
      refused f front said = record {
        before = n;
        lines_are = number_is;
        over = over f;
        done = done_at f ((refuses.same (mid_faithful f)).0 ∙ mid_files f);
        doubt = served.doubt;
        said = said ∙ ap (λ l. l ++ front) (mid_said f);
      }

      pub refusal_ended : IsOfScript mid.last → (f : IsTrue first.is_faithful) → HasEnded result first start number store.history store.doubt later
      refusal_ended call f = at result refuses.done refuses.why (refuses.said (mid_faithful f))
        where
          at : (r : Result Ending Stop) → IfOk r (λ e. e ≡ NoLine) → IfErr r IsReplyStop → OnOk r (later.said ≡ mid.said ++ numbered number (codes "no line")) → HasEnded r first start number store.history store.doubt later
          at (Ok e) is why said = subst (λ x. HasEnded (Ok x) first start number store.history store.doubt later) (sym is) (refused f (numbered number (codes "no line")) said)
          at (Err stop) is why said =
              let tried = refuses.tried (mid_faithful f) in
              inr (inl (record { why = why; count = tried.0; refused = refused f (take tried.0 (numbered number (codes "no line"))) tried.1; call = refuses.call call }))

      pub refusal_counts : (stop : Stop) → StopCounts stop mid later → StopCounts stop first later
      refusal_counts stop why = counted stop later why

      pub refusal_readable : StaysReadable first later
      refusal_readable = stays_then sound (keeps-then served.keeps listens.keeps) (λ h rests. heard_rests sound sound_now served listens h rests) (heard_readable sound sound_now served listens) (stays_image (λ f. (refuses.same f).0) refuses.leaves)

      pub refusal_fronts : IsTrue first.is_honest → AllSettled first → LeavesFronts first tables store.history store.doubt later
      refusal_fronts h rests =
          let f = sound.faithful h in
          record {
            tried = n;
            within = served.within f;
            all = all_is f;
            leaves = leaves_then (leaves_weaker (heard_leaves sound sound_now served listens h rests) at_last)
                (leaves_weaker (refuses.leaves (mid_honest h) (heard_rests sound sound_now served listens h rests))
                (λ p same. record { done = n; within = omega arith; says = subst (λ i. SaysTables i (tables_at n texts tables)) (sym same) (done_at {later = mid} f (mid_files f)).says; quiet = inl refl }));
          }

  -- what stands next in the script
  pub over_long : {mid : HostState} → Listens now mid → (IsTrue now.is_faithful → MeetsLongLine (pending ++ now.script)) → IsTrue first.is_faithful → IsOver (lines_of first.script) n
  over_long listens meets f =
      let m = meets (still_faithful served.keeps f) in
      record { line = m.line; is = get_at (lines_of first.script) n m.line m.more (sym (served.left f) ∙ m.first); over = inl m.long }

  pub over_many : {mid : HostState} (heard : Heard) (after : List ℕ) → Listens now mid → max_lines ≤ n → (heard ≡ End → ⊥) → (IsTrue now.is_faithful → Takes (pending ++ now.script) heard after) → IsTrue first.is_faithful → IsOver (lines_of first.script) n
  over_many End after listens many more takes f = absurd (more refl)
  over_many (Line text) after listens many more takes f =
      let t = takes (still_faithful served.keeps f) in
      record { line = t.line; is = get_at (lines_of first.script) n t.line (lines_of after) (sym (served.left f) ∙ t.first); over = inr many }
  over_many TooLong after listens many more takes f =
      let m = takes (still_faithful served.keeps f) in
      record { line = m.line; is = get_at (lines_of first.script) n m.line m.more (sym (served.left f) ∙ m.first); over = inr many }
