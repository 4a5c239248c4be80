-- What was served since a store was opened or made, said since before that.
use Rattle.std.proofs.Common.{◌≡◌, inl, inr, ⊎_elim, ℕ, Bool, true, false, List, ◌++◌, length, Result, Ok, Err, IsTrue, IfErr, refl, sym, ap, subst, arith}
use Rattle.std.specs.Option.{option_to_list}
use Rattle.host_model.specs.Picture.{Picture}
use Rattle.host_model.specs.State.{HostState, picture_now}
use Rattle.host_model.specs.Calls.{IsSound, Keeps, IsQuiet}
use Rattle.host_model.specs.Leaves.{LeavesOnly, AllSettled}
use Rattle.host_model.specs.declared.fault.Stop.{Stop}
use Rattle.host_model.specs.declared.fault.Stop.TheVariants.{Host, Damaged, Full, NoMemory}
use Rattle.host_model.proofs.CallsLemmas.{keeps-then, faulted-then, still_faithful, still_honest}
use Rattle.host_model.proofs.LeavesLemmas.{leaves_weaker, leaves_then, same_leave}
use Rattle.table_store.specs.Tables.{Tables}
use Rattle.table_store.specs.Room.{Station}
use Rattle.table_store.specs.Kept.{SaysTables}
use Rattle.plain_model.specs.declared.operation.Entry.{Entry}
use Rattle.shell.specs.LineServed.{StopCounts}
use Rattle.script_source.specs.Script.{lines_of}
use Rattle.shell.specs.Script.{texts_of, AreWithin}
use Rattle.shell.specs.ScriptServed.{entries_at, HasDone, LastLine, HasServedAll, HasRefused, HasStopped, HasEnded}
use Rattle.shell.specs.Crash.{IsLastPicture, LeavesFronts}
use Rattle.shell.specs.Opening.{Begins, LeavesDisk}
use Rattle.shell.specs.Running.{ServesScript, LeavesLines}
use Rattle.shell.specs.declared.outcomes.Outcome.{Outcome}
use Rattle.shell.specs.declared.ending.Ending.{Ending}
use Rattle.shell.specs.declared.ending.Ending.TheVariants.{ScriptEnd, NoLine}

-- what the serving of the script left, in terms of a moment before it
pub record LeavesSince (tables : Tables) (past maybe : List Entry) (first mid now : HostState) : Type 0 where
  pub tried : ℕ
  pub within : AreWithin (lines_of first.script) tried
  pub all : past ++ maybe ≡ entries_at tried (texts_of first.script) tables
  pub leaves : LeavesOnly (IsLastPicture tables (texts_of first.script) tried first.said) mid now

module _ (first mid now : HostState) (start : Station) (said : first.said ≡ mid.said) (script : first.script ≡ mid.script) where
  done_since : {count : ℕ} {past : List Entry} → HasDone mid start count past now → HasDone first start count past now
  done_since is = record {
    within = rw script is.within;
    station = is.station;
    walks = rw script is.walks;
    history = rw script is.history;
    says = rw script is.says;
  }

  last_since : {lines : ℕ} → LastLine mid lines → LastLine first lines
  last_since is = record {
    before = is.before;
    lines_are = is.lines_are;
    within = rw script is.within;
    text = is.text;
    is = rw script is.is;
  }

  served_since : {lines : ℕ} {past maybe : List Entry} → HasServedAll mid start lines past maybe now → HasServedAll first start lines past maybe now
  served_since is = record {
    all = rw script is.all;
    heard = is.heard;
    done = done_since is.done;
    doubt = is.doubt;
    said = rw (script, said) is.said;
  }

  refused_since : {lines : ℕ} {past maybe : List Entry} {front : List ℕ} → HasRefused mid start lines past maybe front now → HasRefused first start lines past maybe front now
  refused_since is = record {
    before = is.before;
    lines_are = is.lines_are;
    over = rw script is.over;
    done = done_since is.done;
    doubt = is.doubt;
    said = rw (script, said) is.said;
  }

  stopped_since : {lines : ℕ} {past maybe : List Entry} (stop : Stop) → HasStopped stop mid start lines past maybe now → HasStopped stop first start lines past maybe now
  unfolding done_since last_since
  stopped_since stop (inl is) = inl (record { why = is.why; done = done_since is.done; doubt = is.doubt; said = rw (script, said) is.said; call = rw script is.call })
  stopped_since stop (inr (inl is)) = inr (inl (record { why = is.why; count = is.count; refused = refused_since is.refused; call = is.call }))
  stopped_since stop (inr (inr (inl is))) = inr (inr (inl (record {
    last = last_since is.last;
    done = done_since is.done;
    why = is.why;
    doubt = is.doubt;
    said = rw (script, said) is.said;
    call = is.call;
  })))
  stopped_since stop (inr (inr (inr (inl is)))) = inr (inr (inr (inl (record {
    why = is.why;
    last = last_since is.last;
    history = rw script is.history;
    doubt = rw script is.doubt;
    says = rw script is.says;
    said = rw (script, said) is.said;
  }))))
  stopped_since stop (inr (inr (inr (inr is)))) = inr (inr (inr (inr (record {
    why = is.why;
    last = last_since is.last;
    done = done_since is.done;
    doubt = is.doubt;
    count = is.count;
    said = rw (script, said) is.said;
    call = is.call;
  }))))

  pub ended_since : (ending : Result Ending Stop) (lines : ℕ) (past maybe : List Entry) → HasEnded ending mid start lines past maybe now → HasEnded ending first start lines past maybe now
  ended_since (Ok ScriptEnd) lines past maybe is = served_since is
  ended_since (Ok NoLine) lines past maybe is = refused_since is
  ended_since (Err stop) lines past maybe is = stopped_since stop is

  pub leaves_since : (past maybe : List Entry) → LeavesFronts mid start.tables past maybe now → LeavesSince start.tables past maybe first mid now
  leaves_since past maybe is = record {
    tried = is.tried;
    within = rw script is.within;
    all = rw script is.all;
    leaves = rw (script, said) is.leaves;
  }

counts_since : (ending : Result Ending Stop) (first mid now : HostState) → Keeps first mid → IfErr ending (λ stop. StopCounts stop mid now) → IfErr ending (λ stop. StopCounts stop first now)
counts_since (Ok ending) first mid now keeps why = tt
counts_since (Err stop) first mid now keeps why = at stop why
  where
    at : (stop : Stop) → StopCounts stop mid now → StopCounts stop first now
    at (Host fault) why = faulted-then keeps why
    at (Damaged name) why = why
    at Full why = tt
    at NoMemory why = tt

-- the start of a script shows the tables as they were
at_start : {tables : Tables} {texts : List (List ℕ)} {tried : ℕ} {said : List ℕ} (p : Picture) → SaysTables p.image tables → p.said ≡ said → IsLastPicture tables texts tried said p
at_start p kept said_is = record { done = 0; within = omega arith; says = kept; quiet = inr (omega (arith, ap length said_is)) }

module _ {first mid now : HostState} (start : Station) {outcome : Outcome} (sound : IsSound first) (quiet : IsQuiet first mid) (rests_mid : IsTrue first.is_honest → AllSettled first → AllSettled mid) where
  pub serves_since : ServesScript mid start outcome now → ServesScript first start outcome now
  serves_since is = record {
    ending = is.ending;
    status = is.status;
    damaged = is.damaged;
    keeps = keeps-then quiet.keeps is.keeps;
    ended = λ f. ended_since first mid now start (sym (quiet.said f)) (sym (quiet.script f)) is.ending outcome.lines outcome.history (option_to_list outcome.doubt) (is.ended (still_faithful quiet.keeps f));
    stops = counts_since is.ending first mid now quiet.keeps is.stops;
    full = is.full;
    rests = λ h rests. is.rests (still_honest quiet.keeps h) (rests_mid h rests);
  }

  pub lines_since : (init : Bool) → LeavesDisk init first mid → (IsTrue first.is_faithful → Begins init first.files start)
      → (IsTrue mid.is_honest → AllSettled mid → LeavesFronts mid start.tables outcome.history (option_to_list outcome.doubt) now)
      → IsTrue first.is_honest → AllSettled first → LeavesLines init first start.tables outcome now
  lines_since false left begins crash h rests =
      let f = sound.faithful h in
      let is = leaves_since first mid now start (sym (quiet.said f)) (sym (quiet.script f)) _ _ (crash (still_honest quiet.keeps h) (rests_mid h rests)) in
      record {
        tried = is.tried;
        within = is.within;
        all = is.all;
        leaves = leaves_then (same_leave _ sound h rests ((left.looks refl).moves h) (at_start (picture_now first) (begins f).says refl)) is.leaves;
      }
  lines_since true left begins crash h rests =
      let f = sound.faithful h in
      let is = leaves_since first mid now start (sym (quiet.said f)) (sym (quiet.script f)) _ _ (crash (still_honest quiet.keeps h) (rests_mid h rests)) in
      record {
        tried = is.tried;
        within = is.within;
        all = is.all;
        leaves = leaves_then
            (leaves_weaker (left.leaves refl h rests (begins f).0) (λ p shows. ⊎_elim (λ unborn. inl (record { unborn = unborn; said_is = shows.said_is })) (λ kept. inr (at_start p (subst (λ t. SaysTables p.image t) (sym (begins f).1.tables) kept.says) shows.said_is)) shows.image))
            (leaves_weaker is.leaves (λ p last. inr last));
      }
