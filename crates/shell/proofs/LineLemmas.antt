-- What a line does, from what the calls below it do.
use Rattle.std.proofs.Common.{◌≡◌, ◌⊎◌, inl, ℕ, [], ◌++◌, Option, Some, None, Ok, Err, IsTrue, refl, sym, ◌∙◌, ap, subst}
use Rattle.std.proofs.lemmas.List.{append-nil}
use Rattle.host_model.specs.Picture.{Picture}
use Rattle.host_model.specs.State.{HostState, picture_now}
use Rattle.host_model.specs.Calls.{IsSound}
use Rattle.host_model.specs.Leaves.{LeavesOnly, Shows, AllSettled}
use Rattle.host_model.specs.declared.fault.Stop.TheVariants.{NoMemory}
use Rattle.host_model.proofs.CallsLemmas.{quiet-refl}
use Rattle.host_model.proofs.LeavesLemmas.{leaves_start, rests_shows}
use Rattle.script_words.specs.declared.line.Line.{Line}
use Rattle.script_words.specs.declared.reply.Answer.{Answer}
use Rattle.table_store.specs.Kept.{SaysTables}
use Rattle.table_store.specs.StoreValue.{StoreValue, station_of}
use Rattle.shell.specs.Serving.{answer_to, tables_after, entries_of}
use Rattle.shell.specs.Walk.{Steps}
use Rattle.shell.specs.LineServed.{IsSure, IsUnchanged, DoesLine}
use Rattle.shell.proofs.ReadableLemmas.{stays_refl}

-- nothing is asked of the host
pub only_start : {kind : Picture → Type 0} {state : HostState} → IsSound state → IsTrue state.is_honest → AllSettled state → kind (picture_now state) → LeavesOnly kind state state
only_start {kind} sound honest rests start = leaves_start kind sound honest (λ p now. subst kind (sym (rests_shows sound honest rests p now)) start)

-- an answer isn't lacking
pub is_answered : (answer : Answer) → ◌≡◌ {A = Option Answer} (Some answer) None → ⊥
is_answered answer is = cc

-- a host that is the same is at the same moment
pub unchanged : {before now : HostState} → now ≡ before → IsUnchanged before now
unchanged same = record {
  files = ap (λ (s : HostState). s.files) same;
  said = ap (λ (s : HostState). s.said) same;
  script = ap (λ (s : HostState). s.script) same;
  faults = ap (λ (s : HostState). s.faults) same;
  found = ap (λ (s : HostState). s.before) same;
  last = ap (λ (s : HostState). s.last) same;
  moment = ap (λ (s : HostState). s.moment) same;
}

module _ (number : ℕ) (line : Line) (store : StoreValue) (state : HostState) (sound : IsSound state) (sure : IsSure store state) where
  shows_now : IsTrue state.is_honest → AllSettled state → LeavesOnly (Shows (λ image. SaysTables image store.tables ⊎ SaysTables image (tables_after line store.tables)) state.said) state state
  shows_now h rests = only_start sound h rests (record { image = inl (sure.says (sound.faithful h)); said_is = refl })

  -- a line that changes nothing is answered
  pub does_nothing : (answer : Option Answer) → store.stop ≡ None → store.doubt ≡ [] → answer ≡ answer_to line store.tables → Steps line (station_of store) (station_of store) → entries_of number line store.tables ≡ [] → DoesLine number line (Ok answer) store store state state
  does_nothing answer running doubt is steps entries = record {
    quiet = quiet-refl state;
    answer = is;
    running = running;
    sure = sure;
    doubt = doubt;
    steps = steps;
    history = sym (append-nil store.history) ∙ ap (λ l. store.history ++ l) (sym entries);
    halts = λ f. tt;
    stops = tt;
    unasked = tt;
    blank = λ none. unchanged refl;
    call = inl (unchanged refl);
    readable = stays_refl sound;
    leaves = shows_now;
    rests = λ h rests. rests;
  }

  -- want of memory before anything was asked
  pub does_stop : store.doubt ≡ [] → DoesLine number line (Err NoMemory) store store state state
  does_stop doubt = record {
    quiet = quiet-refl state;
    answer = tt;
    running = tt;
    sure = tt;
    doubt = tt;
    steps = tt;
    history = tt;
    halts = λ f. inl (record { why = tt; history = refl; doubt = doubt; same = unchanged refl; said = refl; says = sure.says f; leaves = λ h rests. only_start sound h rests (record { says = sure.says f; said_is = refl }) });
    stops = tt;
    unasked = λ u. unchanged refl;
    blank = tt;
    call = tt;
    readable = stays_refl sound;
    leaves = shows_now;
    rests = λ h rests. tt;
  }
