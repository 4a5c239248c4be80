-- What a `createtable` does, from what the store of tables says of it.
use Rattle.std.proofs.Common.{◌≡◌, ◌⊎◌, inl, inr, ⊎_elim, ℕ, Bool, true, false, if◌then◌else◌, List, [], ◌∷◌, ◌++◌, Some, None, Result, Ok, Err, IsTrue, MatchBool, refl, sym, ◌∙◌, ap, subst}
use Rattle.host_model.specs.Picture.{Image}
use Rattle.host_model.specs.State.{HostState}
use Rattle.host_model.specs.Calls.{IsSound, IsOfFiles}
use Rattle.host_model.specs.Leaves.{LeavesOnly, Shows, AllSettled}
use Rattle.host_model.specs.Alters.{Alters}
use Rattle.host_model.specs.declared.call.HostCall.TheVariants.{Sync}
use Rattle.host_model.specs.declared.fault.HostFault.{HostFault}
use Rattle.host_model.specs.declared.fault.HostFault.TheVariants.{Disk, Source, Sink, Memory}
use Rattle.host_model.specs.declared.fault.Stop.{Stop}
use Rattle.host_model.specs.declared.fault.Stop.TheVariants.{Host, Damaged, Full, NoMemory}
use Rattle.host_model.proofs.LeavesLemmas.{alters_leave}
use Rattle.node_store.specs.Image.{IsNodeFile, IsStored}
use Rattle.script_words.specs.declared.line.Line.TheVariants.{CreateTable}
use Rattle.script_words.specs.declared.reply.Answer.TheVariants.{Ok as Done, Refused}
use Rattle.script_words.specs.declared.reply.Refusal.TheVariants.{Exists}
use Rattle.store_layout.specs.Names.{nodes_name}
use Rattle.table_store.specs.Tables.{created, is_taken}
use Rattle.table_store.specs.Kept.{SaysTables}
use Rattle.table_store.specs.Room.{AddsTable}
use Rattle.table_store.specs.StoreValue.{StoreValue, MayCreate, Creates, HasCreated, CreateStops, IsUnasked, entry_of, station_of}
use Rattle.plain_model.specs.declared.operation.Entry.{Entry}
use Rattle.shell.specs.Serving.{answer_to, tables_after, entries_of}
use Rattle.shell.proofs.LineLemmas.{is_answered, only_start, unchanged, does_nothing}
use Rattle.shell.specs.Walk.{Steps}
use Rattle.shell.proofs.ReadableLemmas.{stays_altered}
use Rattle.shell.specs.LineServed.{IsSure, IsBefore, DidNothing, IsInDoubt, IsEarlyStop, IsCommitStop, StopCounts, DoesLine}

module _ (number : ℕ) (name : List ℕ) (old new : StoreValue) (before now : HostState) (sound : IsSound before) (sure : IsSure old before) (free : is_taken name old.tables ≡ false) where
  after_is : tables_after (CreateTable name) old.tables ≡ created name old.tables
  after_is = ap (λ (b : Bool). if b then old.tables else created name old.tables) free

  entries_are : entries_of number (CreateTable name) old.tables ≡ entry_of number name old.tables ∷ []
  entries_are = ap (λ (b : Bool). if b then [] else entry_of number name old.tables ∷ []) free

  answer_is : answer_to (CreateTable name) old.tables ≡ Some Done
  answer_is = ap (λ (b : Bool). Some (if b then Refused (Exists name) else Done)) free

  after_says : {image : Image} → SaysTables image (created name old.tables) → SaysTables image (tables_after (CreateTable name) old.tables)
  after_says {image} says = subst (λ t. SaysTables image t) (sym after_is) says

  may_say : {image : Image} → SaysTables image old.tables ⊎ SaysTables image (created name old.tables) → SaysTables image old.tables ⊎ SaysTables image (tables_after (CreateTable name) old.tables)
  may_say either = ⊎_elim (λ kept. inl kept) (λ kept. inr (after_says kept)) either

  steps_of : AddsTable name (station_of old) (station_of new) → Steps (CreateTable name) (station_of old) (station_of new)
  steps_of adds = subst (λ (b : Bool). MatchBool b (station_of new ≡ station_of old) (AddsTable name (station_of old) (station_of new))) (sym free) adds

  module _ {result : Result Bool Stop} (alters : Alters (IsNodeFile nodes_name) (MayCreate name old.tables) (Creates name old.tables) result before now) where
    shows : IsTrue before.is_honest → AllSettled before → LeavesOnly (Shows (λ image. SaysTables image old.tables ⊎ SaysTables image (tables_after (CreateTable name) old.tables)) before.said) before now
    shows h rests =
        let kept : SaysTables before.files old.tables = sure.says (sound.faithful h) in
        alters_leave (Shows (λ image. SaysTables image old.tables ⊎ SaysTables image (tables_after (CreateTable name) old.tables)) before.said) sound h rests alters
        (record { image = inl kept; said_is = refl }) (λ p step said. record { image = may_say (step.each kept); said_is = said })

  -- the table is made
  pub made_line : {made : Bool} → Alters (IsNodeFile nodes_name) (MayCreate name old.tables) (Creates name old.tables) {T = Bool} {E = Stop} (Ok made) before now → HasCreated number name old new
      → (IsTrue now.is_faithful → IsStored new.nodes now.files) → (IsTrue now.is_faithful → SaysTables now.files new.tables) → now.last ≡ Some Sync
      → DoesLine number (CreateTable name) (Ok (Some Done)) old new before now
  made_line alters has stored says synced = record {
    quiet = alters.quiet;
    answer = sym answer_is;
    running = has.running;
    sure = record { stored = stored; says = says };
    doubt = has.doubt;
    steps = steps_of has.adds;
    history = has.history ∙ ap (λ (l : List Entry). old.history ++ l) (sym entries_are);
    halts = λ f. tt;
    stops = tt;
    unasked = tt;
    blank = λ none. absurd (is_answered Done none);
    call = inr synced;
    readable = stays_altered sound alters (λ d p step. step.readable);
    leaves = shows alters;
    rests = λ h rests. alters.rests h rests;
  }

  stops_so : (stop : Stop) → CreateStops stop number name old new before now → StopCounts stop before now
  stops_so (Host fault) why = why.1
  stops_so (Damaged named) why = why
  stops_so Full why = tt
  stops_so NoMemory why = tt

  -- a stop fell into it
  pub stopped_line : (stop : Stop) → Alters (IsNodeFile nodes_name) (MayCreate name old.tables) (Creates name old.tables) {T = Bool} {E = Stop} (Err stop) before now → new.history ≡ old.history → CreateStops stop number name old new before now
      → (IsUnasked stop → now ≡ before) → DoesLine number (CreateTable name) (Err stop) old new before now
  stopped_line stop alters history why untouched = record {
    quiet = alters.quiet;
    answer = tt;
    running = tt;
    sure = tt;
    doubt = tt;
    steps = tt;
    history = tt;
    halts = λ f. halts_at f stop (alters.tried f) why untouched;
    stops = stops_so stop why;
    unasked = λ own. unchanged (untouched own);
    blank = tt;
    call = tt;
    readable = stays_altered sound alters (λ d p step. step.readable);
    leaves = shows alters;
    rests = λ h rests. tt;
  }
    where
      nothing : (s : Stop) → IsEarlyStop s (CreateTable name) (station_of old) → IsTrue before.is_faithful → new.doubt ≡ [] → now ≡ before → DidNothing s (CreateTable name) old new before now
      nothing s why f doubt same = record {
        why = why;
        history = history;
        doubt = doubt;
        same = unchanged same;
        said = ap (λ (s : HostState). s.said) same;
        says = subst (λ (s : HostState). SaysTables s.files old.tables) (sym same) (sure.says f);
        leaves = λ h rests. subst (λ (s : HostState). LeavesOnly (IsBefore old.tables before.said) before s) (sym same) (only_start sound h rests (record { says = sure.says f; said_is = refl }));
      }

      committing : (fault : HostFault) → IsOfFiles fault → IsCommitStop (Host fault)
      committing Disk of = tt
      committing Source of = of
      committing Sink of = of
      committing Memory of = tt

      halts_at : IsTrue before.is_faithful → (s : Stop) → MayCreate name old.tables before.files now.files → CreateStops s number name old new before now → (IsUnasked s → now ≡ before)
          → DidNothing s (CreateTable name) old new before now ⊎ IsInDoubt s number (CreateTable name) old new before now
      halts_at f (Host fault) step cause same = inr (record { why = committing fault cause.0; history = history; doubt = cause.2 ∙ sym entries_are; said = alters.quiet.said f; says = may_say (step.each (sure.says f)) })
      halts_at f (Damaged named) step cause same = absurd cause
      halts_at f Full step cause same = inl (nothing Full (free, cause.1) f cause.0 (same tt))
      halts_at f NoMemory step cause same = inl (nothing NoMemory tt f cause (same tt))

-- the name is taken: nothing is done
pub taken_line : (number : ℕ) (name shown : List ℕ) (store new : StoreValue) (before now : HostState) → IsSound before → IsSure store before → store.stop ≡ None → store.doubt ≡ [] → is_taken name store.tables ≡ true → shown ≡ name → new ≡ store → now ≡ before
    → DoesLine number (CreateTable name) (Ok (Some (Refused (Exists shown)))) store new before now
taken_line number name shown store new before now sound sure running doubt taken shown_is same_store same =
    rw (same_store, same)
    (does_nothing number (CreateTable name) store before sound sure (Some (Refused (Exists shown))) running doubt
    (ap (λ (n : List ℕ). Some (Refused (Exists n))) shown_is ∙ ap (λ (b : Bool). Some (if b then Refused (Exists name) else Done)) (sym taken))
    (subst (λ (b : Bool). MatchBool b (station_of store ≡ station_of store) (AddsTable name (station_of store) (station_of store))) (sym taken) refl)
    (ap (λ (b : Bool). if b then [] else entry_of number name store.tables ∷ []) taken))
