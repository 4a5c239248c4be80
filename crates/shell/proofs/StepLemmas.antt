-- One line more is heard and served.
use Rattle.std.proofs.Common.{◌≡◌, inl, inr, ℕ, ◌+◌, ◌≤◌, List, ◌∷◌, ◌++◌, length, take, drop, Some, slice_get, Result, Ok, IsTrue, sym, ◌∙◌, ap, subst, arith, append_assoc, length-append, length-take}
use Rattle.host_model.specs.Picture.{Picture}
use Rattle.host_model.specs.State.{HostState, picture_now}
use Rattle.host_model.specs.Calls.{IsSound, Keeps}
use Rattle.host_model.specs.Kinds.{IsOfScript}
use Rattle.host_model.specs.Leaves.{LeavesOnly, AllSettled}
use Rattle.host_model.specs.declared.fault.Stop.{Stop}
use Rattle.host_model.proofs.CallsLemmas.{keeps-then, still_faithful, still_honest, was_faithful}
use Rattle.host_model.proofs.LeavesLemmas.{leaves_weaker, leaves_then, same_leave, rests_after_same}
use Rattle.script_source.specs.Script.{lines_of, text_of}
use Rattle.script_source.specs.Hearing.{Listens, TakesLine}
use Rattle.script_words.specs.Lines.{line_of}
use Rattle.table_store.specs.Tables.{Tables}
use Rattle.table_store.specs.Kept.{SaysTables}
use Rattle.table_store.specs.Room.{Station}
use Rattle.table_store.specs.StoreValue.{StoreValue, station_of}
use Rattle.plain_model.specs.declared.operation.Entry.{Entry}
use Rattle.node_store.specs.Image.{IsStored}
use Rattle.shell.specs.Serving.{tables_after, entries_of, reply_to, entries_over}
use Rattle.shell.specs.Script.{texts_of, max_lines, AreWithin}
use Rattle.shell.specs.LineServed.{IsSure, IsLinePicture, ServesLine}
use Rattle.shell.specs.Walk.{Steps, Walks}
use Rattle.shell.specs.ScriptServed.{tables_at, replies_at}
use Rattle.shell.specs.Serve.{IsScriptPicture, HasServed}
use Rattle.shell.specs.Readable.{StaysReadable}
use Rattle.shell.proofs.ReadableLemmas.{stays_same, stays_then}
use Rattle.shell.proofs.WalkLemmas.{walks-tables}
use Rattle.shell.proofs.ScriptLemmas.{tables_more, replies_more, entries_more, walks_more, text_here, within_more, at_line}

-- what a hearing leaves as it was
pub sure_after : {store : StoreValue} {now mid : HostState} → Listens now mid → IsSure store now → IsSure store mid
sure_after {store} {now} {mid} listens sure = record {
  stored = λ f. let at = was_faithful listens.keeps f in subst (λ i. IsStored store.nodes i) (sym (listens.same at).0) (sure.stored at);
  says = λ f. let at = was_faithful listens.keeps f in subst (λ i. SaysTables i store.tables) (sym (listens.same at).0) (sure.says at);
}

module _ {first : HostState} {start : Station} {n : ℕ} {pending : List ℕ} {store : StoreValue} {now : HostState} (sound : IsSound first) (sound_now : IsSound now) (served : HasServed first start n pending store now) where
  abbrev tables : Tables
  tables = start.tables

  -- the store's tables are those after the lines
  pub tables_are : IsTrue first.is_faithful → store.tables ≡ tables_at n (texts_of first.script) tables
  tables_are f = walks-tables (take n (texts_of first.script)) start (station_of store) (served.walks f)

  -- the picture between two lines
  pub between : IsTrue first.is_honest → IsScriptPicture tables (texts_of first.script) n first.said (picture_now now)
  between h =
      let f = sound.faithful h in
      record {
        done = n;
        within = omega arith;
        says = subst (λ t. SaysTables now.files t) (tables_are f) (served.sure.says (still_faithful served.keeps f));
        quiet = omega (arith, ap length (served.said f), length-append first.said (replies_at n (texts_of first.script) tables));
      }

  -- a hearing, whatever came of it
  pub heard_leaves : {mid : HostState} → Listens now mid → IsTrue first.is_honest → AllSettled first → LeavesOnly (IsScriptPicture tables (texts_of first.script) n first.said) first mid
  heard_leaves listens h rests = leaves_then (served.leaves h rests) (same_leave (IsScriptPicture tables (texts_of first.script) n first.said) sound_now (still_honest served.keeps h) (served.rests h rests) (listens.moves (still_honest served.keeps h)) (between h))

  pub heard_rests : {mid : HostState} → Listens now mid → IsTrue first.is_honest → AllSettled first → AllSettled mid
  heard_rests listens h rests = rests_after_same (listens.moves (still_honest served.keeps h)) (listens.same (still_faithful served.keeps (sound.faithful h))).0 (served.rests h rests)

  pub heard_readable : {mid : HostState} → Listens now mid → StaysReadable first mid
  heard_readable listens = stays_then sound served.keeps served.rests served.readable (stays_same sound_now (λ f. (listens.same f).0) listens.moves)

  -- the line that was heard is the next of the script
  module _ {mid : HostState} {text rest : List ℕ} (listens : Listens now mid) (sound_mid : IsSound mid) (takes : IsTrue now.is_faithful → TakesLine (pending ++ now.script) text rest) where
    pub here : (f : IsTrue first.is_faithful) → drop n (lines_of first.script) ≡ (takes (still_faithful served.keeps f)).line ∷ lines_of rest
    here f = sym (served.left f) ∙ (takes (still_faithful served.keeps f)).first

    module _ (number : ℕ) (number_is : number ≡ n + 1) (few : n + 1 ≤ max_lines) {T : Type 0} {result : Result T Stop} {store' : StoreValue} {later : HostState} (serves : ServesLine number (line_of text) result store store' mid later) where
      keeps : Keeps first later
      keeps = keeps-then served.keeps (keeps-then listens.keeps serves.keeps)

      mid_faithful : IsTrue first.is_faithful → IsTrue mid.is_faithful
      mid_faithful f = still_faithful listens.keeps (still_faithful served.keeps f)

      mid_said : IsTrue first.is_faithful → mid.said ≡ first.said ++ replies_at n (texts_of first.script) tables
      mid_said f = (listens.same (still_faithful served.keeps f)).1 ∙ served.said f

      -- the tables after the line
      pub tables_next : (f : IsTrue first.is_faithful) → tables_after (line_of text) store.tables ≡ tables_at (n + 1) (texts_of first.script) tables
      tables_next f =
          let t = takes (still_faithful served.keeps f) in
          ap (λ (x : List ℕ). tables_after (line_of x) store.tables) t.text_is ∙ ap (λ (x : Tables). tables_after (line_of (text_of t.line)) x) (tables_are f)
          ∙ sym (tables_more (lines_of first.script) n t.line (lines_of rest) (here f) tables)

      pub replies_next : (f : IsTrue first.is_faithful) → replies_at n (texts_of first.script) tables ++ reply_to number (line_of text) store.tables ≡ replies_at (n + 1) (texts_of first.script) tables
      replies_next f =
          let t = takes (still_faithful served.keeps f) in
          ap (λ (m : ℕ). replies_at n (texts_of first.script) tables ++ reply_to m (line_of text) store.tables) number_is
          ∙ ap (λ (x : List ℕ). replies_at n (texts_of first.script) tables ++ reply_to (n + 1) (line_of x) store.tables) t.text_is
          ∙ ap (λ (x : Tables). replies_at n (texts_of first.script) tables ++ reply_to (n + 1) (line_of (text_of t.line)) x) (tables_are f)
          ∙ sym (replies_more (lines_of first.script) n t.line (lines_of rest) (here f) tables)

      pub entries_next : (f : IsTrue first.is_faithful) → store.history ++ entries_of number (line_of text) store.tables ≡ entries_over 1 (take (n + 1) (texts_of first.script)) tables
      entries_next f =
          let t = takes (still_faithful served.keeps f) in
          ap (λ (m : ℕ). store.history ++ entries_of m (line_of text) store.tables) number_is
          ∙ ap (λ (x : List ℕ). store.history ++ entries_of (n + 1) (line_of x) store.tables) t.text_is
          ∙ ap (λ (x : Tables). store.history ++ entries_of (n + 1) (line_of (text_of t.line)) x) (tables_are f)
          ∙ ap (λ (l : List Entry). l ++ entries_of (n + 1) (line_of (text_of t.line)) (tables_at n (texts_of first.script) tables)) (served.history f)
          ∙ sym (entries_more (lines_of first.script) n t.line (lines_of rest) (here f) tables)

      pub walks_next : (f : IsTrue first.is_faithful) (last : Station) → Steps (line_of text) (station_of store) last → Walks (take (n + 1) (texts_of first.script)) start last
      walks_next f last steps =
          let t = takes (still_faithful served.keeps f) in
          walks_more (lines_of first.script) n t.line (lines_of rest) (here f) tables start (station_of store) last (served.walks f) (subst (λ (x : List ℕ). Steps (line_of x) (station_of store) last) t.text_is steps)

      pub text_next : (f : IsTrue first.is_faithful) → slice_get (texts_of first.script) n ≡ Some text
      text_next f =
          let t = takes (still_faithful served.keeps f) in
          text_here (lines_of first.script) n t.line (lines_of rest) (here f) tables ∙ ap Some (sym t.text_is)

      pub within_next : (f : IsTrue first.is_faithful) → AreWithin (lines_of first.script) (n + 1)
      within_next f =
          let t = takes (still_faithful served.keeps f) in
          within_more (lines_of first.script) n t.line (lines_of rest) (here f) tables (served.within f) t.short few

      pub line_readable : StaysReadable first later
      line_readable = stays_then sound (keeps-then served.keeps listens.keeps) (λ h rests. heard_rests listens h rests) (heard_readable listens) serves.readable

      -- what each crash leaves, up to and with this line
      pub line_leaves : IsTrue first.is_honest → AllSettled first → LeavesOnly (IsScriptPicture tables (texts_of first.script) (n + 1) first.said) first later
      line_leaves h rests =
          leaves_then (leaves_weaker (heard_leaves listens h rests) one_more) (leaves_weaker (serves.leaves (still_honest listens.keeps (still_honest served.keeps h)) (heard_rests listens h rests)) shown)
        where
          one_more : (p : Picture) → IsScriptPicture tables (texts_of first.script) n first.said p → IsScriptPicture tables (texts_of first.script) (n + 1) first.said p
          one_more p is = record { done = is.done; within = omega (arith, is.within); says = is.says; quiet = is.quiet }

          shown : (p : Picture) → IsLinePicture number (line_of text) store.tables mid.said p → IsScriptPicture tables (texts_of first.script) (n + 1) first.said p
          shown p (inl before) =
              let f = sound.faithful h in
              record {
                done = n;
                within = omega arith;
                says = subst (λ t. SaysTables p.image t) (tables_are f) before.says;
                quiet = omega (arith, ap length (before.said_is ∙ mid_said f), length-append first.said (replies_at n (texts_of first.script) tables));
              }
          shown p (inr behind) =
              let f = sound.faithful h in
              let reply = reply_to number (line_of text) store.tables in
              let all : length (replies_at n (texts_of first.script) tables) + length reply ≡ length (replies_at (n + 1) (texts_of first.script) tables) = sym (length-append (replies_at n (texts_of first.script) tables) reply) ∙ ap length (replies_next f) in
              record {
                done = n + 1;
                within = omega arith;
                says = subst (λ t. SaysTables p.image t) (tables_next f) behind.says;
                quiet = omega (arith, all, ap length (behind.said_is ∙ ap (λ l. l ++ take behind.count reply) (mid_said f)), length-append (first.said ++ replies_at n (texts_of first.script) tables) (take behind.count reply), length-append first.said (replies_at n (texts_of first.script) tables), length-take behind.count reply);
              }

  -- one line more is served to its end
  pub served_more : {mid : HostState} {text pending' : List ℕ} (listens : Listens now mid) → IsSound mid → (takes : IsTrue now.is_faithful → TakesLine (pending ++ now.script) text (pending' ++ mid.script)) → (number : ℕ) → number ≡ n + 1 → n + 1 ≤ max_lines → IsOfScript mid.last
      → {T : Type 0} {u : T} {store' : StoreValue} {later : HostState} → ServesLine number (line_of text) {T = T} (Ok u) store store' mid later → HasServed first start (n + 1) pending' store' later
  served_more {mid} {text} {pending'} listens sound_mid takes number number_is few call {store' = store'} {later = later} serves = record {
    keeps = keeps-then served.keeps (keeps-then listens.keeps serves.keeps);
    running = serves.running;
    sure = serves.sure;
    doubt = serves.doubt;
    within = λ f. within_next listens sound_mid takes number number_is few serves f;
    left = λ f.
        let t = takes (still_faithful served.keeps f) in
        ap (λ l. lines_of (pending' ++ l)) (serves.script (still_faithful listens.keeps (still_faithful served.keeps f)))
        ∙ sym (at_line (lines_of first.script) n t.line (lines_of (pending' ++ mid.script)) (here listens sound_mid takes f) tables).back;
    walks = λ f. walks_next listens sound_mid takes number number_is few serves f (station_of store') serves.steps;
    history = λ f. serves.history ∙ entries_next listens sound_mid takes number number_is few serves f;
    said = λ f.
        let reply = reply_to number (line_of text) store.tables in
        serves.said (still_faithful listens.keeps (still_faithful served.keeps f)) ∙ ap (λ l. l ++ reply) ((listens.same (still_faithful served.keeps f)).1 ∙ served.said f)
        ∙ append_assoc first.said (replies_at n (texts_of first.script) tables) reply ∙ ap (λ l. first.said ++ l) (replies_next listens sound_mid takes number number_is few serves f);
    call = inr (serves.call call);
    readable = line_readable listens sound_mid takes number number_is few serves;
    leaves = line_leaves listens sound_mid takes number number_is few serves;
    rests = λ h rests. serves.rests (still_honest listens.keeps (still_honest served.keeps h)) (heard_rests listens h rests);
  }
