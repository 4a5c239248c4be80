-- How the serving of a script goes on, line by line.
use Rattle.std.proofs.Common.{◌≡◌, inl, ℕ, ◌+◌, ◌≤◌, List, [], ◌∷◌, ◌++◌, length, take, drop, map, Some, None, slice_get, refl, sym, ◌∙◌, ap, subst, arith, length-take}
use Rattle.std.specs.List.{AllByRecursion}
use Rattle.std.proofs.lemmas.List.{append-nil}
use Rattle.host_model.specs.State.{HostState}
use Rattle.host_model.specs.Calls.{IsSound}
use Rattle.host_model.proofs.CallsLemmas.{keeps-refl}
use Rattle.script_source.specs.Script.{ScriptLine, text_of}
use Rattle.script_source.specs.Hearing.{max_line}
use Rattle.script_words.specs.Lines.{line_of}
use Rattle.table_store.specs.Tables.{Tables}
use Rattle.table_store.specs.Room.{Station}
use Rattle.table_store.specs.StoreValue.{StoreValue, station_of}
use Rattle.shell.proofs.ReadableLemmas.{stays_refl}
use Rattle.shell.specs.Serving.{tables_after, entries_of, reply_to, tables_over, replies_over, entries_over}
use Rattle.shell.specs.Script.{max_lines, AreWithin}
use Rattle.shell.specs.LineServed.{IsSure}
use Rattle.shell.specs.Walk.{Steps, Walks}
use Rattle.shell.specs.ScriptServed.{tables_at, replies_at}
use Rattle.shell.specs.Serve.{HasServed}
use Rattle.shell.proofs.WalkLemmas.{walks-one_more}
use Rattle.shell.proofs.OverLemmas.{tables_over-append, replies_over-append, entries_over-append}
use Rattle.shell.proofs.SplitLemmas.{Splits, splits, drop-map, get_at, All-one_more}
use Rattle.shell.proofs.LineLemmas.{only_start}

-- before the first line
pub served_start : (store : StoreValue) (first : HostState) → IsSound first → store.stop ≡ None → store.doubt ≡ [] → store.history ≡ [] → IsSure store first → HasServed first (station_of store) 0 [] store first
served_start store first sound running doubt history sure = record {
  keeps = keeps-refl first;
  running = running;
  sure = sure;
  doubt = doubt;
  within = λ f. record { there = omega arith; few = omega arith; short = tt };
  left = λ f. refl;
  walks = λ f. refl;
  history = λ f. history;
  said = λ f. sym (append-nil first.said);
  call = inl refl;
  readable = stays_refl sound;
  leaves = λ h rests. only_start sound h rests (record { done = 0; within = omega arith; says = sure.says (sound.faithful h); quiet = omega arith });
  rests = λ h rests. rests;
}

-- the texts up to and with a line, and what they make
module _ (lines : List ScriptLine) (n : ℕ) (line : ScriptLine) (rest : List ScriptLine) (here : drop n lines ≡ line ∷ rest) (tables : Tables) where
  abbrev pub texts : List (List ℕ)
  texts = map text_of lines

  pub at_line : Splits lines n line rest
  at_line = splits lines n line rest here

  at_text : Splits texts n (text_of line) (map text_of rest)
  at_text = splits texts n (text_of line) (map text_of rest) (drop-map text_of n lines ∙ ap (λ l. map text_of l) here)

  size : length (take n texts) ≡ n
  size = omega (arith, length-take n texts, at_text.there)

  pub tables_more : tables_at (n + 1) texts tables ≡ tables_after (line_of (text_of line)) (tables_at n texts tables)
  tables_more = ap (λ l. tables_over l tables) at_text.front ∙ tables_over-append (take n texts) (text_of line ∷ []) tables

  pub replies_more : replies_at (n + 1) texts tables ≡ replies_at n texts tables ++ reply_to (n + 1) (line_of (text_of line)) (tables_at n texts tables)
  replies_more =
      let e : 1 + length (take n texts) ≡ n + 1 = omega (arith, size) in
      ap (λ l. replies_over 1 l tables) at_text.front ∙ replies_over-append 1 (take n texts) (text_of line ∷ []) tables
      ∙ ap (λ m. replies_at n texts tables ++ (reply_to m (line_of (text_of line)) (tables_at n texts tables) ++ [])) e
      ∙ ap (λ l. replies_at n texts tables ++ l) (append-nil (reply_to (n + 1) (line_of (text_of line)) (tables_at n texts tables)))

  pub entries_more : entries_over 1 (take (n + 1) texts) tables ≡ entries_over 1 (take n texts) tables ++ entries_of (n + 1) (line_of (text_of line)) (tables_at n texts tables)
  entries_more =
      let e : 1 + length (take n texts) ≡ n + 1 = omega (arith, size) in
      ap (λ l. entries_over 1 l tables) at_text.front ∙ entries_over-append 1 (take n texts) (text_of line ∷ []) tables
      ∙ ap (λ m. entries_over 1 (take n texts) tables ++ (entries_of m (line_of (text_of line)) (tables_at n texts tables) ++ [])) e
      ∙ ap (λ l. entries_over 1 (take n texts) tables ++ l) (append-nil (entries_of (n + 1) (line_of (text_of line)) (tables_at n texts tables)))

  pub walks_more : (start mid last : Station) → Walks (take n texts) start mid → Steps (line_of (text_of line)) mid last → Walks (take (n + 1) texts) start last
  walks_more start mid last walks steps = subst (λ (l : List (List ℕ)). Walks l start last) (sym at_text.front) (walks-one_more (take n texts) (text_of line) start mid last walks steps)

  pub text_here : slice_get texts n ≡ Some (text_of line)
  text_here = get_at texts n (text_of line) (map text_of rest) (drop-map text_of n lines ∙ ap (λ l. map text_of l) here)

  pub within_more : AreWithin lines n → length line.bytes ≤ max_line → n + 1 ≤ max_lines → AreWithin lines (n + 1)
  within_more within short few = record {
    there = at_line.there;
    few = few;
    short = subst (λ l. AllByRecursion (λ (x : ScriptLine). length x.bytes ≤ max_line) l) (sym at_line.front) (All-one_more (λ (x : ScriptLine). length x.bytes ≤ max_line) (take n lines) line within.short short);
  }
