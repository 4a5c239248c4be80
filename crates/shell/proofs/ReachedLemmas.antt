-- How far the image of a run has come in its script.
use Rattle.std.proofs.Common.{◌≡◌, ◌⊎◌, inl, inr, ⊎_elim, ℕ, ◌+◌, ◌≤◌, List, [], ◌++◌, take, Some, Result, Ok, Err, sym, ◌∙◌, ap, arith, subst}
use Rattle.host_model.specs.Picture.{Image}
use Rattle.host_model.specs.State.{HostState}
use Rattle.host_model.specs.declared.fault.Stop.{Stop}
use Rattle.script_words.specs.Lines.{line_of}
use Rattle.script_words.specs.declared.line.Line.{Line}
use Rattle.script_words.specs.declared.line.Line.TheVariants.{Blank}
use Rattle.plain_model.specs.State.{PlainState}
use Rattle.plain_model.specs.History.{after}
use Rattle.table_store.specs.Tables.{Tables, plain_of}
use Rattle.table_store.specs.Kept.{SaysTables}
use Rattle.table_store.specs.Room.{Station}
use Rattle.plain_model.specs.declared.operation.Entry.{Entry}
use Rattle.script_source.specs.Script.{lines_of}
use Rattle.shell.specs.Script.{texts_of, AreWithin}
use Rattle.std.proofs.lemmas.List.{append-nil}
use Rattle.std.specs.List.{slice_get}
use Rattle.shell.specs.Headline.{AreOfLines}
use Rattle.shell.proofs.SourceLemmas.{apart_over}
use Rattle.shell.specs.Serving.{tables_after, entries_of}
use Rattle.shell.specs.ScriptServed.{tables_at, entries_at, HasDone, HasEnded, StopsInside}
use Rattle.shell.specs.declared.ending.Ending.{Ending}
use Rattle.shell.specs.declared.ending.Ending.TheVariants.{ScriptEnd, NoLine}
use Rattle.shell.proofs.AfterLemmas.{after-append}
use Rattle.shell.proofs.PlainLemmas.{after_line}
use Rattle.shell.proofs.FrontLemmas.{entries_more}
use Rattle.shell.proofs.StandsLemmas.{CanGoOn, applied_at}

-- no entry is in doubt, or that of a line that comes next
pub record IsNext (tables : Tables) (maybe : List Entry) : Type 0 where
  pub number : ℕ
  pub line : Line
  pub are : maybe ≡ entries_of number line tables

-- the image has the tables after all lines but perhaps the last, and the entries of these are the history, or that and the one in doubt
pub record HasReached (texts : List (List ℕ)) (tables : Tables) (lines : ℕ) (past maybe : List Entry) (image : Image) : Type 0 where
  pub count : ℕ
  pub far : lines ≤ count + 1
  pub says : SaysTables image (tables_at count texts tables)
  pub entries : ((past ≡ entries_at count texts tables) × IsNext (tables_at count texts tables) maybe) ⊎ (past ++ maybe ≡ entries_at count texts tables)

-- the entries are those of so many lines
pub record HasTried (first : HostState) (tables : Tables) (entries : List Entry) : Type 0 where
  pub tried : ℕ
  pub within : AreWithin (lines_of first.script) tried
  pub all : entries ≡ entries_at tried (texts_of first.script) tables

-- ---- the ends of a script

module _ (first now : HostState) (start : Station) (lines : ℕ) (past maybe : List Entry) where
  none : {tables : Tables} → maybe ≡ [] → IsNext tables maybe
  none is = record { number = 0; line = Blank; are = is }

  all_inside : (stop : Stop) → StopsInside stop first start lines past maybe now → past ++ maybe ≡ entries_at lines (texts_of first.script) start.tables
  all_inside stop stops =
      let last = stops.last in
      ap (λ l. l ++ maybe) stops.history
      ∙ ap (λ l. entries_at last.before (texts_of first.script) start.tables ++ l) stops.doubt
      ∙ ap (λ n. entries_at last.before (texts_of first.script) start.tables ++ entries_of n (line_of last.text) (tables_at last.before (texts_of first.script) start.tables)) last.lines_are
      ∙ sym (entries_more (texts_of first.script) start.tables last.before last.text last.is)
      ∙ ap (λ n. entries_at n (texts_of first.script) start.tables) (sym last.lines_are)

  inside : (stop : Stop) → StopsInside stop first start lines past maybe now → HasReached (texts_of first.script) start.tables lines past maybe now.files
  inside stop stops = ⊎_elim
      (λ kept. record { count = stops.last.before; far = omega (arith, stops.last.lines_are); says = kept; entries = inl (stops.history, record { number = lines; line = line_of stops.last.text; are = stops.doubt }) })
      (λ kept. record { count = lines; far = omega arith; says = kept; entries = inr (all_inside stop stops) })
      stops.says

  pub reached : (ending : Result Ending Stop) → HasEnded ending first start lines past maybe now → HasReached (texts_of first.script) start.tables lines past maybe now.files
  reached (Ok ScriptEnd) ended = record { count = lines; far = omega arith; says = ended.done.says; entries = inl (ended.done.history, none ended.doubt) }
  reached (Ok NoLine) ended = record { count = ended.before; far = omega (arith, ended.lines_are); says = ended.done.says; entries = inl (ended.done.history, none ended.doubt) }
  reached (Err stop) ended = ⊎_elim
      (λ s. record { count = lines; far = omega arith; says = s.done.says; entries = inl (s.done.history, none s.doubt) })
      (λ more. ⊎_elim
      (λ s. record { count = s.refused.before; far = omega (arith, s.refused.lines_are); says = s.refused.done.says; entries = inl (s.refused.done.history, none s.refused.doubt) })
      (λ more. ⊎_elim
      (λ s. record { count = s.last.before; far = omega (arith, s.last.lines_are); says = s.done.says; entries = inl (s.done.history, none s.doubt) })
      (λ more. ⊎_elim
      (λ s. inside stop s)
      (λ s. record { count = lines; far = omega arith; says = s.done.says; entries = inl (s.done.history, none s.doubt) })
      more)
      more)
      more)
      ended

  done_tried : {count : ℕ} → HasDone first start count past now → maybe ≡ [] → HasTried first start.tables (past ++ maybe)
  done_tried {count} done none = record { tried = count; within = done.within; all = ap (λ l. past ++ l) none ∙ append-nil past ∙ done.history }

  pub tried : (ending : Result Ending Stop) → HasEnded ending first start lines past maybe now → HasTried first start.tables (past ++ maybe)
  tried (Ok ScriptEnd) ended = done_tried ended.done ended.doubt
  tried (Ok NoLine) ended = done_tried ended.done ended.doubt
  tried (Err stop) ended = ⊎_elim
      (λ s. done_tried s.done s.doubt)
      (λ more. ⊎_elim
      (λ s. done_tried s.refused.done s.refused.doubt)
      (λ more. ⊎_elim
      (λ s. done_tried s.done s.doubt)
      (λ more. ⊎_elim
      (λ s. record { tried = lines; within = s.last.within; all = all_inside stop s })
      (λ s. done_tried s.done s.doubt)
      more)
      more)
      more)
      ended

-- ---- no operation is refused

-- the plain state after these entries
pub record Applies (tables : Tables) (entries : List Entry) : Type 0 where
  pub last : PlainState
  pub applied : after entries (plain_of tables) ≡ Some last

next_applied : (texts : List (List ℕ)) (tables : Tables) (count : ℕ) (past maybe : List Entry) (image : Image) → CanGoOn tables → SaysTables image (tables_at count texts tables)
    → past ≡ entries_at count texts tables → IsNext (tables_at count texts tables) maybe → Applies tables (past ++ maybe)
next_applied texts tables count past maybe image go kept are next = record {
  last = plain_of (tables_after next.line here);
  applied =
      after-append past maybe (plain_of tables) (plain_of here) (applied_at texts tables count past image go kept are)
      ∙ ap (λ es. after es (plain_of here)) next.are
      ∙ after_line next.number next.line here kept.reading.ids (record { positive = kept.reading.next.value.least; below = kept.reading.next.value.most });
}
  where
    here : Tables
    here = tables_at count texts tables

pub applies_all : (texts : List (List ℕ)) (tables : Tables) (lines : ℕ) (past maybe : List Entry) (image : Image) → CanGoOn tables → HasReached texts tables lines past maybe image → Applies tables (past ++ maybe)
applies_all texts tables lines past maybe image go has = ⊎_elim
    (λ are. next_applied texts tables has.count past maybe image go has.says are.0 are.1)
    (λ are. record { last = plain_of (tables_at has.count texts tables); applied = applied_at texts tables has.count (past ++ maybe) image go has.says are })
    has.entries

pub of_lines : (first : HostState) (tables : Tables) (entries : List Entry) → HasTried first tables entries → Applies tables entries → AreOfLines first tables entries
of_lines first tables entries has applies = record {
  lines = has.tried;
  within = has.within;
  are = has.all;
  apart = λ i j one two is also. apart_over 1 (take has.tried (texts_of first.script)) tables i j one two
      (subst (λ es. slice_get es i ≡ Some one) has.all is)
      (subst (λ es. slice_get es j ≡ Some two) has.all also);
  last = applies.last;
  applied = applies.applied;
}
