-- An entry is in doubt only where its commit met a fault.
use Rattle.std.proofs.Common.{◌≡◌, ◌⊎◌, inl, inr, ⊎_elim, ℕ, Bool, true, false, cond, List, [], ◌∷◌, Result, Ok, Err, IfErr, sym, ◌∙◌, ap}
use Rattle.std.specs.Option.{option_to_list}
use Rattle.host_model.specs.State.{HostState}
use Rattle.host_model.specs.Calls.{Faulted}
use Rattle.host_model.specs.declared.fault.HostFault.TheVariants.{Disk, Source, Sink, Memory}
use Rattle.host_model.specs.declared.fault.Stop.{Stop}
use Rattle.host_model.specs.declared.fault.Stop.TheVariants.{Host, Damaged, Full, NoMemory}
use Rattle.script_words.specs.declared.line.Line.{Line}
use Rattle.script_words.specs.declared.line.Line.TheVariants.{Blank, CreateTable, Tables as ListTables, Unbuilt}
use Rattle.table_store.specs.Tables.{Tables, is_taken}
use Rattle.table_store.specs.Room.{Station}
use Rattle.table_store.specs.StoreValue.{entry_of}
use Rattle.plain_model.specs.declared.operation.Entry.{Entry}
use Rattle.shell.specs.Serving.{entries_of}
use Rattle.shell.specs.LineServed.{IsCommitStop, StopCounts}
use Rattle.shell.specs.ScriptServed.{HasEnded, StopsInside}
use Rattle.shell.specs.Ending.{status_for}
use Rattle.shell.specs.Headline.{IsRightlyInDoubt}
use Rattle.shell.specs.declared.outcomes.Outcome.{Outcome}
use Rattle.shell.specs.declared.ending.Ending.{Ending}
use Rattle.shell.specs.declared.ending.Ending.TheVariants.{ScriptEnd, NoLine}

not_empty : (entry : Entry) (list : List Entry) → list ≡ entry ∷ [] → list ≡ [] → ⊥
not_empty entry list one none = cc

same_entry : (one two : Entry) → one ∷ [] ≡ two ∷ [] → one ≡ two
same_entry one two is = cc

not_cons : (entry : Entry) → ◌≡◌ {A = List Entry} [] (entry ∷ []) → ⊥
not_cons entry is = cc

-- the only entry of a line has its number
entry_line : (number : ℕ) (line : Line) (tables : Tables) (entry : Entry) → entries_of number line tables ≡ entry ∷ [] → entry.line ≡ number
entry_line number Blank tables entry is = absurd (not_cons entry is)
entry_line number (CreateTable name) tables entry is = at (is_taken name tables) is
  where
    at : (b : Bool) → cond b [] (entry_of number name tables ∷ []) ≡ entry ∷ [] → entry.line ≡ number
    at true none = absurd (not_cons entry none)
    at false one = ap (λ (e : Entry). e.line) (sym (same_entry (entry_of number name tables) entry one))
entry_line number ListTables tables entry is = absurd (not_cons entry is)
entry_line number Unbuilt tables entry is = absurd (not_cons entry is)

commit_cause : (stop : Stop) (status : ℕ) (first now : HostState) → IsCommitStop stop → status ≡ status_for (Err stop) → StopCounts stop first now → ((status ≡ 4) × Faulted Disk first now) ⊎ ((status ≡ 7) × Faulted Memory first now)
commit_cause (Host Disk) status first now why is counts = inl (is, counts)
commit_cause (Host Source) status first now why is counts = absurd why
commit_cause (Host Sink) status first now why is counts = absurd why
commit_cause (Host Memory) status first now why is counts = inr (is, counts)
commit_cause (Damaged name) status first now why is counts = absurd why
commit_cause Full status first now why is counts = absurd why
commit_cause NoMemory status first now why is counts = absurd why

module _ (first now : HostState) (start : Station) (outcome : Outcome) (entry : Entry) (is : option_to_list outcome.doubt ≡ entry ∷ []) where
  no_doubt : option_to_list outcome.doubt ≡ [] → IsRightlyInDoubt first start.tables outcome now entry
  no_doubt none = absurd (not_empty entry (option_to_list outcome.doubt) is none)

  inside : (stop : Stop) → outcome.status ≡ status_for (Err stop) → StopCounts stop first now → StopsInside stop first start outcome.lines outcome.history (option_to_list outcome.doubt) now → IsRightlyInDoubt first start.tables outcome now entry
  inside stop status counts stops = record {
    cause = commit_cause stop outcome.status first now stops.why status counts;
    line_is = entry_line outcome.lines _ _ entry (sym stops.doubt ∙ is);
    before = stops.last.before;
    last = stops.last.lines_are;
    unsaid = stops.said;
  }

  pub doubt_due : (ending : Result Ending Stop) → outcome.status ≡ status_for ending → HasEnded ending first start outcome.lines outcome.history (option_to_list outcome.doubt) now
      → IfErr ending (λ stop. StopCounts stop first now) → IsRightlyInDoubt first start.tables outcome now entry
  doubt_due (Ok ScriptEnd) status ended counts = no_doubt ended.doubt
  doubt_due (Ok NoLine) status ended counts = no_doubt ended.doubt
  doubt_due (Err stop) status ended counts = ⊎_elim (λ s. no_doubt s.doubt) (λ more. ⊎_elim (λ s. no_doubt s.refused.doubt) (λ more. ⊎_elim (λ s. no_doubt s.doubt) (λ more. ⊎_elim (λ s. inside stop status counts s) (λ s. no_doubt s.doubt) more) more) more) ended
