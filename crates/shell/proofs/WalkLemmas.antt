-- Stores that lines make, one after another.
use Rattle.std.proofs.Common.{◌≡◌, ℕ, Bool, true, false, if◌then◌else◌, MatchBool, List, [], ◌∷◌, ◌++◌, refl, ◌∙◌, ap, subst}
use Rattle.script_words.specs.Lines.{line_of}
use Rattle.script_words.specs.declared.line.Line.{Line}
use Rattle.script_words.specs.declared.line.Line.TheVariants.{Blank, CreateTable, Tables as ListTables, Unbuilt}
use Rattle.table_store.specs.Tables.{Tables, is_taken, created}
use Rattle.table_store.specs.Room.{Station, AddsTable}
use Rattle.shell.specs.Serving.{tables_after, tables_over}
use Rattle.shell.specs.Walk.{Steps, Walks}

-- a step makes the tables after its line
pub steps-tables : (line : Line) (old new : Station) → Steps line old new → new.tables ≡ tables_after line old.tables
steps-tables Blank old new same = ap (λ (s : Station). s.tables) same
steps-tables (CreateTable name) old new step = at (is_taken name old.tables) step
  where
    at : (taken : Bool) → MatchBool taken (new ≡ old) (AddsTable name old new) → new.tables ≡ (if taken then old.tables else created name old.tables)
    at true same = ap (λ (s : Station). s.tables) same
    at false adds = adds.tables
steps-tables ListTables old new same = ap (λ (s : Station). s.tables) same
steps-tables Unbuilt old new same = ap (λ (s : Station). s.tables) same

-- a walk makes the tables over its lines
pub walks-tables : (texts : List (List ℕ)) (start last : Station) → Walks texts start last → last.tables ≡ tables_over texts start.tables
walks-tables [] start last same = ap (λ (s : Station). s.tables) same
walks-tables (text ∷ texts) start last walks = walks-tables texts walks.0 last walks.2 ∙ ap (λ (t : Tables). tables_over texts t) (steps-tables (line_of text) start walks.0 walks.1)

-- a walk goes on with one line more
pub walks-one_more : (texts : List (List ℕ)) (text : List ℕ) (start mid last : Station) → Walks texts start mid → Steps (line_of text) mid last → Walks (texts ++ text ∷ []) start last
walks-one_more [] text start mid last same steps = (last, subst (λ s. Steps (line_of text) s last) same steps, refl)
walks-one_more (first ∷ texts) text start mid last walks steps = (walks.0, walks.1, walks-one_more texts text walks.0 mid last walks.2 steps)
