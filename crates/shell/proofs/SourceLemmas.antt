-- No two entries of a script have the same source.
use Rattle.std.proofs.Common.{◌≡◌, ℕ, zero, suc, ◌+◌, ◌≤◌, Bool, true, false, cond, List, [], ◌∷◌, ◌++◌, Option, Some, None, refl, sym, ◌∙◌, ap, subst, arith}
use Rattle.std.specs.List.{slice_get}
use Rattle.std.proofs.lemmas.Option.{same_Some}
use Rattle.script_words.specs.Lines.{line_of}
use Rattle.script_words.specs.declared.line.Line.{Line}
use Rattle.script_words.specs.declared.line.Line.TheVariants.{Blank, CreateTable, Tables as ListTables, Unbuilt}
use Rattle.table_store.specs.Tables.{Tables, is_taken}
use Rattle.table_store.specs.StoreValue.{entry_of}
use Rattle.plain_model.specs.declared.operation.Source.TheVariants.{Line as OfLine}
use Rattle.plain_model.specs.declared.operation.Entry.{Entry}
use Rattle.shell.specs.Serving.{tables_after, entries_of, entries_over}

-- the entries are those of lines from this number on, each behind the one before
abbrev Rise : ℕ → List Entry → Type 0
Rise number [] = Unit {0}
Rise number (entry ∷ more) = (number ≤ entry.line) × (entry.source ≡ OfLine entry.line) × Rise (entry.line + 1) more

rise_later : (low high : ℕ) (entries : List Entry) → low ≤ high → Rise high entries → Rise low entries
rise_later low high [] le rise = tt
rise_later low high (entry ∷ more) le rise = (omega (arith, rise.0), rise.1, rise.2)

rise_line : (number : ℕ) (line : Line) (tables : Tables) (more : List Entry) → Rise (number + 1) more → Rise number (entries_of number line tables ++ more)
rise_line number Blank tables more rise = rise_later number (number + 1) more (omega arith) rise
rise_line number (CreateTable name) tables more rise = at (is_taken name tables)
  where
    at : (b : Bool) → Rise number (cond b [] (entry_of number name tables ∷ []) ++ more)
    at true = rise_later number (number + 1) more (omega arith) rise
    at false = (omega arith, refl, rise)
rise_line number ListTables tables more rise = rise_later number (number + 1) more (omega arith) rise
rise_line number Unbuilt tables more rise = rise_later number (number + 1) more (omega arith) rise

rise_over : (number : ℕ) (texts : List (List ℕ)) (tables : Tables) → Rise number (entries_over number texts tables)
rise_over number [] tables = tt
rise_over number (text ∷ texts) tables = rise_line number (line_of text) tables (entries_over (number + 1) texts (tables_after (line_of text) tables)) (rise_over (number + 1) texts (tables_after (line_of text) tables))

not_there : {X : Type 0} (x : X) → ◌≡◌ {A = Option X} None (Some x) → ⊥
not_there x is = cc

-- the line of an entry, and its source
rise_at : (number : ℕ) (entries : List Entry) (i : ℕ) (entry : Entry) → Rise number entries → slice_get entries i ≡ Some entry → (number ≤ entry.line) × (entry.source ≡ OfLine entry.line)
rise_at number [] i entry rise is = absurd (not_there entry is)
rise_at number (first ∷ more) zero entry rise is = subst (λ (e : Entry). (number ≤ e.line) × (e.source ≡ OfLine e.line)) (same_Some first entry is) (rise.0, rise.1)
rise_at number (first ∷ more) (suc i) entry rise is = let later = rise_at (first.line + 1) more i entry rise.2 is in (omega (arith, rise.0, later.0), later.1)

same_line : (a b : ℕ) → OfLine a ≡ OfLine b → a ≡ b
same_line a b is = cc

-- the first entry has another source than those behind it
first_apart : (number : ℕ) (first : Entry) (more : List Entry) (i : ℕ) (entry : Entry) → Rise number (first ∷ more) → slice_get more i ≡ Some entry → entry.source ≡ first.source → ⊥
first_apart number first more i entry rise is same =
    let later = rise_at (first.line + 1) more i entry rise.2 is in
    let lines : entry.line ≡ first.line = same_line entry.line first.line (sym later.1 ∙ same ∙ rise.1) in
    absurd (omega (arith, later.0, lines))

rise_apart : (number : ℕ) (entries : List Entry) → Rise number entries → (i j : ℕ) (one two : Entry) → slice_get entries i ≡ Some one → slice_get entries j ≡ Some two → one.source ≡ two.source → i ≡ j
rise_apart number [] rise i j one two is also same = absurd (not_there one is)
rise_apart number (first ∷ more) rise zero zero one two is also same = refl
rise_apart number (first ∷ more) rise zero (suc j) one two is also same =
    absurd (first_apart number first more j two rise also (sym same ∙ ap (λ (e : Entry). e.source) (sym (same_Some first one is))))
rise_apart number (first ∷ more) rise (suc i) zero one two is also same =
    absurd (first_apart number first more i one rise is (same ∙ ap (λ (e : Entry). e.source) (sym (same_Some first two also))))
rise_apart number (first ∷ more) rise (suc i) (suc j) one two is also same = ap (λ k. suc k) (rise_apart (first.line + 1) more rise.2 i j one two is also same)

-- entries at different places have different sources
pub apart_over : (number : ℕ) (texts : List (List ℕ)) (tables : Tables) (i j : ℕ) (one two : Entry)
    → slice_get (entries_over number texts tables) i ≡ Some one → slice_get (entries_over number texts tables) j ≡ Some two → one.source ≡ two.source → i ≡ j
apart_over number texts tables i j one two is also same = rise_apart number (entries_over number texts tables) (rise_over number texts tables) i j one two is also same
