-- The operations of a script make the plain states of its tables.
use Rattle.std.proofs.Common.{◌≡◌, ℕ, ◌+◌, ◌<◌, ◌≤◌, ◌^◌, Bool, true, false, cond, List, [], ◌∷◌, Some, refl, ◌∙◌, ap, arith}
use Rattle.std.specs.Option.{option_and_then}
use Rattle.std.specs.Result.{result_ok}
use Rattle.script_words.specs.Lines.{line_of}
use Rattle.script_words.specs.declared.line.Line.{Line}
use Rattle.script_words.specs.declared.line.Line.TheVariants.{Blank, CreateTable, Tables as ListTables, Unbuilt}
use Rattle.plain_model.specs.History.{after}
use Rattle.table_store.specs.Numbers.{IsDrawable}
use Rattle.table_store.specs.Tables.{Tables, AreDrawn, is_taken, created, plain_of}
use Rattle.table_store.specs.StoreValue.{entry_of}
use Rattle.table_store.proofs.TablesLemmas.{drawn_created}
use Rattle.table_store.proofs.LawsLemmas.{created_applied}
use Rattle.shell.specs.Serving.{tables_after, entries_of, tables_over, entries_over}
use Rattle.shell.proofs.AfterLemmas.{after-append}

-- ---- the number that is drawn next

next_after : (line : Line) (tables : Tables) → tables.next ≤ (tables_after line tables).next
next_after Blank tables = omega arith
next_after (CreateTable name) tables = at (is_taken name tables)
  where
    at : (b : Bool) → tables.next ≤ (cond b tables (created name tables)).next
    at true = omega arith
    at false = omega arith
next_after ListTables tables = omega arith
next_after Unbuilt tables = omega arith

pub next_over : (texts : List (List ℕ)) (tables : Tables) → tables.next ≤ (tables_over texts tables).next
next_over [] tables = omega arith
next_over (text ∷ texts) tables = omega (arith, next_after (line_of text) tables, next_over texts (tables_after (line_of text) tables))

-- ---- the ids that were drawn

drawn_after : (line : Line) (tables : Tables) → AreDrawn tables → IsDrawable tables.next → AreDrawn (tables_after line tables)
drawn_after Blank tables ids drawable = ids
drawn_after (CreateTable name) tables ids drawable = at (is_taken name tables) refl
  where
    at : (b : Bool) → is_taken name tables ≡ b → AreDrawn (cond b tables (created name tables))
    at true taken = ids
    at false free = drawn_created tables name ids drawable.positive drawable.below free
drawn_after ListTables tables ids drawable = ids
drawn_after Unbuilt tables ids drawable = ids

-- each number on the way may be drawn
first_drawable : (text : List ℕ) (texts : List (List ℕ)) (tables : Tables) → 0 < tables.next → (tables_over (text ∷ texts) tables).next < 2 ^ 63 → IsDrawable tables.next
first_drawable text texts tables positive below = record { positive = positive; below = omega (arith, next_over (text ∷ texts) tables) }

pub drawn_over : (texts : List (List ℕ)) (tables : Tables) → AreDrawn tables → 0 < tables.next → (tables_over texts tables).next < 2 ^ 63 → AreDrawn (tables_over texts tables)
drawn_over [] tables ids positive below = ids
drawn_over (text ∷ texts) tables ids positive below =
    drawn_over texts (tables_after (line_of text) tables) (drawn_after (line_of text) tables ids (first_drawable text texts tables positive below)) (omega (arith, next_after (line_of text) tables)) below

-- ---- the plain states

pub after_line : (number : ℕ) (line : Line) (tables : Tables) → AreDrawn tables → IsDrawable tables.next → after (entries_of number line tables) (plain_of tables) ≡ Some (plain_of (tables_after line tables))
after_line number Blank tables ids drawable = refl
after_line number (CreateTable name) tables ids drawable = at (is_taken name tables) refl
  where
    at : (b : Bool) → is_taken name tables ≡ b → after (cond b [] (entry_of number name tables ∷ [])) (plain_of tables) ≡ Some (plain_of (cond b tables (created name tables)))
    at true taken = refl
    at false free = ap (λ o. option_and_then (after []) (result_ok o)) (created_applied name tables ids drawable free)
after_line number ListTables tables ids drawable = refl
after_line number Unbuilt tables ids drawable = refl

-- what the entries of these lines make of the plain state is that of the tables after the lines
pub after_over : (number : ℕ) (texts : List (List ℕ)) (tables : Tables) → AreDrawn tables → 0 < tables.next → (tables_over texts tables).next < 2 ^ 63 → after (entries_over number texts tables) (plain_of tables) ≡ Some (plain_of (tables_over texts tables))
after_over number [] tables ids positive below = refl
after_over number (text ∷ texts) tables ids positive below =
    let line = line_of text in
    let drawable = first_drawable text texts tables positive below in
    after-append (entries_of number line tables) (entries_over (number + 1) texts (tables_after line tables)) (plain_of tables) (plain_of (tables_after line tables)) (after_line number line tables ids drawable)
    ∙ after_over (number + 1) texts (tables_after line tables) (drawn_after line tables ids drawable) (omega (arith, positive, next_after line tables)) below
