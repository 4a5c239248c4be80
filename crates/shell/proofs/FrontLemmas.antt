-- The lines of a script up to some line, and those behind it.
use Rattle.std.proofs.Common.{◌≡◌, ℕ, ◌+◌, ◌<◌, ◌≤◌, List, [], ◌∷◌, ◌++◌, length, take, drop, Some, sym, ◌∙◌, ap, subst, arith, length-append, length-take, length-drop, take-append-drop}
use Rattle.std.specs.List.{All, slice_get}
use Rattle.std.proofs.lemmas.List.{append-nil, take-take, take_more}
use Rattle.std.proofs.Math.Seq.{take-append-add}
use Rattle.std.proofs.lemmas.List.Elements.{All-weaker}
use Rattle.std.proofs.lemmas.Option.{slice_get_within, get_or_from_slice_get}
use Rattle.host_model.specs.Picture.{Picture}
use Rattle.host_model.specs.State.{HostState}
use Rattle.script_words.specs.Lines.{line_of}
use Rattle.table_store.specs.Tables.{Tables}
use Rattle.plain_model.specs.declared.operation.Entry.{Entry}
use Rattle.shell.specs.Script.{texts_of}
use Rattle.shell.specs.Serving.{entries_of, tables_over, replies_over, entries_over}
use Rattle.shell.specs.ScriptServed.{tables_at, replies_at, entries_at}
use Rattle.shell.specs.Headline.{IsReported}
use Rattle.shell.proofs.OverLemmas.{tables_over-append, replies_over-append, entries_over-append}
use Rattle.shell.proofs.AfterLemmas.{IsAnswered}
use Rattle.shell.proofs.ReportLemmas.{answered_over}
use Rattle.shell.proofs.PlainLemmas.{next_over}

pub take-add : {X : Type 0} (n m : ℕ) (xs : List X) → n ≤ length xs → take (n + m) xs ≡ take n xs ++ take m (drop n xs)
take-add {X} n m xs within =
    let size : length (take n xs) ≡ n = omega (arith, length-take n xs, within) in
    subst (λ (k : ℕ). take (k + m) xs ≡ take n xs ++ take m (drop n xs)) size
    (ap (λ (l : List X). take (length (take n xs) + m) l) (sym (take-append-drop n xs)) ∙ take-append-add (take n xs) (drop n xs) m)

-- the lines that were tried behind those that are done
abbrev pub lines_behind : List (List ℕ) → ℕ → ℕ → List (List ℕ)
lines_behind texts done tried = drop done (take tried texts)

parted : (texts : List (List ℕ)) (done tried : ℕ) → done ≤ tried → take tried texts ≡ take done texts ++ lines_behind texts done tried
parted texts done tried within = sym (take-append-drop done (take tried texts)) ∙ ap (λ l. l ++ lines_behind texts done tried) (take-take done tried texts within)

pub next_at : (texts : List (List ℕ)) (tables : Tables) (done tried : ℕ) → done ≤ tried → (tables_at done texts tables).next ≤ (tables_at tried texts tables).next
next_at texts tables done tried within =
    let behind = lines_behind texts done tried in
    let on : tables_at tried texts tables ≡ tables_over behind (tables_at done texts tables) = ap (λ l. tables_over l tables) (parted texts done tried within) ∙ tables_over-append (take done texts) behind tables in
    subst (λ (t : Tables). (tables_at done texts tables).next ≤ t.next) (sym on) (next_over behind (tables_at done texts tables))

module _ (texts : List (List ℕ)) (tables : Tables) (done tried : ℕ) (within : done ≤ tried) (there : tried ≤ length texts) where
  abbrev behind : List (List ℕ)
  behind = lines_behind texts done tried

  length-behind : done + length behind ≡ tried
  length-behind = omega (arith, within, there, length-drop done (take tried texts), length-take tried texts)

  first_number : 1 + length (take done texts) ≡ 1 + done
  first_number = omega (arith, within, there, length-take done texts)

  pub entries_parted : entries_at tried texts tables ≡ entries_at done texts tables ++ entries_over (1 + done) behind (tables_at done texts tables)
  entries_parted =
      ap (λ l. entries_over 1 l tables) (parted texts done tried within)
      ∙ entries_over-append 1 (take done texts) behind tables
      ∙ ap (λ n. entries_at done texts tables ++ entries_over n behind (tables_at done texts tables)) first_number

  -- the replies up to a line behind those that are done
  replies_parted : (count : ℕ) → count ≤ length behind → replies_at (done + count) texts tables ≡ replies_at done texts tables ++ replies_over (1 + done) (take count behind) (tables_at done texts tables)
  replies_parted count few =
      let front : take (done + count) texts ≡ take done texts ++ take count behind =
      sym (take-take (done + count) tried texts (omega (arith, few, length-behind)))
      ∙ take-add done count (take tried texts) (omega (arith, length-behind, length-take tried texts, there, within))
      ∙ ap (λ l. l ++ take count behind) (take-take done tried texts within) in
      ap (λ l. replies_over 1 l tables) front
      ∙ replies_over-append 1 (take done texts) (take count behind) tables
      ∙ ap (λ n. replies_at done texts tables ++ replies_over n (take count behind) (tables_at done texts tables)) first_number

  pub longer : (entry : Entry) → IsAnswered (1 + done) behind (tables_at done texts tables) entry → length (replies_at done texts tables) < length (replies_at entry.line texts tables)
  longer entry answered =
      let line : entry.line ≡ done + (answered.ahead + 1) = omega (arith, answered.line_is) in
      let whole = ap (λ (n : ℕ). length (replies_at n texts tables)) line
      ∙ ap (λ l. length l) (replies_parted (answered.ahead + 1) (omega (arith, answered.within)))
      ∙ length-append (replies_at done texts tables) (replies_over (1 + done) (take (answered.ahead + 1) behind) (tables_at done texts tables)) in
      omega (arith, answered.some, whole)

  pub unreported : (first : HostState) (p : Picture) → texts ≡ texts_of first.script → length p.said ≤ length first.said + length (replies_at done texts tables)
      → All (λ entry. IsReported first tables p entry → ⊥) (entries_over (1 + done) behind (tables_at done texts tables))
  unreported first p texts_are quiet =
      All-weaker (IsAnswered (1 + done) behind (tables_at done texts tables)) (λ entry. IsReported first tables p entry → ⊥)
      (λ entry answered reported.
      let said = subst (λ l. p.said ≡ first.said ++ replies_at entry.line l tables ++ reported.more) (sym texts_are) reported.said_is in
      let size = ap (λ l. length l) said ∙ length-append (first.said ++ replies_at entry.line texts tables) reported.more in
      let rest = length-append first.said (replies_at entry.line texts tables) in
      absurd (omega (arith, quiet, size, rest, longer entry answered)))
      (entries_over (1 + done) behind (tables_at done texts tables)) (answered_over (1 + done) behind (tables_at done texts tables))

-- one line more
pub entries_more : (texts : List (List ℕ)) (tables : Tables) (before : ℕ) (text : List ℕ) → slice_get texts before ≡ Some text
    → entries_at (before + 1) texts tables ≡ entries_at before texts tables ++ entries_of (before + 1) (line_of text) (tables_at before texts tables)
entries_more texts tables before text is =
    let inside = slice_get_within texts before text is in
    let front : take (before + 1) texts ≡ take before texts ++ text ∷ [] =
    take_more texts before text inside ∙ ap (λ x. take before texts ++ x ∷ []) (get_or_from_slice_get texts before text text is) in
    let number : 1 + length (take before texts) ≡ before + 1 = omega (arith, inside, length-take before texts) in
    ap (λ l. entries_over 1 l tables) front
    ∙ entries_over-append 1 (take before texts) (text ∷ []) tables
    ∙ ap (λ n. entries_at before texts tables ++ (entries_of n (line_of text) (tables_at before texts tables) ++ [])) number
    ∙ ap (λ l. entries_at before texts tables ++ l) (append-nil (entries_of (before + 1) (line_of text) (tables_at before texts tables)))
