-- Lines served one after another.
use Rattle.std.proofs.Common.{◌≡◌, ℕ, ◌+◌, List, [], ◌∷◌, ◌++◌, length, refl, sym, ◌∙◌, ap, arith, append_assoc}
use Rattle.script_words.specs.Lines.{line_of}
use Rattle.table_store.specs.Tables.{Tables}
use Rattle.plain_model.specs.declared.operation.Entry.{Entry}
use Rattle.shell.specs.Serving.{tables_after, entries_of, reply_to, tables_over, replies_over, entries_over}

pub tables_over-append : (xs ys : List (List ℕ)) (t : Tables) → tables_over (xs ++ ys) t ≡ tables_over ys (tables_over xs t)
tables_over-append [] ys t = refl
tables_over-append (x ∷ xs) ys t = tables_over-append xs ys (tables_after (line_of x) t)

pub replies_over-append : (n : ℕ) (xs ys : List (List ℕ)) (t : Tables) → replies_over n (xs ++ ys) t ≡ replies_over n xs t ++ replies_over (n + length xs) ys (tables_over xs t)
replies_over-append n [] ys t = ap (λ (m : ℕ). replies_over m ys t) (omega arith)
replies_over-append n (x ∷ xs) ys t =
    let e : n + 1 + length xs ≡ n + length (x ∷ xs) = omega arith in
    ap (λ (l : List ℕ). reply_to n (line_of x) t ++ l) (replies_over-append (n + 1) xs ys (tables_after (line_of x) t))
    ∙ sym (append_assoc (reply_to n (line_of x) t) (replies_over (n + 1) xs (tables_after (line_of x) t)) (replies_over (n + 1 + length xs) ys (tables_over xs (tables_after (line_of x) t))))
    ∙ ap (λ (m : ℕ). (reply_to n (line_of x) t ++ replies_over (n + 1) xs (tables_after (line_of x) t)) ++ replies_over m ys (tables_over xs (tables_after (line_of x) t))) e

pub entries_over-append : (n : ℕ) (xs ys : List (List ℕ)) (t : Tables) → entries_over n (xs ++ ys) t ≡ entries_over n xs t ++ entries_over (n + length xs) ys (tables_over xs t)
entries_over-append n [] ys t = ap (λ (m : ℕ). entries_over m ys t) (omega arith)
entries_over-append n (x ∷ xs) ys t =
    let e : n + 1 + length xs ≡ n + length (x ∷ xs) = omega arith in
    ap (λ (l : List Entry). entries_of n (line_of x) t ++ l) (entries_over-append (n + 1) xs ys (tables_after (line_of x) t))
    ∙ sym (append_assoc (entries_of n (line_of x) t) (entries_over (n + 1) xs (tables_after (line_of x) t)) (entries_over (n + 1 + length xs) ys (tables_over xs (tables_after (line_of x) t))))
    ∙ ap (λ (m : ℕ). (entries_of n (line_of x) t ++ entries_over (n + 1) xs (tables_after (line_of x) t)) ++ entries_over m ys (tables_over xs (tables_after (line_of x) t))) e
