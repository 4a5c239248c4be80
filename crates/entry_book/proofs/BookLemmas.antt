-- Entries with at the most one more than have committed.
use Rattle.std.proofs.Common.{◌≡◌, ℕ, zero, suc, ◌≤◌, ◌<◌, List, [], ◌∷◌, ◌++◌, length, take, slice_get, Some, None, refl, sym, ◌∙◌, ap, arith, inl, inr, ◌⊎◌, get_or}
use Rattle.std.proofs.lemmas.Option.{slice_get_cases, slice_get_past}
use Rattle.std.proofs.lemmas.List.{take_all, take_at}
use Rattle.plain_model.specs.declared.operation.Entry.{Entry}
use Rattle.entry_book.specs.Book.{Book, Notes, HasAtMostOneMore, listed, committed, offers}

-- the committed ones and the offered one are all
all_listed : (xs : List Entry) (n : ℕ) → HasAtMostOneMore n (length xs) → take n xs ++ listed (slice_get xs n) ≡ xs
all_listed [] zero more = refl
all_listed [] (suc n) more = absurd (let within = more.within in omega arith)
all_listed (x ∷ []) zero more = refl
all_listed (x ∷ y ∷ ys) zero more = absurd (let one = more.one in omega arith)
all_listed (x ∷ xs) (suc n) more = ap (λ l. x ∷ l) (all_listed xs n (record { within = let within = more.within in omega arith; one = let one = more.one in omega arith }))

abbrev pub book_of : List Entry → ℕ → ℕ → Notes → Book
book_of entries n line noted = record { history = take n entries; offered = slice_get entries n; line = line; noted = noted }

-- all of them are committed
pub commits : (entries : List Entry) (n m line : ℕ) (noted : Notes) → HasAtMostOneMore n (length entries) → m ≡ length entries → book_of entries m line noted ≡ committed (book_of entries n line noted)
commits entries n m line noted more all =
    let history = take_all (length entries) entries (omega arith) ∙ sym (all_listed entries n more) in let none = slice_get_past entries (length entries) (omega arith) in
    rw all (rw history (rw none refl))

past_by : (xs : List Entry) (n : ℕ) → n ≤ length xs → slice_get xs n ≡ None → ((x : Entry) × (n < length xs) × (slice_get xs n ≡ Some x) × (get_or xs n x ≡ x)) ⊎ ((length xs ≤ n) × (slice_get xs n ≡ None)) → n ≡ length xs
past_by xs n within none (inl (x, below, there, is)) = absurd (let wrong = sym none ∙ there in cc)
past_by xs n within none (inr past) = let most = past.0 in omega arith

none_more : (xs : List Entry) (n : ℕ) → n ≤ length xs → slice_get xs n ≡ None → n ≡ length xs
none_more xs n within none = past_by xs n within none (slice_get_cases xs n).1

seen_last : (xs : List Entry) (e : Entry) → slice_get (xs ++ e ∷ []) (length xs) ≡ Some e
seen_last [] e = refl
seen_last (x ∷ xs) e = seen_last xs e

-- one more is offered, where there is none
pub offers_one : (entries new : List Entry) (e : Entry) (n line : ℕ) (noted : Notes) → HasAtMostOneMore n (length entries) → slice_get entries n ≡ None → new ≡ entries ++ e ∷ [] → book_of new n line noted ≡ offers e (book_of entries n line noted)
offers_one entries new e n line noted more none is =
    let all = none_more entries n more.within none in
    let front = ap (λ k. take k (entries ++ e ∷ [])) all ∙ take_at entries (e ∷ []) (length entries) refl ∙ sym (take_all n entries (omega arith)) in
    let last = ap (λ k. slice_get (entries ++ e ∷ []) k) all ∙ seen_last entries e in
    rw is (rw front (rw last refl))
