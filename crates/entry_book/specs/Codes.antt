-- How a book is stored as a value.
use Rattle.std.specs.Prelude.{ℕ, List, Option, refl}
use Rattle.std.specs.Coded.{Coded, code_by, coded×, coded_list, coded_option, coded_ℕ}
use Rattle.std.specs.FinMap as map
use Rattle.plain_model.specs.declared.operation.Entry.{Entry}
use Rattle.plain_model.specs.Codes.{entry_code}
use Rattle.entry_book.specs.Book.{Book, Notes}

abbrev pub book_code : Coded Book
book_code =
    code_by (List Entry × (Option Entry × (ℕ × Notes))) (coded× (coded_list entry_code) (coded× (coded_option entry_code) (coded× coded_ℕ (map.code coded_ℕ coded_ℕ)))) (λ b. (b.history, (b.offered, (b.line, b.noted))))
    (λ p. record { history = p.0; offered = p.1.0; line = p.1.1.0; noted = p.1.1.1 }) (λ _. refl)
