use Rattle.std.proofs.Common.{◌∙◌, ap}
use Rattle.entry_book.specs.Book.{notes}
use Rattle.entry_book.proofs.BookLemmas.{book_of}
use Rattle.entry_book.proofs.NoteLemmas.{updated-insert}
use Rattle.entry_book.proofs.book.EntryBook.note_line.Goals as goal

pub returns-clause-ok : goal.returns-clause-ok
returns-clause-ok c =
    ap (λ m. book_of c.self.inside.entries.items c.self.inside.committed c.self.inside.line m) (updated-insert c.self.inside.noted.entries c.insert.new.self.entries c.args.tid c.self.inside.line (c.in_ok-insert.ensures.updates.0)) ∙ ap (notes c.args.tid) c.self.view_is
