use Rattle.std.proofs.Common.{◌∙◌, ap}
use Rattle.entry_book.specs.Book.{committed}
use Rattle.entry_book.proofs.BookLemmas.{commits}
use Rattle.entry_book.proofs.book.EntryBook.commit.Goals as goal

pub returns : goal.returns
returns c = commits c.self.inside.entries.items c.self.inside.committed _ _ _ c.self.invariant (c.len-self-inside.ensures ∙ c.self.inside.entries.ok.0) ∙ ap committed c.self.view_is
