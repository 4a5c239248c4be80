use Rattle.std.proofs.Common.{◌∙◌, ap}
use Rattle.entry_book.specs.Book.{offers}
use Rattle.entry_book.proofs.BookLemmas.{offers_one}
use Rattle.entry_book.proofs.book.EntryBook.offer.Goals as goal

pub returns-clause-ok : goal.returns-clause-ok
returns-clause-ok c = offers_one c.self.inside.entries.items _ c.args.entry c.self.inside.committed _ _ c.self.invariant (ap (λ b. b.offered) c.self.view_is ∙ c.requires) c.in_ok-push.ensures.items ∙ ap (offers c.args.entry) c.self.view_is
