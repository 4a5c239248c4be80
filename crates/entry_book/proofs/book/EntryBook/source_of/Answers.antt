use Rattle.std.proofs.Common.{◌∙◌, ap}
use Rattle.std.specs.FinMap as map
use Rattle.entry_book.specs.Book.{source_at}
use Rattle.entry_book.proofs.NoteLemmas.{lookup-map}
use Rattle.entry_book.proofs.book.EntryBook.source_of.Goals as goal

pub returns-in-Some : goal.returns-in-Some
returns-in-Some c = ap (source_at c.args.tid) (c.in-Some.ensures.value ∙ lookup-map c.args.tid c.self.inside.noted.entries ∙ ap (λ b. map.get b.noted c.args.tid) c.self.view_is)

pub returns-in-None : goal.returns-in-None
returns-in-None c = ap (source_at c.args.tid) (c.in-None.ensures.value ∙ lookup-map c.args.tid c.self.inside.noted.entries ∙ ap (λ b. map.get b.noted c.args.tid) c.self.view_is)
