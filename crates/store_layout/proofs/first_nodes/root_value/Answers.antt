use Rattle.std.proofs.Common.{◌++◌, ◌∙◌, sym, ap, subst}
use Rattle.log_files.specs.Mutations.{AreUpdates, spelled_updates}
use Rattle.store_layout.proofs.first_nodes.root_value.Goals as goal

pub put_updates-requires : goal.put_updates-requires
put_updates-requires c = subst AreUpdates (sym (c.deref.ensures.value ∙ c.in_ok-columns.ensures)) c.requires

pub returns : goal.returns
returns c =
    c.from_vec.ensures
    ∙ c.in_ok-put_updates.ensures
    ∙ ap (λ l. l ++ spelled_updates c.deref.result.now) c.new-bytes.ensures.items
    ∙ ap spelled_updates (c.deref.ensures.value ∙ c.in_ok-columns.ensures)
