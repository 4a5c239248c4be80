-- The first table of a name.
use Rattle.std.proofs.Common.{◌≡◌, ℕ, suc, ◌<◌, true, cond, List, length, drop, get_or, drop-cons, Some, sym, ◌∙◌, ap}
use Rattle.std.specs.Prelude.{slice_get}
use Rattle.std.proofs.lemmas.Option.{slice_get-get_or}
use Rattle.store_layout.specs.declared.tables.TableNode.{TableNode}
use Rattle.table_names.specs.Tables.{is_online_named, first_named}

-- the table at a place is the first where none before it has the name
pub first_at : (name : List ℕ) (tables : List TableNode) (at : ℕ) (table : TableNode) → first_named name (drop at tables) ≡ first_named name tables → at < length tables → table ≡ get_or tables at table → is_online_named name table ≡ true
    → first_named name tables ≡ slice_get tables at
first_at name tables at table none within is named =
    let found = get_or tables at table in
    sym none ∙ ap (first_named name) (drop-cons tables at table within)
    ∙ ap (λ b. cond b (Some found) (first_named name (drop (suc at) tables))) (ap (is_online_named name) (sym is) ∙ named) ∙ sym (slice_get-get_or tables at table within)
