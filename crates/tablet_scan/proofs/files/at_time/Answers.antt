use Rattle.std.proofs.Common.{◌∙◌, ℕ, Option, map, sym, ap}
use Rattle.std.proofs.lemmas.List.{map-id}
use Rattle.store_meaning.specs.Content.{timed}
use Rattle.tablet_scan.proofs.files.at_time.Goals as goal

pub returns-in_default : goal.returns-in_default
returns-in_default c = sym (ap (λ (time : Option ℕ). map (timed time) c.args.cells.items) c.in_default.is ∙ map-id c.args.cells.items)
