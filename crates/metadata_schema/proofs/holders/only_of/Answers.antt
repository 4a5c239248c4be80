use Rattle.std.proofs.Common.{◌≡◌, ◌∙◌, true, List, ℕ, sym, ap}
use Rattle.metadata_schema.specs.Bytes.{same}
use Rattle.metadata_schema.proofs.ReadingLemmas.{only_there}
use Rattle.metadata_schema.proofs.holders.only_of.Goals as goal

pub returns-then-eq : goal.returns-then-eq
returns-then-eq c =
    let named : same c.update-item.result.family c.args.family.now ≡ true = ap (λ (l : List ℕ). same l c.args.family.now) (sym c.as_bytes.ensures) ∙ sym c.if-eq.ensures in
    only_there c.args.family.now c.args.updates.now c.loop-update.update-index c.update-item.result c.loop-update-test.true c.update-item.is c.loop-update.invariant named c.requires
