use Rattle.std.proofs.Common.{◌∙◌, sym, subst, None}
use Rattle.tablet_mem.specs.declared.spot.Spot.{Spot}
use Rattle.tablet_mem.proofs.IndexLemmas.{Sets, set_none, set_kept, none_is}
use Rattle.tablet_mem.proofs.ready.make_place.Goals as goal

pub returns-in_ok-insert-clause-same : goal.returns-in_ok-insert-clause-same
returns-in_ok-insert-clause-same c =
    set_none c.args.places.now c.insert.new.self c.args.spot.now (none_is _ (sym c.contains_key.ensures ∙ c.if-not-contains_key.true))
    (subst (λ (s : Spot). Sets c.args.places.now c.insert.new.self s None) c.in_ok-copy.ensures c.in_ok-insert.ensures.updates.0)

pub returns-in_ok-insert-clause-kept : goal.returns-in_ok-insert-clause-kept
returns-in_ok-insert-clause-kept c =
    set_kept c.args.places.now c.insert.new.self c.args.spot.now None
    (subst (λ (s : Spot). Sets c.args.places.now c.insert.new.self s None) c.in_ok-copy.ensures c.in_ok-insert.ensures.updates.0)
