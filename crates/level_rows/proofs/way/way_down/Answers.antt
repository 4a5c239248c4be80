use Rattle.std.proofs.Common.{◌≡◌, ◌∙◌, sym, ap, subst, List, [], ◌∷◌, ◌++◌, Option, Some}
use Rattle.metadata_schema.specs.declared.tablet.TabletRecord.{TabletRecord}
use Rattle.level_rows.specs.Index.{found_at}
use Rattle.level_rows.proofs.WalkLemmas.{LeadsTo, falls, below-true, leads-more}
use Rattle.level_rows.proofs.WayLemmas.{Bytes}
use Rattle.level_rows.proofs.way.way_down.Goals as goal

pub down-smaller : goal.down-smaller
down-smaller c =
    falls c.args.ends.now c.down.tablet.now.end c.in-Some-found.next.now.end c.in-Some.low c.down.tablet.now c.down.invariant.there
    (below-true c.in-Some.low c.down.tablet.now.end (sym c.is_below_end.ensures ∙ c.if-not-is_below_end.false))
    (c.requires.own c.reach-prev.result.now c.in-Some-found.next.now (sym c.in-Some-found.ensures) ∙ c.in-Some.is)

pub down-preserved : goal.down-preserved
down-preserved c =
    let rows = found_at c.args.ends.now in
    let tablet = c.down.tablet.now in
    let next_end : c.in-Some-found.next.now.end ≡ c.reach-prev.result.now = c.requires.own c.reach-prev.result.now c.in-Some-found.next.now (sym c.in-Some-found.ensures) in
    let further : LeadsTo rows (c.down.way.items ++ tablet ∷ []) (Some c.in-Some.low) =
    leads-more rows c.down.way.items tablet.end tablet c.down.invariant.leads c.down.invariant.there (λ i. tablet.end) c.in-Some.low (sym c.reach-prev.ensures ∙ c.in-Some.is)
    (below-true c.in-Some.low tablet.end (sym c.is_below_end.ensures ∙ c.if-not-is_below_end.false)) in
    let items : c.down.way.items ++ tablet ∷ [] ≡ c.push.new.self.items =
    ap (λ (t : TabletRecord). c.down.way.items ++ t ∷ []) (sym c.in_ok-copy.ensures) ∙ sym c.in_ok-push.ensures.items in
    record {
      leads = subst (λ (e : Option Bytes). LeadsTo rows c.push.new.self.items e) (sym (next_end ∙ c.in-Some.is)) (subst (λ (way : List TabletRecord). LeadsTo rows way (Some c.in-Some.low)) items further);
      there = ap rows next_end ∙ sym c.in-Some-found.ensures;
    }
