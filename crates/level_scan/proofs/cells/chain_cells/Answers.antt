use Rattle.std.proofs.Common.{◌≡◌, ◌∙◌, ◌+◌, ◌++◌, cond, not, Bool, take, refl, sym, ap, subst}
use Rattle.std.proofs.lemmas.List.{take_all}
use Rattle.std.proofs.lemmas.Result.{err_from_is_err_and}
use Rattle.level_rows.specs.Chain.{rows_of}
use Rattle.store_meaning.specs.Levels.{IsRecordAt}
use Rattle.tablet_scan.proofs.BehindLemmas.{acts_behind}
use Rattle.tablet_scan.proofs.FilesLemmas.{seen_before}
use Rattle.hosted_memories.specs.Hosted.{memories_of}
use Rattle.level_scan.specs.Tablets.{AreHosted, HoldsTablet, HoldTablets}
use Rattle.level_scan.proofs.TabletLemmas.{hosted_none, hosted_more, hold_more, own_place, placed}
use Rattle.level_scan.proofs.CauseLemmas.{cause_at}
use Rattle.level_scan.proofs.cells.chain_cells.Goals as goal

pub hosted_cells-requires : goal.hosted_cells-requires
hosted_cells-requires g c = own_place c.args.table.now c.tablet-item.result (placed c.args.table.now c.args.chain.now c.requires c.loop-tablet.tablet-index c.tablet-item.result c.loop-tablet-test.true c.tablet-item.is)

pub returns-in_err-cells-clause-acts : goal.returns-in_err-cells-clause-acts
returns-in_err-cells-clause-acts g c =
    let p = err_from_is_err_and c.from_residual-in_err-cells.result c.from_residual-in_err-cells.ensures.1 in
    rw (p.1, p.2) (acts_behind g.H.Host.state (g.met.H.Host.sound c.args.ground.now.host) (λ i. refl) c.loop-tablet.invariant.looked c.in_err-cells.ensures.acts)

pub returns-in_err-cells-clause-stops : goal.returns-in_err-cells-clause-stops
returns-in_err-cells-clause-stops g c = λ alive.
    let p = err_from_is_err_and c.from_residual-in_err-cells.result c.from_residual-in_err-cells.ensures.1 in
    let looked = c.loop-tablet.invariant.looked.goes alive in
    rw (p.1, p.2) (cause_at (rows_of c.args.table.now c.args.records.now) (memories_of c.args.memories.now) c.args.chain.now c.loop-tablet.tablet-index c.tablet-item.result c.loop-tablet-test.true c.tablet-item.is c.loop-tablet.all.items
    c.in_err-cells.field-0.0 (g.H.Host.state c.args.ground.now.host) (g.H.Host.state c.loop-tablet.ground.host) (g.H.Host.state c.hosted_cells.new.ground.host) looked.quiet.keeps looked.tried c.loop-tablet.invariant.holds
    (c.in_err-cells.ensures.stops looked.goes_on))

pub returns-then-is_err-clause-acts : goal.returns-then-is_err-clause-acts
returns-then-is_err-clause-acts g c =
    let sound = g.met.H.Host.sound c.args.ground.now.host in
    acts_behind g.H.Host.state sound (λ i. refl) (acts_behind g.H.Host.state sound (λ i. refl) c.loop-tablet.invariant.looked c.in_ok-cells.ensures.acts) c.stop.ensures.acts

pub loop-tablet-init : goal.loop-tablet-init
loop-tablet-init g c = record {
  looked = c.in_ok-check.ensures.acts;
  same = (refl, refl);
  hosted = hosted_none (memories_of c.args.memories.now);
  holds = λ f. c.new-all.ensures.items;
}

pub loop-tablet-preserved : goal.loop-tablet-preserved
loop-tablet-preserved g c =
    let chain = c.args.chain.now in
    let hosted = memories_of c.args.memories.now in
    let files = (g.H.Host.state c.args.ground.now.host).files in
    let tablet = c.tablet-item.result in
    let at : IsRecordAt c.args.table.now tablet.end tablet = placed c.args.table.now chain c.requires c.loop-tablet.tablet-index tablet c.loop-tablet-test.true c.tablet-item.is in
    let appended : c.append.new.self.items ≡ c.loop-tablet.all.items ++ c.in_ok-cells.cells.items =
    c.append.ensures.items ∙ ap (λ (b : Bool). cond b (c.loop-tablet.all.items ++ c.in_ok-cells.cells.items) c.loop-tablet.all.items) (c.is_err.ensures.negation ∙ ap not c.if-is_err.false) in
    record {
      looked = acts_behind g.H.Host.state (g.met.H.Host.sound c.args.ground.now.host) (λ i. refl) c.loop-tablet.invariant.looked c.in_ok-cells.ensures.acts;
      same = (c.in_ok-cells.ensures.same.0 ∙ c.loop-tablet.invariant.same.0, c.in_ok-cells.ensures.same.1 ∙ c.loop-tablet.invariant.same.1);
      hosted = hosted_more chain c.loop-tablet.tablet-index tablet c.loop-tablet-test.true c.tablet-item.is hosted c.loop-tablet.invariant.hosted c.in_ok-cells.ensures.hosted;
      holds = λ f. subst (HoldTablets files (rows_of c.args.table.now c.args.records.now) hosted (take (c.loop-tablet.tablet-index + 1) chain)) (sym appended)
          (hold_more chain c.loop-tablet.tablet-index tablet c.loop-tablet-test.true c.tablet-item.is files (rows_of c.args.table.now c.args.records.now) hosted c.loop-tablet.all.items c.in_ok-cells.cells.items (c.loop-tablet.invariant.holds f)
          (subst (λ t. HoldsTablet files (rows_of t c.args.records.now) hosted tablet c.in_ok-cells.cells.items) at.table_is
          (seen_before g.H.Host.state (λ image. HoldsTablet image (rows_of tablet.table c.args.records.now) hosted tablet c.in_ok-cells.cells.items) c.loop-tablet.invariant.looked f c.in_ok-cells.ensures.holds)));
    }

pub returns-clause-hold : goal.returns-clause-hold
returns-clause-hold g c = λ f.
    subst (λ chain. HoldTablets (g.H.Host.state c.args.ground.now.host).files (rows_of c.args.table.now c.args.records.now) (memories_of c.args.memories.now) chain c.loop-tablet.all.items) (take_all c.loop-tablet.tablet-index c.args.chain.now c.loop-tablet-test.false) (c.loop-tablet.invariant.holds f)

pub returns-clause-hosted : goal.returns-clause-hosted
returns-clause-hosted g c = subst (AreHosted (memories_of c.args.memories.now)) (take_all c.loop-tablet.tablet-index c.args.chain.now c.loop-tablet-test.false) c.loop-tablet.invariant.hosted
