use Rattle.std.proofs.Common.{◌∙◌, subst, arith, take, All}
use Rattle.std.specs.BTreeMap.{ContainsKey}
use Rattle.std.proofs.lemmas.List.{take_all}
use Rattle.std.proofs.lemmas.List.Elements.{All-more, All-weaker}
use Rattle.tablet_mem.specs.declared.ready.Ready.{Ready}
use Rattle.tablet_mem.specs.Index.{Places, spot_cmp}
use Rattle.tablet_mem.proofs.ready.make_places.Goals as goal

pub loop-one-preserved : goal.loop-one-preserved
loop-one-preserved c = record {
  same = λ spot. c.in_ok-make_place.ensures.same spot ∙ c.loop-one.invariant.same spot;
  made =
      let In : Places → Ready → Type 0 = λ m one. ContainsKey spot_cmp m one.spot in
      All-more (In c.make_place.new.places) c.args.ready.now c.loop-one.one-index c.one-item.result c.loop-one-test.true
      (All-weaker (In c.loop-one.places) (In c.make_place.new.places) (λ one there. c.in_ok-make_place.ensures.kept one.spot there) (take c.loop-one.one-index c.args.ready.now) c.loop-one.invariant.made)
      (subst (In c.make_place.new.places) c.one-item.is c.in_ok-make_place.ensures.made);
}

pub returns-clause-made : goal.returns-clause-made
returns-clause-made c = subst (All (λ (one : Ready). ContainsKey spot_cmp c.loop-one.places one.spot)) (take_all c.loop-one.one-index c.args.ready.now (omega arith)) c.loop-one.invariant.made
