use Rattle.std.proofs.Common.{◌<◌, ◌^◌, sym, subst, arith, ap, length, ℕ}
use Rattle.std.proofs.lemmas.List.Elements.{All-push}
use Rattle.table_names.specs.Words.{AreBytes}
use Rattle.table_names.proofs.TextLemmas.{GoesOn, one_more, at_end}
use Rattle.table_names.proofs.texts.unspelled.Goals as goal

pub loop-byte-preserved : goal.loop-byte-preserved
loop-byte-preserved c = record {
  reads = λ spelled bytes is. subst (λ t. GoesOn t c.in-Some.behind.now spelled) (sym c.in_ok-push.ensures.items)
      (one_more c.loop-byte.text.items c.loop-byte.rest.now c.in-Some.behind.now spelled c.in-Some.byte (λ none. omega (arith, c.in-Some.ensures.shorter, ap (length {A = ℕ}) none)) (λ byte more small spells. c.in-Some.ensures.is byte more small spells) (c.loop-byte.invariant.reads spelled bytes is));
  bytes = subst AreBytes (sym c.in_ok-push.ensures.items) (All-push (λ byte. byte < 2 ^ 8) c.loop-byte.text.items c.in-Some.byte c.loop-byte.invariant.bytes c.in-Some.ensures.small);
}

pub returns-clause-is : goal.returns-clause-is
returns-clause-is c = λ spelled bytes is. at_end c.loop-byte.text.items c.loop-byte.rest.now spelled c.in_default.ensures.is (c.loop-byte.invariant.reads spelled bytes is)
