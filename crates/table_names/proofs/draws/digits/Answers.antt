use Rattle.std.proofs.Common.{◌∙◌, arith}
use Rattle.table_names.proofs.Numerals.{spelled_more, spelled_last}
use Rattle.table_names.proofs.draws.digits.Goals as goal

pub loop-rest-preserved : goal.loop-rest-preserved
loop-rest-preserved c = record {
  spelled = spelled_more c.loop-rest.rest c.glyph.result c.loop-rest.digits.items _ (omega arith) (omega arith) (c.in_ok-push.ensures.items) c.glyph.ensures ∙ c.loop-rest.invariant.spelled;
  falls = omega arith;
}

pub returns : goal.returns
returns c =
    c.reverse.ensures.items ∙ spelled_last c.loop-rest.rest c.glyph-2.result c.loop-rest.digits.items _ (omega arith) (c.in_ok-push-2.ensures.items) c.glyph-2.ensures ∙ c.loop-rest.invariant.spelled
