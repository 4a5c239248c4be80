use Rattle.std.proofs.Common.{◌∙◌, ◌<◌, ◌+◌, ◌-◌, length, arith}
use Rattle.new_files.proofs.TextLemmas.{text_goes_on, room_goes_on, text_ends}
use Rattle.new_files.proofs.numerals.name_text.Goals.{then-rest-gt0, else-rest-gt0+then-len-lt-LEAST}
use Rattle.new_files.proofs.numerals.name_text.Goals as goal

pub loop-rest-preserved : goal.loop-rest-preserved
loop-rest-preserved c =
    let wanted : 0 < (7 - length c.loop-rest.digits.items) + c.loop-rest.rest = elim c.if-rest-gt0.branch [ then-rest-gt0 w ↦ omega arith | else-rest-gt0+then-len-lt-LEAST w ↦ omega (arith, w.len.ensures) ] in
    record {
      spelled = text_goes_on c.loop-rest.rest c.base36_digit.result c.loop-rest.digits.items _ c.loop-rest.invariant.room wanted c.in_ok-push.ensures.items c.base36_digit.ensures ∙ c.loop-rest.invariant.spelled;
      room = room_goes_on c.loop-rest.rest c.base36_digit.result c.loop-rest.digits.items _ c.loop-rest.invariant.room wanted c.in_ok-push.ensures.items;
    }

pub returns : goal.returns
returns c = c.reverse.ensures.items ∙ text_ends c.loop-rest.rest c.args.number c.loop-rest.digits.items (omega arith) (omega (arith, c.len.ensures)) c.loop-rest.invariant.spelled
