use Rattle.std.proofs.Common.{◌∙◌, arith}
use Rattle.server_nodes.proofs.DigitLemmas.{digits_begin, digits_more, digits_end}
use Rattle.server_nodes.proofs.sessions.last_digits.Goals as goal

pub loop-init : goal.loop-init
loop-init c = digits_begin c.args.number _ c.new-digits.ensures.items

pub loop-preserved : goal.loop-preserved
loop-preserved c = digits_more c.loop.counter c.loop.rest c.hexadecimal_digit.result c.loop.digits.items _ (omega arith) c.in_ok-push.ensures.items c.hexadecimal_digit.ensures ∙ c.loop.invariant

pub returns : goal.returns
returns c = c.reverse.ensures.items ∙ digits_end c.loop.counter c.loop.rest c.args.number c.loop.digits.items (omega arith) c.loop.invariant
