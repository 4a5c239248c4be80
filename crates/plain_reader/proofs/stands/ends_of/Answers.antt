use Rattle.std.proofs.Common.{◌∙◌, ◌++◌, [], ◌∷◌, sym, ap}
use Rattle.plain_reader.specs.Tables.{ends_of}
use Rattle.plain_reader.proofs.TableLemmas.{ends_more}
use Rattle.plain_reader.proofs.stands.ends_of.Goals as goal

pub loop-tablet-preserved : goal.loop-tablet-preserved
loop-tablet-preserved c =
    c.in_ok-push_end.ensures ∙ ap (λ l. l ++ ends_of (c.tablet-item.result ∷ [])) c.loop-tablet.invariant ∙ sym (ends_more c.args.chain.now c.loop-tablet.tablet-index c.tablet-item.result c.loop-tablet-test.true c.tablet-item.is)
