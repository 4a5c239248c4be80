use Rattle.table_names.proofs.TextLemmas.{not_same, later}
use Rattle.table_names.proofs.texts.likely_text.Goals as goal

pub returns-clause-is : goal.returns-clause-is
returns-clause-is c = later c.args.word.now c.unspelled.result (λ text. text.items) (not_same _ _ c.if-eq.ensures) (not_same _ _ c.if-eq-2.ensures) c.unspelled.ensures.is
