use Rattle.std.proofs.Common.{◌++◌, ◌∷◌, [], IsTrue, ◌∙◌, ap, sym, subst}
use Rattle.std.proofs.lemmas.List.Elements.{All-push}
use Rattle.metadata_schema.specs.Bytes.{is_free}
use Rattle.table_names.proofs.PartsLemmas.{AreFree, split_at_end}
use Rattle.table_names.proofs.parts.split_words.Goals as goal

pub returns : goal.returns
returns c =
    let items = c.in_ok-push-2.ensures.items ∙ ap (λ word. c.loop-word.words.items ++ word ∷ []) c.in_ok-new-2.ensures in
    let free = All-push (λ word. IsTrue (is_free 32 word)) c.loop-word.words.items c.loop-word.rest.now c.loop-word.invariant.free c.in_default.ensures in
    split_at_end c.args.text.now c.loop-word.rest.now c.loop-word.words.items _ items c.loop-word.invariant.whole (subst AreFree (sym items) free)
