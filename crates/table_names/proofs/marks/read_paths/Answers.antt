use Rattle.std.proofs.Common.{◌++◌, ◌∷◌, [], take, ◌∙◌, ap, sym, subst}
use Rattle.std.specs.List.{All}
use Rattle.std.proofs.lemmas.List.{take_more}
use Rattle.std.proofs.lemmas.List.Elements.{All-push}
use Rattle.metadata_schema.specs.Paths.{IsFilePath}
use Rattle.table_names.proofs.marks.read_paths.Goals as goal

pub loop-word-preserved : goal.loop-word-preserved
loop-word-preserved c =
    let words = c.args.words.now in
    let front = take c.loop-word.word-index words in
    let word = c.word-item.result in
    let more = take_more words c.loop-word.word-index word c.loop-word-test.true ∙ ap (λ w. front ++ w ∷ []) (sym c.word-item.is) in
    let read = rw c.in-Some.is at c.in_ok-path.ensures in
    record {
      are = c.in_ok-push.ensures.items ∙ ap (λ l. l ++ c.in-Some.path ∷ []) c.loop-word.invariant.are ∙ ap (λ p. front ++ p ∷ []) (read.0 ∙ c.as_bytes.ensures) ∙ sym more;
      forms = subst (All IsFilePath) (sym more) (All-push IsFilePath front word c.loop-word.invariant.forms (subst IsFilePath c.as_bytes.ensures read.1));
    }
