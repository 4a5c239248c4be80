use Rattle.std.proofs.Common.{◌∙◌, sym}
use Rattle.plain_model.specs.Apply.{put_files}
use Rattle.plain_model.proofs.PairLemmas.{put_files-none, put_files-some, gives_none, gives_ok, gives_err}
use Rattle.plain_model.proofs.index.pairs_with_files.Goals as goal

pub returns-then-not-are_staged : goal.returns-then-not-are_staged
returns-then-not-are_staged c = λ staged m files pairs.
    gives_none (put_files c.args.names.now staged m) (put_files-none staged c.args.names.now m (sym (c.are_staged.ensures staged files) ∙ c.if-not-are_staged.true))

pub returns-in_err-with_files : goal.returns-in_err-with_files
returns-in_err-with_files c = λ staged m files pairs.
    let some = put_files-some staged c.args.names.now m (sym (c.are_staged.ensures staged files) ∙ c.if-not-are_staged.false) in
    gives_err (put_files c.args.names.now staged m) some.0 c.from_residual.result some.1 c.from_residual.ensures.1

pub returns : goal.returns
returns c = λ staged m files pairs.
    let some = put_files-some staged c.args.names.now m (sym (c.are_staged.ensures staged files) ∙ c.if-not-are_staged.false) in
    gives_ok (put_files c.args.names.now staged m) some.0 c.in_ok-with_files.field-0 some.1 (c.in_ok-with_files.ensures staged m some.0 files pairs some.1)
