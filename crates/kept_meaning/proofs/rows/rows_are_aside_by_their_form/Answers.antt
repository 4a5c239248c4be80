use Rattle.plain_model.specs.State.{nothing}
use Rattle.kept_meaning.proofs.AsideLemmas.{candidate_aside, flag_aside, record_aside, chains_of_one}
use Rattle.kept_meaning.proofs.rows.rows_are_aside_by_their_form.Goals as goal

pub returns : goal.returns
returns c = record {
  candidates = λ reading catalog known. candidate_aside reading catalog known nothing;
  flags = λ reading catalog known. flag_aside reading catalog known nothing;
  records = λ reading catalog known. record_aside reading catalog known nothing;
  one_chain = chains_of_one;
}
