use Rattle.store_meaning.proofs.CountedLemmas.{told}
use Rattle.store_meaning.proofs.stands.what_is_kept_stands.Goals as goal

pub returns : goal.returns
returns c = record {
  stands = λ image state is. record { known = is.known; of = is.of; reading = is.reading; catalog = is.catalog; stands = is.kept.stands };
  told = told;
}
