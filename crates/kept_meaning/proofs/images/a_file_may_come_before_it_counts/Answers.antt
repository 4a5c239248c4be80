use Rattle.kept_meaning.proofs.ImageLemmas.{file_stands, file_kept}
use Rattle.kept_meaning.proofs.images.a_file_may_come_before_it_counts.Goals as goal

pub returns : goal.returns
returns c = record {
  stands = λ reading catalog known state is path told apart. file_stands reading catalog known state path told apart is;
  kept = λ reading catalog known state is path told apart. file_kept reading catalog known state path told apart is;
}
