use Rattle.kept_meaning.proofs.RootLemmas.{root_stands, root_kept}
use Rattle.kept_meaning.proofs.UpperLemmas.{root_holder, root_flush, root_files}
use Rattle.kept_meaning.proofs.upper_rows.the_root_record_keeps_the_state.Goals as goal

pub returns : goal.returns
returns c = record {
  stands = λ reading catalog known state is nodes root change. root_stands reading catalog known state nodes root change is;
  kept = λ reading catalog known state is nodes root change. root_kept reading catalog known state nodes root change is;
  holder = λ reading catalog known state is nodes root holder. root_kept reading catalog known state nodes root (root_holder reading known is.stands.read.levels nodes root holder) is;
  flush = λ reading catalog known state is nodes root flush. root_kept reading catalog known state nodes root (root_flush reading known is.stands.read.levels nodes root flush) is;
  files = λ reading catalog known state is nodes root files. root_kept reading catalog known state nodes root (root_files reading known is.stands.read.levels nodes root files) is;
}
