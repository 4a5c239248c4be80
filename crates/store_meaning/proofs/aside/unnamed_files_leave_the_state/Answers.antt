use Rattle.store_meaning.proofs.UnnamedLemmas.{file_aside, log_aside, sorted_aside}
use Rattle.store_meaning.proofs.aside.unnamed_files_leave_the_state.Goals as goal

pub returns : goal.returns
returns c = record { file = file_aside; log = log_aside; sorted = sorted_aside }
