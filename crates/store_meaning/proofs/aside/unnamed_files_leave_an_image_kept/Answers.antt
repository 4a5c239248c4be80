use Rattle.store_meaning.proofs.UnnamedLemmas.{file_kept, log_kept, sorted_kept}
use Rattle.store_meaning.proofs.aside.unnamed_files_leave_an_image_kept.Goals as goal

pub returns : goal.returns
returns c = record { file = file_kept; log = log_kept; sorted = sorted_kept }
