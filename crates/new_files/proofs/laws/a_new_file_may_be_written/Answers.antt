use Rattle.new_files.proofs.KeptFiles.{put_keeps, may_put_keeps, put_told}
use Rattle.new_files.proofs.laws.a_new_file_may_be_written.Goals as goal

pub returns-clause-done : goal.returns-clause-done
returns-clause-done c = λ old new state is table dir kind cells store named stored is_id is_dir puts. put_keeps old is.reading is.catalog is.known state is.of is.kept store named stored table dir kind is_id is_dir cells new puts

pub returns-clause-inside : goal.returns-clause-inside
returns-clause-inside c = λ old new state is table dir kind store named stored is_id is_dir may. may_put_keeps old is.reading is.catalog is.known state is.of is.kept store named stored table dir kind is_id is_dir new may

pub returns-clause-told : goal.returns-clause-told
returns-clause-told c = λ old new reading catalog known state of kept table dir kind cells store named stored is_id is_dir puts. put_told old reading catalog known state of kept store named stored table dir kind is_id is_dir cells new puts
