use Rattle.std.proofs.Common.{sym, subst}
use Rattle.host_model.specs.FileName.{IsFileName}
use Rattle.log_files.proofs.NameLemmas.{log_form}
use Rattle.log_files.proofs.names.log_file.Goals as goal

pub name_of-requires : goal.name_of-requires
name_of-requires c = subst IsFileName (sym c.as_bytes.ensures.bytes) (log_form c.args.log.now c.as_bytes.ensures.form)
