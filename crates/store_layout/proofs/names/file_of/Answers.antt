use Rattle.std.proofs.Common.{◌∙◌, sym, subst, ap}
use Rattle.host_model.specs.FileName.{IsFileName}
use Rattle.store_layout.specs.Names.{file_of}
use Rattle.store_layout.proofs.NameLemmas.{file_form}
use Rattle.store_layout.proofs.names.file_of.Goals as goal

pub name_of_bytes-requires : goal.name_of_bytes-requires
name_of_bytes-requires c = subst IsFileName (sym (c.deref.ensures.value ∙ c.in_ok-bytes.ensures ∙ ap file_of c.as_bytes.ensures.bytes)) (file_form c.args.path.now c.requires)
