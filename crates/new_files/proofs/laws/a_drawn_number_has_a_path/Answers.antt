use Rattle.new_files.proofs.TextLemmas.{text_form, text_number}
use Rattle.new_files.proofs.PathLemmas.{path_form, path_number}
use Rattle.new_files.proofs.laws.a_drawn_number_has_a_path.Goals as goal

pub returns-clause-text : goal.returns-clause-text
returns-clause-text c = text_form

pub returns-clause-spells : goal.returns-clause-spells
returns-clause-spells c = text_number

pub returns-clause-path : goal.returns-clause-path
returns-clause-path c = path_form

pub returns-clause-number : goal.returns-clause-number
returns-clause-number c = path_number
