use Rattle.store_meaning.proofs.ExampleKept.{kept}
use Rattle.store_meaning.proofs.ExampleLemmas.{stands}
use Rattle.store_meaning.proofs.example.a_small_store_stands_for_its_table.Goals as goal

pub returns : goal.returns
returns c = record { stands = stands c.new_tablets_are_well_formed.ensures.each; kept = kept (stands c.new_tablets_are_well_formed.ensures.each) }
