use Rattle.std.proofs.Common.{[], ◌∷◌, None, codes, refl}
use Rattle.store_meaning.specs.Example.{ground_of_example, reading, catalog, log, low, high, table, state}
use Rattle.kept_meaning.specs.Example.{removal}
use Rattle.kept_meaning.proofs.ExampleLemmas.{puts_pairs, table_there}
use Rattle.kept_meaning.proofs.PairLemmas.{removed}
use Rattle.kept_meaning.proofs.PutLemmas.{put_kept}
use Rattle.kept_meaning.proofs.example.a_pair_of_the_small_store_is_removed.Goals as goal

pub returns : goal.returns
returns c = record {
  puts = puts_pairs;
  kept = put_kept reading catalog ground_of_example state c.a_small_store_stands_for_its_table.ensures.kept log removal (high ∷ low ∷ []) puts_pairs;
  removes = removed state removal table (record { family = codes "f"; qualifier = codes "q"; value = None }) table_there refl refl;
}
