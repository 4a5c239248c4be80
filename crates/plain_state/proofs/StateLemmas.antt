-- The state for which a ground stands.
use Rattle.std.proofs.Common.{◌≡◌, ℕ, List, sym, ◌∙◌, ap, subst}
use Rattle.std.specs.FinMap as map
use Rattle.plain_model.specs.State.{PlainState}
use Rattle.store_layout.specs.declared.tables.TableNode.{TableNode}
use Rattle.store_meaning.specs.Ground.{Ground}
use Rattle.store_meaning.specs.Levels.{Reading}
use Rattle.store_meaning.specs.Readable.{IsReadAs}
use Rattle.store_meaning.specs.Stands.{TableAt}
use Rattle.plain_state.specs.Catalogs.{AreAllTables, AreAllFiles, AreMarksTold, table_of, catalog_of}
use Rattle.plain_state.specs.States.{ArePut, AreStagedIn, StandsSo}
use Rattle.plain_state.proofs.CatalogLemmas.{is_catalog, byte_bounds, marked_told}

pub stands_so : (known : Ground) (reading : Reading) (tables : List TableNode) (files : List (List ℕ × List ℕ)) (old new : PlainState) → IsReadAs reading known → AreAllTables known.nodes tables → AreAllFiles known.nodes files → AreMarksTold known tables
    → ArePut known reading tables old → AreStagedIn known files old new → StandsSo known new
stands_so known reading tables files old new read are stand marks put staged = record {
  reading = reading;
  catalog = catalog_of tables files;
  stands = record {
    read = read;
    nodes = is_catalog known.nodes tables files are stand;
    marked = marked_told known tables files marks;
    tables = λ id. subst (λ t. TableAt known (reading.users.records id) (table_of tables id) (map.get t id)) (sym staged.tables) (put.each id);
    staged = staged.each;
    names = record { apart = λ id other t u found also is. put.apart.apart id other t u (ap (λ m. map.get m id) (sym staged.tables) ∙ found) (ap (λ m. map.get m other) (sym staged.tables) ∙ also) is };
  };
  bytes = byte_bounds known.nodes tables are files;
}
