use Rattle.std.proofs.Common.{◌<◌, ◌^◌, length, subst}
use Rattle.std.specs.Fmt.{decimal}
use Rattle.host_model.specs.Picture.{Image}
use Rattle.store_layout.specs.Nodes.{instance_value, root_value}
use Rattle.store_layout.specs.NewStore.{first_root, IsNewStore}
use Rattle.store_layout.specs.Tables.{no_tables}
use Rattle.store_meaning.specs.Readable.{IsReadAs}
use Rattle.store_meaning.proofs.NewLevel.{FormsNew}
use Rattle.store_meaning.proofs.NewNodes.{HasFirstNodes, HasFirstCounters, first_nodes, first_counters}
use Rattle.store_meaning.proofs.NewState.{new_read, new_stands, new_kept}
use Rattle.store_meaning.proofs.NewStoreLemmas.{new_ground, new_ground_is, new_reading}
use Rattle.store_meaning.proofs.stands.a_new_store_stands_for_nothing.Goals as goal

has : (image : Image) (new : IsNewStore image) → HasFirstNodes (root_value first_root) new.nodes
has image new = first_nodes instance_value (root_value first_root) (decimal 1) (decimal 1) (decimal 2) (decimal 1) (decimal 1) new.nodes new.made

counters : (image : Image) (new : IsNewStore image) → HasFirstCounters (decimal 1) (decimal 2) (decimal 1) new.nodes
counters image new = first_counters instance_value (root_value first_root) (decimal 1) (decimal 1) (decimal 2) (decimal 1) (decimal 1) new.nodes new.made

read : FormsNew → (image : Image) (new : IsNewStore image) → IsReadAs new_reading (new_ground new.nodes)
read forms image new = new_read forms new.nodes (has image new) (subst (λ bytes. length bytes < 2 ^ 64) new.root.file.is new.root.file.short) new.root.file.cells_are.rising

pub returns : goal.returns
returns c =
    let forms : FormsNew = c.new_tablets_are_well_formed.ensures.each in
    record {
      stands = λ image new. record {
        known = new_ground new.nodes;
        of = new_ground_is image new.nodes new.has new.root;
        reading = new_reading;
        catalog = no_tables;
        stands = new_stands new.nodes (has image new) (counters image new) (read forms image new);
      };
      kept = λ image new. record {
        known = new_ground new.nodes;
        of = new_ground_is image new.nodes new.has new.root;
        reading = new_reading;
        catalog = no_tables;
        kept = new_kept new.nodes (has image new) (counters image new) (read forms image new);
      };
    }
