use Rattle.std.proofs.Common.{◌<◌, ◌^◌, length, subst}
use Rattle.std.specs.Fmt.{decimal}
use Rattle.store_layout.specs.Nodes.{instance_value, root_value}
use Rattle.store_layout.specs.NewStore.{first_root}
use Rattle.store_meaning.proofs.NewNodes.{first_nodes}
use Rattle.store_meaning.proofs.NewStoreLemmas.{new_ground, new_ground_is, new_reading, new_reading_is, new_in_use, new_lists, new_root_consistent, new_metadata_consistent}
use Rattle.store_meaning.proofs.laws.a_new_store_is_readable.Goals as goal

pub returns : goal.returns
returns c = λ image new.
    let has = first_nodes instance_value (root_value first_root) (decimal 1) (decimal 1) (decimal 2) (decimal 1) (decimal 1) new.nodes new.made in
    record {
      known = new_ground new.nodes;
      of = new_ground_is image new.nodes new.has new.root;
      is = record {
        reading = new_reading;
        is = record {
          levels = new_reading_is c.new_tablets_are_well_formed.ensures.each new.nodes has (subst (λ bytes. length bytes < 2 ^ 64) new.root.file.is new.root.file.short);
          in_use = new_in_use new.nodes has;
          logs = new_lists new.nodes has;
          root = new_root_consistent new.nodes new.root.file.cells_are.rising;
          metadata = new_metadata_consistent new.nodes;
        };
      };
    }
