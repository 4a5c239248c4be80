-- What can be read as nodes alone change.
use Rattle.std.proofs.Common.{inl, inr, ℕ, List, ◌∙◌}
use Rattle.node_store.specs.Nodes.{Nodes}
use Rattle.store_meaning.specs.Ground.{Ground, with_nodes}
use Rattle.store_meaning.specs.Levels.{Reading, IsReadingOf}
use Rattle.store_meaning.specs.InUse.{IsLogInUse, IsListedSorted}
use Rattle.store_meaning.specs.Readable.{IsTold, IsSortedThere, IsReadAs}
use Rattle.store_meaning.specs.Naming.{NodesFit}

module _ (known : Ground) (reading : Reading) (is : IsReadAs reading known) (nodes : Nodes) (fit : NodesFit known reading nodes) where
  told : (log : List ℕ) → IsLogInUse nodes reading log → IsTold (known.mutations_of log)
  told log (inl named) = is.in_use.logs log (inl named)
  told log (inr (inl listed)) = elim (fit.logs log listed) [ inl was ↦ is.in_use.logs log (inr (inl was)) | inr there ↦ there ]
  told log (inr (inr sorted)) = elim (fit.sorted_logs log sorted) [
    | inl was ↦ is.in_use.logs log (inr (inr was))
    | inr there ↦ record { value = there.mutations; is = there.log_is }
  ]

  sorted_there : (log : List ℕ) → IsListedSorted nodes log → IsSortedThere known log
  sorted_there log sorted = elim (fit.sorted_logs log sorted) [ inl was ↦ is.in_use.sorted log was | inr there ↦ there ]

  pub nodes_levels : IsReadingOf (with_nodes known nodes) reading
  nodes_levels = record {
    root = (let r = is.levels.root in record { node = r.node; there = fit.root ∙ r.there; value = r.value; at = r.at });
    root_chain = is.levels.root_chain;
    root_content = is.levels.root_content;
    metadata = is.levels.metadata;
    chain = is.levels.chain;
    content = is.levels.content;
    users = is.levels.users;
  }

  pub nodes_read : IsReadAs reading (with_nodes known nodes)
  nodes_read = record {
    levels = nodes_levels;
    in_use = record {
      files = is.in_use.files;
      logs = told;
      sorted = λ log sorted. (let t = sorted_there log sorted in record { mutations = t.mutations; sorted = t.sorted; log_is = t.log_is; sorted_is = t.sorted_is; sorts = t.sorts });
    };
    logs = record { named = fit.named; sorted = fit.sorted };
    root = is.root;
    metadata = is.metadata;
  }
