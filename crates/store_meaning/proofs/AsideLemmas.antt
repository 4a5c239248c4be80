-- Grounds whose nodes agree at `/root` and at those of logs.
use Rattle.std.proofs.Common.{◌≡◌, inl, inr, ⊎_elim, ℕ, List, sym, ◌∙◌, subst}
use Rattle.host_model.specs.Picture.{Image}
use Rattle.metadata_schema.specs.declared.tablet.TabletRecord.{TabletRecord}
use Rattle.node_store.specs.Nodes.{Nodes}
use Rattle.node_store.specs.Image.{HasNodes}
use Rattle.node_store.specs.Steps.{OthersStay}
use Rattle.node_store.specs.Laws.{NodesAreOne}
use Rattle.store_layout.specs.Names.{nodes_name}
use Rattle.store_meaning.specs.Ground.{Ground, with_nodes}
use Rattle.store_meaning.specs.Levels.{Reading, IsRootRecord}
use Rattle.store_meaning.specs.InUse.{IsLogInUse, IsListedLog, IsListedSorted}
use Rattle.store_meaning.specs.Readable.{IsReadAs, IsReadable}
use Rattle.store_meaning.specs.NodesAside.{AgreeAside}
use Rattle.store_meaning.proofs.ChangeLemmas.{nodes_changed}

-- they agree the other way round, too
aside_back : {old new : Nodes} → AgreeAside old new → AgreeAside new old
aside_back agree = record { root = sym agree.root; logs = λ session. sym (agree.logs session); sorted = λ log. sym (agree.sorted log) }

root_aside : {old new : Nodes} {root : TabletRecord} → AgreeAside old new → IsRootRecord old root → IsRootRecord new root
root_aside agree is = record { node = is.node; there = agree.root ∙ is.there; value = is.value; at = is.at }

listed_aside : {old new : Nodes} {log : List ℕ} → AgreeAside old new → IsListedLog old log → IsListedLog new log
listed_aside agree is = record { session = is.session; node = is.node; there = agree.logs is.session ∙ is.there; is = is.is }

sorted_aside : {old new : Nodes} {log : List ℕ} → AgreeAside old new → IsListedSorted old log → IsListedSorted new log
sorted_aside {log = log} agree is = record { node = is.node; there = agree.sorted log ∙ is.there }

in_use_aside : {old new : Nodes} {reading : Reading} {log : List ℕ} → AgreeAside old new → IsLogInUse old reading log → IsLogInUse new reading log
in_use_aside agree used = ⊎_elim
    (λ named. inl named)
    (λ more. ⊎_elim (λ listed. inr (inl (listed_aside agree listed))) (λ sorted. inr (inr (sorted_aside agree sorted))) more)
    used

pub read_aside : (reading : Reading) (known : Ground) (nodes : Nodes) → AgreeAside known.nodes nodes → IsReadAs reading known → IsReadAs reading (with_nodes known nodes)
read_aside reading known nodes agree is = record {
  levels = record {
    root = root_aside agree is.levels.root;
    root_chain = is.levels.root_chain;
    root_content = is.levels.root_content;
    metadata = is.levels.metadata;
    chain = is.levels.chain;
    content = is.levels.content;
    users = is.levels.users;
  };
  in_use = record {
    files = is.in_use.files;
    logs = λ log used. is.in_use.logs log (in_use_aside (aside_back agree) used);
    sorted = λ log used.
        let there = is.in_use.sorted log (sorted_aside (aside_back agree) used) in
        record { mutations = there.mutations; sorted = there.sorted; log_is = there.log_is; sorted_is = there.sorted_is; sorts = there.sorts };
  };
  logs = record {
    named = λ log named. listed_aside agree (is.logs.named log named);
    sorted = λ log used. listed_aside agree (is.logs.sorted log (sorted_aside (aside_back agree) used));
  };
  root = is.root;
  metadata = is.metadata;
}

pub read_aside_back : (reading : Reading) (known : Ground) (nodes : Nodes) → AgreeAside known.nodes nodes → IsReadAs reading (with_nodes known nodes) → IsReadAs reading known
read_aside_back reading known nodes agree is = read_aside reading (with_nodes known nodes) known.nodes (aside_back agree) is

-- an image whose nodes alone change, aside
pub readable_aside : NodesAreOne → (old new : Image) (before after : Nodes) → HasNodes nodes_name old before → HasNodes nodes_name new after → OthersStay nodes_name old new → AgreeAside before after → IsReadable old → IsReadable new
readable_aside one old new before after had has stay agree is =
    let same : is.known.nodes ≡ before = one nodes_name old is.known.nodes before is.of.nodes had in
    record {
      known = with_nodes is.known after;
      of = nodes_changed old new is.known after is.of stay has;
      is = record { reading = is.is.reading; is = read_aside is.is.reading is.known after (subst (λ n. AgreeAside n after) (sym same) agree) is.is.is };
    }
