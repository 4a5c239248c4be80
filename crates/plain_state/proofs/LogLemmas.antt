-- The logs that nodes and records name, as lists.
use Rattle.std.proofs.Common.{◌≡◌, inl, inr, ℕ, List, [], ◌∷◌, ◌++◌, length, drop, codes, Contains, Option, Some, None, refl, sym, ◌∙◌, ap, subst}
use Rattle.std.specs.FinMap as map
use Rattle.std.proofs.lemmas.Option.{none-some, same_Some}
use Rattle.std.proofs.lemmas.List.Elements.{Contains-append_left, Contains-append_cases, Contains-push}
use Rattle.metadata_schema.specs.declared.tablet.TabletRecord.{TabletRecord}
use Rattle.level_rows.proofs.Membership.{Contains-nil}
use Rattle.node_store.specs.declared.changes.Node.{Node}
use Rattle.node_store.specs.Nodes.{Nodes}
use Rattle.store_meaning.specs.Ground.{Ground}
use Rattle.store_meaning.specs.Content.{logs_of}
use Rattle.store_meaning.specs.Levels.{Reading}
use Rattle.store_meaning.specs.InUse.{IsListedLog, IsListedSorted, IsNamedLog, IsLogInUse}
use Rattle.store_meaning.specs.Readable.{IsTold, IsSortedThere}
use Rattle.state_reader.proofs.RowLists.{last_is}
use Rattle.plain_state.specs.Paths.{paths_behind}
use Rattle.plain_state.specs.Records.{AreRecords}
use Rattle.plain_state.specs.Logs.{AreListed, AreListedSorted, AreAmong, HaveLogsAmong, AreTold, AreSortedThere}
use Rattle.plain_state.specs.Read.{AreLogsThere}
use Rattle.plain_state.proofs.PathLemmas.{node_of, among_behind}

-- ---- logs that nodes list

-- what the nodes of these paths, all under `/logs`, name
pub record AreValues (nodes : Nodes) (paths logs : List (List ℕ)) : Type 0 where
  pub from : (log : List ℕ) → Contains logs log → IsListedLog nodes log
  pub each : (path : List ℕ) (node : Node) → Contains paths path → map.get nodes path ≡ Some node → Contains logs node.value

pub values_none : (nodes : Nodes) → AreValues nodes [] []
values_none nodes = record { from = λ log there. absurd (Contains-nil log there); each = λ path node there e. absurd (Contains-nil path there) }

pub values_more : (nodes : Nodes) (paths logs : List (List ℕ)) (path : List ℕ) (node : Node) → AreValues nodes paths logs → Contains (paths_behind (codes "/logs/") nodes) path → map.get nodes path ≡ Some node
    → AreValues nodes (paths ++ path ∷ []) (logs ++ node.value ∷ [])
values_more nodes paths logs path node are among e = record {
  from = λ log there. (elim (Contains-append_cases logs (node.value ∷ []) log there) [
    | inl front ↦ are.from log front
    | inr last ↦ (let place = node_of (codes "/logs/") nodes path among in
        record { session = place.rest; node = node; there = ap (map.get nodes) (sym place.place) ∙ e; is = last_is node.value log last })
  ]);
  each = λ other another there is. (elim (Contains-append_cases paths (path ∷ []) other there) [
    | inl front ↦ Contains-append_left logs (node.value ∷ []) another.value (are.each other another front is)
    | inr last ↦ (let same : node ≡ another = same_Some node another (sym e ∙ ap (map.get nodes) (last_is path other last) ∙ is) in
        subst (λ (n : Node). Contains (logs ++ node.value ∷ []) n.value) same (Contains-push logs node.value))
  ]);
}

pub values_less : (nodes : Nodes) (paths logs : List (List ℕ)) (path : List ℕ) → AreValues nodes paths logs → map.get nodes path ≡ None → AreValues nodes (paths ++ path ∷ []) logs
values_less nodes paths logs path are e = record {
  from = are.from;
  each = λ other another there is. (elim (Contains-append_cases paths (path ∷ []) other there) [
    | inl front ↦ are.each other another front is
    | inr last ↦ absurd (none-some another (sym e ∙ ap (map.get nodes) (last_is path other last) ∙ is))
  ]);
}

pub values_all : (nodes : Nodes) (logs : List (List ℕ)) → AreValues nodes (paths_behind (codes "/logs/") nodes) logs → AreListed nodes logs
values_all nodes logs are = record {
  each = λ log. (are.from log, λ is. subst (Contains logs) is.is (are.each (codes "/logs/" ++ is.session) is.node (among_behind (codes "/logs/") is.session nodes is.node is.there) is.there));
}

-- ---- logs that nodes list as sorted

-- what stands behind `/sorted/` in these paths
pub record AreBehind (nodes : Nodes) (paths logs : List (List ℕ)) : Type 0 where
  pub from : (log : List ℕ) → Contains logs log → IsListedSorted nodes log
  pub each : (log : List ℕ) → Contains paths (codes "/sorted/" ++ log) → Contains logs log

pub behind_none : (nodes : Nodes) → AreBehind nodes [] []
behind_none nodes = record { from = λ log there. absurd (Contains-nil log there); each = λ log there. absurd (Contains-nil (codes "/sorted/" ++ log) there) }

same_log : (one other : List ℕ) → codes "/sorted/" ++ one ≡ codes "/sorted/" ++ other → one ≡ other
same_log one other e = ap (drop 8) e

pub behind_more : (nodes : Nodes) (paths logs : List (List ℕ)) (path one : List ℕ) → AreBehind nodes paths logs → Contains (paths_behind (codes "/sorted/") nodes) path → path ≡ codes "/sorted/" ++ one
    → AreBehind nodes (paths ++ path ∷ []) (logs ++ one ∷ [])
behind_more nodes paths logs path one are among place = record {
  from = λ log there. (elim (Contains-append_cases logs (one ∷ []) log there) [
    | inl front ↦ are.from log front
    | inr last ↦ (let behind = node_of (codes "/sorted/") nodes path among in
        record { node = behind.node; there = ap (λ l. map.get nodes (codes "/sorted/" ++ l)) (sym (last_is one log last)) ∙ ap (map.get nodes) (sym place) ∙ behind.there })
  ]);
  each = λ log there. (elim (Contains-append_cases paths (path ∷ []) (codes "/sorted/" ++ log) there) [
    | inl front ↦ Contains-append_left logs (one ∷ []) log (are.each log front)
    | inr last ↦ subst (Contains (logs ++ one ∷ [])) (same_log one log (sym place ∙ last_is path (codes "/sorted/" ++ log) last)) (Contains-push logs one)
  ]);
}

pub behind_less : (nodes : Nodes) (paths logs : List (List ℕ)) (path : List ℕ) → AreBehind nodes paths logs → ((log : List ℕ) → path ≡ codes "/sorted/" ++ log → ⊥) → AreBehind nodes (paths ++ path ∷ []) logs
behind_less nodes paths logs path are none = record {
  from = are.from;
  each = λ log there. (elim (Contains-append_cases paths (path ∷ []) (codes "/sorted/" ++ log) there) [
    | inl front ↦ are.each log front
    | inr last ↦ absurd (none log (last_is path (codes "/sorted/" ++ log) last))
  ]);
}

pub behind_all : (nodes : Nodes) (logs : List (List ℕ)) → AreBehind nodes (paths_behind (codes "/sorted/") nodes) logs → AreListedSorted nodes logs
behind_all nodes logs are = record { each = λ log. (are.from log, λ is. are.each log (among_behind (codes "/sorted/") log nodes is.node is.there)) }

-- ---- logs that records name

pub named_more : (listed : List (List ℕ)) (records : List TabletRecord) (tablet : TabletRecord) → HaveLogsAmong listed records → AreAmong listed (logs_of tablet) → HaveLogsAmong listed (records ++ tablet ∷ [])
named_more listed records tablet have here = record {
  each = λ other is. (elim (Contains-append_cases records (tablet ∷ []) other is) [
    | inl front ↦ have.each other front
    | inr last ↦ subst (λ (t : TabletRecord). AreAmong listed (logs_of t)) (last_is tablet other last) here
  ]);
}

-- ---- sorted logs that are there

pub sorted_there_more : (known : Ground) (listed logs : List (List ℕ)) (log : List ℕ) → AreSortedThere known listed logs → Contains listed log → IsSortedThere known log → AreSortedThere known listed (logs ++ log ∷ [])
sorted_there_more known listed logs log there one sorted = record {
  among = record {
    each = λ other is. (elim (Contains-append_cases logs (log ∷ []) other is) [
      | inl front ↦ there.among.each other front
      | inr last ↦ subst (Contains listed) (last_is log other last) one
    ]);
  };
  each = λ other is. (elim (Contains-append_cases logs (log ∷ []) other is) [
    | inl front ↦ there.each other front
    | inr last ↦ subst (IsSortedThere known) (last_is log other last) sorted
  ]);
}

-- ---- all logs

module _ (known : Ground) (reading : Reading) (records : List TabletRecord) (listed sorted : List (List ℕ)) (are : AreRecords reading records) (lists : AreListed known.nodes listed) (sorts : AreListedSorted known.nodes sorted) (named : HaveLogsAmong listed records) (told : AreTold known listed) (there : AreSortedThere known listed sorted) where
  is_listed : (log : List ℕ) → IsNamedLog reading log → IsListedLog known.nodes log
  is_listed log name = (lists.each log).0 ((named.each name.tablet ((are.each name.tablet).1 name.of)).each log name.there)

  sorted_listed : (log : List ℕ) → IsListedSorted known.nodes log → IsListedLog known.nodes log
  sorted_listed log is = (lists.each log).0 (there.among.each log ((sorts.each log).1 is))

  told_of : (log : List ℕ) → IsListedLog known.nodes log → IsTold (known.mutations_of log)
  told_of log is = told.each log ((lists.each log).1 is)

  in_use : (log : List ℕ) → IsLogInUse known.nodes reading log → IsTold (known.mutations_of log)
  in_use log (inl name) = told_of log (is_listed log name)
  in_use log (inr (inl list)) = told_of log list
  in_use log (inr (inr sort)) = told_of log (sorted_listed log sort)

  pub logs_there : AreLogsThere known reading
  logs_there = record {
    lists = record { named = is_listed; sorted = sorted_listed };
    logs = in_use;
    sorted = λ log is. there.each log ((sorts.each log).1 is);
  }
