use Rattle.std.proofs.Common.{Some, None, subst}
use Rattle.std.proofs.lemmas.Option.{same_Some, none-some}
use Rattle.data_files.specs.Files.{HoldsCells}
use Rattle.log_files.specs.Logs.{HasLog}
use Rattle.log_files.specs.Sorted.{HasSorted, sorted_name}
use Rattle.store_layout.specs.Names.{file_of}
use Rattle.store_meaning.proofs.ChangeLemmas.{nodes_changed, file_changed, log_changed, log_appended, sorted_changed}
use Rattle.store_meaning.proofs.laws.each_action_changes_one_look_up.Goals as goal

pub returns : goal.returns
returns c = record {
  nodes = nodes_changed;
  file = λ old new known path is form changes. file_changed old new known is path None form changes (λ cells e. absurd (none-some cells e));
  file_written = λ old new known path cells is form changes holds. file_changed old new known is path (Some cells) form changes (λ other e. subst (λ l. HoldsCells (file_of path) l new) (same_Some cells other e) holds);
  log = λ old new known log is form changes. log_changed old new known is log None form changes (λ mutations e. absurd (none-some mutations e));
  log_written = λ old new known log mutations is form changes holds. log_changed old new known is log (Some mutations) form changes (λ other e. subst (λ l. HasLog log l new) (same_Some mutations other e) holds);
  log_appended = log_appended;
  sorted = λ old new known log is form changes. sorted_changed old new known is log None form changes (λ mutations e. absurd (none-some mutations e));
  sorted_written = λ old new known log mutations is form changes holds. sorted_changed old new known is log (Some mutations) form changes (λ other e. subst (λ l. HasSorted (sorted_name log) l new) (same_Some mutations other e) holds);
}
