-- What tablets lack, and what is told of them.
use Rattle.std.proofs.Common.{◌≡◌, inl, inr, ℕ, List, [], ◌∷◌, ◌++◌, Contains, Option, Some, None, is_some, false, refl, sym, ◌∙◌, ap, subst}
use Rattle.std.proofs.lemmas.Option.{none-some}
use Rattle.std.proofs.lemmas.List.Elements.{Contains-append_cases}
use Rattle.metadata_schema.specs.declared.tablet.FileEntry.{FileEntry}
use Rattle.metadata_schema.specs.declared.tablet.TabletRecord.{TabletRecord}
use Rattle.cell_merge.specs.declared.cell.Cell.{Cell}
use Rattle.level_rows.specs.Chain.{Rows, IsChain, effective_prev, rows_of}
use Rattle.level_rows.proofs.LookupLemmas.{row-there}
use Rattle.level_rows.proofs.WayLemmas.{row_of}
use Rattle.level_rows.proofs.Membership.{Contains-nil}
use Rattle.store_meaning.specs.Ground.{Ground}
use Rattle.store_meaning.specs.Content.{content_of, tablet_content, contents_of, logs_of}
use Rattle.store_meaning.specs.Readable.{IsTold}
use Rattle.store_meaning.proofs.ContentLemmas.{file_told, log_told, content_told}
use Rattle.store_meaning.proofs.MemberLemmas.{all_each}
use Rattle.state_reader.specs.declared.store_reading.Untold.{Untold}
use Rattle.state_reader.specs.declared.store_reading.Untold.TheVariants.{File, Log}
use Rattle.state_reader.specs.declared.store_reading.ChainFault.{ChainFault}
use Rattle.state_reader.specs.declared.store_reading.ChainFault.TheVariants.{Lacks, NoMemory}
use Rattle.state_reader.specs.Lacks.{AreFilesTold, AreLogsTold, IsAllTold, IsLacking, AreOfTable, HasLacking, ChainCause}
use Rattle.state_reader.proofs.RowLists.{last_is}

-- a look-up that isn't none tells
pub told_unless : {V : Type 0} (o : Option V) → (o ≡ None → ⊥) → IsTold o
told_unless None none = absurd (none refl)
told_unless (Some v) none = record { value = v; is = refl }

pub files_none : (known : Ground) → AreFilesTold known []
files_none known = record { each = λ file there. absurd (Contains-nil file there) }

pub files_more : (known : Ground) (files : List FileEntry) (file : FileEntry) → AreFilesTold known files → (known.cells_of file.path ≡ None → ⊥) → AreFilesTold known (files ++ file ∷ [])
files_more known files file told is = record {
  each = λ other there. (elim (Contains-append_cases files (file ∷ []) other there) [
    | inl front ↦ told.each other front
    | inr last ↦ subst (λ (f : FileEntry). IsTold (known.cells_of f.path)) (last_is file other last) (told_unless (known.cells_of file.path) is)
  ]);
}

pub logs_none : (known : Ground) → AreLogsTold known []
logs_none known = record { each = λ log there. absurd (Contains-nil log there) }

pub logs_more : (known : Ground) (logs : List (List ℕ)) (log : List ℕ) → AreLogsTold known logs → (known.mutations_of log ≡ None → ⊥) → AreLogsTold known (logs ++ log ∷ [])
logs_more known logs log told is = record {
  each = λ other there. (elim (Contains-append_cases logs (log ∷ []) other there) [
    | inl front ↦ told.each other front
    | inr last ↦ subst (λ l. IsTold (known.mutations_of l)) (last_is log other last) (told_unless (known.mutations_of log) is)
  ]);
}

-- ---- tablets

-- the content is there where all is told
pub content_there : (known : Ground) (low : Option (List ℕ)) (tablet : TabletRecord) → IsAllTold known tablet → content_of known low tablet ≡ None → ⊥
content_there known low tablet told none =
    let content = content_told known low tablet (λ file there. (let t = told.files.each file there in (t.value, t.is))) (λ log there. (let t = told.logs.each log there in (t.value, t.is))) in
    none-some content.0 (sym none ∙ content.1)

lacks_not : (known : Ground) (low : Option (List ℕ)) (tablet : TabletRecord) (cells : List Cell) → content_of known low tablet ≡ Some cells → (untold : Untold) → IsLacking known tablet untold → ⊥
lacks_not known low tablet cells e (File path) lacks =
    let t = file_told known low tablet cells e lacks.file lacks.named in
    none-some t.0 (sym lacks.untold ∙ ap known.cells_of (sym lacks.path_is) ∙ t.1)
lacks_not known low tablet cells e (Log log) lacks =
    let t = log_told known low tablet cells e log lacks.named in
    none-some t.0 (sym lacks.untold ∙ t.1)

-- tablets whose cells are told lack nothing
pub chain_lacks_not : (known : Ground) (rows : Rows) (chain : List TabletRecord) (cells : List Cell) → contents_of known rows chain ≡ Some cells → (end : Option (List ℕ)) (untold : Untold) → HasLacking known chain end untold → ⊥
chain_lacks_not known rows chain cells e end untold has =
    let one = all_each (tablet_content known rows) chain cells e has.tablet has.there in
    lacks_not known (effective_prev rows has.tablet) has.tablet one.0 one.1 untold has.lacks

-- the tablets of a chain are of its table
pub chain_of_table : (table : List ℕ) (records chain : List TabletRecord) → IsChain (rows_of table records) chain → AreOfTable table chain
chain_of_table table records chain is = record {
  each = λ tablet there. (row-there table records tablet.end tablet (row_of (rows_of table records) None chain tablet is there)).1;
}

-- ---- faults

-- what one of the tablets lacks, the chain lacks
pub cause_in : (known : Ground) (chain : List TabletRecord) (tablet : TabletRecord) → Contains chain tablet → (fault : ChainFault) → ChainCause known (tablet ∷ []) fault → ChainCause known chain fault
cause_in known chain tablet there (Lacks end untold) cause = record {
  tablet = tablet;
  there = there;
  end_is = ap (λ (t : TabletRecord). t.end) (last_is tablet cause.tablet cause.there) ∙ cause.end_is;
  lacks = subst (λ (t : TabletRecord). IsLacking known t untold) (sym (last_is tablet cause.tablet cause.there)) cause.lacks;
}
cause_in known chain tablet there NoMemory cause = tt

-- the cause, as one fact of the fault
pub record IsChainCause (known : Ground) (chain : List TabletRecord) (fault : ChainFault) : Type 0 where
  pub why : ChainCause known chain fault
