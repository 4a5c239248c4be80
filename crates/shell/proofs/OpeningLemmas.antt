-- A store is opened, or made: its nodes, and the tables that they say.
use Rattle.std.proofs.Common.{◌≡◌, ◌⊎◌, inl, inr, ⊎_elim, Bool, false, true, Some, Ok, Err, IsTrue, refl, sym, ◌∙◌, ap, subst}
use Rattle.std.proofs.lemmas.Bool.{false≢true}
use Rattle.host_model.specs.Picture.{Image}
use Rattle.host_model.specs.State.{HostState}
use Rattle.host_model.specs.Calls.{IsSound, Looks}
use Rattle.host_model.specs.Kinds.{IsLook, IsLookOrSync}
use Rattle.host_model.specs.Leaves.{AllSettled}
use Rattle.host_model.specs.declared.call.HostCall.TheVariants.{Sync}
use Rattle.host_model.specs.declared.fault.Stop.{Stop}
use Rattle.host_model.specs.declared.fault.Stop.TheVariants.{Host, Damaged, Full, NoMemory}
use Rattle.host_model.proofs.CallsLemmas.{was_faithful}
use Rattle.host_model.proofs.LeavesLemmas.{leaves_weaker, same_leave, rests_after_same}
use Rattle.node_store.specs.Image.{HasNodes, IsBorn, IsStored}
use Rattle.node_store.specs.Value.{StoreValue as NodeStoreValue}
use Rattle.node_store.proofs.ImageLemmas.{one_nodes, stored_has}
use Rattle.store_layout.specs.Names.{nodes_name}
use Rattle.store_layout.specs.NewStore.{IsUnbornDisk, IsNewStore}
use Rattle.store_meaning.specs.Readable.{IsReadable}
use Rattle.ground_store.specs.Opening as opening
use Rattle.ground_store.specs.declared.stop.GroundStop.{GroundStop}
use Rattle.ground_store.specs.declared.stop.GroundStop.TheVariants.{NotInit, NotBlank, Stop as Stopped}
use Rattle.table_store.specs.Tables.{no_tables}
use Rattle.table_store.specs.Reading.{IsReading, HasNoReading}
use Rattle.table_store.specs.Kept.{SaysNoTables}
use Rattle.table_store.specs.Laws.{NewStoresAreKept}
use Rattle.table_store.specs.StoreValue.{StoreValue, IsFresh, ReadStops}
use Rattle.table_store.proofs.FirstLemmas.{reading_first}
use Rattle.table_store.proofs.LawsLemmas.{one_reading}
use Rattle.table_store.proofs.CreatingLemmas.{says_stored}
use Rattle.shell.specs.LineServed.{IsUnchanged}
use Rattle.shell.specs.Readable.{IsLeft, LeavesReadable}
use Rattle.shell.specs.Opening.{OpenStops, InitStops, IsBegunOrNot, LeavesDisk, OpensStore}
use Rattle.shell.proofs.LineLemmas.{unchanged}

-- a host that is the same was asked nothing
pub was_asked : {H : Type 0} (state : H → HostState) {old new : H} {Last : Type 0} → (new ≡ old) ⊎ Last → IsUnchanged (state old) (state new) ⊎ Last
was_asked state asked = ⊎_elim (λ same. inl (unchanged (ap state same))) (λ last. inr last) asked

-- ---- a store that is there

left_looked : {old new : HostState} → Looks old new → LeavesDisk false old new
left_looked looks = record { quiet = looks.quiet; looks = λ _. looks; spares = λ e. absurd (false≢true e); tried = λ e. absurd (false≢true e); leaves = λ e. absurd (false≢true e) }

-- there are no nodes to open
pub unopened : (stop : GroundStop) {old new : HostState} → Looks old new → opening.OpenStops stop old new → (stop ≡ Stopped NoMemory → IsUnchanged old new ⊎ IsLook new.last) → OpensStore false (Err stop) old new
unopened stop {old} {new} looks why asked = record {
  fresh = tt;
  sure = tt;
  begins = λ f. tt;
  readable = λ f start. tt;
  stops = at stop why asked;
  left = left_looked looks;
  rests = λ h rests. tt;
}
  where
    at : (s : GroundStop) → opening.OpenStops s old new → (s ≡ Stopped NoMemory → IsUnchanged old new ⊎ IsLook new.last) → OpenStops s old new
    at NotInit why asked = why
    at NotBlank why asked = why
    at (Stopped (Host fault)) why asked = why
    at (Stopped (Damaged named)) why asked = (why.0, λ f. ((why.1 f).0, record { none = λ tables says. (why.1 f).1.none says.nodes says.has }), why.2)
    at (Stopped Full) why asked = why
    at (Stopped NoMemory) why asked = asked refl

module _ (nodes : NodeStoreValue) (named : nodes.name ≡ nodes_name) where
  says_none : (image : Image) → IsStored nodes image → HasNoReading nodes.nodes → SaysNoTables image
  says_none image stored none = record {
    none = λ tables says.
        let has = subst (λ n. HasNodes n image nodes.nodes) named (stored_has nodes image stored) in
        none.none tables (subst (λ n. IsReading n tables) (one_nodes nodes_name image says.nodes nodes.nodes says.has has) says.reading);
  }

  module _ {old new : HostState} (looks : Looks old new) (stored : IsTrue old.is_faithful → IsStored nodes old.files) where
    -- the nodes say no tables, or there was no memory for them
    pub unread : (stop : Stop) → (IsTrue old.is_faithful → IsBorn nodes_name old.files) → IsLook new.last → ReadStops stop nodes.nodes → OpensStore false (Err (Stopped stop)) old new
    unread stop born look why = record {
      fresh = tt;
      sure = tt;
      begins = λ f. tt;
      readable = λ f start. tt;
      stops = at stop why;
      left = left_looked looks;
      rests = λ h rests. tt;
    }
      where
        at : (s : Stop) → ReadStops s nodes.nodes → OpenStops (Stopped s) old new
        at (Host fault) why = absurd why
        at (Damaged name) why = (why.0, λ f. (born f, says_none old.files (stored f) why.1), look)
        at Full why = why
        at NoMemory why = inr look

    pub opened : (store : StoreValue) → IsSound old → IsFresh store → store.nodes ≡ nodes → IsReading nodes.nodes store.tables → OpensStore false (Ok store) old new
    opened store sound fresh is reading = record {
      fresh = fresh;
      sure = record {
        stored = λ n. subst (λ i. IsStored store.nodes i) (sym (looks.same (was_faithful looks.quiet.keeps n))) (stored_now (was_faithful looks.quiet.keeps n));
        says = λ n. let f = was_faithful looks.quiet.keeps n in says_stored nodes store.tables new.files named reading (subst (λ i. IsStored nodes i) (sym (looks.same f)) (stored f));
      };
      begins = λ f. record { stored = stored_now f; file = ap (λ (n : NodeStoreValue). n.name) is ∙ named; says = says_stored nodes store.tables old.files named reading (stored f) };
      readable = λ f is. subst (λ i. IsReadable i) (sym (looks.same f)) is;
      stops = tt;
      left = left_looked looks;
      rests = λ h rests. rests_after_same (looks.moves h) (looks.same (sound.faithful h)) rests;
    }
      where
        stored_now : IsTrue old.is_faithful → IsStored store.nodes old.files
        stored_now f = subst (λ n. IsStored n old.files) (sym is) (stored f)

-- ---- a new store

module _ (kept : NewStoresAreKept) {old new : HostState} (begins : opening.Begins old new) (spares : IsTrue old.is_faithful → (IsUnbornDisk old.files → ⊥) → Looks old new) where
  begun : (image : Image) → opening.IsBegunOrNot image → IsBegunOrNot image
  begun image is = ⊎_elim (λ unborn. inl unborn) (λ made. inr (kept image made)) is

  left_made : LeavesDisk true old new
  left_made = record {
    quiet = begins.quiet;
    looks = λ e. absurd (false≢true (sym e));
    spares = λ _. spares;
    tried = λ _ f disk. begun new.files (begins.tried f disk);
    leaves = λ _ h rests disk. leaves_weaker (begins.leaves h rests disk) (λ p shows. record { image = begun p.image shows.image; said_is = shows.said_is });
  }

  -- no nodes were made
  pub unmade : (stop : GroundStop) → opening.InitStops stop old new → (stop ≡ Stopped NoMemory → IsUnchanged old new ⊎ IsLookOrSync new.last) → OpensStore true (Err stop) old new
  unmade stop why asked = record {
    fresh = tt;
    sure = tt;
    begins = λ f. tt;
    readable = λ f start. tt;
    stops = at stop why asked;
    left = left_made;
    rests = λ h rests. tt;
  }
    where
      at : (s : GroundStop) → opening.InitStops s old new → (s ≡ Stopped NoMemory → IsUnchanged old new ⊎ IsLookOrSync new.last) → InitStops s old new
      at NotInit why asked = why
      at NotBlank why asked = why
      at (Stopped (Host fault)) why asked = why
      at (Stopped (Damaged named)) why asked = why
      at (Stopped Full) why asked = why
      at (Stopped NoMemory) why asked = asked refl

  module _ (made : NodeStoreValue) (first : opening.AreFirst made) where
    -- there was no memory for their tables
    pub unread_new : (stop : Stop) → new.last ≡ Some Sync → ReadStops stop made.nodes → OpensStore true (Err (Stopped stop)) old new
    unread_new stop synced why = record {
      fresh = tt;
      sure = tt;
      begins = λ f. tt;
      readable = λ f start. tt;
      stops = at stop why;
      left = left_made;
      rests = λ h rests. tt;
    }
      where
        at : (s : Stop) → ReadStops s made.nodes → InitStops (Stopped s) old new
        at (Host fault) why = absurd why
        at (Damaged name) why = why.1.none no_tables (reading_first made.nodes first.made)
        at Full why = why
        at NoMemory why = inr (subst IsLookOrSync (sym synced) tt)

    pub made_store : (store : StoreValue) → IsFresh store → store.nodes ≡ made → IsReading made.nodes store.tables → (IsTrue old.is_faithful → IsUnbornDisk old.files) → (IsTrue old.is_faithful → IsNewStore new.files)
        → (IsTrue new.is_faithful → IsStored made new.files) → (IsTrue old.is_honest → AllSettled old → AllSettled new) → OpensStore true (Ok store) old new
    made_store store fresh is reading unborn new_store stored rests = record {
      fresh = fresh;
      sure = record {
        stored = λ n. subst (λ s. IsStored s new.files) (sym is) (stored n);
        says = λ n. says_stored made store.tables new.files first.name reading (stored n);
      };
      begins = λ f. (
        unborn f,
        record {
          nodes = first.made ∙ ap (λ (n : NodeStoreValue). Ok n.nodes) (sym is);
          file = ap (λ (n : NodeStoreValue). n.name) is ∙ first.name;
          end = ap (λ (n : NodeStoreValue). n.end) is ∙ first.end;
          tables = one_reading made.nodes store.tables no_tables reading (reading_first made.nodes first.made);
        },
      );
      readable = λ f start. (kept new.files (new_store f)).readable;
      stops = tt;
      left = left_made;
      rests = rests;
    }

-- ---- what can be read of it

pub disk_readable : (init : Bool) {first now : HostState} → LeavesDisk init first now → IsSound first → LeavesReadable init first now
disk_readable false left sound = record {
  tried = λ f is. subst (λ i. IsReadable i) (sym ((left.looks refl).same f)) is;
  leaves = λ h rests is. same_leave (λ p. IsReadable p.image) sound h rests ((left.looks refl).moves h) is;
}
disk_readable true left sound = record {
  tried = λ f disk. read_or_not (left.tried refl f disk);
  leaves = λ h rests disk. leaves_weaker (left.leaves refl h rests disk) (λ p shows. read_or_not shows.image);
}
  where
    read_or_not : {image : Image} → IsBegunOrNot image → IsLeft true image
    read_or_not is = ⊎_elim (λ unborn. inl unborn) (λ kept. inr kept.readable) is
