-- Why cells weren't read, from why those of one tablet weren't, and why a ground was stopped.
use Rattle.std.proofs.Common.{◌≡◌, ◌⊎◌, inl, inr, ℕ, suc, ◌<◌, List, length, take, drop, get_or, IsTrue, refl, sym, subst}
use Rattle.host_model.specs.Picture.{Image}
use Rattle.host_model.specs.State.{HostState}
use Rattle.host_model.specs.Calls.{Keeps}
use Rattle.host_model.specs.declared.fault.Stop.{Stop}
use Rattle.host_model.specs.declared.fault.Stop.TheVariants.{Host, Damaged, Full, NoMemory}
use Rattle.host_model.proofs.CallsLemmas.{faulted-then, still_faithful}
use Rattle.metadata_schema.specs.declared.tablet.TabletRecord.{TabletRecord}
use Rattle.cell_merge.specs.declared.cell.Cell.{Cell}
use Rattle.level_rows.specs.Chain.{Rows, IsChain}
use Rattle.store_layout.specs.Names.{nodes_name}
use Rattle.state_reader.specs.declared.level.LevelKind.TheVariants.{Users}
use Rattle.ground_store.specs.Acts.{IsAgain}
use Rattle.tablet_scan.specs.Files.{IsFirstBad}
use Rattle.level_scan.specs.declared.nodes_fault.NodesFault.{NodesFault}
use Rattle.level_scan.specs.declared.nodes_fault.NodesFault.TheVariants as wrong
use Rattle.level_scan.specs.Tablets.{MemoryAt, HoldTablets}
use Rattle.level_scan.specs.Causes.{TabletCause, CellsCause, LevelStop, UsersStop, NoChainCause, IsStopFor}
use Rattle.level_scan.proofs.TabletLemmas.{parted, there}

-- ---- stops of the ground

-- the answer to a stop for a fault of the nodes is such a stop
pub answered : (of : NodesFault) (stop answer : Stop) → IsStopFor of stop → IsAgain stop answer → IsStopFor of answer
answered wrong.Damaged stop answer is again = by is
  where
    by : (stop ≡ Damaged nodes_name) ⊎ (stop ≡ NoMemory) → (answer ≡ Damaged nodes_name) ⊎ (answer ≡ NoMemory)
    by (inl damaged) = subst (λ s. IsAgain s answer) damaged again
    by (inr full) = inr (subst (λ s. IsAgain s answer) full again)
answered wrong.NoMemory stop answer is again = subst (λ s. IsAgain s answer) is again

-- a fact of a stop for damage to the nodes, and for want of memory
pub of_damage : (P : Stop → Type 0) (stop : Stop) → (stop ≡ Damaged nodes_name) ⊎ (stop ≡ NoMemory) → P (Damaged nodes_name) → P NoMemory → P stop
of_damage P stop (inl is) damaged none = subst P (sym is) damaged
of_damage P stop (inr is) damaged none = subst P (sym is) none

-- ---- the tablets of a table

module _ (rows : Rows) (hosted : MemoryAt) (chain : List TabletRecord) where
  -- why the cells of the next tablet weren't read, behind calls that only looked
  pub cause_at : (i : ℕ) (x : TabletRecord) → i < length chain → x ≡ get_or chain i x → (cells : List Cell) (stop : Stop) (a b c : HostState) → Keeps a b → (IsTrue a.is_faithful → b.files ≡ a.files)
      → (IsTrue a.is_faithful → HoldTablets a.files rows hosted (take i chain) cells) → TabletCause hosted x stop b c → CellsCause rows hosted chain stop a c
  cause_at i x lt at cells (Host fault) a b c keeps same held cause = (cause.0, faulted-then keeps cause.1)
  cause_at i x lt at cells (Damaged name) a b c keeps same held (inl file) = inl (record {
    named = record { tablet = x; there = there chain i x lt at; named = file.named };
    first = λ f. record {
      front = take i chain;
      tablet = x;
      back = drop (suc i) chain;
      are = parted chain i x lt at;
      cells = cells;
      before = held f;
      first = subst (λ (image : Image). IsFirstBad image x.files name) (same f) (file.first (still_faithful keeps f));
    };
  })
  cause_at i x lt at cells (Damaged name) a b c keeps same held (inr memory) = inr (record {
    named = memory.named;
    lacks = record { tablet = x; there = there chain i x lt at; none = memory.none };
    first = λ f. record { front = take i chain; tablet = x; back = drop (suc i) chain; are = parted chain i x lt at; cells = cells; before = held f; none = memory.none };
  })
  cause_at i x lt at cells Full a b c keeps same held cause = cause
  cause_at i x lt at cells NoMemory a b c keeps same held cause = tt

  -- ---- levels

  pub of_chain : IsChain rows chain → (stop : Stop) (old new : HostState) → LevelStop rows hosted chain Users stop old new → UsersStop rows hosted stop old new
  of_chain is (Host fault) old new cause = cause
  of_chain is (Damaged name) old new cause = inr (record { chain = chain; is = is; blames = cause })
  of_chain is Full old new cause = cause
  of_chain is NoMemory old new cause = tt

pub no_chain : (rows : Rows) (hosted : MemoryAt) (of : NodesFault) (stop : Stop) (old new : HostState) → NoChainCause rows of → IsStopFor of stop → UsersStop rows hosted stop old new
no_chain rows hosted wrong.Damaged stop old new broken is = of_damage (λ s. UsersStop rows hosted s old new) stop is (inl (record { named = refl; broken = broken })) tt
no_chain rows hosted wrong.NoMemory stop old new broken is = subst (λ s. UsersStop rows hosted s old new) (sym is) tt
