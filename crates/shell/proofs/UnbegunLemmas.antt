-- Runs that began nothing.
use Rattle.std.proofs.Common.{◌≡◌, inl, inr, ⊎_elim, ℕ, ◌<◌, Bool, true, false, List, [], Option, Some, None, IsTrue, refl, sym, subst, arith}
use Rattle.host_model.specs.Picture.{Image, Picture}
use Rattle.host_model.specs.State.{HostState, picture_now}
use Rattle.host_model.specs.Calls.{IsSound}
use Rattle.host_model.specs.Leaves.{LeavesOnly, AllSettled}
use Rattle.host_model.specs.declared.fault.HostFault.TheVariants.{Disk, Source, Sink, Memory}
use Rattle.host_model.specs.declared.fault.Stop.{Stop}
use Rattle.host_model.specs.declared.fault.Stop.TheVariants.{Host, Damaged, Full, NoMemory}
use Rattle.host_model.proofs.LeavesLemmas.{leaves_start, leaves_weaker, same_leave}
use Rattle.table_store.specs.Tables.{Tables, no_tables, plain_of}
use Rattle.table_store.specs.Kept.{IsKept}
use Rattle.ground_store.specs.declared.stop.GroundStop.{GroundStop}
use Rattle.ground_store.specs.declared.stop.GroundStop.TheVariants.{NotInit, NotBlank, Stop as Stopped}
use Rattle.shell.specs.Ending.{unbegun, stopped_with, without_store}
use Rattle.shell.specs.Opening.{IsBegunOrNot}
use Rattle.shell.specs.Running.{HasNoStore}
use Rattle.shell.specs.Headline.{BeginsWith, MayStand, Headline, StandsNow, MayStandNow, MeetsPlain}
use Rattle.shell.specs.declared.outcomes.Outcome.{Outcome}
use Rattle.shell.proofs.StandsLemmas.{stands_first, fronts_first, may_stand_first}

-- the outcome tells that nothing was begun, by a status other than 0
pub record IsUnbegunOutcome (outcome : Outcome) : Type 0 where
  pub status : ℕ
  pub damaged : Option (List ℕ)
  pub is : outcome ≡ unbegun status damaged
  pub failed : 0 < status

pub stopped_unbegun : (stop : Stop) → IsUnbegunOutcome (stopped_with stop)
stopped_unbegun (Host Disk) = record { status = 4; damaged = None; is = refl; failed = omega arith }
stopped_unbegun (Host Source) = record { status = 5; damaged = None; is = refl; failed = omega arith }
stopped_unbegun (Host Sink) = record { status = 6; damaged = None; is = refl; failed = omega arith }
stopped_unbegun (Host Memory) = record { status = 7; damaged = None; is = refl; failed = omega arith }
stopped_unbegun (Damaged name) = record { status = 9; damaged = Some name; is = refl; failed = omega arith }
stopped_unbegun Full = record { status = 10; damaged = None; is = refl; failed = omega arith }
stopped_unbegun NoMemory = record { status = 7; damaged = None; is = refl; failed = omega arith }

pub without_unbegun : (stop : GroundStop) → IsUnbegunOutcome (without_store stop)
without_unbegun NotInit = record { status = 8; damaged = None; is = refl; failed = omega arith }
without_unbegun NotBlank = record { status = 8; damaged = None; is = refl; failed = omega arith }
without_unbegun (Stopped stop) = stopped_unbegun stop

-- ---- crashes

not_there : {X : Type 0} (x : X) → ◌≡◌ {A = Option X} None (Some x) → ⊥
not_there x is = cc

headline_of : (init : Bool) (first now : HostState) (tables : Tables) (status : ℕ) (damaged : Option (List ℕ)) → 0 < status → LeavesOnly (MayStand init first tables []) first now → Headline init first tables (unbegun status damaged) now
headline_of init first now tables status damaged failed leaves = record {
  every_moment = leaves;
  end = λ is p now. absurd (omega (arith, failed, is));
}

pub unbegun_headline : (init : Bool) (first now : HostState) (tables : Tables) (outcome : Outcome) → IsUnbegunOutcome outcome → LeavesOnly (MayStand init first tables []) first now → Headline init first tables outcome now
unbegun_headline init first now tables outcome nothing leaves =
    subst (λ o. Headline init first tables o now) (sym nothing.is) (headline_of init first now tables nothing.status nothing.damaged nothing.failed leaves)

-- what was left of the disk
left_stands : (first : HostState) (tables : Tables) → tables ≡ no_tables → (p : Picture) → IsBegunOrNot p.image → p.said ≡ first.said → MayStand true first tables [] p
left_stands first tables are p begun said = ⊎_elim
    (λ unborn. inl (record { unborn = unborn; said_is = said }))
    (λ kept. inr (fronts_first first tables p (subst (λ t. IsKept p.image t) (sym are) kept)))
    begun

pub bare_leaves : (init : Bool) (first now : HostState) (tables : Tables) (outcome : Outcome) → IsSound first → IsTrue first.is_honest → AllSettled first → BeginsWith init first.files tables → HasNoStore init first outcome now → LeavesOnly (MayStand init first tables []) first now
bare_leaves false first now tables outcome sound honest rests begins has =
    same_leave (MayStand false first tables []) sound honest rests ((has.left.looks refl).moves honest) (may_stand_first false first tables begins (picture_now first) refl refl)
bare_leaves true first now tables outcome sound honest rests begins has =
    leaves_weaker (has.left.leaves refl honest rests begins.0) (λ p shows. left_stands first tables begins.1 p shows.image shows.said_is)

-- memory was short before anything was begun
pub headline_unbegun : (init : Bool) (first now : HostState) (tables : Tables) (outcome : Outcome) → IsSound first → IsTrue first.is_honest → AllSettled first → BeginsWith init first.files tables
    → outcome ≡ stopped_with NoMemory → now ≡ first → Headline init first tables outcome now
headline_unbegun init first now tables outcome sound honest rests begins is same =
    let leaves = leaves_start (MayStand init first tables []) sound honest (λ p left. may_stand_first init first tables begins p (rests.each p left) (sound.said honest p left)) in
    subst (λ s. Headline init first tables outcome s) (sym same) (unbegun_headline init first first tables outcome (subst IsUnbegunOutcome (sym is) (stopped_unbegun NoMemory)) leaves)

-- ---- what reads give

meets_of : (init : Bool) (first now : HostState) (tables : Tables) (status : ℕ) (damaged : Option (List ℕ)) → MayStandNow init (plain_of tables) (unbegun status damaged) now.files → MeetsPlain init first tables (unbegun status damaged) now
meets_of init first now tables status damaged stands = record {
  stands = stands;
  history = record {
    lines = 0;
    within = record { there = omega arith; few = omega arith; short = tt };
    are = refl;
    apart = λ i j one two is also same. absurd (not_there one is);
    last = plain_of tables;
    applied = refl;
  };
  doubt = λ entry is. absurd (not_there entry is);
  queries = λ count text few is asks. absurd (omega (arith, few));
}

kept_meets : (tables : Tables) (status : ℕ) (damaged : Option (List ℕ)) (image : Image) → IsKept image tables → StandsNow (plain_of tables) (unbegun status damaged) image
kept_meets tables status damaged image kept = inl (stands_first tables image kept)

left_meets : (tables : Tables) (status : ℕ) (damaged : Option (List ℕ)) (image : Image) → tables ≡ no_tables → IsBegunOrNot image → MayStandNow true (plain_of tables) (unbegun status damaged) image
left_meets tables status damaged image are begun = ⊎_elim
    (λ unborn. inl unborn)
    (λ kept. inr (kept_meets tables status damaged image (subst (λ t. IsKept image t) (sym are) kept)))
    begun

bare_stands : (init : Bool) (first now : HostState) (tables : Tables) (outcome : Outcome) (status : ℕ) (damaged : Option (List ℕ)) → IsTrue first.is_faithful → BeginsWith init first.files tables → HasNoStore init first outcome now → MayStandNow init (plain_of tables) (unbegun status damaged) now.files
bare_stands false first now tables outcome status damaged faithful kept has = kept_meets tables status damaged now.files (subst (λ i. IsKept i tables) (sym ((has.left.looks refl).same faithful)) kept)
bare_stands true first now tables outcome status damaged faithful begins has = left_meets tables status damaged now.files begins.1 (has.left.tried refl faithful begins.0)

pub bare_meets : (init : Bool) (first now : HostState) (tables : Tables) (outcome : Outcome) → IsTrue first.is_faithful → BeginsWith init first.files tables → HasNoStore init first outcome now → MeetsPlain init first tables outcome now
bare_meets init first now tables outcome faithful begins has =
    let nothing = subst IsUnbegunOutcome (sym has.outcome_is) (without_unbegun has.stop) in
    subst (λ o. MeetsPlain init first tables o now) (sym nothing.is) (meets_of init first now tables nothing.status nothing.damaged (bare_stands init first now tables outcome nothing.status nothing.damaged faithful begins has))

first_stands : (init : Bool) (tables : Tables) (status : ℕ) (damaged : Option (List ℕ)) (image : Image) → BeginsWith init image tables → MayStandNow init (plain_of tables) (unbegun status damaged) image
first_stands false tables status damaged image kept = kept_meets tables status damaged image kept
first_stands true tables status damaged image begins = inl begins.0

pub meets_unbegun : (init : Bool) (first now : HostState) (tables : Tables) (outcome : Outcome) → BeginsWith init first.files tables → outcome ≡ stopped_with NoMemory → now ≡ first → MeetsPlain init first tables outcome now
meets_unbegun init first now tables outcome begins is same =
    subst (λ s. MeetsPlain init first tables outcome s) (sym same)
    (subst (λ o. MeetsPlain init first tables o first) (sym is) (meets_of init first first tables 7 None (first_stands init tables 7 None first.files begins)))
