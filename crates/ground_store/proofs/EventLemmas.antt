-- How actions of a ground follow one another in an event.
use Rattle.std.proofs.Common.{Option, Some, None, IsTrue, ◌∙◌}
use Rattle.host_model.specs.Picture.{Image}
use Rattle.host_model.specs.State.{HostState}
use Rattle.host_model.specs.Calls.{Keeps, IsSound}
use Rattle.host_model.specs.declared.fault.Stop.{Stop}
use Rattle.host_model.specs.declared.fault.Stop.TheVariants.{Host, Damaged, Full, NoMemory}
use Rattle.host_model.proofs.CallsLemmas.{still_faithful, still_honest, quiet-then, faulted-then}
use Rattle.host_model.proofs.LeavesLemmas.{leaves_then, leaves_weaker}
use Rattle.ground_store.specs.Value.{GroundValue}
use Rattle.ground_store.specs.Acts.{Acts, Goes, GoesOn, IsCounted, Unless}

abbrev Change : Type 1
Change = Image → Image → Type 0

unless_more : (stop : Option Stop) {P Q : Type 0} → (P → Q) → Unless stop P → Unless stop Q
unless_more None more fact = more fact
unless_more (Some stop) more fact = fact

counted_then : (stop : Stop) (a b c : HostState) → Keeps a b → IsCounted stop b c → IsCounted stop a c
counted_then (Host fault) a b c keeps counted = faulted-then keeps counted
counted_then (Damaged name) a b c keeps counted = counted
counted_then Full a b c keeps counted = counted
counted_then NoMemory a b c keeps counted = counted

goes_on_then : (stop kept : Option Stop) (a b c : HostState) → Keeps a b → GoesOn stop kept b c → GoesOn stop kept a c
goes_on_then None kept a b c keeps on = on
goes_on_then (Some stop) kept a b c keeps on = record { own = on.own; is = on.is; again = on.again; counted = counted_then on.own a b c keeps on.counted }

-- what leads from the files of one ground to those of another
abbrev Leads : {H : Type 0} → (H → HostState) → GroundValue H → GroundValue H → Change → Type 0
Leads state x y change = change (state x.host).files (state y.host).files

module _ {H : Type 0} (state : H → HostState) where
  -- an action behind what was done, as part of more
  goes_then : {D1 A1 D2 A2 : Change} (D A : Change) (stop : Option Stop) {x y z : GroundValue H} → IsSound (state x.host) → Goes state D1 A1 None x y → Goes state D2 A2 stop y z
      → (IsTrue (state x.host).is_faithful → (i : Image) → D1 (state x.host).files i → D (state x.host).files i)
      → (IsTrue (state x.host).is_faithful → Leads state x y A1 → (i : Image) → D2 (state y.host).files i → D (state x.host).files i)
      → (IsTrue (state x.host).is_faithful → Leads state x y A1 → Leads state y z A2 → Leads state x z A)
      → Goes state D A stop x z
  goes_then D A stop {x} {y} {z} sound one two first second both = record {
    quiet = quiet-then one.quiet two.quiet;
    tried = λ f. second f (one.done f) (state z.host).files (two.tried (still_faithful one.quiet.keeps f));
    done = λ f. unless_more stop (both f (one.done f)) (two.done (still_faithful one.quiet.keeps f));
    leaves = λ h. let f = sound.faithful h in leaves_then
        (leaves_weaker (one.leaves h) (λ p shows. record { image = first f p.image shows.image; said_is = shows.said_is }))
        (leaves_weaker (two.leaves (still_honest one.quiet.keeps h)) (λ p shows. record { image = second f (one.done f) p.image shows.image; said_is = shows.said_is ∙ one.quiet.said f }));
    rests = λ h. two.rests (still_honest one.quiet.keeps h);
    goes_on = goes_on_then stop z.stopped (state x.host) (state y.host) (state z.host) one.quiet.keeps two.goes_on;
  }

  -- an action behind what was done at Ok. The premises are the parts of what leads from the first ground to the last: a crash in the first
  -- part, one in the second, and both done.
  pub acts_then : {D1 A1 D2 A2 : Change} (D A : Change) {stop : Option Stop} {x y z : GroundValue H} → IsSound (state x.host) → Acts state D1 A1 None x y → Acts state D2 A2 stop y z
      → (IsTrue (state x.host).is_faithful → (i : Image) → D1 (state x.host).files i → D (state x.host).files i)
      → (IsTrue (state x.host).is_faithful → Leads state x y A1 → (i : Image) → D2 (state y.host).files i → D (state x.host).files i)
      → (IsTrue (state x.host).is_faithful → Leads state x y A1 → Leads state y z A2 → Leads state x z A)
      → Acts state D A stop x z
  acts_then D A {stop} sound one two first second both = record {
    goes = λ runs. let done = one.goes runs in goes_then D A stop sound done (two.goes done.goes_on) first second both;
    stays = λ own has. absurd (let wrong = (one.stays own has).is in cc);
  }

  -- the same action, as part of more
  pub acts_more : {D1 A1 : Change} (D A : Change) (stop : Option Stop) {x y : GroundValue H} → IsSound (state x.host) → Acts state D1 A1 stop x y
      → (IsTrue (state x.host).is_faithful → (i : Image) → D1 (state x.host).files i → D (state x.host).files i)
      → (IsTrue (state x.host).is_faithful → Leads state x y A1 → Leads state x y A)
      → Acts state D A stop x y
  acts_more D A stop {x} {y} sound one first done = record {
    goes = λ runs. let own = one.goes runs in record {
      quiet = own.quiet;
      tried = λ f. first f (state y.host).files (own.tried f);
      done = λ f. unless_more stop (done f) (own.done f);
      leaves = λ h. leaves_weaker (own.leaves h) (λ p shows. record { image = first (sound.faithful h) p.image shows.image; said_is = shows.said_is });
      rests = own.rests;
      goes_on = own.goes_on;
    };
    stays = one.stays;
  }
