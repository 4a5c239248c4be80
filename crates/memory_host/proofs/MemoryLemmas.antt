-- A host that starts.
use Rattle.std.proofs.Common.{◌≡◌, ℕ, List, [], Option, refl, ap, subst, sym}
use Rattle.host_model.specs.Picture.{Image, Picture}
use Rattle.memory_host.specs.declared.plan.FaultCounts.{FaultCounts}
use Rattle.memory_host.specs.declared.plan.Plan.{Plan}
use Rattle.memory_host.specs.Plan.{IsNewPlan, faults_of}
use Rattle.memory_host.specs.Past.{May}
use Rattle.memory_host.specs.Known.{Known}
use Rattle.memory_host.specs.Memory.{Starts}

pub starts : (files : Image) (script failing : List ℕ) (stop : Option ℕ) (known : Known) (rest : List ℕ) (plan : Plan) → known ≡ record { now = record { image = files; said = [] }; past = [] } → rest ≡ script → IsNewPlan failing stop plan
    → Starts files script failing stop (record { known = known; script = rest; plan = plan })
starts files script failing stop known rest plan is rest_is new = record {
  files_are = ap (λ (k : Known). k.now.image) is;
  said = ap (λ (k : Known). k.now.said) is;
  script_is = rest_is;
  faults = ap (λ (c : FaultCounts). faults_of c) new.faults;
  before = ap (λ (c : FaultCounts). faults_of c) new.found;
  last = new.last;
  plan = new;
  settled = record { each = λ p may. subst (λ (k : Known). May k.past k.now p → p.image ≡ k.now.image) (sym is) (λ at_once. ap (λ (q : Picture). q.image) at_once) may };
  honest = refl;
}
