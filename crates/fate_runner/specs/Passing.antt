-- What a turn makes of an environment, and why it may stop.
use Rattle.std.specs.Prelude.{◌≡◌, ℕ}
use Rattle.host_model.specs.declared.fault.Stop.{Stop}

-- What a turn that is Ok made of the environment: it looked; or set a status; or a step was called or undone, and then the stack was written.
-- No entry is offered afterwards but by the call of a step.
pub data Passed {E S : Type 0} (same : E → E → Type 0) (calls undoes : S → ℕ → E → E → Type 0) (beside : E → E → Type 0) (able : E → Type 0) (t : ℕ) (old new : E) : Type 0 where
  Looked : same old new → able new → Passed same calls undoes beside able t old new
  Set : beside old new → able new → Passed same calls undoes beside able t old new
  Called : (s : S) (mid after : E) → same old mid → calls s t mid after → beside after new → (able after → able new) → Passed same calls undoes beside able t old new
  Undid : (s : S) (mid after : E) → same old mid → undoes s t mid after → beside after new → able new → Passed same calls undoes beside able t old new

-- how far a turn has come, with no stop on the way
pub data HasCome {E S : Type 0} (same : E → E → Type 0) (calls undoes : S → ℕ → E → E → Type 0) (t : ℕ) (old new : E) : Type 0 where
  Nowhere : new ≡ old → HasCome same calls undoes t old new
  Asked : same old new → HasCome same calls undoes t old new
  Has_called : (s : S) (mid : E) → same old mid → calls s t mid new → HasCome same calls undoes t old new
  Has_undone : (s : S) (mid : E) → same old mid → undoes s t mid new → HasCome same calls undoes t old new

-- The turn came so far, and then a call of the stacks or of the step stopped.
pub data Stopped {E S : Type 0} (same : E → E → Type 0) (calls undoes : S → ℕ → E → E → Type 0) (stacks_stop step_stops : Stop → E → E → Type 0) (t : ℕ) (stop : Stop) (old new : E) : Type 0 where
  By_stacks : (mid : E) → HasCome same calls undoes t old mid → stacks_stop stop mid new → Stopped same calls undoes stacks_stop step_stops t stop old new
  By_step : (mid : E) → HasCome same calls undoes t old mid → step_stops stop mid new → Stopped same calls undoes stacks_stop step_stops t stop old new
