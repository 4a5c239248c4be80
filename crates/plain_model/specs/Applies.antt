-- What a call does whose outcome is defined.
use Rattle.std.specs.Prelude.{◌≡◌, Result, Ok, Err}
use Rattle.plain_model.specs.declared.stop.PlainStop.{PlainStop}
use Rattle.plain_model.specs.declared.stop.PlainStop.TheVariants.{NoMemory}

-- Of the outcome by definition, the value before, the call's answer and the value after: a refusal is answered, and the value
-- stays. Otherwise the call is done, or has no memory for it, and then the value stays.
abbrev pub Applies : {S : Type 0} → Result S PlainStop → S → Result (Unit {0}) PlainStop → S → Type 0
Applies (Ok next) old (Ok done) new = new ≡ next
Applies (Ok next) old (Err stop) new = (stop ≡ NoMemory) × (new ≡ old)
Applies (Err refusal) old answer new = (answer ≡ Err refusal) × (new ≡ old)
