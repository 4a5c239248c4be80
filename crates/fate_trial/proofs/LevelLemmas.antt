-- The words of steps.
use Rattle.std.proofs.Common.{◌≡◌, ◌≢◌, Bool, true, false, [], refl, sym, ◌∙◌, ap}
use Rattle.std.specs.Prelude.{MatchBool}
use Rattle.fate_runner.specs.declared.text.StepWords.{StepWords}
use Rattle.fate_trial.specs.declared.levels.Level.{Level}
use Rattle.fate_trial.specs.declared.levels.Level.TheVariants.{Raise, Cover}
use Rattle.fate_trial.specs.Towers.{level_words}

bare : (level : Level) → (level_words level).argument ≡ []
bare Raise = refl
bare Cover = refl

-- where the name is the step's
pub spelled : (level : Level) (w : StepWords) (is_bare : Bool) → (level_words level).name ≡ w.name → MatchBool is_bare (w.argument ≡ []) (w.argument ≢ []) → MatchBool is_bare (level_words level ≡ w) (level_words level ≢ w)
spelled level w true is_name bare_is = λ i. record { name = is_name i; argument = (bare level ∙ sym bare_is) i }
spelled level w false is_name other = λ same. other (ap (λ (x : StepWords). x.argument) (sym same) ∙ bare level)
