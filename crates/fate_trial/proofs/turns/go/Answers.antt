use Rattle.std.proofs.Common.{◌≡◌, Err, refl, sym, subst, rules}
use Rattle.std.specs.Prelude.{IfErr}
use Rattle.host_model.specs.declared.fault.Stop.TheVariants.{NoMemory}
use Rattle.fate_runner.specs.Passing.{By_stacks, Nowhere}
use Rattle.fate_trial.specs.Stops.{Again, Short, At_status, TurnStops}
use Rattle.fate_trial.proofs.TurnLemmas.{given_turn}
use Rattle.fate_trial.proofs.turns.go.Goals as goal

pub turn-requires-clause-agree : goal.turn-requires-clause-agree
turn-requires-clause-agree g c = record {
  states = λ e. record {
    files = refl;
    said = refl;
    script = refl;
    moment = refl;
    faults = refl;
    before = refl;
    last = refl;
    may_leave = λ p left. left;
    may_leave_back = λ p left. left;
    left_since = λ t p left. left;
    left_since_back = λ t p left. left;
    faithful = refl;
    honest = refl;
  };
  books = λ p t. refl;
  likes = λ p q alike. alike;
  same_words = λ s. refl;
  same_suits = λ s kind. (λ is. is, λ is. is);
  same_text = λ s. refl;
  same_text_suits = λ s kind. (λ is. is, λ is. is);
}

pub turn-requires-clause-goes_on : goal.turn-requires-clause-goes_on
turn-requires-clause-goes_on g c = record { lives = λ e live. live; stays_able = λ old new beside able. beside.goes_on }

pub returns-in_err-going-clause-stops : goal.returns-in_err-going-clause-stops
returns-in_err-going-clause-stops g c =
    let is : c.from_residual.result ≡ Err c.in_err-going.field-0.0 = search rules in
    subst (λ r. IfErr r (λ stop. TurnStops g.H.Host.state c.args.tid stop c.args.env.now c.args.env.now)) (sym is) (By_stacks c.args.env.now (Nowhere refl) (At_status (Again c.in_err-going.ensures.stops refl)))

pub returns-in_err-is_unfinished-clause-stops : goal.returns-in_err-is_unfinished-clause-stops
returns-in_err-is_unfinished-clause-stops g c =
    let is : c.from_residual-in_err-is_unfinished.result ≡ Err NoMemory = search rules in
    subst (λ r. IfErr r (λ stop. TurnStops g.H.Host.state c.args.tid stop c.args.env.now c.args.env.now)) (sym is) (By_stacks c.args.env.now (Nowhere refl) (At_status (Short c.in_ok-going.ensures.runs refl refl)))

pub returns-in_err-turn-clause-stops : goal.returns-in_err-turn-clause-stops
returns-in_err-turn-clause-stops g c =
    let is : c.from_residual-in_err-turn.result ≡ Err c.in_err-turn.field-0.0 = search rules in
    subst (λ r. IfErr r (λ stop. TurnStops g.H.Host.state c.args.tid stop c.args.env.now c.turn.new.env)) (sym is) c.in_err-turn.ensures.stops

pub returns-clause-turns : goal.returns-clause-turns
returns-clause-turns g c = λ f kept took. given_turn c.in_ok-turn.ensures.takes c.in_ok-turn.field-0 refl f kept
