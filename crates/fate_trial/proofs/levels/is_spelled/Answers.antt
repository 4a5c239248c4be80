use Rattle.std.proofs.Common.{◌≡◌, ◌≢◌, [], rules}
use Rattle.std.specs.Prelude.{MatchBool}
use Rattle.fate_trial.specs.Towers.{level_words}
use Rattle.fate_trial.proofs.LevelLemmas.{spelled}
use Rattle.fate_trial.proofs.levels.is_spelled.Goals as goal

pub returns : goal.returns
returns c =
    let is_name : (level_words c.args.level).name ≡ c.args.words.now.name = search rules in
    let is_bare : MatchBool c.same_bytes-2.result (c.args.words.now.argument ≡ []) (c.args.words.now.argument ≢ []) = search rules in
    spelled c.args.level c.args.words.now c.same_bytes-2.result is_name is_bare
