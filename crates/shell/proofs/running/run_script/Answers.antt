use Rattle.shell.proofs.RunLemmas.{serves_told, fronts_told}
use Rattle.shell.proofs.running.run_script.Goals as goal

pub returns-clause-serves : goal.returns-clause-serves
returns-clause-serves g c =
    let serve = c.serve-ending.ensures in
    let finish = c.finish-history.ensures in
    serves_told c.serve-ending.result _ _ _ _ _ _ c.ended.ensures finish.history finish.doubt serve.keeps serve.ended serve.stops serve.full serve.rests

pub returns-clause-crash : goal.returns-clause-crash
returns-clause-crash g c =
    let finish = c.finish-history.ensures in
    fronts_told c.serve-ending.result _ _ _ _ _ _ c.ended.ensures finish.history finish.doubt c.serve-ending.ensures.crash
