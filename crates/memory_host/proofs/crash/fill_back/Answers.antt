use Rattle.std.proofs.Common.{List, ◌∙◌, ap, arith}
use Rattle.std.proofs.lemmas.List.{nil_from_length}
use Rattle.host_model.specs.Picture.{file_at}
use Rattle.memory_host.specs.declared.event.Written.{Written}
use Rattle.memory_host.specs.Crash.{ones}
use Rattle.memory_host.specs.Walk.{filled}
use Rattle.memory_host.proofs.StepLemmas.{one_filled}
use Rattle.memory_host.proofs.crash.fill_back.Goals as goal

pub loop-written-preserved : goal.loop-written-preserved
loop-written-preserved c = λ name. c.loop-written.invariant name ∙ one_filled name c.loop-written.files c.fill.new.self c.loop-written.taken.items c.pop.new.self.items c.in-Some.written c.in-Some.ensures.items c.in_ok-fill.ensures

pub returns : goal.returns
returns c = λ name.
    c.loop-written.invariant name ∙ ap (λ (l : List Written). filled ones name l (file_at c.loop-written.files name)) (nil_from_length c.loop-written.taken.items (omega (arith, c.loop-written.taken.ok.0, c.in_default.ensures.cases.0)))
