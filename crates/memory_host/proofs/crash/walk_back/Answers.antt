use Rattle.std.proofs.Common.{List, cond, reverse, sym, ◌∙◌, ap, arith}
use Rattle.std.specs.Ordering.{nat_cmp}
use Rattle.std.specs.Cmp.Lexicographic.{slice_cmp}
use Rattle.std.specs.BTreeSet.{contains}
use Rattle.std.proofs.lemmas.List.{nil_from_length}
use Rattle.host_model.specs.Picture.{file_at}
use Rattle.memory_host.specs.declared.event.Written.{Written}
use Rattle.memory_host.specs.declared.event.Event.{Event}
use Rattle.memory_host.specs.Walk.{filled, here_of, unsynced_of}
use Rattle.memory_host.proofs.StepLemmas.{none_settled, one_back, here_at_end}
use Rattle.memory_host.proofs.crash.walk_back.Goals as goal

pub loop-event-init : goal.loop-event-init
loop-event-init c = λ rule name.
    ap (λ t. cond t (file_at c.args.files.now name) (unsynced_of rule name (reverse c.args.past.items) (file_at c.args.files.now name))) (sym (none_settled c.new-settled.result name c.new-settled.ensures.empty))
    ∙ ap (λ (l : List Written). filled rule name l (cond (contains (slice_cmp nat_cmp) c.new-settled.result name) (file_at c.args.files.now name) (unsynced_of rule name (reverse c.args.past.items) (file_at c.args.files.now name)))) (sym c.new-taken.ensures.items)

pub loop-event-preserved : goal.loop-event-preserved
loop-event-preserved c = λ rule name.
    one_back rule name (unsynced_of rule name (reverse c.args.past.items) (file_at c.args.files.now name)) (contains (slice_cmp nat_cmp) c.loop-event.settled) (contains (slice_cmp nat_cmp) c.step_back.new.settled) c.loop-event.files c.step_back.new.files c.loop-event.past.items c.pop.new.self.items c.in-Some.event c.loop-event.taken.items c.step_back.new.taken.items c.in-Some.ensures.items (c.loop-event.invariant rule name) c.in_ok-step_back.ensures

pub returns : goal.returns
returns c = λ rule name.
    c.loop-event.invariant rule name
    ∙ ap (λ (l : List Event). here_of rule name (contains (slice_cmp nat_cmp) c.loop-event.settled) c.loop-event.files (reverse l) c.loop-event.taken.items) (nil_from_length c.loop-event.past.items (omega (arith, c.loop-event.past.ok.0, c.in_default.ensures.cases.0)))
    ∙ here_at_end rule name (contains (slice_cmp nat_cmp) c.loop-event.settled) c.loop-event.files c.loop-event.taken.items
