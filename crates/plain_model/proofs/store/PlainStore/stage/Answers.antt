use Rattle.std.proofs.Common.{◌≡◌, ◌∙◌, ap, refl, sym, subst}
use Rattle.std.specs.Prelude.{Ok, Err, if◌then◌else◌, insert}
use Rattle.std.specs.FinMap as map
use Rattle.std.specs.Option.{is_some}
use Rattle.plain_model.specs.declared.tables.PlainStaged.{PlainStaged}
use Rattle.plain_model.specs.declared.stop.PlainStop.TheVariants.{Exists}
use Rattle.plain_model.specs.declared.store.PlainStore.TheInside.{Inside}
use Rattle.plain_model.specs.Apply.{put_all, entries_of}
use Rattle.plain_model.specs.Applies.{Applies}
use Rattle.plain_model.specs.Inside.{view_of}
use Rattle.plain_model.specs.Listed.{listed, pair_item, staged_item}
use Rattle.plain_model.proofs.StoreLemmas.{staged_are, staged_done, with_staged, on_ok}
use Rattle.plain_model.proofs.store.PlainStore.stage.Goals as goal

pub invariant_of-self-in-Err : goal.invariant_of-self-in-Err
invariant_of-self-in-Err c =
    let missing = c.in-Err.ensures.place c.args.self.now.staged (c.deref.ensures.value ∙ staged_are c.self.inside c.args.self.now c.self.view_is c.self.invariant) in
    let pairs = put_all (entries_of c.args.pairs.now) map.empty in
    let file : PlainStaged = record { name = c.in_ok-copy-in-Err.field-0; pairs = c.in_ok-last_pairs-in-Err.field-0 } in
    let same = c.in_ok-last_pairs-in-Err.ensures ∙ ap (λ ps. listed pair_item (put_all (entries_of ps) map.empty)) c.as_slice.ensures in
    let is : file ≡ staged_item (c.args.name.now, pairs) = λ i. record { name = c.in_ok-copy-in-Err.ensures.ok i; pairs = same i } in
    let put = ap (λ items. insert items c.in-Err.place file) (staged_are c.self.inside c.args.self.now c.self.view_is c.self.invariant) ∙ ap (insert (listed staged_item c.args.self.now.staged) c.in-Err.place) is ∙ missing.put pairs in
    staged_done c.self.inside c.args.self.now c.self.view_is c.self.invariant _ c.args.name.now pairs c.insert_staged.result (on_ok c.insert_staged.result c.insert_staged.ensures.ok (λ done. done ∙ put)) c.insert_staged.ensures.err refl

pub returns-in_ok-insert_staged-in-Err : goal.returns-in_ok-insert_staged-in-Err
returns-in_ok-insert_staged-in-Err c =
    let missing = c.in-Err.ensures.place c.args.self.now.staged (c.deref.ensures.value ∙ staged_are c.self.inside c.args.self.now c.self.view_is c.self.invariant) in
    let pairs = put_all (entries_of c.args.pairs.now) map.empty in
    let file : PlainStaged = record { name = c.in_ok-copy-in-Err.field-0; pairs = c.in_ok-last_pairs-in-Err.field-0 } in
    let same = c.in_ok-last_pairs-in-Err.ensures ∙ ap (λ ps. listed pair_item (put_all (entries_of ps) map.empty)) c.as_slice.ensures in
    let is : file ≡ staged_item (c.args.name.now, pairs) = λ i. record { name = c.in_ok-copy-in-Err.ensures.ok i; pairs = same i } in
    let put = ap (λ items. insert items c.in-Err.place file) (staged_are c.self.inside c.args.self.now c.self.view_is c.self.invariant) ∙ ap (insert (listed staged_item c.args.self.now.staged) c.in-Err.place) is ∙ missing.put pairs in
    let next : Inside = record { alloc = c.self.inside.alloc; tables = c.self.inside.tables; staged = c.insert_staged.new.files } in
    let done = with_staged c.self.inside c.args.self.now c.self.view_is c.self.invariant next (map.insert c.args.self.now.staged c.args.name.now pairs) (c.in_ok-insert_staged-in-Err.ensures.ok ∙ put) refl in
    subst (λ b. Applies (if b then Err Exists else Ok (record c.args.self.now { staged = map.insert c.args.self.now.staged c.args.name.now pairs })) c.args.self.now (Ok tt) (view_of next)) (sym (ap is_some missing.has_not)) done.1
