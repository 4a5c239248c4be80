use Rattle.std.proofs.Common.{◌≡◌, ◌∙◌, sym, ap, subst, List, Result, Ok, Err}
use Rattle.std.specs.Prelude.{IfOk}
use Rattle.metadata_schema.specs.declared.mutation.Update.{Update}
use Rattle.metadata_schema.specs.Between.{LeadsBetween}
use Rattle.metadata_schema.specs.Columns.{columns_of}
use Rattle.metadata_schema.specs.Merging.{between}
use Rattle.metadata_schema.proofs.MergeLemmas.{leads_between}
use Rattle.metadata_schema.proofs.RisingLemmas.{columns_rise}
use Rattle.metadata_schema.proofs.GivenLemmas.{columns_given}
use Rattle.metadata_schema.proofs.between.updates_between.Goals as goal

if_ok : {T E : Type 0} (P Q : T → Type 0) (r : Result T E) → ((x : T) → P x → Q x) → IfOk r P → IfOk r Q
if_ok P Q (Ok x) more is = more x is
if_ok P Q (Err e) more is = tt

pub returns : goal.returns
returns c =
    let old = columns_of c.args.before.now in
    let new = columns_of c.args.after.now in
    let all = leads_between old new (columns_rise c.args.before.now c.requires.before) (columns_rise c.args.after.now c.requires.after) (columns_given c.args.before.now) (columns_given c.args.after.now) in
    let first : c.deref.result.now ≡ old = c.deref.ensures.value ∙ c.in_ok-old.ensures in
    let second : c.deref-2.result.now ≡ new = c.deref-2.ensures.value ∙ c.in_ok-new.ensures in
    if_ok _ _ c.between.result
    (λ updates is. subst (LeadsBetween old new) (sym (is ∙ ap (λ (us : List Update). between us c.deref-2.result.now) first ∙ ap (between old) second)) all) c.between.ensures
