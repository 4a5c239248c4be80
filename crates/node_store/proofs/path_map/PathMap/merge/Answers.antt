use Rattle.std.proofs.Common.{◌∙◌, sym, ap, subst, unwrap_or, refl}
use lib.Dec.{T}
use Rattle.std.specs.FinMap as map
use Rattle.std.specs.FinMap.{find, is_sorted}
use Rattle.std.specs.Map.{keys_of}
use Rattle.std.proofs.lemmas.Map.Iter.{rest_more, rest_all}
use Rattle.std.proofs.lemmas.List.Elements.{All-head, All-tail, All-same}
use Rattle.row_keys.specs.Forms.{IsPath}
use Rattle.node_store.specs.PathsTo.{path_cmp, overlaid}
use Rattle.node_store.proofs.PathMaps.{sorted-ordered, merged_sorted, merged_turn, merged_all}
use Rattle.node_store.proofs.path_map.PathMap.merge.Goals as goal

pub loop-path-init : goal.loop-path-init
loop-path-init g c =
    let all = c.into_iter-path-iterator.ensures.into_iter_gives in
    record {
      sorted = subst (λ es. T (is_sorted path_cmp es)) (sym all.0) (sorted-ordered c.changes.inside.entries.entries all.5);
      forms = All-same IsPath _ _ (ap keys_of all.0) c.changes.invariant;
      leads = λ q. refl;
    }

pub change-requires : goal.change-requires
change-requires g c =
    let split = rest_more (λ x. x) c.loop-path.path-iterator c.next.new.self c.next.result (c.in-Some.path, c.in-Some.change) c.in-Some.is c.next.ensures.steps in
    All-head IsPath _ _ (All-same IsPath _ _ (sym (ap keys_of split)) c.loop-path.invariant.forms)

pub loop-path-preserved : goal.loop-path-preserved
loop-path-preserved g c =
    let split = rest_more (λ x. x) c.loop-path.path-iterator c.next.new.self c.next.result (c.in-Some.path, c.in-Some.change) c.in-Some.is c.next.ensures.steps in
    record {
      sorted = merged_sorted _ _ _ split c.loop-path.invariant.sorted;
      forms = All-tail IsPath _ _ (All-same IsPath _ _ (sym (ap keys_of split)) c.loop-path.invariant.forms);
      leads = merged_turn c.loop-path.self _ _ _ _ _ _ split c.loop-path.invariant.sorted c.loop-path.invariant.leads c.in_ok-change.ensures;
    }

pub returns : goal.returns
returns g c =
    let done = rest_all (λ x. x) c.loop-path.path-iterator c.next.new.self c.next.result c.in-None.is c.next.ensures.steps in
    let all = c.into_iter-path-iterator.ensures.into_iter_gives in
    merged_all c.loop-path.self c.args.self.now c.changes.inside.entries.entries
    (λ q. ap (λ es. unwrap_or (find path_cmp q es) (map.get c.loop-path.self q)) (sym done) ∙ c.loop-path.invariant.leads q ∙ ap (λ es. unwrap_or (find path_cmp q es) (map.get c.args.self.now q)) all.0)
    ∙ ap (λ m. overlaid c.args.self.now m) c.changes.view_is
