use Rattle.std.proofs.Common.{◌≡◌, ◌+◌, Bool, true, None, Ok, Err, length, refl, sym, ◌∙◌, ap, subst, arith}
use Rattle.host_model.specs.Alters.{Alters}
use Rattle.host_model.specs.declared.fault.Stop.{Stop}
use Rattle.node_store.specs.Nodes.{multi_applied}
use Rattle.node_store.specs.Image.{IsNodeFile, IsStored}
use Rattle.table_store.specs.Numbers.{base36}
use Rattle.store_layout.specs.Names.{nodes_name}
use Rattle.table_store.specs.Layout.{create_ops}
use Rattle.table_store.specs.Reading.{IsReading}
use Rattle.table_store.specs.Kept.{SaysTables}
use Rattle.table_store.specs.Inside.{view_of}
use Rattle.table_store.specs.StoreValue.{StoreValue, MayCreate, Creates, entry_of}
use Rattle.table_store.specs.Appending.{Applies}
use Rattle.table_store.proofs.TablesLemmas.{applies_created, reading_created}
use Rattle.table_store.proofs.AltersMore.{alters_nothing, alters_ok, alters_failed}
use Rattle.table_store.proofs.CreatingLemmas.{says_stored, says_created, may_create_nothing, alters_created, entries_after, few_after, within_after, committed_after, unnamed_after, create_stops}
use Rattle.table_store.proofs.store.TableStore.create_table.Goals as goal

pub returns-in-Some-clause-alters : goal.returns-in-Some-clause-alters
returns-in-Some-clause-alters g c = λ free.
    let tables = c.args.self.now.tables in
    alters_nothing (IsNodeFile nodes_name) (MayCreate c.args.name tables) (Creates c.args.name tables) {T = Bool} c.again.result (g.H.Host.state c.args.host.now) (may_create_nothing c.args.name tables)

pub returns-then-contains-clause-says : goal.returns-then-contains-clause-says
returns-then-contains-clause-says g c = λ faithful.
    let inside = c.self.inside in
    let files = (g.H.Host.state c.args.host.now).files in
    let running : c.args.self.now.stop ≡ None = ap (λ (v : StoreValue). v.stop) (sym c.self.view_is) ∙ c.in_default.is in
    let stored = subst (λ (v : StoreValue). IsStored v.nodes files) (sym c.self.view_is) (c.requires.stored running faithful) in
    subst (λ (v : StoreValue). SaysTables files v.tables) c.self.view_is (says_stored inside.nodes (view_of inside).tables files c.self.invariant.name (c.self.invariant.reading c.in_default.is) stored)

pub returns-in-Err-clause-alters : goal.returns-in-Err-clause-alters
returns-in-Err-clause-alters g c = λ free.
    let tables = c.args.self.now.tables in
    alters_nothing (IsNodeFile nodes_name) (MayCreate c.args.name tables) (Creates c.args.name tables) {T = Bool} c.keep.result (g.H.Host.state c.args.host.now) (may_create_nothing c.args.name tables)

pub commit-requires-clause-applies : goal.commit-requires-clause-applies
commit-requires-clause-applies g c =
    let inside = c.self.inside in
    let free = sym c.contains.ensures ∙ c.if-contains.false in
    subst (λ o. Applies o inside.nodes.nodes) (sym (c.deref.ensures.value ∙ c.in-Ok.ensures.ops)) (applies_created inside.nodes.nodes (view_of inside).tables c.args.name (c.self.invariant.reading c.in_default.is) free)

pub invariant_of-self-in-Err-commit : goal.invariant_of-self-in-Err-commit
invariant_of-self-in-Err-commit g c =
    let inside = c.self.inside in
    let either = entries_after c.in-Err-commit.stop c.deref.result.now inside.nodes c.in-Ok.drawn.1 inside.entries.items c.commit.new.entries.items (g.H.Host.state c.args.host.now) (g.H.Host.state c.commit.new.host) c.in-Err-commit.ensures.stops in
    record {
      name = c.in-Err-commit.ensures.name ∙ c.self.invariant.name;
      within = within_after inside.committed c.in-Ok.drawn.1 inside.entries.items c.commit.new.entries.items c.self.invariant.within either;
      few = few_after inside.committed c.in-Ok.drawn.1 inside.entries.items c.commit.new.entries.items (c.self.invariant.settled c.in_default.is) either;
      unnamed = unnamed_after c.in-Err-commit.stop c.keep-in-Err-commit.new.kept c.deref.result.now inside.nodes c.in-Ok.drawn.1 inside.entries.items c.commit.new.entries.items (g.H.Host.state c.args.host.now) (g.H.Host.state c.commit.new.host) c.keep-in-Err-commit.ensures.kept c.in-Err-commit.ensures.stops;
      settled = λ running. let kept = c.keep-in-Err-commit.ensures.kept in absurd (cc);
      reading = λ running. let kept = c.keep-in-Err-commit.ensures.kept in absurd (cc);
    }

pub returns-clause-alters : goal.returns-clause-alters
returns-clause-alters g c = λ untaken.
    let inside = c.self.inside in
    let old = g.H.Host.state c.args.host.now in
    let new = g.H.Host.state c.commit.new.host in
    let running : c.args.self.now.stop ≡ None = ap (λ (v : StoreValue). v.stop) (sym c.self.view_is) ∙ c.in_default.is in
    let free = sym c.contains.ensures ∙ c.if-contains.false in
    subst (λ (v : StoreValue). Alters (IsNodeFile nodes_name) (MayCreate c.args.name v.tables) (Creates c.args.name v.tables) {T = Bool} (Err c.keep-in-Err-commit.result) old new) c.self.view_is
    (alters_created inside.nodes (view_of inside).tables c.args.name c.self.invariant.name (c.self.invariant.reading c.in_default.is) free c.in-Ok.ensures.named c.in-Ok.ensures.below c.deref.result.now
    (c.deref.ensures.value ∙ c.in-Ok.ensures.ops) (g.met.H.Host.sound c.args.host.now)
    (λ faithful. subst (λ (v : StoreValue). IsStored v.nodes old.files) (sym c.self.view_is) (c.requires.stored running faithful))
    (alters_failed c.keep-in-Err-commit.result c.in-Err-commit.ensures.alters))

pub returns-clause-history : goal.returns-clause-history
returns-clause-history g c =
    let inside = c.self.inside in
    committed_after inside.committed c.in-Ok.drawn.1 inside.entries.items c.commit.new.entries.items c.self.invariant.within
    (entries_after c.in-Err-commit.stop c.deref.result.now inside.nodes c.in-Ok.drawn.1 inside.entries.items c.commit.new.entries.items (g.H.Host.state c.args.host.now) (g.H.Host.state c.commit.new.host) c.in-Err-commit.ensures.stops)
    ∙ ap (λ (v : StoreValue). v.history) c.self.view_is

pub returns-clause-stops : goal.returns-clause-stops
returns-clause-stops g c = λ running.
    let inside = c.self.inside in
    let many : length inside.entries.items ≡ inside.committed = omega (arith, c.self.invariant.within, c.self.invariant.settled c.in_default.is) in
    rw (c.keep-in-Err-commit.ensures.same)
    (create_stops c.in-Err-commit.stop c.deref.result.now inside.nodes c.in-Ok.drawn.1 inside.entries.items c.commit.new.entries.items (g.H.Host.state c.args.host.now) (g.H.Host.state c.commit.new.host) c.args.line c.args.name c.args.self.now _ inside.committed
    (ap (λ (v : StoreValue). v.nodes) c.self.view_is)
    (c.in-Ok.ensures.entry ∙ ap (λ (v : StoreValue). entry_of c.args.line c.args.name v.tables) c.self.view_is)
    (c.deref.ensures.value ∙ c.in-Ok.ensures.ops ∙ ap (λ (v : StoreValue). create_ops (base36 v.tables.next) c.args.name (v.tables.next + 1)) c.self.view_is)
    many refl c.in-Err-commit.ensures.stops)

pub invariant_of-self-in-Ok-commit : goal.invariant_of-self-in-Ok-commit
invariant_of-self-in-Ok-commit g c =
    let inside = c.self.inside in
    let free = sym c.contains.ensures ∙ c.if-contains.false in
    let applied = subst (λ o. multi_applied o inside.nodes.nodes ≡ Ok c.commit.new.nodes.nodes) (c.deref.ensures.value ∙ c.in-Ok.ensures.ops) c.in-Ok-commit.ensures.ok in
    record {
      name = c.in-Ok-commit.ensures.name ∙ c.self.invariant.name;
      within = omega arith;
      few = omega arith;
      unnamed = c.self.invariant.unnamed;
      settled = λ running. omega arith;
      reading = λ running.
          subst (λ m. IsReading c.commit.new.nodes.nodes (record { by_name = m; next = inside.next + 1 })) (sym c.in-Ok.ensures.added)
          (reading_created inside.nodes.nodes (view_of inside).tables c.args.name (c.self.invariant.reading c.in_default.is) free c.commit.new.nodes.nodes c.in-Ok.ensures.named c.in-Ok.ensures.below applied);
    }

pub returns-in-Ok-commit-clause-says : goal.returns-in-Ok-commit-clause-says
returns-in-Ok-commit-clause-says g c = λ faithful.
    let inside = c.self.inside in
    let files = (g.H.Host.state c.commit.new.host).files in
    let free = sym c.contains.ensures ∙ c.if-contains.false in
    let applied = subst (λ o. multi_applied o inside.nodes.nodes ≡ Ok c.commit.new.nodes.nodes) (c.deref.ensures.value ∙ c.in-Ok.ensures.ops) c.in-Ok-commit.ensures.ok in
    subst (λ m. SaysTables files (record { by_name = m; next = inside.next + 1 })) (sym c.in-Ok.ensures.added)
    (says_created inside.nodes (view_of inside).tables c.args.name c.self.invariant.name (c.self.invariant.reading c.in_default.is) free c.in-Ok.ensures.named c.in-Ok.ensures.below c.commit.new.nodes files
    (c.in-Ok-commit.ensures.name ∙ c.self.invariant.name) applied (c.in-Ok-commit.ensures.stored faithful))

pub returns-in-Ok-commit-clause-alters : goal.returns-in-Ok-commit-clause-alters
returns-in-Ok-commit-clause-alters g c = λ untaken.
    let inside = c.self.inside in
    let old = g.H.Host.state c.args.host.now in
    let new = g.H.Host.state c.commit.new.host in
    let running : c.args.self.now.stop ≡ None = ap (λ (v : StoreValue). v.stop) (sym c.self.view_is) ∙ c.in_default.is in
    let free = sym c.contains.ensures ∙ c.if-contains.false in
    subst (λ (v : StoreValue). Alters (IsNodeFile nodes_name) (MayCreate c.args.name v.tables) (Creates c.args.name v.tables) {T = Bool} {E = Stop} (Ok true) old new) c.self.view_is
    (alters_created inside.nodes (view_of inside).tables c.args.name c.self.invariant.name (c.self.invariant.reading c.in_default.is) free c.in-Ok.ensures.named c.in-Ok.ensures.below c.deref.result.now
    (c.deref.ensures.value ∙ c.in-Ok.ensures.ops) (g.met.H.Host.sound c.args.host.now)
    (λ faithful. subst (λ (v : StoreValue). IsStored v.nodes old.files) (sym c.self.view_is) (c.requires.stored running faithful))
    (alters_ok Stop true c.in-Ok-commit.ensures.alters))
