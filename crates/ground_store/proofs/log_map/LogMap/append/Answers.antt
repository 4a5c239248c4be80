use Rattle.std.proofs.Common.{◌≡◌, ◌∙◌, ◌+◌, length, Option, unwrap_or, IfErr, IsErrOf, ◌↔◌, sym, ap, subst}
use Rattle.std.specs.FinMap as map
use Rattle.std.proofs.lemmas.Result.{on_ok_weaker, on_err_weaker}
use Rattle.host_model.specs.Picture.{OnBytes}
use Rattle.host_model.specs.Stores.{Stores}
use Rattle.host_model.specs.declared.fault.Stop.TheVariants.{Full}
use Rattle.journal_core.specs.Changes.{MayGain, Gains}
use Rattle.journal_core.specs.Journal.{IsOpen, IsFull, AppendCause}
use Rattle.log_files.specs.Value.{LogValue}
use Rattle.node_store.proofs.PathMaps.{lookup-map, updated-insert}
use Rattle.ground_store.proofs.LogLemmas.{is_some, insert_own, on_ok_and, none_is_none}
use Rattle.ground_store.proofs.log_map.LogMap.append.Goals as goal

pub unreachable-requires : goal.unreachable-requires
unreachable-requires g c =
    none_is_none (c.in_default.ensures.value ∙ lookup-map c.args.name.now c.self.inside.logs.entries ∙ ap (λ m. map.get m c.args.name.now) c.self.view_is) c.requires.there

pub append-requires : goal.append-requires
append-requires g c = λ f.
    let found = c.in-Some.ensures.value ∙ lookup-map c.args.name.now c.self.inside.logs.entries ∙ ap (λ m. map.get m c.args.name.now) c.self.view_is in
    let same = ap (λ (o : Option LogValue). unwrap_or o (record { name = c.args.name.now; end = 0 })) found in
    subst (λ (v : LogValue). IsOpen v.name v.end (g.H.Host.state c.args.host.now).files) (sym same) (c.requires.opened f)

pub returns-clause-stores : goal.returns-clause-stores
returns-clause-stores g c =
    let found = c.in-Some.ensures.value ∙ lookup-map c.args.name.now c.self.inside.logs.entries ∙ ap (λ m. map.get m c.args.name.now) c.self.view_is in
    let same = ap (λ (o : Option LogValue). unwrap_or o (record { name = c.args.name.now; end = 0 })) found in
    subst (λ (v : LogValue). Stores v.name (OnBytes (MayGain v.end c.args.framed.now)) (OnBytes (Gains v.end c.args.framed.now)) c.append.result (g.H.Host.state c.args.host.now) (g.H.Host.state c.append.new.host)) same c.append.ensures.stores

pub returns-clause-opened : goal.returns-clause-opened
returns-clause-opened g c = λ f.
    let found = c.in-Some.ensures.value ∙ lookup-map c.args.name.now c.self.inside.logs.entries ∙ ap (λ m. map.get m c.args.name.now) c.self.view_is in
    let same = ap (λ (o : Option LogValue). unwrap_or o (record { name = c.args.name.now; end = 0 })) found in
    let opened = c.append.ensures.opened f in
    on_ok_and c.append.result (λ is there. subst (λ (v : LogValue). IsOpen v.name (v.end + 5 + length c.args.framed.now) (g.H.Host.state c.append.new.host).files) same (subst (λ (v : LogValue). IsOpen v.name v.end (g.H.Host.state c.append.new.host).files) is there)) c.append.ensures.ok opened

pub returns-clause-ok : goal.returns-clause-ok
returns-clause-ok g c =
    let found = c.in-Some.ensures.value ∙ lookup-map c.args.name.now c.self.inside.logs.entries ∙ ap (λ m. map.get m c.args.name.now) c.self.view_is in
    let same = ap (λ (o : Option LogValue). unwrap_or o (record { name = c.args.name.now; end = 0 })) found in
    let written = updated-insert c.self.inside.logs.entries (c.get_mut.follows.lender c.append.new.self).entries c.args.name.now c.append.new.self ((c.get_mut.follows.holds c.append.new.self).3 (is_some c.in-Some.ensures.value)).0 in
    on_ok_weaker c.append.result (λ is. written ∙ ap (λ m. map.insert m c.args.name.now c.append.new.self) c.self.view_is ∙ ap (map.insert c.args.self.now c.args.name.now) (is ∙ ap (λ (v : LogValue). record v { end = v.end + 5 + length c.args.framed.now }) same)) c.append.ensures.ok

pub returns-clause-err : goal.returns-clause-err
returns-clause-err g c =
    let found = c.in-Some.ensures.value ∙ lookup-map c.args.name.now c.self.inside.logs.entries ∙ ap (λ m. map.get m c.args.name.now) c.self.view_is in
    let same = ap (λ (o : Option LogValue). unwrap_or o (record { name = c.args.name.now; end = 0 })) found in
    let written = updated-insert c.self.inside.logs.entries (c.get_mut.follows.lender c.append.new.self).entries c.args.name.now c.append.new.self ((c.get_mut.follows.holds c.append.new.self).3 (is_some c.in-Some.ensures.value)).0 in
    on_err_weaker c.append.result (λ is. written ∙ ap (λ m. map.insert m c.args.name.now c.append.new.self) c.self.view_is ∙ ap (map.insert c.args.self.now c.args.name.now) is ∙ insert_own c.args.self.now c.args.name.now c.in-Some.log.now found) c.append.ensures.err

pub returns-clause-full : goal.returns-clause-full
returns-clause-full g c =
    let found = c.in-Some.ensures.value ∙ lookup-map c.args.name.now c.self.inside.logs.entries ∙ ap (λ m. map.get m c.args.name.now) c.self.view_is in
    let same = ap (λ (o : Option LogValue). unwrap_or o (record { name = c.args.name.now; end = 0 })) found in
    subst (λ (v : LogValue). IsErrOf c.append.result Full ↔ IsFull v.end c.args.framed.now) same c.append.ensures.full

pub returns-clause-untouched : goal.returns-clause-untouched
returns-clause-untouched g c =
    let found = c.in-Some.ensures.value ∙ lookup-map c.args.name.now c.self.inside.logs.entries ∙ ap (λ m. map.get m c.args.name.now) c.self.view_is in
    let same = ap (λ (o : Option LogValue). unwrap_or o (record { name = c.args.name.now; end = 0 })) found in
    subst (λ (v : LogValue). IsFull v.end c.args.framed.now → c.append.new.host ≡ c.args.host.now) same c.append.ensures.untouched

pub returns-clause-stops : goal.returns-clause-stops
returns-clause-stops g c =
    let found = c.in-Some.ensures.value ∙ lookup-map c.args.name.now c.self.inside.logs.entries ∙ ap (λ m. map.get m c.args.name.now) c.self.view_is in
    let same = ap (λ (o : Option LogValue). unwrap_or o (record { name = c.args.name.now; end = 0 })) found in
    subst (λ (v : LogValue). IfErr c.append.result (λ stop. AppendCause v.end c.args.framed.now stop (g.H.Host.state c.args.host.now) (g.H.Host.state c.append.new.host))) same c.append.ensures.stops
