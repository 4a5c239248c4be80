use Rattle.std.proofs.Common.{rules, ◌≡◌, ◌+◌, ◌^◌, ◌<◌, ℕ, List, length, inl, subst, arith}
use Rattle.std.proofs.lemmas.Result.{err_from_is_err_and}
use Rattle.host_model.specs.Picture.{Image, OnBytes, file_at}
use Rattle.host_model.proofs.CallsLemmas.{was_faithful}
use Rattle.host_model.proofs.StoresLemmas.{stores_nothing, stores_failed, stores_ok, reaches_after}
use Rattle.journal_core.specs.Changes.{MayGain}
use Rattle.journal_core.specs.Journal.{IsOpen}
use Rattle.journal_core.proofs.JournalLemmas.{appends, open_after, first_failed, both_writes}
use Rattle.journal_core.proofs.journal.Journal.append.Goals as goal

stays : {name : List ℕ} {end : ℕ} {image : Image} (at : ℕ) (payload : List ℕ) → IsOpen name end image → OnBytes (MayGain at payload) (file_at image name) (file_at image name)
stays at payload is_open =
    let there = is_open.holds in
    record { before = there.file; after = there.file; was = there.is; is = there.is; steps = record { each = λ records ends. inl ends.has } }

pub returns-then-is_full-clause-stores : goal.returns-then-is_full-clause-stores
returns-then-is_full-clause-stores g c =
    stores_nothing _ _ _ _ _ (g.met.H.Host.sound c.args.host.now) (λ f. stays _ _ (c.requires f))

pub returns-then-is_full-clause-appends : goal.returns-then-is_full-clause-appends
returns-then-is_full-clause-appends g c = λ records holds. appends (g.met.H.Host.sound c.args.host.now) (returns-then-is_full-clause-stores g c) holds

pub returns-in_err-write_body-clause-stores : goal.returns-in_err-write_body-clause-stores
returns-in_err-write_body-clause-stores g c =
    let p = err_from_is_err_and c.from_residual.result c.from_residual.ensures.1 in
    rw (p.1, ← c.self.view_is) (first_failed _ c.in_err-write_body.ensures.stores)

pub returns-in_err-write_body-clause-appends : goal.returns-in_err-write_body-clause-appends
returns-in_err-write_body-clause-appends g c = λ records holds. appends (g.met.H.Host.sound c.args.host.now) (returns-in_err-write_body-clause-stores g c) holds

pub write_synced-requires : goal.write_synced-requires
write_synced-requires g c = λ f.
    reaches_after _ c.in_ok-write_body.ensures.stores (omega arith) (was_faithful c.in_ok-write_body.ensures.stores.quiet.keeps f)

pub returns-in_err-write_synced-clause-stores : goal.returns-in_err-write_synced-clause-stores
returns-in_err-write_synced-clause-stores g c =
    let p = err_from_is_err_and c.from_residual-in_err-write_synced.result c.from_residual-in_err-write_synced.ensures.1 in
    let short : length c.args.payload.now < 2 ^ 32 = search rules in
    let both = both_writes short (g.met.H.Host.sound c.args.host.now) c.in_ok-write_body.ensures.stores c.in_err-write_synced.ensures.stores in
    rw (p.1, ← c.self.view_is) (stores_failed _ _ _ both (λ x y gains. gains))

pub returns-in_err-write_synced-clause-appends : goal.returns-in_err-write_synced-clause-appends
returns-in_err-write_synced-clause-appends g c = λ records holds. appends (g.met.H.Host.sound c.args.host.now) (returns-in_err-write_synced-clause-stores g c) holds

pub returns-clause-stores : goal.returns-clause-stores
returns-clause-stores g c =
    let short : length c.args.payload.now < 2 ^ 32 = search rules in
    rw (← c.self.view_is) (stores_ok _ _ (both_writes short (g.met.H.Host.sound c.args.host.now) c.in_ok-write_body.ensures.stores c.in_ok-write_synced.ensures.stores))

pub returns-clause-appends : goal.returns-clause-appends
returns-clause-appends g c = λ records holds. appends (g.met.H.Host.sound c.args.host.now) (returns-clause-stores g c) holds

pub returns-clause-opened : goal.returns-clause-opened
returns-clause-opened g c = λ f.
    let was = rw (← c.self.view_is) at c.requires in
    let stores = rw (← c.self.view_is) at (returns-clause-stores g c) in
    let sums : c.self.inside.end + 5 + length c.args.payload.now ≡ c.self.inside.end + (5 + length c.args.payload.now) = omega arith in
    subst (λ (end : ℕ). IsOpen c.self.inside.name end (g.H.Host.state c.write_synced.new.host).files) sums (open_after stores was f)
