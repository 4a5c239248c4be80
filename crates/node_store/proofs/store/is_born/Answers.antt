use Rattle.std.proofs.Common.{◌∙◌, ap, sym}
use Rattle.host_model.specs.Picture.{file_at}
use Rattle.host_model.proofs.CallsLemmas.{looks-refl, looks_more, still_faithful}
use Rattle.node_store.proofs.OpenLemmas.{born_by_byte}
use Rattle.node_store.proofs.store.is_born.Goals as goal

pub returns-in_err-read-clause-looks : goal.returns-in_err-read-clause-looks
returns-in_err-read-clause-looks g c = looks_more (looks_more (looks-refl (g.H.Host.state c.args.host.now)) c.in_ok-size.ensures.asks) c.in_err-read.ensures.asks

pub returns-clause-looks : goal.returns-clause-looks
returns-clause-looks g c = looks_more (looks_more (looks-refl (g.H.Host.state c.args.host.now)) c.in_ok-size.ensures.asks) c.in_ok-read.ensures.asks

pub returns-clause-born : goal.returns-clause-born
returns-clause-born g c = λ faithful.
    let name = c.args.name.now in
    let files = (g.H.Host.state c.args.host.now).files in
    let asks = c.in_ok-size.ensures.asks in
    born_by_byte name files c.in-Some.size c.read.new.into (sym c.in-Some.is ∙ c.in_ok-size.ensures.is faithful) c.if-size-lt-BORN_LENGTH.false c.read.auto.into
    (λ file is. c.in_ok-read.ensures.bytes (still_faithful asks.quiet.keeps faithful) file (ap (λ f. file_at f name) (asks.same faithful) ∙ is))
