use Rattle.std.proofs.Common.{◌≡◌, ℕ, List, length, drop, Some, sym, ◌∙◌, ap, subst, arith}
use Rattle.std.proofs.lemmas.List.{take_at}
use Rattle.host_model.specs.Picture.{file_at}
use Rattle.host_model.specs.Calls.{IsPart}
use Rattle.host_model.proofs.CallsLemmas.{looks-refl, looks_more, whole_read, still_faithful}
use Rattle.log_files.proofs.whole_file.read_whole.Goals as goal

pub returns-in_err-read-clause-looks : goal.returns-in_err-read-clause-looks
returns-in_err-read-clause-looks g c = looks_more (looks_more (looks-refl (g.H.Host.state c.args.host.now)) c.length.ensures.asks) c.read.ensures.asks

pub returns-clause-looks : goal.returns-clause-looks
returns-clause-looks g c = looks_more (looks_more (looks-refl (g.H.Host.state c.args.host.now)) c.length.ensures.asks) c.read.ensures.asks

pub returns-clause-is : goal.returns-clause-is
returns-clause-is g c = λ f.
    let into = c.read.new.into in
    let long : length into ≡ c.in-Some.size = omega (arith, c.in_ok-bytes.ensures.len) in
    let part = subst (λ i. (file : List ℕ) → file_at i c.args.name.now ≡ Some file → IsPart file 0 into) (c.length.ensures.asks.same f) (c.in_ok-read.ensures.bytes (still_faithful c.length.ensures.asks.quiet.keeps f)) in
    let there = whole_read (g.H.Host.state c.args.host.now).files c.args.name.now c.in-Some.size into (sym c.in-Some.is ∙ c.in_ok-size.ensures.is f) long part in
    there ∙ ap (λ (l : List ℕ). Some l) (sym (take_at into (drop (length into) c.in_ok-bytes.bytes.items) c.in_ok-bytes.bytes.len (omega (arith, c.in_ok-bytes.ensures.len))))
