use Rattle.std.proofs.Common.{◌≡◌, ◌∷◌, ◌++◌, Some, rules, sym}
use Rattle.std.specs.Prelude.{codes}
use Rattle.std.proofs.lemmas.Bool.Decides.{Decides-eqb}
use Rattle.std.proofs.lemmas.Slice.Eq.{strip_suffix_is}
use Rattle.metadata_schema.proofs.PathLemmas.{tells_name}
use Rattle.metadata_schema.proofs.paths.is_file_name.Goals as goal

pub returns : goal.returns
returns c =
    let text = c.in-Some-strip_suffix.text in
    let rest = c.in-Some.rest.now in
    let first : c.args.bytes.now ≡ c.in-Some.kind.now ∷ rest = search rules in
    let ends : rest ≡ text.now ++ codes ".rf" = strip_suffix_is Decides-eqb rest (codes ".rf") (Some text) c.in-Some-strip_suffix.ensures.cases in
    tells_name c.is_drawn_text.result c.args.bytes.now c.in-Some.kind.now rest text.now first ends (sym c.if-not-is_file_kind.ensures) c.is_drawn_text.ensures
