use Rattle.std.proofs.Common.{◌≡◌, ◌∙◌, drop, map, List, ℕ, sym, ap, subst}
use Rattle.std.proofs.lemmas.List.{take_rest}
use Rattle.metadata_schema.specs.Paths.{IsFilePath}
use Rattle.level_cache.specs.Marks.{path_byte}
use Rattle.level_cache.proofs.ListedLemmas.{found_path, path_of}
use Rattle.level_cache.proofs.listed.path_in.Goals as goal

pub returns-then-not-is_file_path : goal.returns-then-not-is_file_path
returns-then-not-is_file_path c = λ path named.
    (let bytes : c.deref.result.now ≡ map path_byte (drop 4 c.args.node.now) = c.deref.ensures.value ∙ c.in_ok-bytes.ensures ∙ ap (map path_byte) (take_rest c.as_bytes.result.now 4) ∙ ap (λ (l : List ℕ). map path_byte (drop 4 l)) c.as_bytes.ensures.bytes in
    c.if-not-is_file_path.ensures (subst IsFilePath (sym (bytes ∙ path_of c.args.node.now path named)) named.form))

pub returns : goal.returns
returns c =
    let bytes : c.deref.result.now ≡ map path_byte (drop 4 c.args.node.now) = c.deref.ensures.value ∙ c.in_ok-bytes.ensures ∙ ap (map path_byte) (take_rest c.as_bytes.result.now 4) ∙ ap (λ (l : List ℕ). map path_byte (drop 4 l)) c.as_bytes.ensures.bytes in
    found_path c.args.node.now c.requires c.in_ok-new.field-0 c.deref-2.result.now (c.deref-2.ensures.value ∙ sym c.deref.ensures.value ∙ bytes) (subst IsFilePath (c.deref.ensures.value ∙ sym c.deref-2.ensures.value) c.if-not-is_file_path.ensures) c.in_ok-new.ensures.ok
