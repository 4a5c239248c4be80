use Rattle.std.proofs.Common.{◌≡◌, ◌∙◌, ℕ, List, Option, Some, None, refl, sym, subst}
use Rattle.std.specs.Prelude.{MatchOption, IsSome}
use Rattle.row_keys.specs.Forms.{IsPath}
use Rattle.metadata_schema.specs.Paths.{IsFilePath}
use Rattle.metadata_schema.proofs.PathLemmas.{path_fits}
use Rattle.new_files.specs.Names.{new_path}
use Rattle.new_files.proofs.PathLemmas.{path_form}
use Rattle.new_files.proofs.paths.new_path.Goals as goal

given : (o : Option (List ℕ)) (bytes : List ℕ) (P : List ℕ → Type 0) → IsPath bytes → MatchOption o (IsPath bytes → ⊥) P → IsSome o
given None bytes P form none = absurd (none form)
given (Some path) bytes P form some = refl

found : (o : Option (List ℕ)) (path : List ℕ) (N : Type 0) (P : List ℕ → Type 0) → o ≡ Some path → MatchOption o N P → P path
found o path N P is some = subst (λ p. MatchOption p N P) is some

pub unwrap-requires : goal.unwrap-requires
unwrap-requires c =
    let form = path_form c.args.table.now c.args.dir.now c.args.kind c.args.number c.in_ok-bytes.ensures.table c.requires.dir c.requires.number in
    given c.in_ok-path.path c.deref.result.now _ (subst IsPath (sym (c.deref.ensures.value ∙ c.in_ok-bytes.ensures.bytes)) (path_fits (new_path c.args.table.now c.args.dir.now c.args.kind c.args.number) form)) c.in_ok-path.ensures.ok

pub returns-clause-form : goal.returns-clause-form
returns-clause-form c =
    let form = path_form c.args.table.now c.args.dir.now c.args.kind c.args.number c.in_ok-bytes.ensures.table c.requires.dir c.requires.number in
    let is : c.unwrap.result ≡ c.deref.result.now = found c.in_ok-path.path c.unwrap.result _ (λ path. path ≡ c.deref.result.now) c.unwrap.ensures c.in_ok-path.ensures.ok in
    subst IsFilePath (sym (is ∙ c.deref.ensures.value ∙ c.in_ok-bytes.ensures.bytes)) form
