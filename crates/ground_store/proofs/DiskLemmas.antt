-- What the disk is before there is a store.
use Rattle.std.proofs.Common.{◌≡◌, ◌≢◌, inl, inr, ⊎_elim, ℕ, Vec, Bool, true, false, List, Option, Some, None, Result, get_or, refl, sym, ◌∙◌, ap, subst}
use Rattle.std.specs.Prelude.{MatchBool, All, Contains}
use Rattle.std.specs.FinMap.{contains_key-keys}
use Rattle.std.specs.Option.{is_some}
use Rattle.std.specs.Cmp.{eq_by_cmp_equiv}
use Rattle.std.specs.Cmp.Lexicographic.{nat_list_cmp_total}
use Rattle.std.specs.declared.alloc.Global.{Global}
use Rattle.std.proofs.lemmas.List.Elements.{All-contains, Contains-get_or}
use Rattle.std.proofs.lemmas.Map.Views.{list_any-from_Contains, tells_apart, Contains-from_any}
use Rattle.std.proofs.lemmas.Map.Lookups.{exact_bytes}
use Rattle.host_model.specs.Picture.{Image, Same, file_at, file_names}
use Rattle.host_model.specs.State.{HostState}
use Rattle.host_model.specs.Calls.{Looks, Names}
use Rattle.host_model.specs.declared.fault.Stop.{Stop}
use Rattle.host_model.proofs.CallsLemmas.{quiet-then, still_faithful, still_honest}
use Rattle.host_model.proofs.MovesLemmas.{goes_on}
use Rattle.host_model.proofs.Images.{cases_name}
use Rattle.node_store.specs.Image.{IsUnborn}
use Rattle.store_layout.specs.Names.{nodes_name}
use Rattle.store_layout.specs.NewStore.{root_file, IsUnbornDisk}
use Rattle.ground_store.specs.Opening.{IsFirstName}

pub looks_names : {result : Result (Vec (List ℕ) Global) Stop} {a b c : HostState} → Looks a b → Names result b c → Looks a c
looks_names looks names = record {
  quiet = quiet-then looks.quiet names.quiet;
  same = λ f. names.same (still_faithful looks.quiet.keeps f) ∙ looks.same f;
  moves = λ h. goes_on Same Same (looks.moves h) (names.moves (still_honest looks.quiet.keeps h)) (λ d p left s. s) (λ d e p left s t. t ∙ s) (λ d e p left s t. t ∙ s);
}

key_there : (image : Image) (name : List ℕ) → Contains (file_names image) name → (file : List ℕ) × (file_at image name ≡ Some file)
key_there image name among = at (file_at image name) refl
  where
    found : is_some (file_at image name) ≡ true
    found = contains_key-keys image name ∙ list_any-from_Contains (eq_by_cmp_equiv nat_list_cmp_total) name (file_names image) among

    at : (o : Option (List ℕ)) → file_at image name ≡ o → (file : List ℕ) × (file_at image name ≡ Some file)
    at None is = let some : is_some (file_at image name) ≡ true = found in cc
    at (Some file) is = (file, is)

key_among : (image : Image) (name file : List ℕ) → file_at image name ≡ Some file → Contains (file_names image) name
key_among image name file is = Contains-from_any (tells_apart exact_bytes) name (file_names image) (sym (contains_key-keys image name) ∙ ap is_some is)

-- no other file is there exactly where no other name is
pub alone_is_unborn : (image : Image) (alone : Bool) (names : List (List ℕ)) (nodes root : List ℕ) → names ≡ file_names image → nodes ≡ nodes_name → root ≡ root_file → IsUnborn nodes_name image
    → MatchBool alone (All (IsFirstName nodes root) names) (All (IsFirstName nodes root) names → ⊥) → MatchBool alone (IsUnbornDisk image) (IsUnbornDisk image → ⊥)
alone_is_unborn image true names nodes root are is_nodes is_root unborn all = record {
  nodes = unborn;
  others = λ q apart other. at q apart other (file_at image q) refl;
}
  where
    at : (q : List ℕ) → q ≢ nodes_name → q ≢ root_file → (o : Option (List ℕ)) → file_at image q ≡ o → file_at image q ≡ None
    at q apart other None none = none
    at q apart other (Some file) some = absurd (⊎_elim (λ is. apart (is ∙ is_nodes)) (λ is. other (is ∙ is_root)) (All-contains (IsFirstName nodes root) names q all (subst (λ l. Contains l q) (sym are) (key_among image q file some))))
alone_is_unborn image false names nodes root are is_nodes is_root unborn not_all = λ disk. not_all (λ k d within. each disk (get_or names k d) (Contains-get_or names k d within))
  where
    each : IsUnbornDisk image → (q : List ℕ) → Contains names q → IsFirstName nodes root q
    each disk q among = ⊎_elim
        (λ same. inl (same ∙ sym is_nodes))
        (λ apart. ⊎_elim
        (λ same. inr (same ∙ sym is_root))
        (λ other. let there = key_there image q (subst (λ l. Contains l q) are among) in let some : file_at image q ≡ Some there.0 = there.1 in let none : file_at image q ≡ None = disk.others q apart other in absurd (cc))
        (cases_name q root_file))
        (cases_name q nodes_name)
