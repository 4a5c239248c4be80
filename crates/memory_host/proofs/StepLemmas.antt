-- One event after another is taken back.
use Rattle.std.proofs.Common.{◌≡◌, inl, inr, ℕ, Bool, true, false, cond, List, [], ◌∷◌, ◌++◌, reverse, Option, Some, None, Vec, refl, sym, ◌∙◌, ap, subst}
use Rattle.std.specs.Option.{option_map}
use Rattle.std.specs.Ordering.{nat_cmp}
use Rattle.std.specs.List.{list_any}
use Rattle.std.specs.BTreeMap.{is_at}
use Rattle.std.specs.Cmp.Lexicographic.{slice_cmp}
use Rattle.std.specs.BTreeSet.{BTreeSet, contains}
use Rattle.std.specs.declared.alloc.Global.{Global}
use Rattle.std.proofs.lemmas.List.{reverse-append}
use Rattle.memory_host.proofs.CrashLemmas.{file_at-unsynced}
use Rattle.host_model.specs.Picture.{Image, file_at, with_file}
use Rattle.host_model.proofs.Images.{cases_name, file_at-set_file_same, file_at-set_file_other, same_image}
use Rattle.memory_host.specs.declared.event.Written.{Written}
use Rattle.memory_host.specs.declared.event.Event.{Event}
use Rattle.memory_host.specs.declared.event.Event.TheVariants.{Write, Put, CutRemove, Sync}
use Rattle.memory_host.specs.Files.{Changes}
use Rattle.memory_host.specs.Past.{taken_back}
use Rattle.memory_host.specs.Crash.{is_named, nothing, ones, unsynced}
use Rattle.memory_host.specs.Walk.{unsynced_of, filled, here_of, TakesBack}
use Rattle.memory_host.proofs.FileMapLemmas.{here, there}

abbrev File : Type 0
File = Option (List ℕ)

abbrev Rule : Type 0
Rule = Written → List ℕ → List ℕ

pub filled-push : (rule : Rule) (q : List ℕ) (taken : List Written) (w : Written) (f : Option (List ℕ)) → filled rule q (taken ++ w ∷ []) f ≡ filled rule q taken (cond (is_named w.name q) (option_map (rule w) f) f)
filled-push rule q [] w f = refl
filled-push rule q (v ∷ taken) w f = ap (λ (x : File). cond (is_named v.name q) (option_map (rule v) x) x) (filled-push rule q taken w f)

-- a write to a file that was settled since
pub settled_write : (w : Written) (settled : List ℕ → Bool) (files : Image) (taken : List Written) → settled w.name ≡ true → TakesBack (Write w) settled files taken settled files taken
settled_write w settled files taken is rule es q = ap (λ (x : File). filled rule q taken x) (elim (cases_name q w.name) [
  | inl same ↦ subst (λ n. cond (settled n) (file_at files n) (unsynced_of rule n (Write w ∷ es) (file_at files n)) ≡ cond (settled n) (file_at files n) (unsynced_of rule n es (file_at files n))) (sym same)
      (ap (λ t. cond t (file_at files w.name) (unsynced_of rule w.name (Write w ∷ es) (file_at files w.name))) is ∙ sym (ap (λ t. cond t (file_at files w.name) (unsynced_of rule w.name es (file_at files w.name))) is))
  | inr other ↦ ap (λ t. cond (settled q) (file_at files q) (cond t (option_map (rule w) (unsynced_of rule q es (option_map (taken_back w) (file_at files q)))) (unsynced_of rule q es (file_at files q)))) (there w.name q other)
])

-- a write that is taken back
pub unsettled_write : (w : Written) (settled : List ℕ → Bool) (files new : Image) (taken more : List Written) → settled w.name ≡ false → Changes w.name (taken_back w) files new → more ≡ taken ++ w ∷ [] → TakesBack (Write w) settled files taken settled new more
unsettled_write w settled files new taken more is change pushed rule es q =
    let x : File = cond (settled q) (file_at new q) (unsynced_of rule q es (file_at new q)) in
    ap (λ (y : File). filled rule q taken y) (at_file q) ∙ sym (filled-push rule q taken w x) ∙ ap (λ (l : List Written). filled rule q l x) (sym pushed)
  where
    at_name : cond (settled w.name) (file_at files w.name) (unsynced_of rule w.name (Write w ∷ es) (file_at files w.name))
        ≡ cond (is_named w.name w.name) (option_map (rule w) (cond (settled w.name) (file_at new w.name) (unsynced_of rule w.name es (file_at new w.name)))) (cond (settled w.name) (file_at new w.name) (unsynced_of rule w.name es (file_at new w.name)))
    at_name =
        ap (λ t. cond t (file_at files w.name) (unsynced_of rule w.name (Write w ∷ es) (file_at files w.name))) is
        ∙ ap (λ t. cond t (option_map (rule w) (unsynced_of rule w.name es (option_map (taken_back w) (file_at files w.name)))) (unsynced_of rule w.name es (file_at files w.name))) (here w.name)
        ∙ ap (λ (o : File). option_map (rule w) (unsynced_of rule w.name es o)) (sym (ap (λ (i : Image). file_at i w.name) change ∙ file_at-set_file_same files w.name (option_map (taken_back w) (file_at files w.name))))
        ∙ ap (λ t. option_map (rule w) (cond t (file_at new w.name) (unsynced_of rule w.name es (file_at new w.name)))) (sym is)
        ∙ sym (ap (λ t. cond t (option_map (rule w) (cond (settled w.name) (file_at new w.name) (unsynced_of rule w.name es (file_at new w.name)))) (cond (settled w.name) (file_at new w.name) (unsynced_of rule w.name es (file_at new w.name)))) (here w.name))

    at_file : (q : List ℕ) → cond (settled q) (file_at files q) (unsynced_of rule q (Write w ∷ es) (file_at files q))
        ≡ cond (is_named w.name q) (option_map (rule w) (cond (settled q) (file_at new q) (unsynced_of rule q es (file_at new q)))) (cond (settled q) (file_at new q) (unsynced_of rule q es (file_at new q)))
    at_file q = elim (cases_name q w.name) [
      | inl same ↦ subst (λ n. cond (settled n) (file_at files n) (unsynced_of rule n (Write w ∷ es) (file_at files n))
          ≡ cond (is_named w.name n) (option_map (rule w) (cond (settled n) (file_at new n) (unsynced_of rule n es (file_at new n)))) (cond (settled n) (file_at new n) (unsynced_of rule n es (file_at new n)))) (sym same) at_name
      | inr other ↦
          ap (λ t. cond (settled q) (file_at files q) (cond t (option_map (rule w) (unsynced_of rule q es (option_map (taken_back w) (file_at files q)))) (unsynced_of rule q es (file_at files q)))) (there w.name q other)
          ∙ ap (λ (o : File). cond (settled q) o (unsynced_of rule q es o)) (sym (ap (λ (i : Image). file_at i q) change ∙ file_at-set_file_other files w.name (option_map (taken_back w) (file_at files w.name)) q other))
          ∙ sym (ap (λ t. cond t (option_map (rule w) (cond (settled q) (file_at new q) (unsynced_of rule q es (file_at new q)))) (cond (settled q) (file_at new q) (unsynced_of rule q es (file_at new q)))) (there w.name q other))
    ]

settles : (rule : Rule) (es : List Event) (name : List ℕ) (settled more : List ℕ → Bool) (files : Image) → ((q : List ℕ) → more q ≡ cond (is_named name q) true (settled q)) → (q : List ℕ)
    → cond (settled q) (file_at files q) (cond (is_named name q) (file_at files q) (unsynced_of rule q es (file_at files q))) ≡ cond (more q) (file_at files q) (unsynced_of rule q es (file_at files q))
settles rule es name settled more files adds q = both (settled q) (is_named name q) ∙ sym (ap (λ t. cond t (file_at files q) (unsynced_of rule q es (file_at files q))) (adds q))
  where
    both : (s t : Bool) → cond s (file_at files q) (cond t (file_at files q) (unsynced_of rule q es (file_at files q))) ≡ cond (cond t true s) (file_at files q) (unsynced_of rule q es (file_at files q))
    both true true = refl
    both true false = refl
    both false true = refl
    both false false = refl

-- a file that is settled by this event
pub settles_put : (name : List ℕ) (was : Option (Vec ℕ Global)) (settled more : List ℕ → Bool) (files : Image) (taken : List Written) → ((q : List ℕ) → more q ≡ cond (is_named name q) true (settled q)) → TakesBack (Put name was) settled files taken more files taken
settles_put name was settled more files taken adds rule es q = ap (λ (x : File). filled rule q taken x) (settles rule es name settled more files adds q)

pub settles_sync : (name : List ℕ) (settled more : List ℕ → Bool) (files : Image) (taken : List Written) → ((q : List ℕ) → more q ≡ cond (is_named name q) true (settled q)) → TakesBack (Sync name) settled files taken more files taken
settles_sync name settled more files taken adds rule es q = ap (λ (x : File). filled rule q taken x) (settles rule es name settled more files adds q)

-- a removal of a file that was settled since
pub settled_removal : (name : List ℕ) (was : Vec ℕ Global) (settled : List ℕ → Bool) (files : Image) (taken : List Written) → settled name ≡ true → TakesBack (CutRemove name was) settled files taken settled files taken
settled_removal name was settled files taken is rule es q = ap (λ (x : File). filled rule q taken x) (elim (cases_name q name) [
  | inl same ↦ subst (λ n. cond (settled n) (file_at files n) (unsynced_of rule n (CutRemove name was ∷ es) (file_at files n)) ≡ cond (settled n) (file_at files n) (unsynced_of rule n es (file_at files n))) (sym same)
      (ap (λ t. cond t (file_at files name) (unsynced_of rule name (CutRemove name was ∷ es) (file_at files name))) is ∙ sym (ap (λ t. cond t (file_at files name) (unsynced_of rule name es (file_at files name))) is))
  | inr other ↦ ap (λ t. cond (settled q) (file_at files q) (cond t (unsynced_of rule q es (Some was.items)) (unsynced_of rule q es (file_at files q)))) (there name q other)
])

-- a removal that is taken back
pub unsettled_removal : (name : List ℕ) (was : Vec ℕ Global) (settled : List ℕ → Bool) (files new : Image) (taken : List Written) → settled name ≡ false → new ≡ with_file files name was.items → TakesBack (CutRemove name was) settled files taken settled new taken
unsettled_removal name was settled files new taken is change rule es q = ap (λ (x : File). filled rule q taken x) (elim (cases_name q name) [
  | inl same ↦ subst (λ n. cond (settled n) (file_at files n) (unsynced_of rule n (CutRemove name was ∷ es) (file_at files n)) ≡ cond (settled n) (file_at new n) (unsynced_of rule n es (file_at new n))) (sym same)
      (ap (λ t. cond t (file_at files name) (unsynced_of rule name (CutRemove name was ∷ es) (file_at files name))) is
      ∙ ap (λ t. cond t (unsynced_of rule name es (Some was.items)) (unsynced_of rule name es (file_at files name))) (here name)
      ∙ ap (λ (o : File). unsynced_of rule name es o) (sym (ap (λ (i : Image). file_at i name) change ∙ file_at-set_file_same files name (Some was.items)))
      ∙ sym (ap (λ t. cond t (file_at new name) (unsynced_of rule name es (file_at new name))) is))
  | inr other ↦
      ap (λ t. cond (settled q) (file_at files q) (cond t (unsynced_of rule q es (Some was.items)) (unsynced_of rule q es (file_at files q)))) (there name q other)
      ∙ ap (λ (o : File). cond (settled q) o (unsynced_of rule q es o)) (sym (ap (λ (i : Image). file_at i q) change ∙ file_at-set_file_other files name (Some was.items) q other))
])

cond_same : {A : Type 0} (b : Bool) (x : A) → cond b x x ≡ x
cond_same true x = refl
cond_same false x = refl

-- with no event left
pub here_at_end : (rule : Rule) (q : List ℕ) (settled : List ℕ → Bool) (files : Image) (taken : List Written) → here_of rule q settled files [] taken ≡ filled rule q taken (file_at files q)
here_at_end rule q settled files taken = ap (λ (x : File). filled rule q taken x) (cond_same (settled q) (file_at files q))

-- the walk is one event further
pub one_back : (rule : Rule) (q : List ℕ) (start : File) (settled more : List ℕ → Bool) (files new : Image) (before rest : List Event) (event : Event) (taken gained : List Written) → before ≡ rest ++ event ∷ []
    → start ≡ here_of rule q settled files (reverse before) taken → TakesBack event settled files taken more new gained → start ≡ here_of rule q more new (reverse rest) gained
one_back rule q start settled more files new before rest event taken gained is now step =
    now ∙ ap (λ (es : List Event). here_of rule q settled files es taken) (ap (λ (l : List Event). reverse l) is ∙ reverse-append rest (event ∷ [])) ∙ step rule (reverse rest) q

filled-nothing : (q : List ℕ) (taken : List Written) (f : Option (List ℕ)) → filled nothing q taken f ≡ f
filled-nothing q [] f = refl
filled-nothing q (w ∷ taken) f = both (is_named w.name q) (filled nothing q taken f) ∙ filled-nothing q taken f
  where
    both : (t : Bool) (o : Option (List ℕ)) → cond t (option_map (nothing w) o) o ≡ o
    both true None = refl
    both true (Some file) = refl
    both false o = refl

-- one write more was filled
pub one_filled : (q : List ℕ) (files new : Image) (before rest : List Written) (w : Written) → before ≡ rest ++ w ∷ [] → Changes w.name (ones w) files new → filled ones q before (file_at files q) ≡ filled ones q rest (file_at new q)
one_filled q files new before rest w is change =
    ap (λ (l : List Written). filled ones q l (file_at files q)) is ∙ filled-push ones q rest w (file_at files q) ∙ ap (λ (x : File). filled ones q rest x) (elim (cases_name q w.name) [
      | inl same ↦ subst (λ n. cond (is_named w.name n) (option_map (ones w) (file_at files n)) (file_at files n) ≡ file_at new n) (sym same)
          (ap (λ t. cond t (option_map (ones w) (file_at files w.name)) (file_at files w.name)) (here w.name) ∙ sym (ap (λ (i : Image). file_at i w.name) change ∙ file_at-set_file_same files w.name (option_map (ones w) (file_at files w.name))))
      | inr other ↦
          ap (λ t. cond t (option_map (ones w) (file_at files q)) (file_at files q)) (there w.name q other) ∙ sym (ap (λ (i : Image). file_at i q) change ∙ file_at-set_file_other files w.name (option_map (ones w) (file_at files w.name)) q other)
    ])

-- the whole walk
pub left_lost : (files new : Image) (past : List Event) (taken : List Written) → ((rule : Rule) (q : List ℕ) → unsynced_of rule q past (file_at files q) ≡ filled rule q taken (file_at new q)) → (said : List ℕ) → new ≡ unsynced nothing (λ _. false) past (record { image = files; said = said })
left_lost files new past taken walked said = same_image _ _ (λ q. sym (filled-nothing q taken (file_at new q)) ∙ sym (walked nothing q) ∙ sym (file_at-unsynced nothing (λ _. false) past (record { image = files; said = said }) q))

pub left_ones : (files mid new : Image) (past : List Event) (taken : List Written) → ((rule : Rule) (q : List ℕ) → unsynced_of rule q past (file_at files q) ≡ filled rule q taken (file_at mid q)) → ((q : List ℕ) → filled ones q taken (file_at mid q) ≡ file_at new q)
    → (said : List ℕ) → new ≡ unsynced ones (λ _. false) past (record { image = files; said = said })
left_ones files mid new past taken walked fills said = same_image _ _ (λ q. sym (fills q) ∙ sym (walked ones q) ∙ sym (file_at-unsynced ones (λ _. false) past (record { image = files; said = said }) q))

pub none_settled : (settled : BTreeSet (List ℕ)) (q : List ℕ) → settled.keys ≡ [] → contains (slice_cmp nat_cmp) settled q ≡ false
none_settled settled q empty = ap (λ (l : List (List ℕ)). list_any (is_at (slice_cmp nat_cmp q)) l) empty
