-- Columns that are gone through side by side give the updates between them.
use Rattle.std.proofs.lemmas.List.{drop_all, take_all, append-nil}
use Rattle.std.proofs.Common.{arith, take, drop, length, length-drop, append_assoc, ◌-◌, ◌≤◌, ◌≡◌, ◌⊎◌, inl, inr, ℕ, Bool, true, false, cond, List, [], ◌∷◌, ◌++◌, map, Option, Some, None, Ordering, Less, Equal, Greater, IsTrue, refl, sym, ap, ◌∙◌}
use Rattle.std.specs.Prelude.{MatchBool}
use Rattle.std.specs.Ordering.{is_lt}
use Rattle.std.specs.List.{list_all}
use Rattle.std.specs.Option.{option_flatten}
use Rattle.std.specs.Cmp.Lexicographic.{told_text}
use Rattle.std.proofs.lemmas.Bool.{and_parts, and_from}
use Rattle.std.proofs.lemmas.Option.{same_Some}
use Rattle.metadata_schema.specs.declared.mutation.Update.{Update}
use Rattle.metadata_schema.specs.Bytes.{same, is_rising}
use Rattle.metadata_schema.specs.Columns.{update_cmp, is_named, update_at}
use Rattle.metadata_schema.specs.Between.{LeadsBetween}
use Rattle.metadata_schema.specs.Merging.{removal_of, same_value, first_between, between_first, between}
use Rattle.metadata_schema.proofs.OrderLemmas.{Above, above_more, above_same, same_column, greater_back, named_same, absent}
use Rattle.metadata_schema.proofs.GivenLemmas.{IsGiven, AreGiven, given_at}

abbrev Said : Type 0
Said = Option (Option (List ℕ))

-- what is said of a column, by what old and new columns have there
abbrev pub say : Said → Said → Said
say None y = y
say (Some v) None = Some None
say (Some v) (Some w) = cond (same_value v w) None (Some w)

pub record Leads (old new out : List Update) : Type 0 where
  pub says : (f q : List ℕ) → update_at out f q ≡ say (update_at old f q) (update_at new f q)
  pub above : (k : Update) → Above k old → Above k new → Above k out
  pub rising : IsTrue (is_rising update_cmp out)

-- ---- one look-up at a step

gone_says : (b : Bool) (v : Option (List ℕ)) (x y r : Said) → r ≡ say x y → (b ≡ true → y ≡ None) → cond b (Some None) r ≡ say (cond b (Some v) x) y
gone_says true v x y r is none = ap (say (Some v)) (sym (none refl))
gone_says false v x y r is none = is

come_says : (b : Bool) (w : Option (List ℕ)) (x y r : Said) → r ≡ say x y → (b ≡ true → x ≡ None) → cond b (Some w) r ≡ say x (cond b (Some w) y)
come_says true w x y r is none = ap (λ (o : Said). say o (Some w)) (sym (none refl))
come_says false w x y r is none = is

kept_says : (b : Bool) (v w : Option (List ℕ)) (x y r : Said) → r ≡ say x y → (b ≡ true → x ≡ None) → (b ≡ true → y ≡ None) → same_value v w ≡ true → r ≡ say (cond b (Some v) x) (cond b (Some w) y)
kept_says true v w x y r is old new alike = is ∙ ap (λ (o : Said). say o y) (old refl) ∙ new refl ∙ sym (ap (λ (s : Bool). cond s None (Some w)) alike)
kept_says false v w x y r is old new alike = is

changed_says : (b : Bool) (v w : Option (List ℕ)) (x y r : Said) → r ≡ say x y → same_value v w ≡ false → cond b (Some w) r ≡ say (cond b (Some v) x) (cond b (Some w) y)
changed_says true v w x y r is other = sym (ap (λ (s : Bool). cond s None (Some w)) other)
changed_says false v w x y r is other = is

-- ---- the steps

leads_gone : (old : Update) (olds news out : List Update) → Above old olds → Above old news → Leads olds news out → Leads (old ∷ olds) news (removal_of old ∷ out)
leads_gone old olds news out first second rest = record {
  says = λ f q. gone_says (is_named f q old) old.value (update_at olds f q) (update_at news f q) (update_at out f q) (rest.says f q) (λ named. absent f q old news named second);
  above = λ k one two.
      let parts = and_parts (is_lt (update_cmp k old)) (list_all (λ other. is_lt (update_cmp k other)) olds) one in
      and_from (is_lt (update_cmp k old)) (list_all (λ other. is_lt (update_cmp k other)) out) parts.0 (rest.above k parts.1 two);
  rising = and_from (list_all (λ other. is_lt (update_cmp old other)) out) (is_rising update_cmp out) (rest.above old first second) rest.rising;
}

leads_come : (new : Update) (olds news out : List Update) → Above new olds → Above new news → Leads olds news out → Leads olds (new ∷ news) (new ∷ out)
leads_come new olds news out first second rest = record {
  says = λ f q. come_says (is_named f q new) new.value (update_at olds f q) (update_at news f q) (update_at out f q) (rest.says f q) (λ named. absent f q new olds named first);
  above = λ k one two.
      let parts = and_parts (is_lt (update_cmp k new)) (list_all (λ other. is_lt (update_cmp k other)) news) two in
      and_from (is_lt (update_cmp k new)) (list_all (λ other. is_lt (update_cmp k other)) out) parts.0 (rest.above k one parts.1);
  rising = and_from (list_all (λ other. is_lt (update_cmp new other)) out) (is_rising update_cmp out) (rest.above new first second) rest.rising;
}

leads_both : (s : Bool) (old new : Update) (olds news out : List Update) → same_value old.value new.value ≡ s → old.family ≡ new.family → old.qualifier ≡ new.qualifier → Above old olds → Above new news → Leads olds news out
    → Leads (old ∷ olds) (new ∷ news) (cond s [] (new ∷ []) ++ out)
leads_both true old new olds news out alike families qualifiers first second rest = record {
  says = λ f q.
      let one : is_named f q old ≡ is_named f q new = named_same f q old new families qualifiers in
      kept_says (is_named f q new) old.value new.value (update_at olds f q) (update_at news f q) (update_at out f q) (rest.says f q)
      (λ named. absent f q old olds (one ∙ named) first) (λ named. absent f q new news named second) alike
      ∙ ap (λ (b : Bool). say (cond b (Some old.value) (update_at olds f q)) (cond (is_named f q new) (Some new.value) (update_at news f q))) (sym one);
  above = λ k one two.
      rest.above k (and_parts (is_lt (update_cmp k old)) (list_all (λ other. is_lt (update_cmp k other)) olds) one).1
      (and_parts (is_lt (update_cmp k new)) (list_all (λ other. is_lt (update_cmp k other)) news) two).1;
  rising = rest.rising;
}
leads_both false old new olds news out other families qualifiers first second rest = record {
  says = λ f q.
      let one : is_named f q old ≡ is_named f q new = named_same f q old new families qualifiers in
      changed_says (is_named f q new) old.value new.value (update_at olds f q) (update_at news f q) (update_at out f q) (rest.says f q) other
      ∙ ap (λ (b : Bool). say (cond b (Some old.value) (update_at olds f q)) (cond (is_named f q new) (Some new.value) (update_at news f q))) (sym one);
  above = λ k one two.
      let olds_above = (and_parts (is_lt (update_cmp k old)) (list_all (λ other. is_lt (update_cmp k other)) olds) one).1 in
      let parts = and_parts (is_lt (update_cmp k new)) (list_all (λ other. is_lt (update_cmp k other)) news) two in
      and_from (is_lt (update_cmp k new)) (list_all (λ other. is_lt (update_cmp k other)) out) parts.0 (rest.above k olds_above parts.1);
  rising = and_from (list_all (λ other. is_lt (update_cmp new other)) out) (is_rising update_cmp out) (rest.above new (above_same old new olds families qualifiers first) second) rest.rising;
}

-- ---- both lists

step : (o : Ordering) (old new : Update) (olds news on : List Update) (more : List Update → List Update) → update_cmp old new ≡ o → Above old olds → Above new news
    → Leads olds (new ∷ news) (more (new ∷ news)) → Leads olds news (more news) → Leads (old ∷ olds) news on
    → Leads (old ∷ olds) (new ∷ news) (first_between o old new news more on)
step Less old new olds news on more is first second gone both come =
    leads_gone old olds (new ∷ news) (more (new ∷ news)) first
    (and_from (is_lt (update_cmp old new)) (list_all (λ other. is_lt (update_cmp old other)) news) (ap is_lt is) (above_more old new news is second)) gone
step Equal old new olds news on more is first second gone both come =
    let names = same_column old new is in
    leads_both (same_value old.value new.value) old new olds news (more news) refl names.0 names.1 first second both
step Greater old new olds news on more is first second gone both come =
    let back = greater_back old new is in
    leads_come new (old ∷ olds) news on
    (and_from (is_lt (update_cmp new old)) (list_all (λ other. is_lt (update_cmp new other)) olds) (ap is_lt back) (above_more new old olds back first)) second come

leads_first : (old : Update) (olds news : List Update) (more : List Update → List Update) → Above old olds → ((ns : List Update) → IsTrue (is_rising update_cmp ns) → Leads olds ns (more ns))
    → IsTrue (is_rising update_cmp news) → Leads (old ∷ olds) news (between_first old more news)
leads_first old olds [] more first later rising = leads_gone old olds [] (more []) first refl (later [] refl)
leads_first old olds (new ∷ news) more first later rising =
    let parts = and_parts (list_all (λ other. is_lt (update_cmp new other)) news) (is_rising update_cmp news) rising in
    step (update_cmp old new) old new olds news (between_first old more news) more refl first parts.0
    (later (new ∷ news) rising) (later news parts.1) (leads_first old olds news more first later parts.1)

pub leads : (olds news : List Update) → IsTrue (is_rising update_cmp olds) → IsTrue (is_rising update_cmp news) → Leads olds news (between olds news)
leads [] news one two = record { says = λ f q. refl; above = λ k first second. second; rising = two }
leads (old ∷ olds) news one two =
    let parts = and_parts (list_all (λ other. is_lt (update_cmp old other)) olds) (is_rising update_cmp olds) one in
    leads_first old olds news (between olds) parts.0 (λ ns rising. leads olds ns parts.1 rising) two

-- ---- columns, of which none is removed

kept_is : (x y out : Said) → IsGiven x → IsGiven y → out ≡ say x y → option_flatten x ≡ option_flatten y → out ≡ None
kept_is None None out one two is alike = is
kept_is None (Some None) out one two is alike = absurd two
kept_is None (Some (Some w)) out one two is alike = cc
kept_is (Some None) y out one two is alike = absurd one
kept_is (Some (Some v)) None out one two is alike = cc
kept_is (Some (Some v)) (Some None) out one two is alike = absurd two
kept_is (Some (Some v)) (Some (Some w)) out one two is alike = is ∙ at (same v w) (told_text v w (same v w) refl)
  where
    at : (b : Bool) → MatchBool b (v ≡ w) (v ≡ w → ⊥) → cond b None (Some (Some w)) ≡ None
    at true told = refl
    at false told = absurd (told (same_Some v w alike))

changed_is : (x y out : Said) → IsGiven x → IsGiven y → out ≡ say x y → (option_flatten x ≡ option_flatten y → ⊥) → out ≡ Some (option_flatten y)
changed_is None None out one two is other = absurd (other refl)
changed_is None (Some None) out one two is other = absurd two
changed_is None (Some (Some w)) out one two is other = is
changed_is (Some None) y out one two is other = absurd one
changed_is (Some (Some v)) None out one two is other = is
changed_is (Some (Some v)) (Some None) out one two is other = absurd two
changed_is (Some (Some v)) (Some (Some w)) out one two is other = is ∙ at (same v w) (told_text v w (same v w) refl)
  where
    at : (b : Bool) → MatchBool b (v ≡ w) (v ≡ w → ⊥) → cond b None (Some (Some w)) ≡ Some (Some w)
    at true told = absurd (other (ap Some told))
    at false told = refl

pub leads_between : (olds news : List Update) → IsTrue (is_rising update_cmp olds) → IsTrue (is_rising update_cmp news) → AreGiven olds → AreGiven news → LeadsBetween olds news (between olds news)
leads_between olds news one two given_olds given_news =
    let all = leads olds news one two in
    record {
      order = all.rising;
      kept = λ f q alike. kept_is (update_at olds f q) (update_at news f q) (update_at (between olds news) f q) (given_at olds f q given_olds) (given_at news f q given_news) (all.says f q) alike;
      changed = λ f q other. changed_is (update_at olds f q) (update_at news f q) (update_at (between olds news) f q) (given_at olds f q given_olds) (given_at news f q given_news) (all.says f q) other;
    }

-- ---- where one list is at its end

pub between-nil : (olds : List Update) → between olds [] ≡ map removal_of olds
between-nil [] = refl
between-nil (old ∷ olds) = ap (λ (us : List Update). removal_of old ∷ us) (between-nil olds)

to_end : (l : List Update) (n : ℕ) → take (length l - n) (drop n l) ≡ drop n l
to_end l n = take_all (length l - n) (drop n l) (omega (arith, length-drop n l))

rests : (one other : List Update) → (one ≡ []) ⊎ (other ≡ []) → map removal_of one ++ other ≡ between one other
rests one other (inl none) = ap (λ (us : List Update). map removal_of us ++ other) none ∙ sym (ap (λ (us : List Update). between us other) none)
rests one other (inr none) =
    ap (λ (us : List Update). map removal_of one ++ us) none ∙ append-nil (map removal_of one) ∙ sym (between-nil one) ∙ sym (ap (between one) none)

-- what is left of both lists goes behind what was found so far
pub finished : (old new : List Update) (from to : ℕ) (so_far gone all : List Update) → gone ≡ so_far ++ map removal_of (take (length old - from) (drop from old)) → all ≡ gone ++ take (length new - to) (drop to new)
    → so_far ++ between (drop from old) (drop to new) ≡ between old new → (length old ≤ from) ⊎ (length new ≤ to) → all ≡ between old new
finished old new from to so_far gone all first second rest done =
    second ∙ ap (λ (us : List Update). gone ++ us) (to_end new to)
    ∙ ap (λ (us : List Update). us ++ drop to new) (first ∙ ap (λ (us : List Update). so_far ++ map removal_of us) (to_end old from))
    ∙ append_assoc so_far (map removal_of (drop from old)) (drop to new)
    ∙ ap (λ (us : List Update). so_far ++ us) (rests (drop from old) (drop to new) (ends done)) ∙ rest
  where
    ends : (length old ≤ from) ⊎ (length new ≤ to) → (drop from old ≡ []) ⊎ (drop to new ≡ [])
    ends (inl past) = inl (drop_all from old past)
    ends (inr past) = inr (drop_all to new past)
