-- The first server of a name, by its place among those that are kept.
use Rattle.std.proofs.Common.{◌≡◌, ℕ, suc, ◌+◌, Bool, true, false, cond, not, ◌||◌, List, [], ◌∷◌, ◌++◌, map, length, Option, Some, None, is_some, refl, sym, ◌∙◌, ap, subst, arith, ltb, true≢false}
use Rattle.std.specs.Prelude.{position, find, slice_get, remove}
use Rattle.std.specs.List.{list_any, position_or_len}
use Rattle.std.specs.Option.{option_map}
use Rattle.std.specs.Map.{lookup, lookup_key}
use Rattle.std.proofs.lemmas.List.{map-append}
use Rattle.std.proofs.lemmas.Option.{slice_get-map, same_Some}
use Rattle.indexmap.specs.IndexMap.{IndexMap, set_value_at, insert_entry}
use Rattle.indexmap.proofs.CallerLemmas.{insert_entry-new}
use Rattle.std.proofs.lemmas.Bool.{ltb-true, ltb-false, lt-ltb, le-ltb}
use Rattle.metadata_schema.specs.Bytes.{same}
use Rattle.server_list.specs.declared.list.Standing.{Standing}
use Rattle.server_list.specs.Servers.{is_named, is_of_session, with_expiry, without}
use Rattle.server_list.specs.Places.{place_on, place_until}
use Rattle.server_list.specs.declared.entry.Place.{Place}
use Rattle.server_list.specs.declared.entry.Place.TheVariants.{Unhosted}
use Rattle.server_list.specs.Value.{entry_of}

abbrev pub Entries : Type 0
Entries = List (List ℕ × Standing)

-- the test of a name
abbrev pub has_name : List ℕ → Standing → Bool
has_name name standing = same name standing.name

-- the first place at which the name stands, or none
abbrev pub place_of_name : List ℕ → Entries → Option ℕ
place_of_name name entries = position (has_name name) (map (λ e. e.1) entries)

is_some-suc : (o : Option ℕ) → is_some (option_map suc o) ≡ is_some o
is_some-suc None = refl
is_some-suc (Some x) = refl

ltb-suc : (n m : ℕ) → ltb (suc n) (suc m) ≡ ltb n m
ltb-suc n m = by (ltb n m) refl
  where
    by : (b : Bool) → ltb n m ≡ b → ltb (suc n) (suc m) ≡ b
    by true is = let below = ltb-true n m is in lt-ltb (suc n) (suc m) (omega arith)
    by false is = let above = ltb-false n m is in le-ltb (suc n) (suc m) (omega arith)

module _ {X : Type 0} (p : X → Bool) where
  -- a list's first place that passes is its head's, or one behind that of its tail
  pub position-cons : (x : X) (xs : List X) → position p (x ∷ xs) ≡ cond (p x) (Some 0) (option_map suc (position p xs))
  position-cons x xs = by (p x) refl
    where
      n : ℕ
      n = position_or_len p xs

      from : Bool → Option ℕ
      from b = cond (ltb (cond (not b) (1 + n) 0) (suc (length xs))) (Some (cond (not b) (1 + n) 0)) None

      behind : (b : Bool) → cond b (Some (suc n)) None ≡ option_map suc (cond b (Some n) None)
      behind true = refl
      behind false = refl

      next : 1 + n ≡ suc n
      next = omega arith

      by : (b : Bool) → p x ≡ b → position p (x ∷ xs) ≡ cond b (Some 0) (option_map suc (position p xs))
      by true is = ap from is ∙ ap (λ b. cond b (Some 0) None) (lt-ltb 0 (suc (length xs)) (omega arith))
      by false is = ap from is ∙ ap (λ m. cond (ltb m (suc (length xs))) (Some m) None) next
          ∙ ap (λ b. cond b (Some (suc n)) None) (ltb-suc n (length xs)) ∙ behind (ltb n (length xs))

module _ (name : List ℕ) where
  place-cons : (e : List ℕ × Standing) (more : Entries) → place_of_name name (e ∷ more) ≡ cond (same name e.1.name) (Some 0) (option_map suc (place_of_name name more))
  place-cons e more = position-cons (has_name name) e.1 (map (λ e. e.1) more)

  -- the name is listed exactly where it has a place
  pub listed : (entries : Entries) → is_some (place_of_name name entries) ≡ list_any (is_named name) (map entry_of entries)
  listed [] = refl
  listed (e ∷ more) = ap is_some (place-cons e more) ∙ by (same name e.1.name) (listed more)
    where
      by : (b : Bool) → is_some (place_of_name name more) ≡ list_any (is_named name) (map entry_of more)
          → is_some (cond b (Some 0) (option_map suc (place_of_name name more))) ≡ (b || list_any (is_named name) (map entry_of more))
      by true rest = refl
      by false rest = is_some-suc (place_of_name name more) ∙ rest

  -- the server at this place is the first of the name
  pub record FoundAt (entries : Entries) (i : ℕ) : Type 0 where
    pub session : List ℕ
    pub standing : Standing
    pub there : slice_get entries i ≡ Some (session, standing)
    pub found : find (is_named name) (map entry_of entries) ≡ Some (entry_of (session, standing))
    pub expiring : (at : ℕ) → map entry_of (set_value_at entries i (record standing { expires = Some at })) ≡ with_expiry name at (map entry_of entries)
    pub removing : map entry_of (remove entries i) ≡ without name (map entry_of entries)

  -- what is known of the place of a name
  abbrev pub PlaceTells : Entries → Option ℕ → Type 0
  PlaceTells entries None = find (is_named name) (map entry_of entries) ≡ None
  PlaceTells entries (Some i) = FoundAt entries i

  pub place_tells : (entries : Entries) → PlaceTells entries (place_of_name name entries)
  place_tells [] = refl
  place_tells (e ∷ more) = subst (PlaceTells (e ∷ more)) (sym (place-cons e more)) (by (same name e.1.name) refl (place_of_name name more) (place_tells more))
    where
      by : (b : Bool) → same name e.1.name ≡ b → (o : Option ℕ) → PlaceTells more o → PlaceTells (e ∷ more) (cond b (Some 0) (option_map suc o))
      by true is o rest = record {
        session = e.0;
        standing = e.1;
        there = refl;
        found = ap (λ b. cond b (Some (entry_of e)) (find (is_named name) (map entry_of more))) is;
        expiring = λ at. sym (ap (λ b. cond b (record (entry_of e) { expires = Some at } ∷ map entry_of more) (entry_of e ∷ with_expiry name at (map entry_of more))) is);
        removing = sym (ap (λ b. cond b (map entry_of more) (entry_of e ∷ without name (map entry_of more))) is);
      }
      by false is None rest = ap (λ b. cond b (Some (entry_of e)) (find (is_named name) (map entry_of more))) is ∙ rest
      by false is (Some i) rest = record {
        session = rest.session;
        standing = rest.standing;
        there = rest.there;
        found = ap (λ b. cond b (Some (entry_of e)) (find (is_named name) (map entry_of more))) is ∙ rest.found;
        expiring = λ at. ap (λ l. entry_of e ∷ l) (rest.expiring at) ∙ sym (ap (λ b. cond b (record (entry_of e) { expires = Some at } ∷ map entry_of more) (entry_of e ∷ with_expiry name at (map entry_of more))) is);
        removing = ap (λ l. entry_of e ∷ l) rest.removing ∙ sym (ap (λ b. cond b (map entry_of more) (entry_of e ∷ without name (map entry_of more))) is);
      }

-- what stands at a place, by its session and without it
pub same_standing : (entries : Entries) (i : ℕ) (session : List ℕ) (a b : Standing) → slice_get entries i ≡ Some (session, a) → slice_get (map (λ e. e.1) entries) i ≡ Some b → b ≡ a
same_standing entries i session a b at value = same_Some b a (sym value ∙ slice_get-map (λ e. e.1) entries i ∙ ap (option_map (λ e. e.1)) at)

-- a new session's server comes last
pub new_entry : {S : Type 0} (servers : IndexMap (List ℕ) Standing S) (session name : List ℕ) (now : Entries)
    → find (is_of_session session) (map entry_of servers.entries) ≡ None
    → now ≡ insert_entry same servers.entries session (record { name = name; expires = None })
    → map entry_of now ≡ map entry_of servers.entries ++ record { name = name; session = session; expires = None } ∷ []
new_entry servers session name now none is =
    ap (map entry_of) (is ∙ insert_entry-new same servers session (record { name = name; expires = None }) (absent servers.entries none)) ∙ map-append entry_of servers.entries ((session, record { name = name; expires = None }) ∷ [])
  where
    absent : (entries : Entries) → find (is_of_session session) (map entry_of entries) ≡ None → lookup (same session) entries ≡ None
    absent [] lacks = refl
    absent (e ∷ more) lacks = by (same session e.0) refl (absent more)
      where
        by : (b : Bool) → same session e.0 ≡ b → (find (is_of_session session) (map entry_of more) ≡ None → lookup (same session) more ≡ None) → lookup (same session) (e ∷ more) ≡ None
        by true is rest = absurd (true≢false (ap is_some (sym (ap (λ b. cond b (Some (entry_of e)) (find (is_of_session session) (map entry_of more))) is) ∙ lacks)))
        by false is rest = ap (λ b. cond b (Some e.1) (lookup (same session) more)) is ∙ rest (ap (λ b. cond b (Some (entry_of e)) (find (is_of_session session) (map entry_of more))) (sym is) ∙ lacks)

-- ---- by session

-- on the server of an entry
abbrev pub place_in : ℕ → Option Standing → Place
place_in clock None = Unhosted
place_in clock (Some standing) = place_until clock standing.name standing.expires

module _ (session : List ℕ) where
  -- no session has it exactly where no server is of it
  pub none_of_session : (entries : Entries) → lookup (same session) entries ≡ None → find (is_of_session session) (map entry_of entries) ≡ None
  none_of_session [] lacks = refl
  none_of_session (e ∷ more) lacks = by (same session e.0) refl (none_of_session more)
    where
      by : (b : Bool) → same session e.0 ≡ b → (lookup (same session) more ≡ None → find (is_of_session session) (map entry_of more) ≡ None) → find (is_of_session session) (map entry_of (e ∷ more)) ≡ None
      by true is rest = absurd (true≢false (ap is_some (sym (ap (λ b. cond b (Some e.1) (lookup (same session) more)) is) ∙ lacks)))
      by false is rest = ap (λ b. cond b (Some (entry_of e)) (find (is_of_session session) (map entry_of more))) is ∙ rest (ap (λ b. cond b (Some e.1) (lookup (same session) more)) (sym is) ∙ lacks)

  -- the server is that of the first entry with the session
  pub of_session : (entries : Entries) (key : List ℕ) (standing : Standing) → lookup_key (same session) entries ≡ Some key → lookup (same session) entries ≡ Some standing
      → find (is_of_session session) (map entry_of entries) ≡ Some (entry_of (key, standing))
  of_session [] key standing k v = absurd (true≢false (sym (ap is_some k)))
  of_session (e ∷ more) key standing k v = by (same session e.0) refl (of_session more key standing)
    where
      by : (b : Bool) → same session e.0 ≡ b → (lookup_key (same session) more ≡ Some key → lookup (same session) more ≡ Some standing → find (is_of_session session) (map entry_of more) ≡ Some (entry_of (key, standing)))
          → find (is_of_session session) (map entry_of (e ∷ more)) ≡ Some (entry_of (key, standing))
      by true is rest =
          let found = ap (λ b. cond b (Some (entry_of e)) (find (is_of_session session) (map entry_of more))) is in
          let key_is = same_Some e.0 key (sym (ap (λ b. cond b (Some e.0) (lookup_key (same session) more)) is) ∙ k) in
          let standing_is = same_Some e.1 standing (sym (ap (λ b. cond b (Some e.1) (lookup (same session) more)) is) ∙ v) in
          found ∙ (λ i. Some (entry_of (key_is i, standing_is i)))
      by false is rest =
          ap (λ b. cond b (Some (entry_of e)) (find (is_of_session session) (map entry_of more))) is
          ∙ rest (ap (λ b. cond b (Some e.0) (lookup_key (same session) more)) (sym is) ∙ k) (ap (λ b. cond b (Some e.1) (lookup (same session) more)) (sym is) ∙ v)

  -- a server of the session is listed exactly where the session has an entry
  pub listed_session : (entries : Entries) → is_some (lookup (same session) entries) ≡ is_some (find (is_of_session session) (map entry_of entries))
  listed_session [] = refl
  listed_session (e ∷ more) = by (same session e.0) (listed_session more)
    where
      by : (b : Bool) → is_some (lookup (same session) more) ≡ is_some (find (is_of_session session) (map entry_of more))
          → is_some (cond b (Some e.1) (lookup (same session) more)) ≡ is_some (cond b (Some (entry_of e)) (find (is_of_session session) (map entry_of more)))
      by true rest = refl
      by false rest = rest

  pub placed : (clock : ℕ) (entries : Entries) → place_on clock (find (is_of_session session) (map entry_of entries)) ≡ place_in clock (lookup (same session) entries)
  placed clock [] = refl
  placed clock (e ∷ more) = by (same session e.0) (placed clock more)
    where
      by : (b : Bool) → place_on clock (find (is_of_session session) (map entry_of more)) ≡ place_in clock (lookup (same session) more)
          → place_on clock (cond b (Some (entry_of e)) (find (is_of_session session) (map entry_of more))) ≡ place_in clock (cond b (Some e.1) (lookup (same session) more))
      by true rest = refl
      by false rest = rest

pub not-not : (b : Bool) → not (not b) ≡ b
not-not true = refl
not-not false = refl
