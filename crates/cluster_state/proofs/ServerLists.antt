-- What becomes of the servers of sessions as servers start, are killed and go.
use Rattle.std.proofs.Common.{◌≡◌, ◌≢◌, inl, inr, ℕ, Bool, true, false, cond, List, [], ◌∷◌, ◌++◌, Some, None, refl, sym, ◌∙◌, ap, subst}
use Rattle.std.specs.Prelude.{find}
use Rattle.std.specs.List.{Contains}
use Rattle.std.proofs.lemmas.Option.{same_Some, none-some}
use Rattle.metadata_schema.specs.Bytes.{same}
use Rattle.level_rows.proofs.EndLemmas.{same-true, same-refl}
use Rattle.level_rows.proofs.Membership.{Contains-nil, Contains-here, Contains-there, Contains-cons_cases}
use Rattle.server_list.specs.declared.entry.ServerEntry.{ServerEntry}
use Rattle.server_list.specs.Servers.{is_named, is_of_session, with_expiry, without}
use Rattle.cluster_state.specs.Served.{AreApart}

pub same_or_not : (a b : List ℕ) (P : Type 0) → (same a b ≡ true → P) → (same a b ≡ false → P) → P
same_or_not a b P if_so if_not = by (same a b) refl
  where
    by : (o : Bool) → same a b ≡ o → P
    by true is = if_so is
    by false is = if_not is

-- ---- one more server

-- the server of another session is as it was
pub other_behind : (session : List ℕ) (last : ServerEntry) → same session last.session ≡ false → (servers : List ServerEntry) → find (is_of_session session) (servers ++ last ∷ []) ≡ find (is_of_session session) servers
other_behind session last apart [] = ap (λ b. cond b (Some last) None) apart
other_behind session last apart (server ∷ more) = ap (cond (same session server.session) (Some server)) (other_behind session last apart more)

-- the last of a list is apart where its session wasn't there
pub apart_behind : (servers : List ServerEntry) (last : ServerEntry) → AreApart servers → find (is_of_session last.session) servers ≡ None → AreApart (servers ++ last ∷ [])
unfolding AreApart
apart_behind [] last apart new = (refl, tt)
apart_behind (server ∷ more) last apart new = same_or_not last.session server.session (AreApart (server ∷ (more ++ last ∷ [])))
    (λ is. absurd (none-some server (sym new ∙ ap (λ b. cond b (Some server) (find (is_of_session last.session) more)) is)))
    (λ is.
    let rest : find (is_of_session last.session) more ≡ None = sym (ap (λ b. cond b (Some server) (find (is_of_session last.session) more)) is) ∙ new in
    let turned : same server.session last.session ≡ false = same_or_not server.session last.session (same server.session last.session ≡ false)
    (λ at. absurd (let wrong : true ≡ false = sym (same-refl last.session) ∙ ap (same last.session) (sym (same-true server.session last.session at)) ∙ is in cc))
    (λ no. no) in
    (other_behind server.session last turned more ∙ apart.0, apart_behind more last apart.1 rest))

-- ---- a server is killed

-- each server is as it was, but for an expiry
pub record IsKilledOf (servers : List ServerEntry) (server : ServerEntry) : Type 0 where
  pub was : ServerEntry
  pub there : Contains servers was
  pub name : server.name ≡ was.name
  pub session : server.session ≡ was.session

pub each_killed : (name : List ℕ) (at : ℕ) (servers : List ServerEntry) (server : ServerEntry) → Contains (with_expiry name at servers) server → IsKilledOf servers server
each_killed name at [] server there = absurd (Contains-nil server there)
each_killed name at (first ∷ more) server there = by (is_named name first) (each_killed name at more server) there
  where
    here : (b : ServerEntry) → b.name ≡ first.name → b.session ≡ first.session → b ≡ server → IsKilledOf (first ∷ more) server
    here b name session is = record { was = first; there = Contains-here first more; name = ap (λ (s : ServerEntry). s.name) (sym is) ∙ name; session = ap (λ (s : ServerEntry). s.session) (sym is) ∙ session }

    by : (b : Bool) → (Contains (with_expiry name at more) server → IsKilledOf more server) → Contains (cond b (record first { expires = Some at } ∷ more) (first ∷ with_expiry name at more)) server → IsKilledOf (first ∷ more) server
    by true rest there = elim (Contains-cons_cases (record first { expires = Some at }) server more there) [
      | inl is ↦ here (record first { expires = Some at }) refl refl is
      | inr behind ↦ record { was = server; there = Contains-there first server more behind; name = refl; session = refl }
    ]
    by false rest there = elim (Contains-cons_cases first server (with_expiry name at more) there) [
      | inl is ↦ here first refl refl is
      | inr behind ↦ (let was = rest behind in record { was = was.was; there = Contains-there first was.was more was.there; name = was.name; session = was.session })
    ]

-- a list whose first is killed, or stays before another list
first_killed : (b : Bool) (name : List ℕ) (first : ServerEntry) (at : ℕ) (more other : List ServerEntry) → AreApart (first ∷ more) → AreApart (first ∷ other) → AreApart (cond b (record first { expires = Some at } ∷ more) (first ∷ other))
unfolding AreApart
first_killed true name first at more other apart rest = apart
first_killed false name first at more other apart rest = rest

-- no session comes or goes
killed_none : (name session : List ℕ) (at : ℕ) (servers : List ServerEntry) → find (is_of_session session) servers ≡ None → find (is_of_session session) (with_expiry name at servers) ≡ None
killed_none name session at [] none = refl
killed_none name session at (first ∷ more) none = by (is_named name first) (same session first.session) refl (killed_none name session at more)
  where
    by : (b c : Bool) → same session first.session ≡ c → (find (is_of_session session) more ≡ None → find (is_of_session session) (with_expiry name at more) ≡ None)
        → find (is_of_session session) (cond b (record first { expires = Some at } ∷ more) (first ∷ with_expiry name at more)) ≡ None
    by b true is rest = absurd (none-some first (sym none ∙ ap (λ b. cond b (Some first) (find (is_of_session session) more)) is))
    by true false is rest = ap (λ b. cond b (Some (record first { expires = Some at })) (find (is_of_session session) more)) is ∙ (sym (ap (λ b. cond b (Some first) (find (is_of_session session) more)) is) ∙ none)
    by false false is rest = ap (λ b. cond b (Some first) (find (is_of_session session) (with_expiry name at more))) is
        ∙ rest (sym (ap (λ b. cond b (Some first) (find (is_of_session session) more)) is) ∙ none)

pub apart_killed : (name : List ℕ) (at : ℕ) (servers : List ServerEntry) → AreApart servers → AreApart (with_expiry name at servers)
unfolding AreApart
apart_killed name at [] apart = tt
apart_killed name at (first ∷ more) apart = first_killed (is_named name first) name first at more (with_expiry name at more) apart (killed_none name first.session at more apart.0, apart_killed name at more apart.1)

module _ (name : List ℕ) (at : ℕ) where
  -- who is live afterwards was so
  pub live_was : (session : List ℕ) (server : ServerEntry) → server.expires ≡ None → (servers : List ServerEntry) → find (is_of_session session) (with_expiry name at servers) ≡ Some server → find (is_of_session session) servers ≡ Some server
  live_was session server live [] found = absurd (none-some server found)
  live_was session server live (first ∷ more) found = by (is_named name first) (same session first.session) refl (live_was session server live more) found
    where
      by : (b c : Bool) → same session first.session ≡ c → (find (is_of_session session) (with_expiry name at more) ≡ Some server → find (is_of_session session) more ≡ Some server)
          → find (is_of_session session) (cond b (record first { expires = Some at } ∷ more) (first ∷ with_expiry name at more)) ≡ Some server
          → find (is_of_session session) (first ∷ more) ≡ Some server
      by true true is rest found =
          let same_one = same_Some _ _ (sym (ap (λ b. cond b (Some (record first { expires = Some at })) (find (is_of_session session) more)) is) ∙ found) in
          absurd (none-some at (sym live ∙ ap (λ (s : ServerEntry). s.expires) (sym same_one)))
      by true false is rest found = ap (λ b. cond b (Some first) (find (is_of_session session) more)) is ∙ (sym (ap (λ b. cond b (Some (record first { expires = Some at })) (find (is_of_session session) more)) is) ∙ found)
      by false true is rest found = ap (λ b. cond b (Some first) (find (is_of_session session) more)) is ∙ (sym (ap (λ b. cond b (Some first) (find (is_of_session session) (with_expiry name at more))) is) ∙ found)
      by false false is rest found = ap (λ b. cond b (Some first) (find (is_of_session session) more)) is
          ∙ rest (sym (ap (λ b. cond b (Some first) (find (is_of_session session) (with_expiry name at more))) is) ∙ found)

  -- a server of another session than that of the killed one is as it was
  pub other_stays : (session : List ℕ) (killed server : ServerEntry) → killed.session ≢ session → (servers : List ServerEntry) → find (is_named name) servers ≡ Some killed → find (is_of_session session) servers ≡ Some server
      → find (is_of_session session) (with_expiry name at servers) ≡ Some server
  other_stays session killed server apart [] named found = absurd (none-some server found)
  other_stays session killed server apart (first ∷ more) named found = by (is_named name first) refl (same session first.session) refl (other_stays session killed server apart more)
    where
      by : (b : Bool) → is_named name first ≡ b → (c : Bool) → same session first.session ≡ c
          → (find (is_named name) more ≡ Some killed → find (is_of_session session) more ≡ Some server → find (is_of_session session) (with_expiry name at more) ≡ Some server)
          → find (is_of_session session) (cond b (record first { expires = Some at } ∷ more) (first ∷ with_expiry name at more)) ≡ Some server
      by true is true at_first rest =
          let first_is = same_Some first killed (sym (ap (λ b. cond b (Some first) (find (is_named name) more)) is) ∙ named) in
          absurd (apart (sym (ap (λ (s : ServerEntry). s.session) first_is) ∙ sym (same-true session first.session at_first)))
      by true is false at_first rest = ap (λ b. cond b (Some (record first { expires = Some at })) (find (is_of_session session) more)) at_first ∙ (sym (ap (λ b. cond b (Some first) (find (is_of_session session) more)) at_first) ∙ found)
      by false is true at_first rest = ap (λ b. cond b (Some first) (find (is_of_session session) (with_expiry name at more))) at_first ∙ (sym (ap (λ b. cond b (Some first) (find (is_of_session session) more)) at_first) ∙ found)
      by false is false at_first rest = ap (λ b. cond b (Some first) (find (is_of_session session) (with_expiry name at more))) at_first
          ∙ rest (sym (ap (λ b. cond b (Some first) (find (is_named name) more)) is) ∙ named) (sym (ap (λ b. cond b (Some first) (find (is_of_session session) more)) at_first) ∙ found)

-- the session of a server that is found by its name is found
named_session : (name : List ℕ) (server : ServerEntry) (servers : List ServerEntry) → find (is_named name) servers ≡ Some server → find (is_of_session server.session) servers ≡ None → ⊥
named_session name server [] named none = none-some server named
named_session name server (first ∷ more) named none = by (is_named name first) refl (same server.session first.session) refl (named_session name server more)
  where
    by : (b : Bool) → is_named name first ≡ b → (c : Bool) → same server.session first.session ≡ c → (find (is_named name) more ≡ Some server → find (is_of_session server.session) more ≡ None → ⊥) → ⊥
    by b is true at_first rest = none-some first (sym none ∙ ap (λ b. cond b (Some first) (find (is_of_session server.session) more)) at_first)
    by true is false at_first rest =
        let first_is = same_Some first server (sym (ap (λ b. cond b (Some first) (find (is_named name) more)) is) ∙ named) in
        (let wrong : true ≡ false = sym (same-refl server.session) ∙ ap (λ (s : ServerEntry). same server.session s.session) (sym first_is) ∙ at_first in cc)
    by false is false at_first rest = rest (sym (ap (λ b. cond b (Some first) (find (is_named name) more)) is) ∙ named) (sym (ap (λ b. cond b (Some first) (find (is_of_session server.session) more)) at_first) ∙ none)

module _ (name : List ℕ) (at : ℕ) where
  -- the killed server is no longer live
  dead_first : (killed server : ServerEntry) → server.expires ≡ None → (first : ServerEntry) (more : List ServerEntry) → find (is_of_session first.session) more ≡ None → find (is_named name) (first ∷ more) ≡ Some killed
      → (find (is_named name) more ≡ Some killed → find (is_of_session killed.session) (with_expiry name at more) ≡ Some server → ⊥)
      → (b : Bool) → is_named name first ≡ b → (c : Bool) → same killed.session first.session ≡ c
      → find (is_of_session killed.session) (cond b (record first { expires = Some at } ∷ more) (first ∷ with_expiry name at more)) ≡ Some server → ⊥
  dead_first killed server live first more apart named rest true is true at_first found =
      let same_one = same_Some _ _ (sym (ap (λ b. cond b (Some (record first { expires = Some at })) (find (is_of_session killed.session) more)) at_first) ∙ found) in
      none-some at (sym live ∙ ap (λ (s : ServerEntry). s.expires) (sym same_one))
  dead_first killed server live first more apart named rest true is false at_first found =
      let first_is = same_Some first killed (sym (ap (λ b. cond b (Some first) (find (is_named name) more)) is) ∙ named) in
      (let wrong : true ≡ false = sym (same-refl killed.session) ∙ ap (λ (s : ServerEntry). same killed.session s.session) (sym first_is) ∙ at_first in cc)
  dead_first killed server live first more apart named rest false is true at_first found =
      named_session name killed more (sym (ap (λ b. cond b (Some first) (find (is_named name) more)) is) ∙ named)
      (subst (λ s. find (is_of_session s) more ≡ None) (sym (same-true killed.session first.session at_first)) apart)
  dead_first killed server live first more apart named rest false is false at_first found =
      rest (sym (ap (λ b. cond b (Some first) (find (is_named name) more)) is) ∙ named) (sym (ap (λ b. cond b (Some first) (find (is_of_session killed.session) (with_expiry name at more))) at_first) ∙ found)

  pub killed_is_dead : (killed server : ServerEntry) → server.expires ≡ None → (servers : List ServerEntry) → AreApart servers → find (is_named name) servers ≡ Some killed
      → find (is_of_session killed.session) (with_expiry name at servers) ≡ Some server → ⊥
  unfolding AreApart
  killed_is_dead killed server live [] apart named found = none-some killed named
  killed_is_dead killed server live (first ∷ more) apart named found =
      dead_first killed server live first more apart.0 named (killed_is_dead killed server live more apart.1) (is_named name first) refl (same killed.session first.session) refl found

-- ---- a server goes

pub each_left : (name : List ℕ) (servers : List ServerEntry) (server : ServerEntry) → Contains (without name servers) server → Contains servers server
each_left name [] server there = there
each_left name (first ∷ more) server there = by (is_named name first) (each_left name more server) there
  where
    by : (b : Bool) → (Contains (without name more) server → Contains more server) → Contains (cond b more (first ∷ without name more)) server → Contains (first ∷ more) server
    by true rest there = Contains-there first server more there
    by false rest there = elim (Contains-cons_cases first server (without name more) there) [
      | inl is ↦ subst (Contains (first ∷ more)) is (Contains-here first more)
      | inr behind ↦ Contains-there first server more (rest behind)
    ]

left_none : (name session : List ℕ) (servers : List ServerEntry) → find (is_of_session session) servers ≡ None → find (is_of_session session) (without name servers) ≡ None
left_none name session [] none = refl
left_none name session (first ∷ more) none = by (is_named name first) (same session first.session) refl (left_none name session more)
  where
    by : (b c : Bool) → same session first.session ≡ c → (find (is_of_session session) more ≡ None → find (is_of_session session) (without name more) ≡ None) → find (is_of_session session) (cond b more (first ∷ without name more)) ≡ None
    by b true is rest = absurd (none-some first (sym none ∙ ap (λ b. cond b (Some first) (find (is_of_session session) more)) is))
    by true false is rest = sym (ap (λ b. cond b (Some first) (find (is_of_session session) more)) is) ∙ none
    by false false is rest = ap (λ b. cond b (Some first) (find (is_of_session session) (without name more))) is
        ∙ rest (sym (ap (λ b. cond b (Some first) (find (is_of_session session) more)) is) ∙ none)

-- a list without its first, or with it before another list
first_left : (b : Bool) (first : ServerEntry) (more other : List ServerEntry) → AreApart more → AreApart (first ∷ other) → AreApart (cond b more (first ∷ other))
first_left true first more other apart rest = apart
first_left false first more other apart rest = rest

pub apart_left : (name : List ℕ) (servers : List ServerEntry) → AreApart servers → AreApart (without name servers)
unfolding AreApart
apart_left name [] apart = tt
apart_left name (first ∷ more) apart = first_left (is_named name first) first more (without name more) apart.1 (left_none name first.session more apart.0, apart_left name more apart.1)

-- who is left was there
first_was : (name session : List ℕ) (server first : ServerEntry) (more : List ServerEntry) → find (is_of_session first.session) more ≡ None
    → (find (is_of_session session) (without name more) ≡ Some server → find (is_of_session session) more ≡ Some server)
    → (b c : Bool) → same session first.session ≡ c → find (is_of_session session) (cond b more (first ∷ without name more)) ≡ Some server → find (is_of_session session) (first ∷ more) ≡ Some server
first_was name session server first more apart rest true true is found = absurd (none-some server (sym (subst (λ s. find (is_of_session s) more ≡ None) (sym (same-true session first.session is)) apart) ∙ found))
first_was name session server first more apart rest true false is found = ap (λ b. cond b (Some first) (find (is_of_session session) more)) is ∙ found
first_was name session server first more apart rest false true is found =
    ap (λ b. cond b (Some first) (find (is_of_session session) more)) is ∙ (sym (ap (λ b. cond b (Some first) (find (is_of_session session) (without name more))) is) ∙ found)
first_was name session server first more apart rest false false is found =
    ap (λ b. cond b (Some first) (find (is_of_session session) more)) is ∙ rest (sym (ap (λ b. cond b (Some first) (find (is_of_session session) (without name more))) is) ∙ found)

pub left_was : (name session : List ℕ) (server : ServerEntry) (servers : List ServerEntry) → AreApart servers → find (is_of_session session) (without name servers) ≡ Some server → find (is_of_session session) servers ≡ Some server
unfolding AreApart
left_was name session server [] apart found = found
left_was name session server (first ∷ more) apart found = first_was name session server first more apart.0 (left_was name session server more apart.1) (is_named name first) (same session first.session) refl found

-- a live server stays where one that was killed goes
pub live_stays : (name session : List ℕ) (gone server : ServerEntry) (at : ℕ) → gone.expires ≡ Some at → server.expires ≡ None → (servers : List ServerEntry) → find (is_named name) servers ≡ Some gone
    → find (is_of_session session) servers ≡ Some server → find (is_of_session session) (without name servers) ≡ Some server
live_stays name session gone server at dead live [] named found = found
live_stays name session gone server at dead live (first ∷ more) named found = by (is_named name first) refl (same session first.session) refl (live_stays name session gone server at dead live more)
  where
    by : (b : Bool) → is_named name first ≡ b → (c : Bool) → same session first.session ≡ c
        → (find (is_named name) more ≡ Some gone → find (is_of_session session) more ≡ Some server → find (is_of_session session) (without name more) ≡ Some server)
        → find (is_of_session session) (cond b more (first ∷ without name more)) ≡ Some server
    by true is true at_first rest =
        let first_is = same_Some first gone (sym (ap (λ b. cond b (Some first) (find (is_named name) more)) is) ∙ named) in
        let server_is = same_Some first server (sym (ap (λ b. cond b (Some first) (find (is_of_session session) more)) at_first) ∙ found) in
        absurd (none-some at (sym live ∙ ap (λ (s : ServerEntry). s.expires) (sym server_is ∙ first_is) ∙ dead))
    by true is false at_first rest = sym (ap (λ b. cond b (Some first) (find (is_of_session session) more)) at_first) ∙ found
    by false is true at_first rest = ap (λ b. cond b (Some first) (find (is_of_session session) (without name more))) at_first ∙ (sym (ap (λ b. cond b (Some first) (find (is_of_session session) more)) at_first) ∙ found)
    by false is false at_first rest = ap (λ b. cond b (Some first) (find (is_of_session session) (without name more))) at_first
        ∙ rest (sym (ap (λ b. cond b (Some first) (find (is_named name) more)) is) ∙ named) (sym (ap (λ b. cond b (Some first) (find (is_of_session session) more)) at_first) ∙ found)

-- the session of the server that goes goes with it
gone_first : (name : List ℕ) (gone first : ServerEntry) (more : List ServerEntry) → find (is_of_session first.session) more ≡ None → find (is_named name) (first ∷ more) ≡ Some gone
    → (find (is_named name) more ≡ Some gone → find (is_of_session gone.session) (without name more) ≡ None)
    → (b : Bool) → is_named name first ≡ b → (c : Bool) → same gone.session first.session ≡ c → find (is_of_session gone.session) (cond b more (first ∷ without name more)) ≡ None
gone_first name gone first more apart named rest true is c at_first =
    let first_is = same_Some first gone (sym (ap (λ b. cond b (Some first) (find (is_named name) more)) is) ∙ named) in
    subst (λ (s : ServerEntry). find (is_of_session s.session) more ≡ None) first_is apart
gone_first name gone first more apart named rest false is true at_first =
    absurd (named_session name gone more (sym (ap (λ b. cond b (Some first) (find (is_named name) more)) is) ∙ named) (subst (λ s. find (is_of_session s) more ≡ None) (sym (same-true gone.session first.session at_first)) apart))
gone_first name gone first more apart named rest false is false at_first =
    ap (λ b. cond b (Some first) (find (is_of_session gone.session) (without name more))) at_first ∙ rest (sym (ap (λ b. cond b (Some first) (find (is_named name) more)) is) ∙ named)

pub gone_left : (name : List ℕ) (gone : ServerEntry) (servers : List ServerEntry) → AreApart servers → find (is_named name) servers ≡ Some gone → find (is_of_session gone.session) (without name servers) ≡ None
unfolding AreApart
gone_left name gone [] apart named = refl
gone_left name gone (first ∷ more) apart named = gone_first name gone first more apart.0 named (gone_left name gone more apart.1) (is_named name first) refl (same gone.session first.session) refl

-- a listed session is found
pub listed_session : (servers : List ServerEntry) (server : ServerEntry) → Contains servers server → find (is_of_session server.session) servers ≡ None → ⊥
listed_session [] server there none = Contains-nil server there
listed_session (first ∷ more) server there none = by (same server.session first.session) refl (listed_session more server)
  where
    by : (c : Bool) → same server.session first.session ≡ c → (Contains more server → find (is_of_session server.session) more ≡ None → ⊥) → ⊥
    by true at_first rest = none-some first (sym none ∙ ap (λ b. cond b (Some first) (find (is_of_session server.session) more)) at_first)
    by false at_first rest = elim (Contains-cons_cases first server more there) [
      | inl is ↦ (let wrong : true ≡ false = sym (same-refl server.session) ∙ ap (λ (s : ServerEntry). same server.session s.session) (sym is) ∙ at_first in cc)
      | inr behind ↦ rest behind (sym (ap (λ b. cond b (Some first) (find (is_of_session server.session) more)) at_first) ∙ none)
    ]
