-- Tablets of which one has another memory.
use Rattle.std.proofs.Common.{◌≡◌, ◌≢◌, inl, inr, ℕ, Bool, true, false, cond, List, Option, Some, None, IsSome, unwrap_or, refl, sym, ◌∙◌, ap, subst}
use Rattle.std.specs.FinMap as map
use Rattle.std.specs.FinMap.{get-insert}
use Rattle.std.specs.Option.{option_map}
use Rattle.std.specs.Ordering.{eq_by_cmp}
use Rattle.std.specs.Cmp.{eq_by_cmp_equiv}
use Rattle.std.specs.Cmp.Lexicographic.{nat_list_cmp_total}
use Rattle.std.proofs.lemmas.Bool.{false≢true}
use Rattle.std.proofs.lemmas.Map.Lookups.{exact_bytes}
use Rattle.std.proofs.lemmas.Map.Views.{tells_apart}
use Rattle.host_model.proofs.Images.{cases_name}
use Rattle.metadata_schema.specs.declared.mutation.Mutation.{Mutation}
use Rattle.node_store.specs.PathsTo.{path_cmp, PathsTo}
use Rattle.node_store.proofs.PathMaps.{same_paths}
use Rattle.tablet_mem.specs.Memory.{Memory, put}
use Rattle.hosted_memories.specs.declared.hosting.Hosting.{Hosting}
use Rattle.hosted_memories.specs.Hosted.{HostedTablets, memories_of, sessions_of, with_memory_of, with_memory}
use Rattle.hosted_writes.specs.Puts.{nothing, memory_at, with_put}

get_same : {V : Type 0} (m : PathsTo V) (key : List ℕ) (value : V) (q : List ℕ) → q ≡ key → map.get (map.insert m key value) q ≡ Some value
get_same m key value q same = get-insert nat_list_cmp_total m key value q ∙ ap (λ t. cond t (Some value) (map.get m q)) (ap (λ k. eq_by_cmp path_cmp k key) same ∙ (eq_by_cmp_equiv nat_list_cmp_total).refl key)

-- what was put at a key is there
pub is_put : {V : Type 0} (old new : PathsTo V) (key : List ℕ) (value : V) (q : List ℕ) → q ≡ key → new ≡ map.insert old key value → IsSome (map.get new q)
is_put old new key value q same made = subst IsSome (sym (ap (λ m. map.get m q) made ∙ get_same old key value q same)) refl

get_other : {V : Type 0} (m : PathsTo V) (key : List ℕ) (value : V) (q : List ℕ) → q ≢ key → map.get (map.insert m key value) q ≡ map.get m q
get_other {V} m key value q other = get-insert nat_list_cmp_total m key value q ∙ skipped (eq_by_cmp path_cmp q key) (λ is. other (tells_apart exact_bytes q key is))
  where
    skipped : (t : Bool) → (t ≡ true → ⊥) → cond t (Some value) (map.get m q) ≡ map.get m q
    skipped true none = absurd (none refl)
    skipped false none = refl

-- to put what is there changes nothing
insert_own : {V : Type 0} (m : PathsTo V) (key : List ℕ) (value : V) → map.get m key ≡ Some value → map.insert m key value ≡ m
insert_own {V} m key value is = same_paths _ _ (λ q. get-insert nat_list_cmp_total m key value q ∙ own_at (eq_by_cmp path_cmp q key) (map.get m q) (λ same. ap (map.get m) (tells_apart exact_bytes q key same) ∙ is))
  where
    own_at : (b : Bool) (o : Option V) → (b ≡ true → o ≡ Some value) → cond b (Some value) o ≡ o
    own_at true o there = sym (there refl)
    own_at false o there = refl

-- of two values put at one key the later one is there
over : {V : Type 0} (m : PathsTo V) (key : List ℕ) (one other : V) → map.insert (map.insert m key one) key other ≡ map.insert m key other
over {V} m key one other = same_paths _ _ (λ q.
    get-insert nat_list_cmp_total (map.insert m key one) key other q
    ∙ ap (λ o. cond (eq_by_cmp path_cmp q key) (Some other) o) (get-insert nat_list_cmp_total m key one q)
    ∙ hides (eq_by_cmp path_cmp q key) (map.get m q)
    ∙ sym (get-insert nat_list_cmp_total m key other q))
  where
    hides : (b : Bool) (o : Option V) → cond b (Some other) (cond b (Some one) o) ≡ cond b (Some other) o
    hides true o = refl
    hides false o = refl

module _ (hosted : HostedTablets) (tablet : List ℕ) where
  -- of two memories that it gets the later one is there
  again : (one other : Memory) → with_memory (with_memory hosted tablet one) tablet other ≡ with_memory hosted tablet other
  again one other = by (map.get hosted tablet) refl
    where
      by : (o : Option Hosting) → map.get hosted tablet ≡ o → with_memory (with_memory_of hosted tablet one o) tablet other ≡ with_memory_of hosted tablet other o
      by None e = ap (with_memory_of hosted tablet other) e
      by (Some hosting) e =
          let first : Hosting = record hosting { memory = one } in
          ap (with_memory_of (map.insert hosted tablet first) tablet other) (get_same hosted tablet first tablet refl)
          ∙ over hosted tablet first (record hosting { memory = other })

  -- its own memory changes nothing
  own_memory : with_memory hosted tablet (memory_at hosted tablet) ≡ hosted
  own_memory = by (map.get hosted tablet) refl
    where
      by : (o : Option Hosting) → map.get hosted tablet ≡ o → with_memory_of hosted tablet (unwrap_or (option_map (λ (h : Hosting). h.memory) o) nothing) o ≡ hosted
      by None e = refl
      by (Some hosting) e = insert_own hosted tablet hosting e

  -- it is hosted still
  still_there : (memory : Memory) → IsSome (map.get hosted tablet) → IsSome (map.get (with_memory hosted tablet memory) tablet)
  still_there memory there = by (map.get hosted tablet) refl there
    where
      by : (o : Option Hosting) → map.get hosted tablet ≡ o → IsSome o → IsSome (map.get (with_memory_of hosted tablet memory o) tablet)
      by None e is = absurd (false≢true is)
      by (Some hosting) e is = subst IsSome (sym (get_same hosted tablet (record hosting { memory = memory }) tablet refl)) refl

  -- ---- its memory is taken out for a while

  module _ (left : HostedTablets) (out : left ≡ with_memory hosted tablet nothing) where
    -- it is hosted in between
    pub there_between : IsSome (map.get hosted tablet) → IsSome (map.get left tablet)
    there_between there = subst (λ (m : HostedTablets). IsSome (map.get m tablet)) (sym out) (still_there nothing there)

    -- it gets this memory
    pub with_new : (last : HostedTablets) (memory new : Memory) → last ≡ with_memory left tablet memory → memory ≡ new → last ≡ with_memory hosted tablet new
    with_new last memory new back is = back ∙ (λ i. with_memory (out i) tablet (is i)) ∙ again nothing new

    -- it gets its own one again
    pub as_it_was : (last : HostedTablets) (memory : Memory) → last ≡ with_memory left tablet memory → memory ≡ memory_at hosted tablet → last ≡ hosted
    as_it_was last memory back is = with_new last memory (memory_at hosted tablet) back is ∙ own_memory

  -- ---- a put

  module _ (mutation : Mutation) where
    abbrev after : Memory
    after = put (memory_at hosted tablet) mutation

    pub put_own : IsSome (map.get hosted tablet) → memories_of (with_put hosted tablet mutation) tablet ≡ Some after
    put_own there = by (map.get hosted tablet) refl there
      where
        by : (o : Option Hosting) → map.get hosted tablet ≡ o → IsSome o → memories_of (with_memory_of hosted tablet after o) tablet ≡ Some after
        by None e is = absurd (false≢true is)
        by (Some hosting) e is = ap (option_map (λ (h : Hosting). h.memory)) (get_same hosted tablet (record hosting { memory = after }) tablet refl)

    pub put_others : (other : List ℕ) → other ≢ tablet → map.get (with_put hosted tablet mutation) other ≡ map.get hosted other
    put_others other apart = by (map.get hosted tablet)
      where
        by : (o : Option Hosting) → map.get (with_memory_of hosted tablet after o) other ≡ map.get hosted other
        by None = refl
        by (Some hosting) = get_other hosted tablet (record hosting { memory = after }) other apart

    pub put_sessions : (row : List ℕ) → sessions_of (with_put hosted tablet mutation) row ≡ sessions_of hosted row
    put_sessions row = elim (cases_name row tablet) [
      | inl same ↦ here same (map.get hosted tablet) refl
      | inr apart ↦ ap (option_map (λ (h : Hosting). h.session)) (put_others row apart)
    ]
      where
        here : row ≡ tablet → (o : Option Hosting) → map.get hosted tablet ≡ o → sessions_of (with_memory_of hosted tablet after o) row ≡ sessions_of hosted row
        here same None e = refl
        here same (Some hosting) e =
            ap (option_map (λ (h : Hosting). h.session)) (get_same hosted tablet (record hosting { memory = after }) row same)
            ∙ sym (ap (option_map (λ (h : Hosting). h.session)) (ap (map.get hosted) same ∙ e))
