-- One table more.
use Rattle.std.proofs.Common.{◌≡◌, ◌≢◌, inl, inr, ⊎_elim, ℕ, ◌+◌, ◌<◌, ◌^◌, nat_lt, Bool, true, false, cond, List, [], ◌∷◌, Option, Some, None, Result, Ok, Err, refl, sym, ◌∙◌, ap, subst, arith, get_or}
use Rattle.std.specs.Prelude.{Contains, MatchResult, ⊤}
use Rattle.std.specs.FinMap as map
use Rattle.std.specs.FinMap.{get-insert}
use Rattle.std.specs.Fmt.{decimal}
use Rattle.std.specs.Option.{is_some}
use Rattle.std.specs.Ordering.{eq_by_cmp}
use Rattle.std.specs.Cmp.{eq_by_cmp_equiv}
use Rattle.std.specs.Cmp.Lexicographic.{nat_list_cmp_total}
use Rattle.std.proofs.lemmas.Bool.{false≢true}
use Rattle.std.proofs.lemmas.Option.{same_Some}
use Rattle.std.proofs.lemmas.List.Elements.{All-weaker}
use Rattle.std.proofs.lemmas.Map.Views.{tells_apart}
use Rattle.std.proofs.lemmas.Map.Lookups.{exact_bytes}
use Rattle.host_model.specs.declared.fault.Stop.TheVariants.{Full}
use Rattle.host_model.proofs.Images.{cases_name}
use Rattle.row_keys.specs.Forms.{IsWordName}
use Rattle.node_store.specs.PathsTo.{path_cmp, PathsTo, with_entry}
use Rattle.node_store.specs.Nodes.{Nodes, turned, and_then, multi_applied}
use Rattle.node_store.specs.declared.changes.Node.{Node}
use Rattle.node_store.specs.declared.changes.NodeOp.{NodeOp}
use Rattle.node_store.specs.declared.changes.NodeOp.TheVariants.{Create, Set}
use Rattle.node_store.specs.declared.changes.NodeStop.{NodeStop}
use Rattle.node_store.specs.declared.changes.NodeStop.TheVariants.{Stop as Stopped}
use Rattle.table_store.specs.Numbers.{base36, value_from, IsDrawn}
use Rattle.table_store.specs.Tables.{Tables, AreDrawn, is_taken, created}
use Rattle.store_layout.specs.Nodes.{instance_path, instance_value, root_path, next_table_path, IsNext}
use Rattle.table_store.specs.Layout.{counter_paths, fixed_paths, table_path, table_value, create_ops, IsKnownPath}
use Rattle.table_store.specs.Reading.{HasValue, HasNext, IsReading}
use Rattle.table_store.specs.Appending.{Applies}
use Rattle.table_store.proofs.Numerals.{value_from-base36, IsUserTableId-base36}
use Rattle.table_store.proofs.ValueLemmas.{table_path_injective}
use Rattle.table_store.proofs.ReadingLemmas.{table_not_fixed}

-- ---- maps with one entry more

pub own_key : {V : Type 0} (m : PathsTo V) (k : List ℕ) (v : V) → map.get (map.insert m k v) k ≡ Some v
own_key m k v = get-insert nat_list_cmp_total m k v k ∙ ap (λ b. cond b (Some v) (map.get m k)) ((eq_by_cmp_equiv nat_list_cmp_total).refl k)

pub other_key : {V : Type 0} (m : PathsTo V) (k : List ℕ) (v : V) (q : List ℕ) → q ≢ k → map.get (map.insert m k v) q ≡ map.get m q
other_key m k v q apart = get-insert nat_list_cmp_total m k v q ∙ ap (λ b. cond b (Some v) (map.get m q)) (differs (eq_by_cmp path_cmp q k) refl)
  where
    differs : (b : Bool) → eq_by_cmp path_cmp q k ≡ b → eq_by_cmp path_cmp q k ≡ false
    differs true is = absurd (apart (tells_apart exact_bytes q k is))
    differs false is = is

pub not_there : {V : Type 0} (m : PathsTo V) (k : List ℕ) (v : V) → map.get m k ≡ Some v → map.get m k ≡ None → ⊥
not_there m k v some none = cc

pub free_name : (tables : Tables) (name : List ℕ) → is_taken name tables ≡ false → map.get tables.by_name name ≡ None
free_name tables name free = at (map.get tables.by_name name) refl
  where
    at : (o : Option (List ℕ)) → map.get tables.by_name name ≡ o → map.get tables.by_name name ≡ None
    at None is = is
    at (Some id) is = absurd (false≢true (sym free ∙ ap is_some is))

-- ---- the number that is drawn

-- the next id isn't there
pub fresh_id : (tables : Tables) (name id : List ℕ) → AreDrawn tables → 0 < tables.next → tables.next < 2 ^ 63 → map.get tables.by_name name ≡ Some id → id ≡ base36 tables.next → ⊥
fresh_id tables name id ids positive below found is =
    let drawn = ids.drawn name id found in
    let same : drawn.number ≡ tables.next = same_Some _ _ (sym drawn.is ∙ ap (value_from 0) is ∙ value_from-base36 tables.next positive (omega arith)) in
    absurd (omega (arith, drawn.below, same))

pub drawn_created : (tables : Tables) (name : List ℕ) → AreDrawn tables → 0 < tables.next → tables.next < 2 ^ 63 → is_taken name tables ≡ false → AreDrawn (created name tables)
drawn_created tables name ids positive below free = record {
  drawn = λ one id found. ⊎_elim
      (λ same. subst (IsDrawn (tables.next + 1)) (sym (own one id found same)) here)
      (λ apart. later id (ids.drawn one id (old one id found apart)))
      (cases_name one name);
  differ = λ one two id first second. ⊎_elim
      (λ same. ⊎_elim (λ also. same ∙ sym also) (λ apart. absurd (fresh_id tables two id ids positive below (old two id second apart) (own one id first same))) (cases_name two name))
      (λ apart. ⊎_elim (λ also. absurd (fresh_id tables one id ids positive below (old one id first apart) (own two id second also))) (λ also. ids.differ one two id (old one id first apart) (old two id second also)) (cases_name two name))
      (cases_name one name);
}
  where
    here : IsDrawn (tables.next + 1) (base36 tables.next)
    here = record { form = IsUserTableId-base36 tables.next (omega arith); number = tables.next; is = value_from-base36 tables.next positive (omega arith); positive = positive; below = omega arith }

    later : (id : List ℕ) → IsDrawn tables.next id → IsDrawn (tables.next + 1) id
    later id drawn = record { form = drawn.form; number = drawn.number; is = drawn.is; positive = drawn.positive; below = omega (arith, drawn.below) }

    own : (one id : List ℕ) → map.get (created name tables).by_name one ≡ Some id → one ≡ name → id ≡ base36 tables.next
    own one id found same = same_Some _ _ (sym found ∙ ap (λ n. map.get (created name tables).by_name n) same ∙ own_key tables.by_name name (base36 tables.next))

    old : (one id : List ℕ) → map.get (created name tables).by_name one ≡ Some id → one ≢ name → map.get tables.by_name one ≡ Some id
    old one id found apart = sym (other_key tables.by_name name (base36 tables.next) one apart) ∙ found

-- ---- the changes that make a table

-- the nodes with one table more
abbrev pub made : Nodes → Node → List ℕ → List ℕ → ℕ → Nodes
made nodes node id name next = map.insert (map.insert nodes next_table_path (record { value = decimal next; version = node.version + 1 })) (table_path id) (record { value = table_value name; version = 0 })

pub create_applied : (nodes : Nodes) (path value : List ℕ) (more : List NodeOp) → map.get nodes path ≡ None → multi_applied (Create path value ∷ more) nodes ≡ multi_applied more (map.insert nodes path (record { value = value; version = 0 }))
create_applied nodes path value more none = ap (λ o. and_then (and_then (turned (Create path value) o) (λ after. Ok (with_entry nodes path after))) (λ after. multi_applied more after)) none

set_applied : (nodes : Nodes) (path value : List ℕ) (node : Node) (more : List NodeOp) (b : Bool) → map.get nodes path ≡ Some node → nat_lt (node.version + 1) (2 ^ 63) ≡ b
    → multi_applied (Set path value None ∷ more) nodes ≡ cond b (multi_applied more (map.insert nodes path (record { value = value; version = node.version + 1 }))) (Err (Stopped Full))
set_applied nodes path value node more b some lt =
    ap (λ o. and_then (and_then (turned (Set path value None) o) (λ after. Ok (with_entry nodes path after))) (λ after. multi_applied more after)) some
    ∙ ap (λ t. and_then (and_then (cond t (Ok (Some (record { value = value; version = node.version + 1 }))) (Err (Stopped Full))) (λ after. Ok (with_entry nodes path after))) (λ after. multi_applied more after)) lt
    ∙ at b
  where
    at : (t : Bool) → and_then (and_then (cond t (Ok (Some (record { value = value; version = node.version + 1 }))) (Err (Stopped Full))) (λ after. Ok (with_entry nodes path after))) (λ after. multi_applied more after)
        ≡ cond t (multi_applied more (map.insert nodes path (record { value = value; version = node.version + 1 }))) (Err (Stopped Full))
    at true = refl
    at false = refl

pub same_Ok : (a b : Nodes) → ◌≡◌ {A = Result Nodes NodeStop} (Ok a) (Ok b) → a ≡ b
same_Ok a b is = cc

pub not_Ok : (stop : NodeStop) (b : Nodes) → ◌≡◌ {A = Result Nodes NodeStop} (Err stop) (Ok b) → ⊥
not_Ok stop b is = cc

module _ (nodes : Nodes) (tables : Tables) (name : List ℕ) (reading : IsReading nodes tables) (free : is_taken name tables ≡ false) where
  path_free : map.get nodes (table_path (base36 tables.next)) ≡ None
  path_free = at (map.get nodes (table_path (base36 tables.next))) refl
    where
      at : (o : Option Node) → map.get nodes (table_path (base36 tables.next)) ≡ o → map.get nodes (table_path (base36 tables.next)) ≡ None
      at None none = none
      at (Some node) some =
          let listed = reading.listed (base36 tables.next) node some in
          absurd (fresh_id tables listed.0 (base36 tables.next) reading.ids reading.next.value.least reading.next.value.most listed.1 refl)

  id_not_fixed : (path : List ℕ) → Contains fixed_paths path → path ≢ table_path (base36 tables.next)
  id_not_fixed path fixed same = table_not_fixed (base36 tables.next) (subst (λ p. Contains fixed_paths p) same fixed)

  next_fixed : Contains fixed_paths next_table_path
  next_fixed = (2, omega arith, refl)

  -- the node of the table
  got_table : (node : Node) → map.get (made nodes node (base36 tables.next) name (tables.next + 1)) (table_path (base36 tables.next)) ≡ Some (record { value = table_value name; version = 0 })
  got_table node = own_key _ (table_path (base36 tables.next)) _

  got_next : (node : Node) → map.get (made nodes node (base36 tables.next) name (tables.next + 1)) next_table_path ≡ Some (record { value = decimal (tables.next + 1); version = node.version + 1 })
  got_next node = other_key _ (table_path (base36 tables.next)) _ next_table_path (id_not_fixed next_table_path next_fixed) ∙ own_key nodes next_table_path _

  pub got_rest : (node : Node) (path : List ℕ) → path ≢ table_path (base36 tables.next) → path ≢ next_table_path → map.get (made nodes node (base36 tables.next) name (tables.next + 1)) path ≡ map.get nodes path
  got_rest node path apart also = other_key _ (table_path (base36 tables.next)) _ path apart ∙ other_key nodes next_table_path _ path also

  -- what was there stays, but for the counter
  kept_node : (node found : Node) (path : List ℕ) → path ≢ next_table_path → map.get nodes path ≡ Some found → map.get (made nodes node (base36 tables.next) name (tables.next + 1)) path ≡ Some found
  kept_node node found path apart is = got_rest node path (λ same. not_there nodes path found is (ap (λ p. map.get nodes p) same ∙ path_free)) apart ∙ is

  kept_value : (node : Node) (path value : List ℕ) → path ≢ next_table_path → HasValue nodes path value → HasValue (made nodes node (base36 tables.next) name (tables.next + 1)) path value
  kept_value node path value apart has = record { node = has.node; is = kept_node node has.node path apart has.is; value_is = has.value_is }

  next_counter : (node : Node) → tables.next + 1 < 2 ^ 63 → IsNext (made nodes node (base36 tables.next) name (tables.next + 1)) next_table_path (tables.next + 1)
  next_counter node below = record {
    node = record { value = decimal (tables.next + 1); version = node.version + 1 };
    there = got_next node;
    value = record { is = refl; least = omega arith; most = below };
  }

  kept_counter : (node : Node) → tables.next + 1 < 2 ^ 63 → (path : List ℕ) → HasNext nodes path → HasNext (made nodes node (base36 tables.next) name (tables.next + 1)) path
  kept_counter node below path counter = ⊎_elim
      (λ same. subst (HasNext (made nodes node (base36 tables.next) name (tables.next + 1))) (sym same) (record { number = tables.next + 1; is = next_counter node below }))
      (λ apart. record { number = counter.number; is = record { node = counter.is.node; there = kept_node node counter.is.node path apart counter.is.there; value = counter.is.value } })
      (cases_name path next_table_path)

  known_path : (node found : Node) (path : List ℕ) → map.get (made nodes node (base36 tables.next) name (tables.next + 1)) path ≡ Some found → IsKnownPath path
  known_path node found path is = ⊎_elim
      (λ same. inr (record { id = base36 tables.next; is = same }))
      (λ apart. ⊎_elim
      (λ same. inl (subst (λ p. Contains fixed_paths p) (sym same) next_fixed))
      (λ also. reading.known path found (sym (got_rest node path apart also) ∙ is))
      (cases_name path next_table_path))
      (cases_name path (table_path (base36 tables.next)))

  -- the tables by name, with the new one
  own_name : map.get (created name tables).by_name name ≡ Some (base36 tables.next)
  own_name = own_key tables.by_name name (base36 tables.next)

  old_name : (one id : List ℕ) → map.get (created name tables).by_name one ≡ Some id → one ≢ name → map.get tables.by_name one ≡ Some id
  old_name one id found apart = sym (other_key tables.by_name name (base36 tables.next) one apart) ∙ found

  new_name : (one id : List ℕ) → map.get tables.by_name one ≡ Some id → map.get (created name tables).by_name one ≡ Some id
  new_name one id found = other_key tables.by_name name (base36 tables.next) one (λ same. not_there tables.by_name one id found (ap (λ n. map.get tables.by_name n) same ∙ free_name tables name free)) ∙ found

  own_id : (one id : List ℕ) → map.get (created name tables).by_name one ≡ Some id → one ≡ name → id ≡ base36 tables.next
  own_id one id found same = same_Some _ _ (sym found ∙ ap (λ n. map.get (created name tables).by_name n) same ∙ own_name)

  table_apart : (id : List ℕ) → table_path id ≢ next_table_path
  table_apart id same = table_not_fixed id (subst (λ p. Contains fixed_paths p) (sym same) next_fixed)

  table_there : (node : Node) (one id : List ℕ) → map.get (created name tables).by_name one ≡ Some id → HasValue (made nodes node (base36 tables.next) name (tables.next + 1)) (table_path id) (table_value one)
  table_there node one id found = ⊎_elim
      (λ same. subst (λ i. HasValue (made nodes node (base36 tables.next) name (tables.next + 1)) (table_path i) (table_value one)) (sym (own_id one id found same))
      (record { node = record { value = table_value name; version = 0 }; is = got_table node; value_is = ap table_value (sym same) }))
      (λ apart. kept_value node (table_path id) (table_value one) (table_apart id) (reading.there one id (old_name one id found apart)))
      (cases_name one name)

  table_listed : (node : Node) (id : List ℕ) (found : Node) → map.get (made nodes node (base36 tables.next) name (tables.next + 1)) (table_path id) ≡ Some found → (one : List ℕ) × (map.get (created name tables).by_name one ≡ Some id)
  table_listed node id found is = ⊎_elim
      (λ same. (name, own_name ∙ ap (λ i. Some i) (sym (table_path_injective id (base36 tables.next) same))))
      (λ apart. let listed = reading.listed id found (sym (got_rest node (table_path id) apart (table_apart id)) ∙ is) in (listed.0, new_name listed.0 id listed.1))
      (cases_name (table_path id) (table_path (base36 tables.next)))

  -- the nodes with one table more say just that
  pub reading_made : (node : Node) → IsWordName name → tables.next + 1 < 2 ^ 63 → IsReading (made nodes node (base36 tables.next) name (tables.next + 1)) (created name tables)
  reading_made node form below = record {
    instance = kept_value node instance_path instance_value (λ same. absurd (omega (arith, ap (λ l. get_or l 1 0) same))) reading.instance;
    root = record { node = reading.root.node; is = kept_node node reading.root.node root_path (λ same. absurd (omega (arith, ap (λ l. get_or l 1 0) same))) reading.root.is };
    counters = All-weaker (HasNext nodes) (HasNext (made nodes node (base36 tables.next) name (tables.next + 1))) (kept_counter node below) counter_paths reading.counters;
    next = next_counter node below;
    known = λ path found is. known_path node found path is;
    there = λ one id found. table_there node one id found;
    listed = λ id found is. table_listed node id found is;
    named = λ one id found. ⊎_elim (λ same. subst IsWordName (sym same) form) (λ apart. reading.named one id (old_name one id found apart)) (cases_name one name);
    ids = drawn_created tables name reading.ids reading.next.value.least reading.next.value.most free;
  }

  -- what the changes make
  pub creates : (b : Bool) → nat_lt (reading.next.node.version + 1) (2 ^ 63) ≡ b
      → multi_applied (create_ops (base36 tables.next) name (tables.next + 1)) nodes ≡ cond b (Ok (made nodes reading.next.node (base36 tables.next) name (tables.next + 1))) (Err (Stopped Full))
  creates b lt =
      set_applied nodes next_table_path (decimal (tables.next + 1)) reading.next.node (Create (table_path (base36 tables.next)) (table_value name) ∷ []) b reading.next.there lt
      ∙ ap (λ r. cond b r (Err (Stopped Full))) (create_applied _ (table_path (base36 tables.next)) (table_value name) [] (other_key nodes next_table_path _ (table_path (base36 tables.next)) (table_apart (base36 tables.next)) ∙ path_free))

  pub applies_created : Applies (create_ops (base36 tables.next) name (tables.next + 1)) nodes
  applies_created = record { applies = at (nat_lt (reading.next.node.version + 1) (2 ^ 63)) refl }
    where
      at : (b : Bool) → nat_lt (reading.next.node.version + 1) (2 ^ 63) ≡ b → MatchResult (multi_applied (create_ops (base36 tables.next) name (tables.next + 1)) nodes) (λ after. ⊤) (λ stop. stop ≡ Stopped Full)
      at true lt = subst (λ r. MatchResult r (λ after. ⊤) (λ stop. stop ≡ Stopped Full)) (sym (creates true lt)) tt
      at false lt = subst (λ r. MatchResult r (λ after. ⊤) (λ stop. stop ≡ Stopped Full)) (sym (creates false lt)) refl

  -- whatever the changes make says the tables with one more
  pub reading_created : (result : Nodes) → IsWordName name → tables.next + 1 < 2 ^ 63 → multi_applied (create_ops (base36 tables.next) name (tables.next + 1)) nodes ≡ Ok result → IsReading result (created name tables)
  reading_created result form below is = at (nat_lt (reading.next.node.version + 1) (2 ^ 63)) refl
    where
      at : (b : Bool) → nat_lt (reading.next.node.version + 1) (2 ^ 63) ≡ b → IsReading result (created name tables)
      at true lt = subst (λ n. IsReading n (created name tables)) (same_Ok _ _ (sym (creates true lt) ∙ is)) (reading_made reading.next.node form below)
      at false lt = absurd (not_Ok _ _ (sym (creates false lt) ∙ is))
