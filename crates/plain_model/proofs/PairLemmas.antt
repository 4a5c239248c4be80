-- Pairs that are put one after another.
use Rattle.std.proofs.Common.{◌≡◌, ℕ, Bool, true, false, cond, ◌&&◌, ◌+◌, ◌<◌, add-one, length, get_or, drop, drop-cons, List, [], ◌∷◌, ◌++◌, map as mapped, Option, Some, None, Result, Ok, Err, subst, Less, Equal, Greater, refl, sym, ◌∙◌, ap}
use Rattle.std.specs.List.{list_all}
use Rattle.std.specs.Option.{option_map_or, is_some}
use Rattle.std.specs.Ordering.{match_ordering, eq_by_cmp}
use Rattle.std.specs.BTreeMap.{insert_entry}
use Rattle.std.specs.FinMap as map
use Rattle.std.specs.FinMap.{FinMap, find, is_sorted, same_map, entries_sorted, entries-insert, get-entries, get-insert, get-empty}
use Rattle.std.specs.FinMap.Entries.{put, by_order}
use Rattle.std.proofs.lemmas.Bool.{false≢true}
use Rattle.row_keys.specs.declared.key.Key.{Key}
use Rattle.row_keys.specs.Keys.{key_cmp}
use Rattle.row_keys.specs.RowOrder.{bytes_cmp}
use Rattle.plain_model.specs.State.{PairMap}
use Rattle.plain_model.specs.Apply.{put_all, put_files, entries_of}
use Rattle.plain_model.specs.Listed.{listed, pair_item}
use Rattle.plain_model.specs.declared.operation.Pair.{Pair}
use Rattle.plain_model.specs.declared.stop.PlainStop.{PlainStop}
use Rattle.plain_model.specs.declared.stop.PlainStop.TheVariants.{NoStaged, NoMemory}
use Rattle.plain_model.specs.Edits.{GivesPairs}
use Rattle.std.specs.Result.{IsErrAnd}
use lib.Dec.{T}
use Rattle.plain_model.proofs.InOrder.{first, second, equal, find_above}
use Rattle.plain_model.proofs.KeyOrder.{key_total, key_exact}

pub put_all-push : (es : List (Key × List ℕ)) (e : Key × List ℕ) (m : PairMap) → put_all (es ++ e ∷ []) m ≡ map.insert (put_all es m) e.0 e.1
put_all-push [] e m = refl
put_all-push (first ∷ es) e m = put_all-push es e (map.insert m first.0 first.1)

abbrev or_else : Option (List ℕ) → Option (List ℕ) → Option (List ℕ)
or_else None other = other
or_else (Some v) other = Some v

insert_entry-put : (es : List (Key × List ℕ)) (k : Key) (v : List ℕ) → insert_entry key_cmp es k v ≡ put key_cmp k v es
insert_entry-put [] k v = refl
insert_entry-put (e ∷ es) k v =
    elim (key_cmp k e.0) as (λ r. match_ordering r ((k, v) ∷ e ∷ es) ((e.0, v) ∷ es) (e ∷ insert_entry key_cmp es k v) ≡ by_order r ((k, v) ∷ e ∷ es) ((e.0, v) ∷ es) (e ∷ put key_cmp k v es)) [
      | Less ↦ refl
      | Equal ↦ refl
      | Greater ↦ ap (λ fs. e ∷ fs) (insert_entry-put es k v)
    ]

-- one pair more in a map of the program
pub insert_entry-entries : (m : PairMap) (k : Key) (v : List ℕ) → insert_entry key_cmp (map.entries m) k v ≡ map.entries (map.insert m k v)
insert_entry-entries m k v = insert_entry-put (map.entries m) k v ∙ sym (entries-insert key_total m k v)

pub entries_of-push : (pairs : List Pair) (pair : Pair) → entries_of (pairs ++ pair ∷ []) ≡ entries_of pairs ++ (pair.key, pair.value) ∷ []
entries_of-push [] pair = refl
entries_of-push (first ∷ pairs) pair = ap (λ es. (first.key, first.value) ∷ es) (entries_of-push pairs pair)

entries_of-items : (es : List (Key × List ℕ)) → entries_of (mapped pair_item es) ≡ es
entries_of-items [] = refl
entries_of-items (e ∷ es) = ap (λ fs. e ∷ fs) (entries_of-items es)

pub entries_of-listed : (m : PairMap) → entries_of (listed pair_item m) ≡ map.entries m
entries_of-listed m = entries_of-items (map.entries m)

-- ---- staged files that are put one after another

not_Some : {V : Type 0} (v : V) → ◌≡◌ {A = Option V} None (Some v) → ⊥
not_Some v is = cc

module _ (staged : FinMap bytes_cmp PairMap) (names : List (List ℕ)) (i : ℕ) (name : List ℕ) (now next : PairMap) (within : i < length names) (is : name ≡ get_or names i name) (left : put_files (drop i names) staged now ≡ Some next) where
  one_more : option_map_or (λ file. put_files (drop (i + 1) names) staged (put_all (map.entries file) now)) (map.get staged name) None ≡ Some next
  one_more =
      ap (λ rest. put_files rest staged now) (ap (λ n. n ∷ drop (i + 1) names) is ∙ ap (λ j. get_or names i name ∷ drop j names) (add-one i) ∙ sym (drop-cons names i name within))
      ∙ left

  pub put_files-found : (file : PairMap) → map.get staged name ≡ Some file → put_files (drop (i + 1) names) staged (put_all (map.entries file) now) ≡ Some next
  put_files-found file found = sym (ap (λ o. option_map_or (λ f. put_files (drop (i + 1) names) staged (put_all (map.entries f) now)) o None) found) ∙ one_more

  pub put_files-missing : {P : Type 0} → map.get staged name ≡ None → P
  put_files-missing missing = absurd (not_Some next (sym (ap (λ o. option_map_or (λ f. put_files (drop (i + 1) names) staged (put_all (map.entries f) now)) o None) missing) ∙ one_more))

is_some-put_files : (staged : FinMap bytes_cmp PairMap) (names : List (List ℕ)) (m : PairMap) → is_some (put_files names staged m) ≡ list_all (map.contains_key staged) names
is_some-put_files staged [] m = refl
is_some-put_files staged (name ∷ names) m = at (λ next. is_some-put_files staged names next) (map.get staged name)
  where
    at : ((next : PairMap) → is_some (put_files names staged next) ≡ list_all (map.contains_key staged) names) → (o : Option PairMap) → is_some (option_map_or (λ file. put_files names staged (put_all (map.entries file) m)) o None) ≡ (is_some o && list_all (map.contains_key staged) names)
    at later None = refl
    at later (Some file) = later (put_all (map.entries file) m)

-- a name isn't staged
pub put_files-none : (staged : FinMap bytes_cmp PairMap) (names : List (List ℕ)) (m : PairMap) → list_all (map.contains_key staged) names ≡ false → put_files names staged m ≡ None
put_files-none staged names m not_all = at (put_files names staged m) (is_some-put_files staged names m ∙ not_all)
  where
    at : (o : Option PairMap) → is_some o ≡ false → o ≡ None
    at None none = refl
    at (Some next) some = absurd (false≢true (sym some))

-- all names are staged
pub put_files-some : (staged : FinMap bytes_cmp PairMap) (names : List (List ℕ)) (m : PairMap) → list_all (map.contains_key staged) names ≡ true → (next : PairMap) × (put_files names staged m ≡ Some next)
put_files-some staged names m all = at (put_files names staged m) (is_some-put_files staged names m ∙ all)
  where
    at : (o : Option PairMap) → is_some o ≡ true → (next : PairMap) × (o ≡ Some next)
    at None none = absurd (false≢true none)
    at (Some next) some = (next, refl)

-- ---- a map's own pairs

-- pairs in order are found as they are put
get-put_all : (es : List (Key × List ℕ)) (m : PairMap) (q : Key) → T (is_sorted key_cmp es) → map.get (put_all es m) q ≡ or_else (find key_cmp q es) (map.get m q)
get-put_all [] m q sorted = refl
get-put_all (e ∷ es) m q sorted =
    get-put_all es (map.insert m e.0 e.1) q (second _ _ sorted) ∙ ap (or_else (find key_cmp q es)) (get-insert key_total m e.0 e.1 q) ∙ at (eq_by_cmp key_cmp q e.0) refl
  where
    at : (b : Bool) → eq_by_cmp key_cmp q e.0 ≡ b → or_else (find key_cmp q es) (cond b (Some e.1) (map.get m q)) ≡ or_else (cond b (Some e.1) (find key_cmp q es)) (map.get m q)
    at true same = ap (λ o. or_else o (Some e.1)) (find_above key_cmp key_total q e.0 es (equal (key_cmp q e.0) same) (first _ _ sorted))
    at false apart = refl

or_none : (o : Option (List ℕ)) → or_else o None ≡ o
or_none None = refl
or_none (Some v) = refl

pub put_all-entries : (m : PairMap) → put_all (map.entries m) map.empty ≡ m
put_all-entries m = same_map key_total key_exact (put_all (map.entries m) map.empty) m (λ q.
    get-put_all (map.entries m) map.empty q (entries_sorted m) ∙ ap (or_else (find key_cmp q (map.entries m))) (get-empty key_cmp q)
    ∙ or_none (find key_cmp q (map.entries m)) ∙ sym (get-entries m q))

-- ---- what is answered

pub gives_none : (o : Option PairMap) → o ≡ None → GivesPairs o (Err NoStaged)
gives_none o none = subst (λ p. GivesPairs p (Err NoStaged)) (sym none) refl

pub gives_ok : (o : Option PairMap) (next : PairMap) (pairs : List Pair) → o ≡ Some next → pairs ≡ listed pair_item next → GivesPairs o (Ok pairs)
gives_ok o next pairs some is = subst (λ p. GivesPairs p (Ok pairs)) (sym some) is

pub gives_err : (o : Option PairMap) (next : PairMap) (answer : Result (List Pair) PlainStop) → o ≡ Some next → IsErrAnd answer (λ stop. stop ≡ NoMemory) → GivesPairs o answer
gives_err o next (Ok pairs) some never = absurd never
gives_err o next (Err stop) some is = subst (λ p. GivesPairs p (Err stop)) (sym some) is

not_err : {T : Type 0} (v : T) (stop : PlainStop) → ◌≡◌ {A = Result T PlainStop} (Ok v) (Err stop) → ⊥
not_err v stop is = cc

pub given : (o : Option PairMap) (pairs : List Pair) → GivesPairs o (Ok pairs) → (next : PairMap) × (o ≡ Some next) × (pairs ≡ listed pair_item next)
given None pairs gives = absurd (not_err pairs NoStaged gives)
given (Some next) pairs gives = (next, refl, gives)
