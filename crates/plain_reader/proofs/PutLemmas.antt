-- Cells put into a table one after another.
use Rattle.std.proofs.Common.{◌≡◌, ◌≢◌, ℕ, List, [], ◌∷◌, ◌++◌, Bool, true, false, cond, ◌+◌, ◌<◌, length, take, get_or, is_some, IsSome, Option, Some, None, Ok, Err, refl, sym, ◌∙◌, ap, subst}
use Rattle.std.specs.FinMap as map
use Rattle.std.specs.Option.{option_map_or}
use Rattle.std.specs.Ordering.{eq_by_cmp}
use Rattle.std.specs.Cmp.{eq_by_cmp_equiv as same_equiv}
use Rattle.std.specs.Cmp.Lexicographic.{nat_list_cmp_total}
use Rattle.std.proofs.lemmas.Option.{same_Some}
use Rattle.std.proofs.lemmas.Map.Lookups.{exact_bytes}
use Rattle.std.proofs.lemmas.Bool.{false≢true}
use Rattle.std.proofs.lemmas.List.{append-nil}
use Rattle.std.proofs.lemmas.Map.Views.{tells_apart}
use Rattle.row_keys.specs.declared.key.Key.{Key}
use Rattle.row_keys.specs.RowOrder.{bytes_cmp}
use Rattle.plain_model.specs.State.{Table, PlainState}
use Rattle.plain_model.specs.declared.stop.PlainStop.TheVariants.{NoTable}
use Rattle.plain_model.specs.Apply.{apply, put_table}
use Rattle.plain_model.proofs.LawsLemmas.{same_Ok}
use Rattle.plain_model.proofs.KeyOrder.{key_total}
use Rattle.cell_merge.specs.declared.cell.Cell.{Cell}
use Rattle.cell_merge.specs.Newest.{is_same_key, later, latest, IsMerged, HaveRisingKeys, joined}
use Rattle.cell_merge.specs.Changes.{overlaid}
use Rattle.cell_merge.proofs.KeyLemmas.{same_key-true}
use Rattle.cell_merge.proofs.LatestLemmas.{IsAnswer, latest_is}
use Rattle.cell_merge.proofs.MergedLemmas.{latest-kept}
use Rattle.cell_merge.proofs.RisingLemmas.{above_head, rising_tail}
use Rattle.cell_merge.proofs.KeyLemmas.{key_cmp-irreflexive}
use Rattle.store_meaning.specs.Marked.{layered}
use Rattle.state_reader.proofs.RowLists.{one_more}
use Rattle.plain_reader.specs.Puts.{value_op, put_over, put_each, PutsOver}

-- ---- one after another

pub put_each-push : (cells : List Cell) (cell : Cell) (key : Key) (below : Option (List ℕ)) → put_each (cells ++ cell ∷ []) key below ≡ cond (is_same_key cell.key key) cell.value (put_each cells key below)
put_each-push [] cell key below = refl
put_each-push (c ∷ cells) cell key below = put_each-push cells cell key (cond (is_same_key c.key key) c.value below)

-- cells above a key have none of it
none_above : (c : Cell) (cells : List Cell) (key : Key) → HaveRisingKeys (c ∷ cells) → c.key ≡ key → latest cells key ≡ None
none_above c cells key up here = by (latest cells key) (latest_is cells key)
  where
    by : (o : Option Cell) → IsAnswer cells key o → o ≡ None
    by None is = refl
    by (Some d) is = absurd (key_cmp-irreflexive c.key d.key (above_head (λ (x : Cell). x.key) c d cells up is.there) (here ∙ sym is.at))

-- cells whose keys rise are put over a key at once
pub put_each-rising : (cells : List Cell) (key : Key) (below : Option (List ℕ)) → HaveRisingKeys cells → put_each cells key below ≡ put_over cells key below
put_each-rising [] key below up = refl
put_each-rising (c ∷ cells) key below up = by (λ b. put_each-rising cells key b (rising_tail (λ (x : Cell). x.key) c cells up)) (is_same_key c.key key) refl
  where
    by : ((b : Option (List ℕ)) → put_each cells key b ≡ overlaid (latest cells key) b) → (b : Bool) → is_same_key c.key key ≡ b → put_each cells key (cond b c.value below) ≡ overlaid (later (cond b (Some c) None) (latest cells key)) below
    by rest false e = rest below
    by rest true e =
        let none = none_above c cells key up (same_key-true c.key key e) in
        rest c.value ∙ ap (λ x. overlaid x c.value) none ∙ ap (λ x. overlaid (later (Some c) x) below) (sym none)

pub put_merged : (cells merged : List Cell) (key : Key) (below : Option (List ℕ)) → IsMerged (joined (cells ∷ [])) true merged → put_each merged key below ≡ put_over cells key below
put_merged cells merged key below m =
    put_each-rising merged key below m.rising ∙ ap (λ o. overlaid o below) (latest-kept (joined (cells ∷ [])) merged key m) ∙ ap (λ l. overlaid (latest l key) below) (append-nil cells)

-- ---- layers

pub layered-push : (layers : List (List Cell)) (cells : List Cell) (key : Key) (below : Option (List ℕ)) → layered (layers ++ cells ∷ []) key below ≡ put_over cells key (layered layers key below)
layered-push [] cells key below = refl
layered-push (layer ∷ layers) cells key below = layered-push layers cells key (overlaid (latest layer key) below)

-- ---- states

same_id : (id : List ℕ) → eq_by_cmp bytes_cmp id id ≡ true
same_id id = (same_equiv nat_list_cmp_total).refl id

module _ (id : List ℕ) (table : Table) (s : PlainState) where
  pub put-there : map.get (put_table id table s).tables id ≡ Some table
  put-there = map.get-insert nat_list_cmp_total s.tables id table id ∙ ap (λ b. cond b (Some table) (map.get s.tables id)) (same_id id)

  pub put-other : (other : List ℕ) → other ≢ id → map.get (put_table id table s).tables other ≡ map.get s.tables other
  put-other other apart = map.get-insert nat_list_cmp_total s.tables id table other ∙ by (eq_by_cmp bytes_cmp other id) refl
    where
      by : (b : Bool) → eq_by_cmp bytes_cmp other id ≡ b → cond b (Some table) (map.get s.tables other) ≡ map.get s.tables other
      by true e = absurd (apart (tells_apart exact_bytes other id e))
      by false e = refl

-- nothing is put yet
pub puts_nothing : (id : List ℕ) (s : PlainState) (table : Table) → map.get s.tables id ≡ Some table → PutsOver id (λ key below. below) s s
puts_nothing id s table there = record { table = table; there = there; changed = table; is = there; name = refl; points = refl; pairs = λ key. refl; others = λ other apart. refl; staged = refl }

-- the same over each key
pub puts_same : (id : List ℕ) (one other : Key → Option (List ℕ) → Option (List ℕ)) (old new : PlainState) → ((key : Key) (below : Option (List ℕ)) → one key below ≡ other key below) → PutsOver id one old new → PutsOver id other old new
puts_same id one other old new same puts = record {
  table = puts.table;
  there = puts.there;
  changed = puts.changed;
  is = puts.is;
  name = puts.name;
  points = puts.points;
  pairs = λ key. puts.pairs key ∙ same key (map.get puts.table.pairs key);
  others = puts.others;
  staged = puts.staged;
}

-- one after the other
pub puts_both : (id : List ℕ) (one other : Key → Option (List ℕ) → Option (List ℕ)) (old mid new : PlainState) → PutsOver id one old mid → PutsOver id other mid new → PutsOver id (λ key below. other key (one key below)) old new
puts_both id one other old mid new p q =
    let same : p.changed ≡ q.table = same_Some p.changed q.table (sym p.is ∙ q.there) in
    record {
      table = p.table;
      there = p.there;
      changed = q.changed;
      is = q.is;
      name = q.name ∙ ap (λ (t : Table). t.name) (sym same) ∙ p.name;
      points = q.points ∙ ap (λ (t : Table). t.points) (sym same) ∙ p.points;
      pairs = λ key. q.pairs key ∙ ap (λ (t : Table). other key (map.get t.pairs key)) (sym same) ∙ ap (other key) (p.pairs key);
      others = λ id apart. q.others id apart ∙ p.others id apart;
      staged = q.staged ∙ p.staged;
    }

-- ---- one cell

-- the table with this value at the key, or none
abbrev with_value : Key → Option (List ℕ) → Table → Table
with_value key (Some value) table = record table { pairs = map.insert table.pairs key value }
with_value key None table = record table { pairs = map.remove table.pairs key }

value_at : (table : Table) (key : Key) (value : Option (List ℕ)) (q : Key) → map.get (with_value key value table).pairs q ≡ cond (is_same_key key q) value (map.get table.pairs q)
value_at table key (Some v) q = map.get-insert key_total table.pairs key v q ∙ ap (λ b. cond b (Some v) (map.get table.pairs q)) ((same_equiv key_total).symm q key)
value_at table key None q = map.get-remove key_total table.pairs key q ∙ ap (λ b. cond b None (map.get table.pairs q)) ((same_equiv key_total).symm q key)

keeps : (key : Key) (value : Option (List ℕ)) (table : Table) → ((with_value key value table).name ≡ table.name) × ((with_value key value table).points ≡ table.points)
keeps key (Some v) table = (refl, refl)
keeps key None table = (refl, refl)

applied : (id : List ℕ) (key : Key) (value : Option (List ℕ)) (s : PlainState) (table : Table) → map.get s.tables id ≡ Some table → apply (value_op id key value) s ≡ Ok (put_table id (with_value key value table) s)
applied id key (Some v) s table there = ap (λ o. option_map_or (λ t. Ok (put_table id (with_value key (Some v) t) s)) o (Err NoTable)) there
applied id key None s table there = ap (λ o. option_map_or (λ t. Ok (put_table id (with_value key None t) s)) o (Err NoTable)) there

pub puts_value : (id : List ℕ) (cell : Cell) (old new : PlainState) (table : Table) → map.get old.tables id ≡ Some table → apply (value_op id cell.key cell.value) old ≡ Ok new → PutsOver id (λ key below. cond (is_same_key cell.key key) cell.value below) old new
puts_value id cell old new table there done =
    let changed = with_value cell.key cell.value table in
    let is : put_table id changed old ≡ new = same_Ok (put_table id changed old) new (sym (applied id cell.key cell.value old table there) ∙ done) in
    let kept = keeps cell.key cell.value table in
    record {
      table = table;
      there = there;
      changed = changed;
      is = ap (λ (s : PlainState). map.get s.tables id) (sym is) ∙ put-there id changed old;
      name = kept.0;
      points = kept.1;
      pairs = λ key. value_at table cell.key cell.value key;
      others = λ other apart. ap (λ (s : PlainState). map.get s.tables other) (sym is) ∙ put-other id changed old other apart;
      staged = ap (λ (s : PlainState). s.staged) (sym is);
    }

-- ---- lists of cells and of layers

-- what is over nothing has put nothing
pub puts_begun : (id : List ℕ) (over : Key → Option (List ℕ) → Option (List ℕ)) (s : PlainState) → ((key : Key) (below : Option (List ℕ)) → over key below ≡ below) → IsSome (map.get s.tables id) → PutsOver id over s s
puts_begun id over s none some = by (map.get s.tables id) refl some
  where
    by : (o : Option Table) → map.get s.tables id ≡ o → IsSome o → PutsOver id over s s
    by None e is = absurd (false≢true is)
    by (Some table) e is = puts_same id (λ key below. below) over s s (λ key below. sym (none key below)) (puts_nothing id s table e)

-- the table is still there
pub puts_there : (id : List ℕ) (over : Key → Option (List ℕ) → Option (List ℕ)) (old new : PlainState) → PutsOver id over old new → IsSome (map.get new.tables id)
puts_there id over old new puts = ap is_some puts.is

-- one cell more
pub puts_cell : (id : List ℕ) (cells : List Cell) (i : ℕ) (cell : Cell) (old mid new : PlainState) → i < length cells → cell ≡ get_or cells i cell → PutsOver id (put_each (take i cells)) old mid → apply (value_op id cell.key cell.value) mid ≡ Ok new
    → PutsOver id (put_each (take (i + 1) cells)) old new
puts_cell id cells i cell old mid new lt at first done =
    let second = puts_value id cell mid new first.changed first.is done in
    let all = puts_both id (put_each (take i cells)) (λ key below. cond (is_same_key cell.key key) cell.value below) old mid new first second in
    puts_same id _ (put_each (take (i + 1) cells)) old new
    (λ key below. sym (put_each-push (take i cells) cell key below) ∙ ap (λ (l : List Cell). put_each l key below) (sym (one_more cells i cell lt at))) all

-- all cells that are merged
pub puts_merged : (id : List ℕ) (cells merged : List Cell) (sources : List (List Cell)) (old new : PlainState) → sources ≡ cells ∷ [] → IsMerged (joined sources) true merged → PutsOver id (put_each merged) old new → PutsOver id (put_over cells) old new
puts_merged id cells merged sources old new are is puts =
    puts_same id (put_each merged) (put_over cells) old new (λ key below. put_merged cells merged key below (subst (λ (l : List (List Cell)). IsMerged (joined l) true merged) are is)) puts

-- one layer more
pub puts_layer : (id : List ℕ) (layers : List (List Cell)) (i : ℕ) (cells : List Cell) (old mid new : PlainState) → i < length layers → cells ≡ get_or layers i cells → PutsOver id (layered (take i layers)) old mid → PutsOver id (put_over cells) mid new
    → PutsOver id (layered (take (i + 1) layers)) old new
puts_layer id layers i cells old mid new lt at first second =
    let all = puts_both id (layered (take i layers)) (put_over cells) old mid new first second in
    puts_same id _ (layered (take (i + 1) layers)) old new
    (λ key below. sym (layered-push (take i layers) cells key below) ∙ ap (λ (l : List (List Cell)). layered l key below) (sym (one_more layers i cells lt at))) all
