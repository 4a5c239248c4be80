-- The removal of the small store's pair meets what is asked of cells that are put.
use Rattle.std.proofs.Common.{◌≡◌, ℕ, false, codes, List, [], ◌∷◌, Contains, Option, Some, refl, sym, ap, subst, arith}
use Rattle.std.specs.FinMap as map_of
use Rattle.std.proofs.lemmas.Option.{same_Some}
use Rattle.plain_model.proofs.LawsLemmas.{get_own}
use Rattle.cell_merge.specs.declared.cell.Cell.{Cell}
use Rattle.level_rows.proofs.Membership.{Contains-here, Contains-there}
use Rattle.store_layout.specs.declared.tables.TableNode.{TableNode}
use Rattle.store_meaning.specs.Marked.{is_lacking}
use Rattle.store_meaning.specs.Writes.{IsPast}
use Rattle.store_meaning.specs.ChainWrites.{PutsCells}
use Rattle.store_meaning.specs.Example.{ground_of_example, reading, catalog, log, low, high, key, node, table, state}
use Rattle.store_meaning.proofs.ExampleUse.{lone, none_sorted}
use Rattle.store_meaning.proofs.NewState.{first_byte}
use Rattle.kept_meaning.specs.Puts.{PutsPairs}
use Rattle.kept_meaning.specs.Example.{removal}

-- the one cell that is there
abbrev cell : Cell
cell = record { key = key; time = 1; value = Some (codes "v") }

later : (cells : List Cell) → ◌≡◌ {A = Option (List Cell)} (Some (cell ∷ [])) (Some cells) → IsPast cells removal
later cells told = record {
  later = λ other there row.
      let one : cell ≡ other = lone cell other (subst (λ l. Contains l other) (sym (same_Some (cell ∷ []) cells told)) there) in
      let time : 1 ≡ other.time = ap (λ (c : Cell). c.time) one in
      omega (arith, time);
}

puts_cells : PutsCells ground_of_example reading log removal (high ∷ low ∷ [])
puts_cells = record {
  user = λ e. (let at : ◌≡◌ {A = ℕ} 49 33 = ap first_byte e in omega (arith, at));
  not_root = λ e. (let at : ◌≡◌ {A = ℕ} 49 43 = ap first_byte e in omega (arith, at));
  is_chain = (refl, refl, (tt, (refl, refl, refl)));
  stands = record {
    holder = low;
    there = Contains-there high low (low ∷ []) (Contains-here low []);
    named = Contains-here log [];
    counts = refl;
    past = λ cells told. later cells told;
  };
  order = refl;
}

unmarked : (found : TableNode) → ◌≡◌ {A = Option TableNode} (Some node) (Some found) → is_lacking found.mark low ≡ false
unmarked found e = subst (λ (n : TableNode). is_lacking n.mark low ≡ false) (same_Some node found e) refl

pub puts_pairs : PutsPairs ground_of_example reading catalog log removal (high ∷ low ∷ [])
unfolding puts_cells
puts_pairs = record { puts = puts_cells; unsorted = none_sorted log; loaded = λ found there. unmarked found there }

pub table_there : map_of.get state.tables (codes "1") ≡ Some table
table_there = get_own map_of.empty (codes "1") table
