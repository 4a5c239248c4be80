use Rattle.std.proofs.Common.{◌≡◌, ℕ, codes, length, ◌∷◌, refl, ap, arith, lit≤}
use Rattle.std.specs.Fmt.{digits}
use Rattle.store_layout.proofs.laws.tables_are_spelled_so.Goals as goal

pub returns : goal.returns
unfolding digits
returns c = record {
  empty_text = refl;
  lone_dash = refl;
  with_space = refl;
  online = refl;
  merging = refl;
  importing = refl;
  staged = record {
    text = codes "0000002";
    drawn = record {
      form = record { least = lit≤ tt; most = lit≤ tt; each = refl };
      plain = λ rest e. (let lengths : 7 ≡ length (48 ∷ rest) = ap (length {A = ℕ}) e in omega (arith, lengths));
    };
    is = refl;
  };
}
