use Rattle.std.proofs.Common.{refl, sym, subst}
use Rattle.std.specs.Prelude.{IsOk}
use Rattle.store_layout.proofs.FirstLemmas.{first_applied}
use Rattle.store_layout.proofs.RoomLemmas.{first_short}
use Rattle.store_layout.proofs.SizeLemmas.{first_size}
use Rattle.store_layout.proofs.first_nodes.a_new_store_begins.Goals as goal

pub returns : goal.returns
returns c = record { applies = subst (λ r. IsOk r) (sym first_applied) refl; short = first_short; size = first_size }
