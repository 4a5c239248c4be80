-- The last call of the host.
use Rattle.std.proofs.Common.{◌≡◌, ◌⊎◌, inl, inr, ℕ, List, [], length, Result, Ok, Err, IfErr, sym, ap, subst, arith}
use Rattle.host_model.specs.State.{HostState}
use Rattle.host_model.specs.Kinds.{IsOfScript}
use Rattle.host_model.specs.declared.fault.Stop.{Stop}
use Rattle.host_model.specs.declared.fault.Stop.TheVariants.{Full, NoMemory}
use Rattle.script_source.specs.Hearing.{HeardLast, HearingStops}
use Rattle.shell.specs.LineServed.{IsReplyStop}

-- behind a hearing the last call heard or said
pub heard_call : {H : Type 0} (state : H → HostState) (held : List ℕ) (old new : H) → (held ≡ []) ⊎ IsOfScript (state old).last → HeardLast held (state new).last old new → IsOfScript (state new).last
heard_call state held old new before (inl heard) = subst IsOfScript (sym heard) tt
heard_call state held old new (inl none) (inr same) = absurd (omega (arith, same.0, ap length none))
heard_call state held old new (inr is) (inr same) = subst (λ h. IsOfScript (state h).last) (sym same.1) is

-- want of room comes of a line that makes a table alone
pub not_full : ◌≡◌ {A = Stop} NoMemory Full → ⊥
not_full is = cc

pub hears_in_room : (stop : Stop) (a b : HostState) → HearingStops stop a b → stop ≡ Full → ⊥
hears_in_room stop a b why is = subst (λ (s : Stop). HearingStops s a b) is why

pub refuses_in_room : {T : Type 0} (result : Result T Stop) (P : Type 0) → IfErr result IsReplyStop → IfErr result (λ stop. stop ≡ Full → P)
refuses_in_room (Ok ending) P why = tt
refuses_in_room (Err stop) P why = λ is. absurd (subst IsReplyStop is why)
