-- What single calls of the host do, said of whole images.
use Rattle.std.proofs.Common.{◌≡◌, ℕ, List, Option, None, Result, Ok, Err, refl, sym, subst}
use Rattle.host_model.specs.Picture.{ChangesFile, Becomes, MayBecome}
use Rattle.host_model.specs.State.{HostState}
use Rattle.host_model.specs.Calls.{IsSound, Replaces}
use Rattle.host_model.specs.declared.call.HostCall.{HostCall}
use Rattle.host_model.specs.Stores.{Stores}
use Rattle.host_model.specs.Alters.{Alters}
use Rattle.host_model.specs.declared.fault.HostFault.{HostFault}
use Rattle.host_model.proofs.Images.{change_weaker}
use Rattle.host_model.proofs.StoresLemmas.{replaced, stores_nothing, stores_ok, stores_failed}
use Rattle.host_model.proofs.AltersLemmas.{alters_of}
use Rattle.store_layout.specs.Names.{IsFile}

abbrev Step : Type 1
Step = Option (List ℕ) → Option (List ℕ) → Type 0

-- a durable change of one file, whatever it is said to be
pub alters_file : {name : List ℕ} {D1 A1 : Step} (D A : Step) {T E : Type 0} {result : Result T E} {a b : HostState} → IsSound a → Stores name D1 A1 result a b
    → ((x y : Option (List ℕ)) → D1 x y → D x y) → ((x y : Option (List ℕ)) → A1 x y → A x y)
    → Alters (IsFile name) (ChangesFile name D) (ChangesFile name A) result a b
alters_file {name} D A sound stores early late = alters_of (IsFile name) (ChangesFile name D) (ChangesFile name A) sound stores refl (λ q is. is) (λ d p at change. change_weaker D change early) (λ d p at change. change_weaker A change late)

-- a call that did nothing
pub alters_nothing : (name : List ℕ) (D A : Step) {T E : Type 0} (result : Result T E) (fault : E) (state : HostState) → result ≡ Err fault → IsSound state → ((x : Option (List ℕ)) → D x x) → Alters (IsFile name) (ChangesFile name D) (ChangesFile name A) result state state
alters_nothing name D A {T} {E} result fault state is sound stays =
    subst (λ r. Alters (IsFile name) (ChangesFile name D) (ChangesFile name A) {T = T} {E = E} r state state) (sym is) (alters_file D A sound (stores_nothing name D A fault state sound (λ f. stays _)) (λ x y d. d) (λ x y a. a))

-- the same at a name that is spelled otherwise
pub stores_renamed : {one other : List ℕ} {D A : Step} {T E : Type 0} {result : Result T E} {a b : HostState} → one ≡ other → Stores one D A result a b → Stores other D A result a b
stores_renamed {D = D} {A} {result = result} {a} {b} same stores = subst (λ n. Stores n D A result a b) same stores

-- a file that is taken out
pub alters_taken : {kind : HostCall} {name : List ℕ} {T U E : Type 0} {u : T} (v : U) {a b : HostState} → IsSound a → Replaces kind name None {T = T} (Ok u) a b → Alters (IsFile name) (ChangesFile name (MayBecome None)) (ChangesFile name (Becomes None)) {T = U} {E = E} (Ok v) a b
alters_taken {E = E} v sound call = alters_file (MayBecome None) (Becomes None) sound (stores_ok E v (replaced sound call)) (λ x y d. d) (λ x y a. a)

pub alters_untaken : {kind : HostCall} {name : List ℕ} {T U E : Type 0} {fault : HostFault} (answer : E) {a b : HostState} → IsSound a → Replaces kind name None {T = T} (Err fault) a b → Alters (IsFile name) (ChangesFile name (MayBecome None)) (ChangesFile name (Becomes None)) {T = U} {E = E} (Err answer) a b
alters_untaken answer sound call = alters_file (MayBecome None) (Becomes None) sound (stores_failed (MayBecome None) (Becomes None) answer (replaced sound call) (λ x y d. d)) (λ x y d. d) (λ x y a. a)
