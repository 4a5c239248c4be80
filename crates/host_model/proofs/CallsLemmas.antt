-- How the clauses of one call follow those of another.
use Rattle.std.proofs.Common.{Option, Some, None, List, ℕ, length, take, ap, Result, Ok, Err, OnOk, ◌≡◌, ◌∙◌, sym, subst, refl, arith, IsTrue}
use Rattle.std.proofs.lemmas.Result.{IfErr-weaker}
use Rattle.std.specs.Option.{option_map}
use Rattle.std.proofs.lemmas.Option.{same_Some}
use Rattle.std.proofs.lemmas.List.{take_all}
use Rattle.host_model.specs.Picture.{Image, Same, file_at}
use Rattle.host_model.proofs.MovesLemmas.{started, goes_on}
use Rattle.host_model.specs.State.{Faults, HostState}
use Rattle.host_model.specs.Calls.{NoneFalls, Counted, Faulted, Keeps, IsQuiet, HasCause, Looks, Asks, IsPart}
use Rattle.host_model.specs.declared.call.HostCall.{HostCall}
use Rattle.host_model.specs.declared.fault.HostFault.{HostFault}
use Rattle.host_model.specs.declared.fault.HostFault.TheVariants.{Disk, Source, Sink, Memory}

pub none_falls-refl : (a : Faults) → NoneFalls a a
none_falls-refl a = record { disk = omega arith; source = omega arith; sink = omega arith; memory = omega arith }

pub none_falls-then : {a b c : Faults} → NoneFalls a b → NoneFalls b c → NoneFalls a c
none_falls-then one two = record {
  disk = omega (arith, one.disk, two.disk);
  source = omega (arith, one.source, two.source);
  sink = omega (arith, one.sink, two.sink);
  memory = omega (arith, one.memory, two.memory);
}

pub counted-then : (fault : HostFault) (a b c : Faults) → NoneFalls a b → Counted fault b c → Counted fault a c
counted-then Disk a b c falls rose = omega (arith, falls.disk, rose)
counted-then Source a b c falls rose = omega (arith, falls.source, rose)
counted-then Sink a b c falls rose = omega (arith, falls.sink, rose)
counted-then Memory a b c falls rose = omega (arith, falls.memory, rose)

-- a fault of a later part is one of the whole
pub faulted-then : {fault : HostFault} {a b c : HostState} → Keeps a b → Faulted fault b c → Faulted fault a c
faulted-then {fault = fault} {a = a} {b = b} {c = c} keeps faulted = record { counted = counted-then fault a.faults b.faults c.faults keeps.counts faulted.counted; last = faulted.last }

pub keeps-refl : (s : HostState) → Keeps s s
keeps-refl s = record { faithful = refl; honest = refl; counts = none_falls-refl s.faults }

pub keeps-then : {a b c : HostState} → Keeps a b → Keeps b c → Keeps a c
keeps-then one two = record {
  faithful = two.faithful ∙ one.faithful;
  honest = two.honest ∙ one.honest;
  counts = none_falls-then one.counts two.counts;
}

-- a host stays faithful, and stays honest
pub still_faithful : {a b : HostState} → Keeps a b → IsTrue a.is_faithful → IsTrue b.is_faithful
still_faithful keeps is = subst (λ t. IsTrue t) (sym keeps.faithful) is

pub still_honest : {a b : HostState} → Keeps a b → IsTrue a.is_honest → IsTrue b.is_honest
still_honest keeps is = subst (λ t. IsTrue t) (sym keeps.honest) is

pub was_faithful : {a b : HostState} → Keeps a b → IsTrue b.is_faithful → IsTrue a.is_faithful
was_faithful keeps is = subst (λ t. IsTrue t) keeps.faithful is

pub was_honest : {a b : HostState} → Keeps a b → IsTrue b.is_honest → IsTrue a.is_honest
was_honest keeps is = subst (λ t. IsTrue t) keeps.honest is

pub quiet-refl : (s : HostState) → IsQuiet s s
quiet-refl s = record { keeps = keeps-refl s; said = λ f. refl; script = λ f. refl }

pub quiet-then : {a b c : HostState} → IsQuiet a b → IsQuiet b c → IsQuiet a c
quiet-then one two = record {
  keeps = keeps-then one.keeps two.keeps;
  said = λ f. two.said (still_faithful one.keeps f) ∙ one.said f;
  script = λ f. two.script (still_faithful one.keeps f) ∙ one.script f;
}

pub cause-then : {T : Type 0} {result : Result T HostFault} {a b c : HostState} → IsQuiet a b → HasCause result b c → HasCause result a c
cause-then {result = result} {a = a} {b = b} {c = c} quiet cause = record { caused = IfErr-weaker result _ _ (λ fault both. (both.0, faulted-then quiet.keeps both.1)) cause.caused }

pub on_ok_of : {T E : Type 0} (result : Result T E) {P : Type 0} → P → OnOk result P
on_ok_of (Ok x) p = p
on_ok_of (Err e) p = tt

pub looks-refl : (s : HostState) → Looks s s
looks-refl s = record { quiet = quiet-refl s; same = λ f. refl; moves = λ h. started s }

pub looks_more : {kind : HostCall} {T : Type 0} {result : Result T HostFault} {a b c : HostState} → Looks a b → Asks kind result b c → Looks a c
looks_more {a = a} {b = b} {c = c} one two = record {
  quiet = quiet-then one.quiet two.quiet;
  same = λ f. two.same (still_faithful one.quiet.keeps f) ∙ one.same f;
  moves = λ h. goes_on Same Same (one.moves h) (two.moves (still_honest one.quiet.keeps h)) (λ d p left s. s) (λ d e p left s t. t ∙ s) (λ d e p left s t. t ∙ s);
}

-- a file that was read whole
whole : (o : Option (List ℕ)) (size : ℕ) (into : List ℕ) → Some size ≡ option_map length o → length into ≡ size → ((file : List ℕ) → o ≡ Some file → IsPart file 0 into) → o ≡ Some into
whole None size into is long part = cc
whole (Some file) size into is long part =
    let sizes : size ≡ length file = same_Some _ _ is in
    let all : take (length into) file ≡ file = take_all (length into) file (omega (arith, long, sizes)) in
    ap (λ (l : List ℕ). Some l) (sym all ∙ part file refl)

pub whole_read : (image : Image) (name : List ℕ) (size : ℕ) (into : List ℕ) → Some size ≡ option_map length (file_at image name) → length into ≡ size → ((file : List ℕ) → file_at image name ≡ Some file → IsPart file 0 into) → file_at image name ≡ Some into
whole_read image name size into is long part = whole (file_at image name) size into is long part
