-- What each call of a quiet host ensures.
use Rattle.std.proofs.Common.{◌≡◌, ◌≤◌, inl, inr, ℕ, List, Option, Some, Result, Ok, Err, OnOk, OnErr, length, refl, sym, ◌∙◌, ap, subst, arith}
use Rattle.std.specs.Option.{option_map}
use Rattle.std.specs.declared.alloc.AllocError.{AllocError}
use Rattle.host_model.specs.Picture.{Image, file_at, set_file, ChangesFile, OnBytes, MayBecome}
use Rattle.host_model.specs.Calls.{IsQuiet, Writes, Replaces, Torn, Reaches, overlaid}
use Rattle.host_model.specs.declared.call.HostCall.{HostCall}
use Rattle.host_model.specs.declared.call.HostCall.TheVariants as kinds
use Rattle.host_model.specs.declared.fault.HostFault.{HostFault}
use Rattle.host_model.proofs.Images.{changes_nothing}
use Rattle.host_model.proofs.Bytes.{torn-overlaid}
use Rattle.memory_host.specs.Quiet.{Quiet, quiet_state, CountsMemory, not_honest}

-- the files changed, and perhaps the count
abbrev after : HostCall → Quiet → Image → ℕ → Quiet
after kind q files memory = record { files = files; said = q.said; script = q.script; memory = memory; found = q.memory; last = Some kind }

module _ (kind : HostCall) (q : Quiet) (files : Image) (memory : ℕ) where
  quiet : q.memory ≤ memory → IsQuiet (quiet_state q) (quiet_state (after kind q files memory))
  quiet falls = record {
    keeps = record { faithful = refl; honest = refl; counts = record { disk = omega arith; source = omega arith; sink = omega arith; memory = falls } };
    said = λ _. refl;
    script = λ _. refl;
  }

  pub quiet_replaces : (name : List ℕ) (file : Option (List ℕ)) (done : Result (Unit {0}) AllocError) (result : Result (Unit {0}) HostFault) → CountsMemory done result q.memory memory → OnOk done (files ≡ set_file q.files name file) → OnErr done (files ≡ q.files)
      → Replaces kind name file result (quiet_state q) (quiet_state (after kind q files memory))
  quiet_replaces name file (Ok u) result counts put same = subst (λ r. Replaces kind name file r (quiet_state q) (quiet_state (after kind q files memory))) (sym counts.0) (record {
    quiet = quiet (omega (arith, counts.1));
    began = refl;
    last = refl;
    cause = record { caused = tt };
    done = λ _. record { after = file; steps = refl; is = put };
    tried = λ _. record { after = file; steps = inr refl; is = put };
    moves = λ h. absurd (not_honest h);
    lasting = λ h. absurd (not_honest h);
  })
  quiet_replaces name file (Err e) result counts put same = subst (λ r. Replaces kind name file r (quiet_state q) (quiet_state (after kind q files memory))) (sym counts.0) (record {
    quiet = quiet counts.2;
    began = refl;
    last = refl;
    cause = record { caused = (tt, record { counted = omega (arith, counts.1); last = omega (arith, counts.1) }) };
    done = λ _. tt;
    tried = λ _. subst (λ i. ChangesFile name (MayBecome file) q.files i) (sym same) (changes_nothing name (MayBecome file) q.files (inl refl));
    moves = λ h. absurd (not_honest h);
    lasting = λ h. absurd (not_honest h);
  })

module _ (q : Quiet) (files : Image) (memory : ℕ) where
  pub quiet_writes : (name : List ℕ) (at : ℕ) (bytes : List ℕ) (done : Result (Unit {0}) AllocError) (result : Result (Unit {0}) HostFault) → Reaches q.files name at → CountsMemory done result q.memory memory
      → OnOk done (files ≡ set_file q.files name (option_map (λ file. overlaid file at bytes) (file_at q.files name))) → OnErr done (files ≡ q.files)
      → Writes name at bytes result (quiet_state q) (quiet_state (after kinds.Write q files memory))
  quiet_writes name at bytes (Ok u) result there counts put same =
      let is : files ≡ set_file q.files name (Some (overlaid there.file at bytes)) = put ∙ ap (λ o. set_file q.files name (option_map (λ file. overlaid file at bytes) o)) there.is in
      subst (λ r. Writes name at bytes r (quiet_state q) (quiet_state (after kinds.Write q files memory))) (sym counts.0) (record {
        quiet = quiet kinds.Write q files memory (omega (arith, counts.1));
        began = refl;
        last = refl;
        cause = record { caused = tt };
        done = λ _. record { after = Some (overlaid there.file at bytes); steps = record { before = there.file; after = overlaid there.file at bytes; was = there.is; is = refl; steps = record { within = there.within; is = refl } }; is = is };
        tried = λ _. record { after = Some (overlaid there.file at bytes); steps = record { before = there.file; after = overlaid there.file at bytes; was = there.is; is = refl; steps = torn-overlaid there.file at bytes there.within }; is = is };
        moves = λ h. absurd (not_honest h);
      })
  quiet_writes name at bytes (Err e) result there counts put same = subst (λ r. Writes name at bytes r (quiet_state q) (quiet_state (after kinds.Write q files memory))) (sym counts.0) (record {
    quiet = quiet kinds.Write q files memory counts.2;
    began = refl;
    last = refl;
    cause = record { caused = (tt, record { counted = omega (arith, counts.1); last = omega (arith, counts.1) }) };
    done = λ _. tt;
    tried = λ _. subst (λ i. ChangesFile name (OnBytes (Torn at (length bytes))) q.files i) (sym same) (changes_nothing name (OnBytes (Torn at (length bytes))) q.files (record {
      before = there.file;
      after = there.file;
      was = there.is;
      is = there.is;
      steps = record { before = refl; after = refl; no_shorter = omega arith; no_longer = omega arith };
    }));
    moves = λ h. absurd (not_honest h);
  })
