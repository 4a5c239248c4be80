use Rattle.std.proofs.Common.{inl, inr, List, subst}
use Rattle.state_reader.specs.declared.level.LoadFlag.{LoadFlag}
use Rattle.state_reader.specs.Reads.{reading_of}
use Rattle.state_reader.specs.Still.{ground_of}
use Rattle.plain_state.specs.Records.{LacksFlag}
use Rattle.plain_state.proofs.RecordLemmas.{is_flagged}
use Rattle.plain_state.proofs.in_use.check_flags.Goals as goal

pub returns-in-Some-clause-cause : goal.returns-in-Some-clause-cause
returns-in-Some-clause-cause c =
    let known = ground_of c.args.still.now in
    let path = c.in-Some.path in
    let lacks : LacksFlag known c.args.read.now.metadata.flags path = subst (λ (l : List LoadFlag). LacksFlag known l path) c.as_slice.ensures (rw c.in-Some.is at c.in_ok-path.ensures) in
    record { reading = reading_of c.args.read.now; read = c.requires; flagged = inl (is_flagged known c.args.read.now.metadata path lacks); untold = lacks.untold }

pub returns-in-Some-2-clause-cause : goal.returns-in-Some-2-clause-cause
returns-in-Some-2-clause-cause c =
    let known = ground_of c.args.still.now in
    let path = c.in-Some-2.path in
    let lacks : LacksFlag known c.args.read.now.users.flags path = subst (λ (l : List LoadFlag). LacksFlag known l path) c.as_slice-2.ensures (rw c.in-Some-2.is at c.in_ok-path-2.ensures) in
    record { reading = reading_of c.args.read.now; read = c.requires; flagged = inr (is_flagged known c.args.read.now.users path lacks); untold = lacks.untold }
