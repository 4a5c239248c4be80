use Rattle.std.proofs.lemmas.Result.{IfErr-weaker}
use Rattle.store_meaning.specs.Ground.{Ground}
use Rattle.state_reader.specs.declared.store_reading.ReadFault.{ReadFault}
use Rattle.state_reader.specs.declared.store_reading.ReadFault.TheVariants.{NoRoot, LongRoot, BoundedRoot, RootLacks, BadMetadata, NoChain, MetadataLacks, BadUsers, NoMemory}
use Rattle.state_reader.specs.Still.{ground_of}
use Rattle.state_reader.specs.Reads.{ReadCause, RootCause}
use Rattle.state_reader.proofs.root.read_root.Goals as goal

-- why the nodes give no record of the root tablet is why nothing is read
of_root : (known : Ground) (fault : ReadFault) → RootCause known.nodes fault → ReadCause known fault
of_root known NoRoot cause = cause
of_root known LongRoot cause = cause
of_root known (BoundedRoot low) cause = absurd cause
of_root known (RootLacks untold) cause = absurd cause
of_root known (BadMetadata row) cause = absurd cause
of_root known NoChain cause = absurd cause
of_root known (MetadataLacks end untold) cause = absurd cause
of_root known (BadUsers row) cause = absurd cause
of_root known NoMemory cause = cause

pub returns-clause-cause : goal.returns-clause-cause
returns-clause-cause c = IfErr-weaker c.root_record.result _ _ (of_root (ground_of c.args.still.now)) c.root_record.ensures.cause
