use Rattle.metadata_schema.proofs.PathLemmas.{no_directory, its_parts, tells_path}
use Rattle.metadata_schema.proofs.paths.is_file_path.Goals as goal

pub returns-in_default-parted : goal.returns-in_default-parted
returns-in_default-parted c = no_directory c.args.bytes.now c.in-Some.id.now c.in-Some.rest.now c.in-Some.ensures c.in_default-parted.ensures

pub returns-then-not-accepts : goal.returns-then-not-accepts
returns-then-not-accepts c = λ path. c.if-not-accepts.ensures (its_parts c.args.bytes.now c.in-Some.id.now c.in-Some.rest.now c.in-Some-parted.dir.now c.in-Some-parted.name.now c.in-Some.ensures c.in-Some-parted.ensures path).is_id

pub returns-then-not-is_directory : goal.returns-then-not-is_directory
returns-then-not-is_directory c =
    λ path. c.if-not-is_directory.ensures (its_parts c.args.bytes.now c.in-Some.id.now c.in-Some.rest.now c.in-Some-parted.dir.now c.in-Some-parted.name.now c.in-Some.ensures c.in-Some-parted.ensures path).is_dir

pub returns : goal.returns
returns c =
    tells_path c.is_file_name.result c.args.bytes.now c.in-Some.id.now c.in-Some.rest.now c.in-Some-parted.dir.now c.in-Some-parted.name.now c.in-Some.ensures c.in-Some-parted.ensures c.if-not-accepts.ensures c.if-not-is_directory.ensures c.is_file_name.ensures
