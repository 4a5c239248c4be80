use Rattle.std.proofs.Common.{inl}
use Rattle.table_store.specs.StoreValue.{station_of}
use Rattle.shell.proofs.ReadableLemmas.{run_readable}
use Rattle.shell.proofs.OpeningLemmas.{disk_readable}
use Rattle.shell.proofs.SinceLemmas.{serves_since, lines_since}
use Rattle.shell.proofs.running.run_store.Goals as goal

pub returns-in-Ok : goal.returns-in-Ok
returns-in-Ok g c =
    let sound = g.met.H.Host.sound c.args.host.now in
    let opens = rw c.in-Ok.is at c.open_or_make.ensures in
    inl (record {
      start = station_of c.in-Ok.store;
      begins = opens.begins;
      serves = serves_since (station_of c.in-Ok.store) sound opens.left.quiet opens.rests c.run_script.ensures.serves;
      crash = lines_since (station_of c.in-Ok.store) sound opens.left.quiet opens.rests c.args.init opens.left opens.begins c.run_script.ensures.crash;
      readable = run_readable c.args.init sound opens.left.quiet.keeps opens.rests (disk_readable c.args.init opens.left sound) opens.readable c.run_script.ensures.readable;
    })
