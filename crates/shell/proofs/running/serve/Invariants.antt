use Rattle.std.proofs.Common.{◌≡◌, ◌+◌, None}
use Rattle.shell.specs.Serve.{HasServed}
use Rattle.table_store.specs.StoreValue.{station_of}
use Rattle.shell.proofs.running.serve.Given as goal

abbrev pub invariant-loop-number : goal.invariant-loop-number
invariant-loop-number g l = record {
  next : l.number ≡ l.lines + 1;
  hearing : l.script.stop ≡ None;
  served : HasServed (g.H.Host.state l.fn.host) (station_of l.fn.store) l.lines l.script.held l.store (g.H.Host.state l.host);
}
