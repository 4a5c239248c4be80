use Rattle.std.proofs.Common.{◌≡◌, ◌⊎◌, ◌++◌, ◌-◌, ◌<◌, ◌≤◌, length, Some, IsTrue, vec_len}
use Rattle.std.specs.Prelude.{Contains}
use Rattle.host_model.specs.declared.call.HostCall.TheVariants.{Hear}
use Rattle.script_source.specs.Hearing.{Listens}
use Rattle.script_source.specs.Feeds.{HasNoFeed}
use Rattle.script_source.proofs.pieces.Pieces.next_line.Given as goal

abbrev pub invariant-loop-line : goal.invariant-loop-line
invariant-loop-line g l = record {
  short : length l.line.items ≤ 8192;
  none : HasNoFeed l.line.items;
  listens : Listens (g.H.Host.state l.fn.host) (g.H.Host.state l.host);
  left : IsTrue (g.H.Host.state l.fn.host).is_faithful → l.line.items ++ (l.self ++ (g.H.Host.state l.host).script) ≡ l.fn.self ++ (g.H.Host.state l.fn.host).script;
  last : ((g.H.Host.state l.host).last ≡ Some Hear) ⊎ (l.host ≡ l.fn.host) × ((0 < length l.fn.self) ⊎ (l.self ≡ l.fn.self));
  held : Contains l.fn.self 10 → (l.self ≡ l.fn.self) × (l.host ≡ l.fn.host);
}

abbrev pub decreases-loop-line : goal.decreases-loop-line
decreases-loop-line g l = 8193 - vec_len l.line
