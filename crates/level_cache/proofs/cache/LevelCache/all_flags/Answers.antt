use Rattle.level_index.specs.Lists.{AreFlagsOf}
use Rattle.state_reader.specs.declared.level.LevelKind.TheVariants.{Metadata, Users}
use Rattle.level_cache.proofs.MarkLemmas.{all_flags, both_ok}
use Rattle.level_cache.proofs.TellLemmas.{kept_has}
use Rattle.level_cache.proofs.cache.LevelCache.all_flags.Goals as goal

pub returns : goal.returns
returns c =
    let cache = c.args.self.now in
    let upper = c.in_ok-upper.upper.items in
    let lower = c.in_ok-lower.lower.items in
    both_ok c.joined_flags.result _ _ _
    (λ flags each order metadata users image reading known shows.
    all_flags reading upper lower flags.items
    (kept_has Metadata reading.metadata (λ level. AreFlagsOf level upper) cache.metadata shows.metadata metadata c.in_ok-upper.ensures)
    (kept_has Users reading.users (λ level. AreFlagsOf level lower) cache.users shows.users users c.in_ok-lower.ensures)
    each order)
    c.joined_flags.ensures.each c.joined_flags.ensures.order
