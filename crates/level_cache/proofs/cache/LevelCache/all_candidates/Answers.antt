use Rattle.level_index.specs.Lists.{AreCandidatesOf}
use Rattle.state_reader.specs.declared.level.LevelKind.TheVariants.{Metadata, Users}
use Rattle.level_cache.proofs.MarkLemmas.{all_candidates, both_ok}
use Rattle.level_cache.proofs.TellLemmas.{kept_has}
use Rattle.level_cache.proofs.cache.LevelCache.all_candidates.Goals as goal

pub returns : goal.returns
returns c =
    let cache = c.args.self.now in
    let upper = c.in_ok-upper.upper.items in
    let lower = c.in_ok-lower.lower.items in
    both_ok c.joined_paths-2.result _ _ _
    (λ paths each order metadata users image reading known shows.
    all_candidates c.args.nodes.now.nodes known reading shows.is c.in_ok-listed.listed.items upper c.in_ok-joined_paths.field-0.items lower paths.items c.in_ok-listed.ensures
    (kept_has Metadata reading.metadata (λ level. AreCandidatesOf level upper) cache.metadata shows.metadata metadata c.in_ok-upper.ensures)
    (kept_has Users reading.users (λ level. AreCandidatesOf level lower) cache.users shows.users users c.in_ok-lower.ensures)
    c.in_ok-joined_paths.ensures.each each order)
    c.joined_paths-2.ensures.each c.joined_paths-2.ensures.order
