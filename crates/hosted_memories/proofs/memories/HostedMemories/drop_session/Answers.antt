use Rattle.std.proofs.Common.{rules}
use Rattle.std.proofs.lemmas.Map.Made.{filter_same_pairs}
use Rattle.hosted_memories.proofs.OtherLemmas.{is_elsewhere, others_left}
use Rattle.hosted_memories.proofs.memories.HostedMemories.drop_session.Goals as goal

pub returns : goal.returns
returns c =
    others_left c.args.session.now c.self.inside.tablets.entries c.retain.new.self.entries c.args.self.now c.retain.ensures.was_ordered
    (filter_same_pairs _ (is_elsewhere c.args.session.now) _ (λ k v b w f' t. search rules) _ _ c.retain.ensures.filtered) c.self.view_is
