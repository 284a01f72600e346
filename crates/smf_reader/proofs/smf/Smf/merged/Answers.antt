use Rattle.std.proofs.Common.{rules}
use Rattle.std.proofs.lemmas.List.Sorted.{IsNonDecreasingBy-from_sort_by_key, answers_always}
use Rattle.smf_reader.proofs.Merging.{are_merged}
use Rattle.smf_reader.proofs.smf.Smf.merged.Goals as goal

pub returns : goal.returns
returns c =
    are_merged c.args.self.now.tracks c.in_ok-events.events.items _ c.in_ok-events.ensures
    (IsNonDecreasingBy-from_sort_by_key (λ e. e.tick) _ c.in_ok-sort_by_key.ensures.sorted (λ a r q k. search rules))
    (c.sort_by_key.ensures.stable (λ e. e.tick) (answers_always _ _ _ (λ f a r g h. search rules)))
