use Rattle.std.proofs.Common.{rules}
use Rattle.std.proofs.lemmas.List.Sorted.{answers_always}
use Rattle.rhythm_base.specs.Performance.{place_of_note}
use Rattle.performance_prepare.proofs.Parting.{sorted_is}
use Rattle.performance_prepare.proofs.split.in_order.Goals as goal

pub returns : goal.returns
returns c =
    sorted_is c.args.notes.items c.sort_by_key.new.self.items c.requires c.sort_by_key.ensures.permutation
    (c.in_ok-sort_by_key.ensures.sorted place_of_note (answers_always _ _ _ (λ f a r g h. search rules)))
