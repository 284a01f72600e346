use Rattle.std.proofs.Common.{◌≡◌, length, map, take}
use Rattle.session_counts.specs.Counting.{AreRaisedBy}
use Rattle.session_counts.proofs.counting.count_lists.Given as goal

-- the lists so far are counted
abbrev pub invariant-lists : goal.invariant-lists
invariant-lists l = record {
  raised : AreRaisedBy (length l.initial.counts) (take l.list-index (map (λ x. x.now) l.lists)) l.initial.counts l.counts;
  of_each : length l.counts ≡ length l.initial.counts;
}
