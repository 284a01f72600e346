use Rattle.std.proofs.Common.{◌≤◌, ◌<◌, ◌-◌, ℕ, get_or}
use Rattle.bar_view.proofs.view.View.right.Given as goal

abbrev pub invariant-walk : goal.invariant-walk
invariant-walk l = record {
  low : l.first ≤ l.right;
  high : l.right ≤ l.after;
  own : (i : ℕ) → l.first ≤ i → i < l.right → get_or l.self.halves.items i 0 ≤ l.middle;
}

abbrev pub decreases-walk : goal.decreases-walk
decreases-walk l = l.after - l.right
