use Rattle.std.proofs.Common.{ℕ, ◌≡◌, ◌<◌, ◌≤◌, get_or}
use Rattle.barline_follow.proofs.least.has_as_low.Given as goal

abbrev pub invariant-others : goal.invariant-others
invariant-others g l =
    (k : ℕ) (d : g.row.T.Denot) → k < l.other-index → g.T.Valued.tick (get_or l.list k d) ≡ l.tick
    → g.T.Valued.value (get_or l.list k d) ≤ l.value → ⊥
