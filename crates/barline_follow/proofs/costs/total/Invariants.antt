use Rattle.std.proofs.Common.{◌≡◌, ◌*◌, ◌≤◌, ◌^◌, drop, Some}
use Rattle.barline_follow.specs.Costs as costs
use Rattle.barline_follow.proofs.costs.total.Given as goal

abbrev pub invariant-voices : goal.invariant-voices
invariant-voices l =
    (costs.sum (Some l.sum) (costs.total l.is_closed (drop l.heads-index l.voices)) ≡ costs.total l.is_closed l.voices)
    × (l.sum ≤ l.heads-index * 2 ^ 52)
