use Rattle.std.proofs.Common.{ℕ, ◌<◌}
use Rattle.std.specs.Prelude.{IsSome, IsTrue, false, slice_index_or}
use Rattle.rhythm_base.specs.Ranked.{at}
use Rattle.chain_bars.proofs.dead.leads_to.Given as goal

abbrev pub invariant-counts : goal.invariant-counts
invariant-counts l = (n : ℕ) → n < l.from → IsTrue (slice_index_or l.reached n false) → IsSome (at l.cell n l.to) → ⊥
