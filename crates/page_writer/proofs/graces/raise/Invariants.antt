use Rattle.std.proofs.Common.{◌≡◌, ℕ, ◌<◌, ◌≤◌, get_or}
use Rattle.std.specs.Prelude.{max}
use Rattle.page_writer.proofs.graces.raise.Given as goal

abbrev pub invariant-bars : goal.invariant-bars
invariant-bars l = record {
  seen : (k : ℕ) → k < l.number → get_or l.most k 0 ≡ max (get_or l.initial.most k 0) (get_or l.own k 0);
  later : (k : ℕ) → l.number ≤ k → get_or l.most k 0 ≡ get_or l.initial.most k 0;
}
