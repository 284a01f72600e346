use Rattle.std.proofs.Common.{◌≡◌, ℕ, ◌<◌, ◌≤◌, [], get_or, length, replicate}
use Rattle.std.specs.Prelude.{None}
use Rattle.least_rows.specs.Roots.{AreAskedRows}
use Rattle.least_rows.specs.States.{AreKnown}
use Rattle.least_rows.proofs.roots.find_bests.Given as goal

abbrev pub invariant-counts : goal.invariant-counts
invariant-counts l = record {
  known : AreKnown l.search l.rows;
  long : length l.bests.rows ≡ 5;
  rows : AreAskedRows l.search.grammar.now l.search.input.now l.asked l.from l.bests.rows;
  rest : (a : ℕ) → l.from ≤ a → a < 5 → get_or l.bests.rows a [] ≡ replicate 5 None;
}
