use Rattle.std.proofs.Common.{◌≡◌, ◌≤◌, List, ◌++◌, take, drop}
use Rattle.std.specs.Prelude.{map, sum}
use Rattle.durations.specs.declared.joined.Timed.{Timed}
use Rattle.durations.specs.declared.joined.Written.{Written}
use Rattle.durations.specs.Joined.{AreWritten, AreWrittenFrom}
use Rattle.durations.proofs.joined.values_of.Given as goal

-- what is written so far, with what the leaves that are left come to, is what is to be written
abbrev pub invariant-leaves : goal.invariant-leaves
invariant-leaves l = record {
  so_far : (more : List Written) → AreWrittenFrom l.grid l.joined l.leaf l.place (drop l.leaf l.leaves) more → AreWritten l.grid l.leaves (l.written.items ++ more);
  place : l.place ≡ sum (map (λ (x : Timed). x.len) (take l.leaf l.leaves));
  few : l.leaf ≤ l.place;
}
