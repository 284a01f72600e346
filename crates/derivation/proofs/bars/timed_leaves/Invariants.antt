use Rattle.std.proofs.Common.{◌≡◌, ℕ, ◌+◌, true, List, [], length, map}
use Rattle.rhythm_base.specs.Forest.{Tree}
use Rattle.rhythm_base.specs.Leaves.{are_bars}
use Rattle.rhythm_base.specs.Voices.{voice_bars_from}
use Rattle.tree_laws.specs.Voices.{Adjacent}
use Rattle.derivation.specs.RuleLists.{HaveLists}
use Rattle.derivation.specs.Sounds.{plain_bars}
use Rattle.derivation.specs.TimedLeaves.{timed_leaves}
use Rattle.derivation.proofs.BarsRead.{IsFound}
use Rattle.derivation.proofs.bars.timed_leaves.Given as goal

abbrev pub invariant-lists : goal.invariant-lists
invariant-lists l = record {
  found : (trees : List Tree) → are_bars l.grammar (plain_bars l.grammar l.last l.bars) trees ≡ true → HaveLists trees (map (λ list. list.now) l.lists)
      → IsFound l.grammar (timed_leaves l.grammar 0 (plain_bars l.grammar l.last l.bars) trees) (map (λ list. list.now) l.lists) l.list-index l.number (voice_bars_from l.grammar [] 0 l.last l.number l.later) l.leaves.items;
  count : l.number + length l.later ≡ length l.bars;
  near : (b : ℕ) × (e : ℕ) × Adjacent b (voice_bars_from l.grammar [] 0 l.last l.number l.later) e;
}
