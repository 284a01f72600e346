use Rattle.std.proofs.Common.{◌≡◌, ◌-◌, ◌≤◌, drop, length, take}
use Rattle.notation.specs.Groups.{parted, parted_from}
use Rattle.notation.proofs.groups.first_group.Given as goal

abbrev pub invariant-tokens : goal.invariant-tokens
invariant-tokens l = record {
  some : 1 ≤ l.count;
  few : l.count ≤ length l.tokens;
  waits : parted_from l.resolution l.odd (take (l.count - 1) l.tokens) (drop (l.count - 1) l.tokens) ≡ parted l.resolution l.odd l.tokens;
}

abbrev pub decreases-tokens : goal.decreases-tokens
decreases-tokens l = length l.tokens - l.count
