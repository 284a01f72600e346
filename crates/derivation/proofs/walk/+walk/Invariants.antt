use Rattle.std.proofs.Common.{◌+◌, ◌*◌, ◌≤◌, drop, length}
use Rattle.rhythm_base.specs.Bodies.{children, sizes}
use Rattle.derivation.proofs.ListWalk.{AreLeft}
use Rattle.derivation.proofs.walk.+walk.Given as goal

abbrev pub decreases-push_tree : goal.decreases-push_tree
decreases-push_tree l = 2 * length l.list.now

abbrev pub decreases-push_parts : goal.decreases-push_parts
decreases-push_parts l = 2 * length l.list.now + 1

abbrev pub invariant-push_parts-parts : goal.invariant-push_parts-parts
invariant-push_parts-parts l = record {
  left : AreLeft l.rules l.bar l.fn.place (children l.body l.width) l.list l.initial.leaves.items l.number l.place l.rest l.leaves.items;
  within : l.place + sizes (drop l.number (children l.body l.width)) ≤ l.fn.place + l.width;
  shorter : length l.rest ≤ length l.list;
}
