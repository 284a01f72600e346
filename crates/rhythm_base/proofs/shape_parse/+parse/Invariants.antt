use Rattle.std.proofs.Common.{◌+◌, ◌-◌, ◌*◌}
use Rattle.rhythm_base.proofs.PartsInTurn.{AreLeft}
use Rattle.rhythm_base.proofs.shape_parse.+parse.Given as goal

abbrev pub decreases-part : goal.decreases-part
decreases-part l = 2 * l.levels + 1

abbrev pub decreases-push_parts : goal.decreases-push_parts
decreases-push_parts l = 2 * l.levels

abbrev pub invariant-push_parts-others : goal.invariant-push_parts-others
invariant-push_parts-others l = AreLeft l.levels l.count (l.count + 1 - l.counter) l.text l.left l.fn.parts.items l.parts.items
