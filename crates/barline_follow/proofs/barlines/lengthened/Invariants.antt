use Rattle.std.proofs.Common.{◌≡◌, ◌+◌, ◌-◌, ◌*◌, ◌++◌, length}
use Rattle.rhythm_base.specs.Lists.{last_end}
use Rattle.barline_follow.specs.Script as scripts
use Rattle.barline_follow.proofs.barlines.lengthened.Given as goal

abbrev pub invariant-bars : goal.invariant-bars
invariant-bars l =
    (l.longer.items ++ scripts.further l.bar l.last (l.count - l._number) ≡ scripts.lengthened l.bar l.count l.ticks)
    × (l.last + (l.count - l._number) * l.bar ≡ last_end 0 l.ticks + (l.count - length l.ticks) * l.bar)
