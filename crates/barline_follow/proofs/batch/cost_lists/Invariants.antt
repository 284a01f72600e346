use Rattle.std.proofs.Common.{◌≡◌, ◌*◌, length, map}
use Rattle.std.specs.Prelude.{All}
use Rattle.rhythm_base.specs.Counter.{risen}
use Rattle.barline_follow.specs.Longer.{draft_of}
use Rattle.barline_follow.specs.PassedOver.{IsWeighed}
use Rattle.barline_follow.proofs.batch.cost_lists.Given as goal

abbrev pub invariant-voices : goal.invariant-voices
invariant-voices g l =
    All (IsWeighed l.next l.round l.voice) l.lists × (map draft_of l.lists ≡ map draft_of l.initial.lists)
    × (l.builds ≡ risen l.initial.builds (l.voice * length l.initial.lists))
