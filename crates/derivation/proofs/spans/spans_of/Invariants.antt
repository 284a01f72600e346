use Rattle.std.proofs.Common.{◌≡◌, ℕ, ◌++◌, List, length}
use Rattle.rhythm_base.specs.declared.span.Span.{Span}
use Rattle.durations.specs.Spans.{AreSpans}
use Rattle.derivation.specs.WellSounded.{StandInBars}
use Rattle.derivation.proofs.FilledBars.{place_at}
use Rattle.derivation.proofs.spans.spans_of.Given as goal

abbrev pub invariant-sounds : goal.invariant-sounds
invariant-sounds l = record {
  made : (more : List Span) → AreSpans l.resolution l.bars l.later more → AreSpans l.resolution l.bars l.sounds (l.spans.items ++ more);
  place : (n : ℕ) × (p : ℕ) × StandInBars l.resolution (length l.bars) n p l.later × (l.place ≡ place_at l.resolution l.bars n p);
}

abbrev pub decreases-sounds : goal.decreases-sounds
decreases-sounds l = length l.later
