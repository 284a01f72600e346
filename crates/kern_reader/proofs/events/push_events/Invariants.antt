use Rattle.std.proofs.Common.{◌≡◌, ◌+◌, ◌++◌, [], List, length, map}
use Rattle.rhythm_base.specs.declared.span.Span.{Span}
use Rattle.rhythm_base.specs.Lists.{Each}
use Rattle.kern_reader.specs.declared.token.Token.{Token}
use Rattle.kern_reader.specs.Events.{IsKernSpan, IsWalk, beginnings}
use Rattle.voice_events.specs.Events.{span_event}
use Rattle.kern_reader.specs.Score.{IsColumnOn}
use Rattle.kern_reader.proofs.events.push_events.Given as goal

abbrev pub invariant-tokens : goal.invariant-tokens
invariant-tokens l =
    (before : List Token) × (spans : List Span) × IsWalk l.grid before l.walk × IsColumnOn l.grid before × IsColumnOn l.grid l.later
    × (length before + length l.later ≡ length l.tokens) × (l.events.items ≡ l.initial.events.items ++ map (span_event l.spine) spans)
    × ((more : List Span) → Each (IsKernSpan l.grid) (beginnings before l.later) more → Each (IsKernSpan l.grid) (beginnings [] l.tokens) (spans ++ more))

abbrev pub decreases-tokens : goal.decreases-tokens
decreases-tokens l = length l.later
