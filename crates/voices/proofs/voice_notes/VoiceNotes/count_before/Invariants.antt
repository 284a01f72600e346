use Rattle.std.proofs.Common.{◌-◌, ◌<◌, ◌≤◌, length}
use Rattle.std.specs.List.{AllWithin}
use Rattle.voices.proofs.voice_notes.VoiceNotes.count_before.Given as goal

abbrev pub invariant-halves : goal.invariant-halves
invariant-halves l =
    (l.low ≤ l.high)
    × (l.high ≤ length l.self)
    × AllWithin (λ n. n.onset < l.tick) l.self 0 l.low
    × AllWithin (λ n. l.tick ≤ n.onset) l.self l.high (length l.self)

abbrev pub decreases-halves : goal.decreases-halves
decreases-halves l = l.high - l.low
