use Rattle.std.proofs.Common.{◌-◌, ◌≡◌, ◌≤◌, length, ◌∷◌, [], true, false}
use Rattle.std.specs.List.{AllWithin}
use Rattle.rhythm_base.specs.Lists.{earlier}
use Rattle.rhythm_base.specs.Performance.{place_of_note}
use Rattle.rhythm_base.proofs.notes.Notes.count_before.Given as goal

abbrev pub invariant-halves : goal.invariant-halves
invariant-halves l =
    (l.low ≤ l.high)
    × (l.high ≤ length l.self)
    × AllWithin (λ n. earlier (place_of_note n) (l.channel ∷ l.onset ∷ l.key ∷ []) ≡ true) l.self 0 l.low
    × AllWithin (λ n. earlier (place_of_note n) (l.channel ∷ l.onset ∷ l.key ∷ []) ≡ false) l.self l.high (length l.self)

abbrev pub decreases-halves : goal.decreases-halves
decreases-halves l = l.high - l.low
