-- A tempo map: the changes of a file, and the elapsed time at those of tempo.
use Rattle.rhythm_base.specs.declared.limits.TheConstants.{LATEST_TICK}
use Rattle.std.specs.Prelude.{◌≡◌, ℕ, ◌*◌, ◌<◌, ◌≤◌, List, length, map, slice_index}
use Rattle.std.specs.List.{AllWithin}
use Rattle.std.specs.List.Sorted.{IsNonDecreasing}
use Rattle.rhythm_base.specs.declared.event.KeyMark.{KeyMark}
use Rattle.rhythm_base.specs.declared.event.Tempo.{Tempo}
use Rattle.rhythm_base.specs.Time.{time}

-- the first n of the changes are at or before a tick, and those after them are later
pub record AreUpTo {X : Type 0} (tick : X → ℕ) (changes : List X) (t n : ℕ) : Type 0 where
  pub within : n ≤ length changes
  pub past : AllWithin (λ x. tick x ≤ t) changes 0 n
  pub ahead : AllWithin (λ x. t < tick x) changes n (length changes)

pub record TempoMap : Type 0 where
  pub tempos : List Tempo
  pub key_marks : List KeyMark

-- the elapsed time at the change at a place, which is small enough to count on from
pub record IsElapsedAt (tempos : List Tempo) (elapsed : List ℕ) (k tick : ℕ) : Type 0 where
  pub there : k < length elapsed
  pub value : slice_index elapsed k ≡ time tempos tick
  pub small : slice_index elapsed k ≤ tick * 4294967295

-- every change up to tick 2,000,000,000 has its elapsed time; no tick of a score is later
abbrev pub AreElapsed : List Tempo → List ℕ → Type 0
AreElapsed tempos elapsed =
    (k : ℕ) → k < length tempos → slice_index (map (λ t. t.tick) tempos) k ≤ LATEST_TICK
    → IsElapsedAt tempos elapsed k (slice_index (map (λ t. t.tick) tempos) k)

pub record IsTempoMap (tempos : List Tempo) (times : List ℕ) (key_marks : List KeyMark) : Type 0 where
  pub tempos_in_order : IsNonDecreasing (map (λ t. t.tick) tempos)
  pub key_marks_in_order : IsNonDecreasing (map (λ k. k.tick) key_marks)
  pub elapsed : AreElapsed tempos times
