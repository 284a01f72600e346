-- Intervals of a bar in which no chord begins: either the chord before them sounds throughout, or nothing sounds in them.
use Rattle.std.specs.Prelude.{◌≡◌, ℕ, ◌+◌, ◌*◌, ◌≤◌, Bool, true, not, ◌&&◌, ◌⊎◌}
use Rattle.std.specs.List.{list_all}
use Rattle.tree_laws.specs.Forests.{Ground}
use Rattle.tree_laws.specs.Places.{end_before, reach}

-- no chord has its onset in the w units from the unit p on
abbrev pub is_quiet : Ground → ℕ → ℕ → Bool
is_quiet d p w = list_all (λ c. not (reach d.book.resolution d.bar p c.onset && not (reach d.book.resolution d.bar (p + w) c.onset))) d.chords

-- the end of the last chord with its onset before the unit p
abbrev pub end_at : Ground → ℕ → ℕ
end_at d p = end_before d.book.resolution d.bar d.chords d.before p

-- no chord begins in the w units from the unit p on, and the last one before them ends at or after their end
pub record IsSounding (d : Ground) (p w : ℕ) : Type 0 where
  pub quiet : is_quiet d p w ≡ true
  pub through : d.bar.start * d.book.resolution + (p + w) * d.bar.length ≤ end_at d p * d.book.resolution

-- no chord begins in the w units from the unit p on, and the last one before them ends at or before their beginning
pub record IsSilent (d : Ground) (p w : ℕ) : Type 0 where
  pub quiet : is_quiet d p w ≡ true
  pub over : end_at d p * d.book.resolution ≤ d.bar.start * d.book.resolution + p * d.bar.length

-- of w units each, both sound throughout, or both are silent throughout
abbrev pub SoundAlike : Ground → ℕ → ℕ → ℕ → Type 0
SoundAlike d w p q = (IsSounding d p w × IsSounding d q w) ⊎ (IsSilent d p w × IsSilent d q w)
