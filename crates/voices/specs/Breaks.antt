-- Where the notes of a voice can be cut, and each part has chords of its own.
use Rattle.std.specs.Prelude.{◌≡◌, ◌≤◌, ◌<◌, ℕ, List, All, drop, length, take}
use Rattle.rhythm_base.specs.declared.event.Tempo.{Tempo}
use Rattle.rhythm_base.specs.declared.note.Note.{Note}
use Rattle.rhythm_base.specs.Chords.{StandsApart}

-- the note at the place stands apart from each note before it
abbrev pub IsBreak : List Tempo → ℕ → ℕ → List Note → ℕ → Type 0
IsBreak tempos division window notes place = All (λ n. StandsApart tempos division window n (drop place notes)) (take place notes)

-- the last break up to a place
pub record IsLastBreak (tempos : List Tempo) (division window : ℕ) (notes : List Note) (most place : ℕ) : Type 0 where
  pub within : place ≤ most
  pub break : IsBreak tempos division window notes place
  pub last : (k : ℕ) → place < k → k ≤ most → IsBreak tempos division window notes k → ⊥

-- the first break from a place on
pub record IsNextBreak (tempos : List Tempo) (division window : ℕ) (notes : List Note) (least place : ℕ) : Type 0 where
  pub from : least ≤ place
  pub within : place ≤ length notes
  pub break : IsBreak tempos division window notes place
  pub first : (k : ℕ) → least ≤ k → k < place → IsBreak tempos division window notes k → ⊥

-- up to a place there is one last break at most, and from a place on one next break at most
pub record BreaksAreOne : Type 0 where
  pub last : (tempos : List Tempo) (division window : ℕ) (notes : List Note) (most some other : ℕ)
      → IsLastBreak tempos division window notes most some → IsLastBreak tempos division window notes most other → some ≡ other
  pub next : (tempos : List Tempo) (division window : ℕ) (notes : List Note) (least some other : ℕ)
      → IsNextBreak tempos division window notes least some → IsNextBreak tempos division window notes least other → some ≡ other
