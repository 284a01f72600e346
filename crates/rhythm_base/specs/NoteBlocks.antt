-- A list of notes as blocks, each of notes that follow one another.
use Rattle.std.specs.Prelude.{◌≡◌, ℕ, ◌+◌, ◌<◌, ◌≤◌, List, [], ◌∷◌, length, refl, Option, Some, None}
use Rattle.std.specs.Coded.{Coded, code_by, coded×, coded_ℕ, coded_list}
use Rattle.std.specs.List.{AllWithin, flat_map}
use Rattle.rhythm_base.specs.declared.note.Note.{Note}
use Rattle.rhythm_base.specs.PerformanceCode.{note_code}

-- some notes of a list, and how many of the list stand before them
pub record Block : Type 0 where
  pub from : ℕ
  pub notes : List Note

-- the notes of all blocks
abbrev pub notes_of : List Block → List Note
notes_of blocks = flat_map (λ b. b.notes) blocks

-- before the notes of each block stand as many as it says, and after the last block as many as `up_to`
abbrev pub AreBlocks : ℕ → List Block → ℕ → Type 0
AreBlocks from [] up_to = from ≡ up_to
AreBlocks from (b ∷ blocks) up_to = (b.from ≡ from) × AreBlocks (from + length b.notes) blocks up_to

-- the block of this number is the last one before which no more notes stand than `place`; or there is no block
abbrev pub IsBlockOf : List Block → ℕ → Option ℕ → Type 0
IsBlockOf blocks place None = blocks ≡ []
IsBlockOf blocks place (Some i) = (i < length blocks) × AllWithin (λ b. b.from ≤ place) blocks 0 (i + 1) × AllWithin (λ b. place < b.from) blocks (i + 1) (length blocks)

abbrev pub block_code : Coded Block
block_code = code_by (ℕ × List Note) (coded× coded_ℕ (coded_list note_code)) (λ b. (b.from, b.notes)) (λ q. record { from = q.0; notes = q.1 }) (λ _. refl)

abbrev pub notes_code : Coded (List Note)
notes_code = coded_list note_code
