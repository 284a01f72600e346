-- How the notes of a group are spelled, in parts of its grid, and which tokens can be.
use Rattle.std.specs.Prelude.{◌≡◌, ℕ, ◌+◌, ◌-◌, ◌*◌, ◌/◌, ◌≤◌, ◌++◌, true, List, All, Vec}
use Rattle.std.specs.Int.{◌∣◌}
use Rattle.durations.specs.declared.value.Value.{Value}
use Rattle.durations.specs.Value.{plain_grid}
use Rattle.durations.specs.Values.{AreValues}
use Rattle.notation.specs.Notes.{AreNotes, Note, joined_ties, token_notes}
use Rattle.notation.specs.Runs.{AreRun}
use Rattle.notation.specs.Tokens.{Token, token_length}

-- so many parts are one of the grid, and so many of the grid a whole note
pub record Spelling : Type 0 where
  pub grid : ℕ
  pub whole : ℕ

-- a value of a note: a part of a whole note or some whole notes, with two dots at most
pub record IsNoteValue (v : Value) : Type 0 where
  pub dots : v.dots ≤ 2
  pub some : 1 ≤ plain_grid v.recip

-- tokens side by side whose places count in the grid
pub record AreInGrid (grid : ℕ) (tokens : List Token) : Type 0 where
  pub resolution : ℕ
  pub run : AreRun resolution tokens
  pub count : All (λ t. (grid ∣ t.start) × (grid ∣ t.end)) tokens

-- a token that can be spelled: it is no shorter than a part of the grid, and no longer than 64 whole notes
pub record IsSpellable (grid whole : ℕ) (t : Token) : Type 0 where
  pub some : t.start + grid ≤ t.end
  pub few : (t.end - t.start) / grid ≤ 64 * whole

-- the notes of a token by these values
abbrev pub notes_by : Spelling → Token → List Value → List Note
notes_by s t values = token_notes s.grid s.whole t true values

-- the notes of a token stand after others, by values of its length
abbrev pub AddsNotesOf : {A : Type 0} → Spelling → Token → Vec Note A → Vec Note A → Type 0
AddsNotesOf s t before after =
    (values : List Value) × AreValues (token_length t / s.grid) s.whole values
    × (after.items ≡ before.items ++ notes_by s t values)

-- the notes of a group, in which ties are joined where it has a bracket of so many
abbrev pub AreSpelled : Spelling → ℕ → List Token → List Note → Type 0
AreSpelled s actual tokens notes = AreNotes s.grid s.whole (joined_ties actual s.grid s.whole tokens) notes
