-- What holds of strums that begin together.
use Rattle.std.specs.Prelude.{◌≡◌, ℕ, Bool, ◌<◌, ◌≤◌, ◌-◌, ◌==◌, ◌&&◌, ◌||◌, not, List, length, map, slice_index, All, AllPairs}
use Rattle.std.specs.List.Sorted.{IsPermutation}
use Rattle.rhythm_base.specs.Lists.{AreInOrder, Each}
use Rattle.rhythm_base.specs.Performance.{place_of_note}
use Rattle.rhythm_base.specs.declared.event.Tempo.{Tempo}
use Rattle.rhythm_base.specs.declared.note.Note.{Note}
use Rattle.performance_load.specs.Take.{Take}
use Rattle.performance_load.specs.Taking.{IsTakeFormed}
use Rattle.performance_prepare.specs.Drums.{is_drum}
use Rattle.performance_prepare.specs.Parts.{parts}
use Rattle.performance_prepare.specs.Strum.{midway, rolls_on, strums, with_strum}

-- a note that begins elsewhere, but not after its end; one of some ticks has at least one
pub record IsStruck (n m : Note) : Type 0 where
  pub channel : m.channel ≡ n.channel
  pub key : m.key ≡ n.key
  pub end : m.end ≡ n.end
  pub after : n.onset ≤ n.end → m.onset ≤ m.end
  pub long : n.onset < n.end → m.onset < m.end

-- the notes are the same but for their onsets, and no two are of one channel, onset and key. Listed as they were, they begin in the
-- order of before in each channel: what began before begins before or together
pub record AreStrummed (notes strummed : List Note) : Type 0 where
  pub others : List Note
  pub each : Each IsStruck notes others
  pub order : AllPairs (λ m n. m.channel ≡ n.channel → m.onset ≤ n.onset) others
  pub same : IsPermutation others strummed
  pub apart : AreInOrder place_of_note strummed

abbrev pub StrumsKeepNotes : Type 0
StrumsKeepNotes = (within : ℕ) (t : Take) → IsTakeFormed t → AreStrummed t.notes (with_strum within t).notes

-- a strum begins at its first onset or after it, and at its last or before it
pub record IsBetween (strum : List Note) : Type 0 where
  pub first : slice_index (map (λ n. n.onset) strum) 0 ≤ midway strum
  pub last : midway strum ≤ slice_index (map (λ n. n.onset) strum) (length strum - 1)

abbrev pub StrumsStayBetween : Type 0
StrumsStayBetween = (within : ℕ) (t : Take) → IsTakeFormed t → All IsBetween (strums t.tempos t.division within t.notes)

-- a note goes on with the strum before it, whatever their keys
abbrev pub goes_on : List Tempo → ℕ → ℕ → List Note → Note → Note → Bool
goes_on tempos division within run last n =
    (n.channel == last.channel) && (not (is_drum n) && ((n.onset == last.onset) || rolls_on tempos division within run last n))

-- each note ends at the latest where its key is struck again in its channel, as it does in the take of a file
abbrev pub EndWhereStruck : List Note → Type 0
EndWhereStruck notes = AllPairs (λ m n. m.channel ≡ n.channel → m.key ≡ n.key → m.end ≤ n.onset) notes

-- then no strum would have a key twice without the test of it
abbrev pub StrumsHaveNoKeyTwice : Type 0
StrumsHaveNoKeyTwice =
    (within : ℕ) (t : Take) → IsTakeFormed t → EndWhereStruck t.notes
    → parts (goes_on t.tempos t.division within) t.notes ≡ strums t.tempos t.division within t.notes

-- and a second strum by the same milliseconds changes nothing
abbrev pub StrumsChangeNothingAgain : Type 0
StrumsChangeNothingAgain =
    (within : ℕ) (t : Take) → IsTakeFormed t → EndWhereStruck t.notes → with_strum within (with_strum within t) ≡ with_strum within t
