-- What holds of two hands that are parted.
use Rattle.std.specs.Prelude.{◌≡◌, ◌≢◌, ℕ, ◌<◌, false, List, All, Contains, map, Ok}
use Rattle.std.specs.List.Sorted.{IsPermutation}
use Rattle.rhythm_base.specs.declared.note.Note.{Note}
use Rattle.hand_borders.specs.Borders.{IsLeastBorders}
use Rattle.performance_load.specs.Take.{Take}
use Rattle.performance_load.specs.Taking.{IsTakeFormed}
use Rattle.performance_prepare.specs.Groups.{costs, groups}
use Rattle.performance_prepare.specs.Hands.{borders_of, handed_note, middle_of, notes_of, with_hands}
use Rattle.performance_prepare.specs.Laws.{unvoiced}
use Rattle.performance_prepare.specs.Split.{sounds}

-- but for their channels the notes are the same in another order, those of other channels stay, and one channel at most is new
pub record AreHanded (channel : ℕ) (notes others : List Note) : Type 0 where
  pub same : IsPermutation (map unvoiced notes) (map unvoiced others)
  pub stay : (n : Note) → n.channel ≢ channel → Contains notes n → Contains others n
  pub one : (m n : Note) → Contains others m → Contains others n → sounds notes m.channel ≡ false → sounds notes n.channel ≡ false
      → m.channel ≡ n.channel

abbrev pub HandsKeepNotes : Type 0
HandsKeepNotes =
    (channel within : ℕ) (t u : Take) → IsTakeFormed t → with_hands channel within t ≡ Ok u → AreHanded channel t.notes u.notes

-- no list of borders costs less, and none that costs as much comes before it
abbrev pub HandsAreLeast : Type 0
HandsAreLeast = (channel within : ℕ) (t : Take) →
    IsLeastBorders
    (costs t.tempos t.division (middle_of (notes_of channel t.notes)) (groups t.tempos t.division within (notes_of channel t.notes)))
    (borders_of t.tempos t.division within (notes_of channel t.notes))

-- of notes with one border those that get the left hand's channel lie below those that do not
abbrev pub HandsLieApart : Type 0
HandsLieApart =
    (left border : ℕ) (m n : Note) → m.channel ≢ left → n.channel ≢ left
    → (handed_note left border m).channel ≡ left → (handed_note left border n).channel ≢ left → m.key < n.key

-- a channel whose notes have one key stays as it is
abbrev pub HandsLeaveOneKey : Type 0
HandsLeaveOneKey =
    (channel within key : ℕ) (t : Take) → All (λ n. n.key ≡ key) (notes_of channel t.notes) → with_hands channel within t ≡ Ok t
