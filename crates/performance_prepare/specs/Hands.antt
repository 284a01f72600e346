-- A take whose left hand has a channel of its own.
use Rattle.std.specs.Prelude.{ℕ, Bool, ◌+◌, ◌==◌, ◌||◌, not, nat_lt, if◌then◌else◌, List, [], ◌∷◌, ◌++◌, filter, length, map, Result, Ok, Err}
use Rattle.rhythm_base.specs.declared.event.Tempo.{Tempo}
use Rattle.rhythm_base.specs.declared.note.Note.{Note}
use Rattle.hand_borders.specs.Borders.{least_borders}
use Rattle.performance_load.specs.Take.{Take}
use Rattle.performance_prepare.specs.Groups.{costs, groups}
use Rattle.performance_prepare.specs.Middle.{middle}
use Rattle.performance_prepare.specs.Split.{free_channels, in_order, voice_channels}
use Rattle.performance_prepare.specs.declared.prepare_fault.PrepareFault.{PrepareFault}
use Rattle.performance_prepare.specs.declared.prepare_fault.PrepareFault.TheVariants.{TooManyVoices}

abbrev pub notes_of : ℕ → List Note → List Note
notes_of channel notes = filter (λ n. n.channel == channel) notes

abbrev pub other_notes : ℕ → List Note → List Note
other_notes channel notes = filter (λ n. not (n.channel == channel)) notes

-- ---- the border of each group

abbrev pub middle_of : List Note → ℕ
middle_of notes = middle (map (λ n. n.key) notes)

-- of all lists of borders, one for each group, that of least cost, and of equals the first in the order of words
abbrev pub borders_of : List Tempo → ℕ → ℕ → List Note → List ℕ
borders_of tempos division within notes = least_borders (costs tempos division (middle_of notes) (groups tempos division within notes))

-- ---- the hands

abbrev pub notes_below : ℕ → List Note → List Note
notes_below border notes = filter (λ n. nat_lt n.key border) notes

-- the notes below the border of their group
abbrev pub left_notes : List (List Note) → List ℕ → List Note
left_notes (group ∷ groups) (border ∷ borders) = notes_below border group ++ left_notes groups borders
left_notes _ _ = []

abbrev pub handed_note : ℕ → ℕ → Note → Note
handed_note left border n = if nat_lt n.key border then record n { channel = left } else n

-- all notes, those of the left hand in a channel of their own
abbrev pub handed_notes : ℕ → List (List Note) → List ℕ → List Note
handed_notes left (group ∷ groups) (border ∷ borders) = map (handed_note left border) group ++ handed_notes left groups borders
handed_notes left _ _ = []

-- the notes of one group
abbrev pub handed_group : ℕ → ℕ → List Note → List Note
handed_group left border group = map (handed_note left border) group

-- how many of the notes the left hand has
abbrev pub left_count : List Tempo → ℕ → ℕ → List Note → List ℕ → ℕ
left_count tempos division within notes borders = length (left_notes (groups tempos division within notes) borders)

-- ---- the take

-- the left hand gets the first free channel
abbrev pub with_left : List ℕ → ℕ → List (List Note) → List ℕ → Take → Result Take PrepareFault
with_left [] channel groups borders t = Err (TooManyVoices (length (voice_channels t.notes) + 1))
with_left (left ∷ free) channel groups borders t =
    Ok (record t { notes = in_order (other_notes channel t.notes ++ handed_notes left groups borders) })

abbrev pub is_one_hand : List Note → List Note → Bool
is_one_hand notes left = (length left == 0) || (length left == length notes)

-- where one hand has all notes of the channel, or there are none, the take stays
abbrev pub with_borders : ℕ → List (List Note) → List ℕ → Take → Result Take PrepareFault
with_borders channel groups borders t =
    if is_one_hand (notes_of channel t.notes) (left_notes groups borders) then Ok t
    else with_left (free_channels t.notes) channel groups borders t

-- the channel's notes in groups that begin within so many milliseconds from note to note, parted by borders of least cost
abbrev pub with_hands : ℕ → ℕ → Take → Result Take PrepareFault
with_hands channel within t =
    with_borders channel (groups t.tempos t.division within (notes_of channel t.notes))
    (borders_of t.tempos t.division within (notes_of channel t.notes)) t
