-- A take whose lower notes have channels of their own, as the hands of a player.
use Rattle.std.specs.Prelude.{ℕ, Bool, ◌+◌, ◌==◌, ◌&&◌, not, nat_lt, if◌then◌else◌, List, [], ◌∷◌, filter, length, map, Result, Ok, Err}
use Rattle.std.specs.List.{list_any}
use Rattle.rhythm_base.specs.declared.note.Note.{Note}
use Rattle.rhythm_base.specs.Lists.{list_with}
use Rattle.rhythm_base.specs.Performance.{place_of_note}
use Rattle.performance_load.specs.Take.{Take}
use Rattle.performance_prepare.specs.Drums.{drum_channel}
use Rattle.performance_prepare.specs.declared.prepare_fault.PrepareFault.{PrepareFault}
use Rattle.performance_prepare.specs.declared.prepare_fault.PrepareFault.TheVariants.{TooManyVoices}

abbrev pub all_channels : List ℕ
all_channels = 0 ∷ 1 ∷ 2 ∷ 3 ∷ 4 ∷ 5 ∷ 6 ∷ 7 ∷ 8 ∷ 9 ∷ 10 ∷ 11 ∷ 12 ∷ 13 ∷ 14 ∷ 15 ∷ []

-- in this order channels are given away, that of drums last of all
abbrev pub spare_channels : List ℕ
spare_channels = 0 ∷ 1 ∷ 2 ∷ 3 ∷ 4 ∷ 5 ∷ 6 ∷ 7 ∷ 8 ∷ 10 ∷ 11 ∷ 12 ∷ 13 ∷ 14 ∷ 15 ∷ 9 ∷ []

-- a note of the channel passes a test
abbrev pub has_note : (Note → Bool) → List Note → ℕ → Bool
has_note test notes c = list_any (λ n. (n.channel == c) && test n) notes

abbrev pub sounds : List Note → ℕ → Bool
sounds notes c = list_any (λ n. n.channel == c) notes

abbrev pub is_low : ℕ → Note → Bool
is_low key n = nat_lt n.key key

-- a channel but that of drums is split where it has notes on both sides of the key
abbrev pub is_split : ℕ → List Note → ℕ → Bool
is_split key notes c =
    not (c == drum_channel) && (has_note (is_low key) notes c && has_note (λ n. not (is_low key n)) notes c)

abbrev pub split_channels : ℕ → List Note → List ℕ
split_channels key notes = filter (is_split key notes) all_channels

abbrev pub free_channels : List Note → List ℕ
free_channels notes = filter (λ c. not (sounds notes c)) spare_channels

abbrev pub voice_channels : List Note → List ℕ
voice_channels notes = filter (sounds notes) all_channels

-- the lower notes of the first channel that is split get the first free one, and so on
abbrev pub lower_channel : List ℕ → List ℕ → ℕ → ℕ
lower_channel [] free c = c
lower_channel (s ∷ split) [] c = c
lower_channel (s ∷ split) (f ∷ free) c = if s == c then f else lower_channel split free c

abbrev pub parted_note : ℕ → List ℕ → List ℕ → Note → Note
parted_note key split free n = if is_low key n then record n { channel = lower_channel split free n.channel } else n

abbrev pub parted_notes : ℕ → List Note → List Note
parted_notes key notes = map (parted_note key (split_channels key notes) (free_channels notes)) notes

-- the notes, by channel, onset and key
abbrev pub in_order : List Note → List Note
in_order [] = []
in_order (n ∷ notes) = list_with place_of_note n (in_order notes)

-- notes below the key get channels of their own, where there are enough of them
abbrev pub with_split : ℕ → Take → Result Take PrepareFault
with_split key t =
    if nat_lt (length (free_channels t.notes)) (length (split_channels key t.notes))
    then Err (TooManyVoices (length (voice_channels t.notes) + length (split_channels key t.notes)))
    else Ok (record t { notes = in_order (parted_notes key t.notes) })
