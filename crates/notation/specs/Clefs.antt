-- The clef of a voice: by the mean key of its chords, since one low note should not decide.
use Rattle.std.specs.Prelude.{ℕ, ◌*◌, ◌==◌, nat_lt, if◌then◌else◌, List, [], length, sum}
use Rattle.std.specs.List.{flat_map}
use Rattle.rhythm_base.specs.declared.sound.Sound.{Sound}
use Rattle.rhythm_base.specs.SoundKinds.{begins_chord}
use Rattle.score_words.specs.Keys.{rising_keys}
use Rattle.notation.specs.declared.clef.Clef.{Clef}
use Rattle.notation.specs.declared.clef.Clef.TheVariants.{BassBelow, Bass, Treble, TrebleAbove}

-- the keys of the chord that a sound begins
abbrev pub begun_keys : Sound → List ℕ
begun_keys s = if begins_chord s.kind then rising_keys s.keys else []

-- the keys of all chords of a voice
abbrev pub chord_keys : List Sound → List ℕ
chord_keys sounds = flat_map begun_keys sounds

-- By the mean of so many keys with this sum: below 41 bass an octave down, below 60 bass, below 81 treble, from 81 on treble an octave up.
-- Without a key it is treble
abbrev pub mean_clef : ℕ → ℕ → Clef
mean_clef total count =
    if count == 0 then Treble
    else if nat_lt total (41 * count) then BassBelow
    else if nat_lt total (60 * count) then Bass
    else if nat_lt total (81 * count) then Treble
    else TrebleAbove

abbrev pub clef_of : List Sound → Clef
clef_of sounds = mean_clef (sum (chord_keys sounds)) (length (chord_keys sounds))
