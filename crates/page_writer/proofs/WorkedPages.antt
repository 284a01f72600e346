-- Worked lines and pages, by the definitions, of notation that is given.
use Rattle.std.specs.Prelude.{◌≡◌, ℕ, ℤ, ◌^◌, ◌+◌, ◌==◌, pos, negsuc, Bool, true, false, List, [], ◌∷◌, codes, map, refl, Option, Some, None}
use Rattle.std.specs.Fmt.{digits}
use Rattle.std.specs.List.{slice_split}
use Rattle.rhythm_base.specs.declared.sound.Sound.{Sound}
use Rattle.rhythm_base.specs.declared.sound.SoundKind.{SoundKind}
use Rattle.rhythm_base.specs.declared.sound.SoundKind.TheVariants.{Begin, Tie, Rest}
use Rattle.durations.specs.declared.value.Recip.TheVariants.{Of}
use Rattle.durations.specs.declared.value.Value.{Value}
use Rattle.derivation.specs.declared.score.ScoreBar.{ScoreBar}
use Rattle.derivation.specs.Score.{Score}
use Rattle.notation.specs.Names.{first_place}
use Rattle.notation.specs.Notes.{Group, Note}
use Rattle.score_words.specs.Keys.{rising_keys}
use Rattle.page_writer.specs.Bars.{bar_line}
use Rattle.score_words.specs.LilyChanges.{key_name}
use Rattle.page_writer.specs.Page.{page_lines}
use Rattle.page_writer.specs.Pitches.{page_pitch}
use Rattle.page_writer.specs.Values.{page_value}

abbrev value : ℕ → ℕ → Value
value n dots = record { recip = Of n; dots = dots }

abbrev bar : ℕ → ℕ → Option ℤ → ScoreBar
bar num den sf = record { num = num; den = den; tempo = 500000; sf = sf }

abbrev full_note : ℕ → Value → List ℕ → Bool → Bool → Note
full_note keys v graces short goes = record { duration = 0; value = v; keys = keys; graces = graces; short = short; comes = false; goes = goes }

abbrev note : ℕ → ℕ → Note
note key n = full_note (2 ^ key) (value n 0) [] false false

abbrev rest : ℕ → Note
rest n = full_note 0 (value n 0) [] false false

abbrev group : ℕ → ℕ → List Note → Group
group actual normal notes = record { ratio = record { actual = actual; normal = normal }; notes = notes }

-- ---- names, values, keys

pitches : map (page_pitch (Some (pos 7))) (0 ∷ 62 ∷ 67 ∷ 59 ∷ []) ≡ codes "bis,,,,," ∷ codes "cisis'" ∷ codes "fisis'" ∷ codes "b" ∷ []
unfolding first_place
pitches = refl

flat_pitches : map (page_pitch (Some (negsuc 6))) (59 ∷ 62 ∷ 57 ∷ 67 ∷ []) ≡ codes "ces'" ∷ codes "eeses'" ∷ codes "beses" ∷ codes "g'" ∷ []
unfolding first_place
flat_pitches = refl

flat_keys : map key_name (negsuc 6 ∷ negsuc 5 ∷ negsuc 4 ∷ negsuc 3 ∷ negsuc 2 ∷ negsuc 1 ∷ negsuc 0 ∷ [])
    ≡ slice_split (λ b. b == 32) (codes "ces ges des aes ees bes f")
flat_keys = refl

other_keys : map key_name (pos 0 ∷ pos 1 ∷ pos 2 ∷ pos 3 ∷ pos 4 ∷ pos 5 ∷ pos 6 ∷ pos 7 ∷ [])
    ≡ slice_split (λ b. b == 32) (codes "c g d a e b fis cis")
other_keys = refl

values : map (λ n. page_value (value n 1)) (4 ∷ 1024 ∷ 2048 ∷ 8192 ∷ []) ≡ codes "4." ∷ codes "1024." ∷ codes "1024.*1/2" ∷ codes "1024.*1/8" ∷ []
unfolding digits
values = refl

-- ---- bars

short_chord : bar_line (bar 5 4 None) 0 (group 1 1 (full_note (2 ^ 60 + 2 ^ 64) (value 1 0) [] true true ∷ []) ∷ group 1 1
    (full_note (2 ^ 60 + 2 ^ 64) (value 4 0) [] false false ∷ []) ∷ []) ≡ codes "<c' e'>1-.~ <c' e'>4 |"
unfolding digits first_place rising_keys
short_chord = refl

graces_in_a_bracket : bar_line (bar 4 4 None) 0 (group 9 8 (full_note (2 ^ 60) (value 8 1) [] false false ∷ note 62 16 ∷ full_note (2 ^ 64) (value 8 0)
    (2 ^ 65 ∷ []) false true ∷ full_note (2 ^ 64) (value 8 1) [] false false ∷ []) ∷ group 1 1 (rest 2 ∷ []) ∷ [])
    ≡ codes "\\tuplet 9/8 { c'8. d'16 \\slashedGrace { f'8 } e'8~ e'8. } r2 |"
unfolding digits first_place rising_keys
graces_in_a_bracket = refl

-- silent ones stand before the graces of the first note, and outside of its bracket
silent_and_graces : bar_line (bar 2 4 None) 2 (group 3 2 (full_note (2 ^ 60) (value 4 0) (2 ^ 62 ∷ []) false false ∷ note 64 8 ∷ [])
    ∷ group 1 1 (note 65 4 ∷ []) ∷ [])
    ≡ codes "\\slashedGrace { s8 s8 d'8 } \\tuplet 3/2 { c'4 e'8 } f'4 |"
unfolding digits first_place rising_keys
silent_and_graces = refl

whole_rest : bar_line (bar 5 4 None) 1 [] ≡ codes "\\slashedGrace { s8 } R1*5/4 |"
unfolding digits
whole_rest = refl

-- ---- a page of three voices: silent grace notes where the signature changes, and none in the bar after

abbrev sound : ℕ → SoundKind → ℕ → List ℕ → Sound
sound n kind keys graces = record { bar = n; place = 0; width = 3; kind = kind; keys = keys; graces = graces }

abbrev score : Score
score = record {
  resolution = 3;
  bars = bar 1 4 None ∷ bar 3 4 None ∷ bar 3 4 None ∷ [];
  voices =
      (sound 0 Rest 0 [] ∷ sound 1 Begin (2 ^ 60) (2 ^ 62 ∷ 2 ^ 64 ∷ []) ∷ sound 2 Begin (2 ^ 60) (2 ^ 62 ∷ []) ∷ [])
      ∷ (sound 0 Rest 0 [] ∷ sound 1 Begin (2 ^ 48) (2 ^ 50 ∷ []) ∷ sound 2 Tie (2 ^ 48) [] ∷ [])
      ∷ (sound 0 Rest 0 [] ∷ sound 1 Begin (2 ^ 72) [] ∷ sound 2 Tie (2 ^ 72) [] ∷ [])
      ∷ [];
}

abbrev half : ℕ → List ℕ → Bool → List Group
half key graces goes = group 1 1 (full_note (2 ^ key) (value 2 1) graces false goes ∷ []) ∷ []

abbrev written : List (List (List Group))
written =
    ([] ∷ half 60 (2 ^ 62 ∷ 2 ^ 64 ∷ []) false ∷ half 60 (2 ^ 62 ∷ []) false ∷ [])
    ∷ ([] ∷ half 48 (2 ^ 50 ∷ []) true ∷ half 48 [] false ∷ [])
    ∷ ([] ∷ half 72 [] true ∷ half 72 [] false ∷ [])
    ∷ []

three_voices : page_lines score (0 ∷ 1 ∷ 5 ∷ []) written ≡
    codes "\\version \"2.24.0\""
    ∷ codes "\\header { tagline = ##f }"
    ∷ codes "#(set-global-staff-size 16)"
    ∷ codes "\\paper { page-breaking-system-system-spacing = #'((basic-distance . 14) (minimum-distance . 10) (padding . 8)) }"
    ∷ codes "\\score {"
    ∷ codes "\\new StaffGroup <<"
    ∷ codes "\\new Staff \\with { instrumentName = \"Channel 0\" shortInstrumentName = \"0\" } {"
    ∷ codes "\\clef \"treble\""
    ∷ codes "\\time 1/4"
    ∷ codes "\\tempo 4 = 120"
    ∷ codes "R1*1/4 |"
    ∷ codes "\\time 3/4"
    ∷ codes "\\slashedGrace { d'8 e'8 } c'2. |"
    ∷ codes "\\slashedGrace { d'8 } c'2. |"
    ∷ codes "\\bar \"|.\""
    ∷ codes "}"
    ∷ codes "\\new Staff \\with { instrumentName = \"Channel 1\" shortInstrumentName = \"1\" } {"
    ∷ codes "\\clef \"bass\""
    ∷ codes "\\time 1/4"
    ∷ codes "R1*1/4 |"
    ∷ codes "\\time 3/4"
    ∷ codes "\\slashedGrace { s8 d8 } c2.~ |"
    ∷ codes "c2. |"
    ∷ codes "\\bar \"|.\""
    ∷ codes "}"
    ∷ codes "\\new Staff \\with { instrumentName = \"Channel 5\" shortInstrumentName = \"5\" } {"
    ∷ codes "\\clef \"treble\""
    ∷ codes "\\time 1/4"
    ∷ codes "R1*1/4 |"
    ∷ codes "\\time 3/4"
    ∷ codes "\\slashedGrace { s8 s8 } c''2.~ |"
    ∷ codes "c''2. |"
    ∷ codes "\\bar \"|.\""
    ∷ codes "}"
    ∷ codes ">>"
    ∷ codes "\\layout { indent = 22\\mm short-indent = 8\\mm \\context { \\Staff \\RemoveEmptyStaves } }"
    ∷ codes "}"
    ∷ []
unfolding digits first_place rising_keys
three_voices = refl
