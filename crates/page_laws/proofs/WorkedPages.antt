-- Pages worked out: what is read of them, and of which texts nothing is read.
use Rattle.std.proofs.Common.{◌≡◌, ℕ, Bool, true, false, List, [], ◌∷◌, ◌++◌, Some, None, refl}
use Rattle.std.specs.Prelude.{codes}
use Rattle.rhythm_base.specs.declared.span.Span.{Span}
use Rattle.text_words.specs.Divisors.{gcd}
use Rattle.text_words.specs.Numbers.{number_of}
use Rattle.lily_writer.specs.Words.{scale_of}
use Rattle.score_words.specs.TextLines.{lines_text}
use Rattle.page_laws.specs.Hearing.{hear_page_word}
use Rattle.page_laws.specs.Reading.{hear_page_bar, hear_page_line, page_events}
use Rattle.page_laws.specs.Words.{page_base, page_ending, page_key, page_word, page_pitched_word}

-- ---- pitches and values: B sharp as the lowest key, two flats, and half a 1024th

lowest_key : page_key (codes "bis,,,,,") ≡ Some 0
unfolding page_key
lowest_key = refl

flats : page_key (codes "eeses'") ≡ Some 62
unfolding page_key
flats = refl

no_name : page_key (codes "hes'") ≡ None
unfolding page_key
no_name = refl

value : page_ending (codes "1024*1/2") ≡ Some (record { len = record { num = 1; den = 2048 }; short = false; tied = false })
unfolding page_ending page_base number_of scale_of gcd lib.Count.ones
value = refl

no_value : page_ending (codes "3") ≡ None
unfolding page_ending page_base number_of scale_of gcd lib.Count.ones
no_value = refl

-- ---- staves

abbrev span : ℕ → ℕ → ℕ → ℕ → ℕ → List ℕ → Bool → Span
span from of len part keys graces short =
    record { start = record { num = from; den = of }; len = record { num = len; den = part }; keys = keys; graces = graces; short = short }

-- a staff of 4/4 with these lines of bars
abbrev staff : List (List ℕ) → List (List ℕ)
staff bars =
    codes "\\new Staff \\with { instrumentName = \"Channel 0\" shortInstrumentName = \"0\" } {" ∷ codes "\\clef \"bass\""
    ∷ codes "\\time 4/4"
    ∷ codes "\\tempo 4 = 120" ∷ (bars ++ codes "\\bar \"|.\"" ∷ codes "}" ∷ [])

-- a short chord, a tie into a triplet, out of it and over a barline, a silent grace note within the tie, a bar of rests, and a grace note
page :
    page_events (lines_text (codes "\\version \"2.24.0\"" ∷ codes "\\score {" ∷ staff
    (codes "<c,,,, d,,,,>4-. \\tuplet 3/2 { c,,,,4~ c,,,,8~ } c,,,,2~ |" ∷ codes "\\slashedGrace { s8 } c,,,,1 |" ∷ codes "R1*4/4 |"
    ∷ codes "r2 \\slashedGrace { des,,,,8 } c,,,,2 |" ∷ [])))
    ≡ Some ((span 0 1 1 4 5 [] true ∷ span 1 4 7 4 1 [] false ∷ span 7 2 1 2 1 (2 ∷ []) false ∷ []) ∷ [])
unfolding page_events hear_page_line hear_page_bar hear_page_word page_word page_key page_ending page_base number_of scale_of page_pitched_word
    gcd lib.Count.ones
page = refl

-- two staves, the second of which changes to 3/8
staves :
    page_events (lines_text
    (codes "\\new StaffGroup <<" ∷
    (staff (codes "c,,,,1 |" ∷ []) ++ staff (codes "R1*4/4 |" ∷ codes "\\time 3/8" ∷ codes "d,,,,4. |" ∷ [])
    ++ codes ">>" ∷ codes "}" ∷ [])))
    ≡ Some ((span 0 1 1 1 1 [] false ∷ []) ∷ (span 1 1 3 8 4 [] false ∷ []) ∷ [])
unfolding page_events hear_page_line hear_page_bar hear_page_word page_word page_key page_ending page_base number_of scale_of page_pitched_word
    gcd lib.Count.ones
staves = refl

-- ---- of such bars nothing is read: keys that fall, a bar that is too short, a bracket in a bracket, one that does not end, a grace chord
-- before a rest, at the end of a bar and within a tie

falling : page_events (lines_text (staff (codes "<d,,,, c,,,,>1 |" ∷ []))) ≡ None
unfolding page_events hear_page_line hear_page_bar hear_page_word page_word page_key page_ending page_base number_of scale_of page_pitched_word
    gcd lib.Count.ones
falling = refl

short : page_events (lines_text (staff (codes "c,,,,2. |" ∷ []))) ≡ None
unfolding page_events hear_page_line hear_page_bar hear_page_word page_word page_key page_ending page_base number_of scale_of page_pitched_word
    gcd lib.Count.ones
short = refl

nested : page_events (lines_text (staff (codes "\\tuplet 3/2 { \\tuplet 3/2 { c,,,,1 } } |" ∷ []))) ≡ None
unfolding page_events hear_page_line hear_page_bar hear_page_word page_word page_key page_ending page_base number_of scale_of page_pitched_word
    gcd lib.Count.ones
nested = refl

open_bracket : page_events (lines_text (staff (codes "\\tuplet 3/2 { c,,,,1. |" ∷ []))) ≡ None
unfolding page_events hear_page_line hear_page_bar hear_page_word page_word page_key page_ending page_base number_of scale_of page_pitched_word
    gcd lib.Count.ones
open_bracket = refl

grace_of_rest : page_events (lines_text (staff (codes "\\slashedGrace { c,,,,8 } r1 |" ∷ []))) ≡ None
unfolding page_events hear_page_line hear_page_bar hear_page_word page_word page_key page_ending page_base number_of scale_of page_pitched_word
    gcd lib.Count.ones
grace_of_rest = refl

grace_at_end : page_events (lines_text (staff (codes "c,,,,1 \\slashedGrace { c,,,,8 } |" ∷ []))) ≡ None
unfolding page_events hear_page_line hear_page_bar hear_page_word page_word page_key page_ending page_base number_of scale_of page_pitched_word
    gcd lib.Count.ones
grace_at_end = refl

grace_in_tie : page_events (lines_text (staff (codes "c,,,,2~ \\slashedGrace { c,,,,8 } c,,,,2 |" ∷ []))) ≡ None
unfolding page_events hear_page_line hear_page_bar hear_page_word page_word page_key page_ending page_base number_of scale_of page_pitched_word
    gcd lib.Count.ones
grace_in_tie = refl

-- ---- nor of a tie to other keys, to a rest, or to the end

to_others : page_events (lines_text (staff (codes "c,,,,2~ d,,,,2 |" ∷ []))) ≡ None
unfolding page_events hear_page_line hear_page_bar hear_page_word page_word page_key page_ending page_base number_of scale_of page_pitched_word
    gcd lib.Count.ones
to_others = refl

to_a_rest : page_events (lines_text (staff (codes "c,,,,1~ |" ∷ codes "R1*4/4 |" ∷ []))) ≡ None
unfolding page_events hear_page_line hear_page_bar hear_page_word page_word page_key page_ending page_base number_of scale_of page_pitched_word
    gcd lib.Count.ones
to_a_rest = refl

to_the_end : page_events (lines_text (staff (codes "c,,,,1~ |" ∷ []))) ≡ None
unfolding page_events hear_page_line hear_page_bar hear_page_word page_word page_key page_ending page_base number_of scale_of page_pitched_word
    gcd lib.Count.ones
to_the_end = refl
