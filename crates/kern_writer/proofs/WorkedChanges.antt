-- The texts of changes, computed by the definition.
use Rattle.std.specs.Prelude.{◌≡◌, ℕ, ℤ, pos, negsuc, [], ◌∷◌, codes, refl, Option, Some, None}
use Rattle.std.specs.Fmt.{digits}
use Rattle.derivation.specs.declared.score.ScoreBar.{ScoreBar}
use Rattle.kern_writer.specs.Changes.{changes, key_text}

abbrev bar : ℕ → ℕ → ℕ → Option ℤ → ScoreBar
bar num den tempo sf = record { num = num; den = den; tempo = tempo; sf = sf }

-- two flats, the first bar
first_bar : changes None (bar 4 4 600000 (Some (negsuc 1))) ≡ codes "*k[b-e-]" ∷ codes "*M4/4" ∷ codes "*MM100" ∷ []
unfolding digits
first_bar = refl

-- no key yet
no_key : changes None (bar 5 4 500000 None) ≡ codes "*M5/4" ∷ codes "*MM120" ∷ []
unfolding digits
no_key = refl

-- one more change alone
tempo_alone : changes (Some (bar 4 4 600000 (Some (negsuc 1)))) (bar 4 4 500000 (Some (negsuc 1))) ≡ codes "*MM120" ∷ []
unfolding digits
tempo_alone = refl

-- a tempo that is rounded to the same number: 480,000 and 480,001 microseconds are both 125 quarters of a minute
same_number : changes (Some (bar 4 4 480000 None)) (bar 4 4 480001 None) ≡ []
same_number = refl

-- halves are rounded up: 120,000,000 microseconds are half a quarter of a minute
half_up : changes (Some (bar 4 4 500000 None)) (bar 4 4 120000000 None) ≡ codes "*MM1" ∷ []
unfolding digits
half_up = refl

-- a key, a signature and a tempo at one barline
all_three : changes (Some (bar 4 4 500000 None)) (bar 6 8 250000 (Some (pos 3))) ≡ codes "*k[f#c#g#]" ∷ codes "*M6/8" ∷ codes "*MM240" ∷ []
unfolding digits
all_three = refl

no_accidental : key_text (pos 0) ≡ codes "*k[]"
no_accidental = refl

seven_sharps : key_text (pos 7) ≡ codes "*k[f#c#g#d#a#e#b#]"
seven_sharps = refl

seven_flats : key_text (negsuc 6) ≡ codes "*k[b-e-a-d-g-c-f-]"
seven_flats = refl
