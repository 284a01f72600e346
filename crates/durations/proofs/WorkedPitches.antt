-- Worked pitches, computed by the definition.
use Rattle.std.specs.Prelude.{◌≡◌, true, false, codes, refl}
use Rattle.durations.specs.Pitch.{pitch}

middle_c : pitch false 60 ≡ codes "c"
middle_c = refl

octave_above : pitch false 72 ≡ codes "cc"
octave_above = refl

octave_below : pitch false 48 ≡ codes "C"
octave_below = refl

two_below : pitch true 36 ≡ codes "CC"
two_below = refl

lowest : pitch false 0 ≡ codes "CCCCC"
lowest = refl

highest : pitch false 127 ≡ codes "gggggg"
highest = refl

as_sharp : pitch false 70 ≡ codes "a#"
as_sharp = refl

as_flat : pitch true 70 ≡ codes "b-"
as_flat = refl

low_flat : pitch true 46 ≡ codes "BB-"
low_flat = refl
