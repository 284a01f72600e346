-- When two inputs are equal, as a test, and what of an input is hashed.
use Rattle.std.specs.Prelude.{ℕ, ◌+◌, ◌*◌, ◌%◌, ◌^◌, Bool, ◌==◌, ◌&&◌, fold, nat_eq}
use Rattle.std.specs.Cmp.Lexicographic.{pointwise}
use Rattle.std.specs.Option.{option_eq}
use Rattle.std.specs.Hash.{HashWrites, u64}
use Rattle.rhythm_base.specs.BarInput.{BarInput}
use Rattle.rhythm_base.specs.Shape.{Shape}
use Rattle.rhythm_base.specs.ShapeCode.{shape_numbers}
use Rattle.rhythm_base.specs.declared.inner.Inner.{Inner}

abbrev pub same_chord : Inner → Inner → Bool
same_chord c d = (c.onset == d.onset) && (c.end == d.end)

abbrev pub same_shape : Shape → Shape → Bool
same_shape x y = pointwise nat_eq (shape_numbers x) (shape_numbers y)

-- each part of the one is equal to that of the other
abbrev pub same_input : BarInput → BarInput → Bool
same_input k m =
    (k.symbol == m.symbol) && ((k.resolution == m.resolution) && ((k.num == m.num) && ((k.den == m.den)
    && ((k.length == m.length) && ((k.before == m.before)
    && (pointwise same_chord k.chords m.chords && option_eq same_shape k.pin m.pin))))))

-- a number mixed into those before it
abbrev pub mixed : ℕ → ℕ → ℕ
mixed sum number = ((sum * 11400714819323198485) % 2 ^ 64 + number) % 2 ^ 64

abbrev pub chord_mixed : ℕ → Inner → ℕ
chord_mixed sum c = mixed (mixed sum c.onset) c.end

-- one number of all but the units, which one grammar gives to all, the signature, which goes with the symbol, and the pin, which few have
abbrev pub digest : BarInput → ℕ
digest k = fold chord_mixed (mixed (mixed k.symbol k.length) k.before) k.chords

abbrev pub input_writes : BarInput → HashWrites
input_writes k = u64 (digest k)
