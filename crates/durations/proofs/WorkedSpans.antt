-- Spans of small voices, by the definition.
use Rattle.std.specs.Prelude.{ℕ, Bool, true, false, List, [], ◌∷◌, refl}
use Rattle.std.proofs.Common.{subst, arith}
use Rattle.std.proofs.lemmas.Nat.Gcd.{IsGcd-from_mod, IsGcd-from_zero, IsGcd-swap}
use Rattle.std.specs.Int.{IsGcd}
use Rattle.rhythm_base.specs.declared.note.Bar.{Bar}
use Rattle.rhythm_base.specs.declared.sound.Sound.{Sound}
use Rattle.rhythm_base.specs.declared.sound.SoundKind.{SoundKind}
use Rattle.rhythm_base.specs.declared.sound.SoundKind.TheVariants.{Begin, Short, Tie, Rest}
use Rattle.rhythm_base.specs.declared.span.Frac.{Frac}
use Rattle.rhythm_base.specs.declared.span.Span.{Span}
use Rattle.durations.specs.Spans.{AreSpans, IsSpan}

abbrev sound : ℕ → ℕ → ℕ → SoundKind → Sound
sound bar place width kind = record { bar = bar; place = place; width = width; kind = kind; keys = 2; graces = [] }

abbrev frac : ℕ → ℕ → Frac
frac num den = record { num = num; den = den }

abbrev span : Frac → Frac → Bool → Span
span start len short = record { start = start; len = len; keys = 2; graces = []; short = short }

abbrev bars : List Bar
bars = record { start = 0; num = 4; den = 4 } ∷ record { start = 1920; num = 3; den = 4 } ∷ record { start = 3360; num = 4; den = 4 } ∷ []

one_over : (n : ℕ) → IsGcd n 1 1
one_over n = IsGcd-from_mod n 1 1 (subst (λ k. IsGcd 1 k 1) (omega arith) (IsGcd-from_zero 1 0 refl))

and : {X Y : Type 0} → X → Y → X × Y
and x y = (x, y)

-- a half note and a whole bar of 3/4 tied to it make one span, and so does a short half note after a rest
two_spans : AreSpans 8 bars
    (sound 0 0 4 Rest ∷ sound 0 4 4 Begin ∷ sound 1 0 8 Tie ∷ sound 2 0 4 Rest ∷ sound 2 4 4 Short ∷ [])
    (span (frac 1 2) (frac 5 4) false ∷ span (frac 9 4) (frac 1 2) true ∷ [])
two_spans =
    let half : IsGcd 1 2 1 = IsGcd-swap 2 1 1 (one_over 2) in
    let first : IsSpan 8 bars (sound 0 4 4 Begin, sound 1 0 8 Tie ∷ []) (span (frac 1 2) (frac 5 4) false) = record {
      start = record { value = refl; some = omega arith; lowest = half };
      len = record { value = refl; some = omega arith; lowest = IsGcd-from_mod 5 4 1 (one_over 4) };
      keys = refl;
      graces = refl;
      short = refl;
    } in
    let second : IsSpan 8 bars (sound 2 4 4 Short, []) (span (frac 9 4) (frac 1 2) true) = record {
      start = record { value = refl; some = omega arith; lowest = IsGcd-from_mod 9 4 1 (one_over 4) };
      len = record { value = refl; some = omega arith; lowest = half };
      keys = refl;
      graces = refl;
      short = refl;
    } in
    and first (and second refl)
