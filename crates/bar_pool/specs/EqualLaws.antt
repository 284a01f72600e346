-- The test of equal inputs tells when they are equal, and equal ones are hashed alike.
use Rattle.std.proofs.Common.{◌≡◌, true, ◌==◌, List, refl, sym, ap, ◌∙◌}
use Rattle.std.proofs.lemmas.Bool.Decides.{Decides-and, Decides-eqb, Decides-like}
use Rattle.std.specs.Prelude.{ℕ, Option, Some, None, is_some}
use Rattle.std.specs.Bool.{Decides}
use Rattle.std.specs.Cmp.{IsEquivalence, decided}
use Rattle.std.specs.Cmp.Lexicographic.{bytes_decides, pointwise_decides}
use Rattle.std.specs.Option.{option_eq, unwrap_or}
use mathlib.Core.Bool.{true≢false}
use Rattle.bar_pool.specs.Equal.{input_writes, same_chord, same_input, same_shape}
use Rattle.rhythm_base.specs.BarInput.{BarInput}
use Rattle.rhythm_base.specs.Shape.{Shape}
use Rattle.rhythm_base.specs.ShapeCode.{shape_numbers, shape_numbers-back, shape_pile, top_shape}
use Rattle.rhythm_base.specs.declared.inner.Inner.{Inner}

chord_decides : (c d : Inner) → Decides (same_chord c d) (c ≡ d)
chord_decides c d =
    Decides-like (same_chord c d) (λ h i. record { onset = h.0 i; end = h.1 i }) (λ e. (ap (λ (x : Inner). x.onset) e, ap (λ (x : Inner). x.end) e))
    (Decides-and (c.onset == d.onset) (c.end == d.end) (Decides-eqb c.onset d.onset) (Decides-eqb c.end d.end))

pub shape_decides : (x y : Shape) → Decides (same_shape x y) (x ≡ y)
shape_decides x y =
    let numbers = bytes_decides (shape_numbers x) (shape_numbers y) in (
      λ h. sym (shape_numbers-back x) ∙ ap (λ (ns : List ℕ). top_shape (shape_pile ns)) (numbers.0 h) ∙ shape_numbers-back y,
      λ e. numbers.1 (ap shape_numbers e),
    )

pub pin_decides : (p q : Option Shape) → Decides (option_eq same_shape p q) (p ≡ q)
pin_decides None None = (λ h. refl, λ e. refl)
pin_decides None (Some y) = (λ h. absurd (true≢false (sym h)), λ e. absurd (true≢false (sym (ap is_some e))))
pin_decides (Some x) None = (λ h. absurd (true≢false (sym h)), λ e. absurd (true≢false (ap is_some e)))
pin_decides (Some x) (Some y) = Decides-like (same_shape x y) (λ e. ap Some e) (λ e. ap (λ o. unwrap_or o x) e) (shape_decides x y)

pub input_decides : (k m : BarInput) → Decides (same_input k m) (k ≡ m)
input_decides k m =
    Decides-like (same_input k m)
    (λ h i. record {
      symbol = h.0 i;
      resolution = h.1.0 i;
      num = h.1.1.0 i;
      den = h.1.1.1.0 i;
      length = h.1.1.1.1.0 i;
      before = h.1.1.1.1.1.0 i;
      chords = h.1.1.1.1.1.1.0 i;
      pin = h.1.1.1.1.1.1.1 i;
    })
    (λ e. (ap (λ (x : BarInput). x.symbol) e, (ap (λ (x : BarInput). x.resolution) e, (ap (λ (x : BarInput). x.num) e, (ap (λ (x : BarInput). x.den) e, (ap (λ (x : BarInput). x.length) e, (ap (λ (x : BarInput). x.before) e, (ap (λ (x : BarInput). x.chords) e, ap (λ (x : BarInput). x.pin) e))))))))
    (
    Decides-and _ _ (Decides-eqb k.symbol m.symbol) (
    Decides-and _ _ (Decides-eqb k.resolution m.resolution) (
    Decides-and _ _ (Decides-eqb k.num m.num) (
    Decides-and _ _ (Decides-eqb k.den m.den) (
    Decides-and _ _ (Decides-eqb k.length m.length) (
    Decides-and _ _ (Decides-eqb k.before m.before) (Decides-and _ _ (pointwise_decides chord_decides k.chords m.chords) (pin_decides k.pin m.pin))
    )
    )
    )
    )
    )
    )

pub inputs_equiv : IsEquivalence same_input
inputs_equiv = decided same_input input_decides

pub writes_alike : (k m : BarInput) → same_input k m ≡ true → input_writes k ≡ input_writes m
writes_alike k m same = ap input_writes ((input_decides k m).0 same)
