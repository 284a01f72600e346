-- The first units of those that are quiet.
use Rattle.std.proofs.Common.{◌≡◌, ℕ, ◌≤◌, ◌+◌, ◌-◌, ◌*◌, ◌&&◌, Bool, true, false, not, List, [], ◌∷◌, ap, ap₂, refl, arith}
use Rattle.std.specs.Prelude.{nat_le}
use Rattle.std.specs.List.{list_all}
use Rattle.std.proofs.Math.Nat.{mul-le-mul_right}
use Rattle.rhythm_base.proofs.Booleans.{and_left, and_right}
use Rattle.rhythm_base.specs.BarInput.{BarInput}
use Rattle.rhythm_base.specs.Grammar.{Grammar}
use Rattle.rhythm_base.specs.declared.inner.Inner.{Inner}
use Rattle.tree_laws.specs.Forests.{Ground}
use Rattle.tree_laws.specs.Places.{reach}
use Rattle.tree_laws.proofs.Ticks.{le_from, le_tells}
use Rattle.row_laws.specs.Grounds.{ground_of}
use Rattle.row_laws.specs.QuietTrees.{IsQuiet}
use Rattle.row_laws.specs.declared.quiet.Quiet.{Quiet}
use Rattle.row_laws.specs.declared.quiet.Quiet.TheVariants.{Sounding, Silent}
use Rattle.bar_view.specs.Units.{IsStretch}
use Rattle.bar_view.specs.declared.stretch.Stretch.{Stretch}

module _ (d : Ground) (p w v : ℕ) (less : w ≤ v) where
  sooner : (t : ℕ) → reach d.book.resolution d.bar (p + v) t ≡ true → reach d.book.resolution d.bar (p + w) t ≡ true
  sooner t h =
      let low = and_left (nat_le d.bar.start t) _ h in
      let far = le_tells ((p + v) * d.bar.length) ((t - d.bar.start) * d.book.resolution) (and_right (nat_le d.bar.start t) _ h) in
      let wider : (p + w) * d.bar.length ≤ (p + v) * d.bar.length = mul-le-mul_right d.bar.length (omega (arith, less)) in
      ap₂ ◌&&◌ low (le_from ((p + w) * d.bar.length) ((t - d.bar.start) * d.book.resolution) (omega (arith, far, wider)))

  -- a chord that does not begin in the longer interval does not begin in the shorter one
  out : (a b c : Bool) → (b ≡ true → c ≡ true) → not (a && not b) ≡ true → not (a && not c) ≡ true
  out false b c later h = refl
  out true true c later h = ap (λ x. not (true && not x)) (later refl)
  out true false c later h = absurd (cc)

  each : (cs : List Inner) → list_all (λ c. not (reach d.book.resolution d.bar p c.onset && not (reach d.book.resolution d.bar (p + v) c.onset))) cs ≡ true
      → list_all (λ c. not (reach d.book.resolution d.bar p c.onset && not (reach d.book.resolution d.bar (p + w) c.onset))) cs ≡ true
  each [] h = refl
  each (c ∷ cs) h =
      ap₂ ◌&&◌ (out (reach d.book.resolution d.bar p c.onset) (reach d.book.resolution d.bar (p + v) c.onset) (reach d.book.resolution d.bar (p + w) c.onset) (sooner c.onset) (and_left _ _ h))
      (each cs (and_right (not (reach d.book.resolution d.bar p c.onset && not (reach d.book.resolution d.bar (p + v) c.onset))) _ h))

  pub quiet-first : (q : Quiet) → IsQuiet q d p v → IsQuiet q d p w
  quiet-first Sounding h =
      let wider : (p + w) * d.bar.length ≤ (p + v) * d.bar.length = mul-le-mul_right d.bar.length (omega (arith, less)) in
      record { quiet = each d.chords h.quiet; through = omega (arith, h.through, wider) }
  quiet-first Silent h = record { quiet = each d.chords h.quiet; over = h.over }

pub stretch-first : (k : BarInput) (p w : ℕ) (s : Stretch) → IsStretch k p s → w ≤ s.until - p → (g : Grammar) → g.resolution ≡ k.resolution → IsQuiet s.quiet (ground_of g k) p w
stretch-first k p w s h less g units = quiet-first (ground_of g k) p w (s.until - p) less s.quiet (h.quiet g units)
