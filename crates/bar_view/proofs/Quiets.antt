-- Units between two onsets are quiet.
use Rattle.std.proofs.Common.{◌≡◌, ℕ, suc, ◌<◌, ◌≤◌, ◌+◌, ◌-◌, ◌*◌, ◌&&◌, Bool, true, false, not, List, [], ◌∷◌, length, map, get_or, refl, sym, ap, ◌∙◌, subst, arith, inl, inr}
use Rattle.std.specs.Prelude.{nat_le}
use Rattle.std.specs.List.{list_all}
use Rattle.std.proofs.lemmas.Bool.{cases_lt}
use Rattle.rhythm_base.specs.declared.inner.Inner.{Inner}
use Rattle.rhythm_base.specs.BarInput.{BarInput}
use Rattle.rhythm_base.specs.Cells.{bar_of}
use Rattle.rhythm_base.specs.Grammar.{Grammar}
use Rattle.rhythm_base.specs.Lists.{last_end}
use Rattle.tree_laws.specs.Places.{end_before, reach}
use Rattle.tree_laws.specs.Quiet.{end_at, is_quiet}
use Rattle.tree_laws.proofs.Ticks.{le_from, le_not, take_zero}
use Rattle.row_laws.specs.Grounds.{ground_of}
use Rattle.row_laws.specs.QuietTrees.{IsQuiet}
use Rattle.row_laws.specs.declared.quiet.Quiet.{Quiet}
use Rattle.row_laws.specs.declared.quiet.Quiet.TheVariants.{Sounding, Silent}
use Rattle.bar_view.specs.Units.{IsUnitPart, IsQuietFrom, SoundsSo, SplitsAt, end_of_earlier}
use Rattle.bar_view.specs.declared.stretch.Stretch.{Stretch}
use Rattle.bar_view.proofs.Filters.{ends-taken, filter-range}

-- an onset is at or after a unit, or before it
reach-is : (k : BarInput) (u t : ℕ) → reach k.resolution (bar_of k) u t ≡ nat_le (u * k.length) (t * k.resolution)
reach-is k u t =
    ap (λ b. b && nat_le (u * k.length) ((t - 0) * k.resolution)) (le_from 0 t (omega arith)) ∙ ap (λ n. nat_le (u * k.length) (n * k.resolution)) (take_zero t)

pub reach-on : (k : BarInput) (u t : ℕ) → u * k.length ≤ t * k.resolution → reach k.resolution (bar_of k) u t ≡ true
reach-on k u t h = reach-is k u t ∙ le_from (u * k.length) (t * k.resolution) h

pub reach-off : (k : BarInput) (u t : ℕ) → t * k.resolution < u * k.length → reach k.resolution (bar_of k) u t ≡ false
reach-off k u t h = reach-is k u t ∙ le_not (u * k.length) (t * k.resolution) h

-- the end before a unit
pub end-at-split : (k : BarInput) (u n : ℕ) (d : Inner) → SplitsAt k u n → end_before k.resolution (bar_of k) k.chords k.before u ≡ end_of_earlier k n d
end-at-split k u n d s =
    let one : 0 + n ≡ n = omega arith in
    let inside : n ≤ length k.chords = s.within in
    ap (λ l. last_end k.before (map (λ c. c.end) l))
    (filter-range (λ c. not (reach k.resolution (bar_of k) u c.onset)) k.chords 0 n (omega (arith, inside)) (λ i d h. absurd (omega arith))
    (λ i d h l. ap not (reach-off k u (get_or k.chords i d).onset (s.low i d (omega arith))))
    (λ i d h l. ap not (reach-on k u (get_or k.chords i d).onset (s.high i d (omega arith) l))))
    ∙ ends-taken k 0 n d (omega (arith, inside)) ∙ ap (λ n. end_of_earlier k n d) one

all-each : (t : Inner → Bool) (xs : List Inner) → ((i : ℕ) (d : Inner) → i < length xs → t (get_or xs i d) ≡ true) → list_all t xs ≡ true
all-each t [] h = refl
all-each t (x ∷ xs) h = rw (h 0 x (omega arith)) (all-each t xs (λ i d k. h (suc i) d (omega arith)))

outside : (a b : Bool) → a ≡ false → not (a && not b) ≡ true
outside true b h = absurd (cc)
outside false b h = refl

after : (a b : Bool) → b ≡ true → not (a && not b) ≡ true
after true true h = refl
after true false h = absurd (cc)
after false b h = refl

module _ (k : BarInput) (p w n : ℕ) (first : SplitsAt k p n) (last : SplitsAt k (p + w) n) (g : Grammar) (units : g.resolution ≡ k.resolution) where
  quiet-cell : is_quiet (ground_of g k) p w ≡ true
  quiet-cell =
      subst (λ r. list_all (λ c. not (reach r (bar_of k) p c.onset && not (reach r (bar_of k) (p + w) c.onset))) k.chords ≡ true) (sym units)
      (all-each (λ c. not (reach k.resolution (bar_of k) p c.onset && not (reach k.resolution (bar_of k) (p + w) c.onset))) k.chords each)
    where
      each : (i : ℕ) (d : Inner) → i < length k.chords
          → not (reach k.resolution (bar_of k) p (get_or k.chords i d).onset && not (reach k.resolution (bar_of k) (p + w) (get_or k.chords i d).onset)) ≡ true
      each i d low = elim (cases_lt i n) [
        | inl less ↦ outside _ _ (reach-off k p (get_or k.chords i d).onset (first.low i d less))
        | inr more ↦ after _ _ (reach-on k (p + w) (get_or k.chords i d).onset (last.high i d more low))
      ]

  end-cell : (d : Inner) → end_at (ground_of g k) p * g.resolution ≡ end_of_earlier k n d * k.resolution
  end-cell d = ap (λ r. end_before r (bar_of k) k.chords k.before p * r) units ∙ ap (λ m. m * k.resolution) (end-at-split k p n d first)

  from-start : (m : ℕ) → 0 * g.resolution + m ≡ m
  from-start m = grind arith

  -- by the end of the chord before
  pub quiet-so : (q : Quiet) (at : ℕ) (d : Inner) → end_of_earlier k n d * k.resolution ≡ at → SoundsSo q k.length at p (p + w) → IsQuiet q (ground_of g k) p w
  quiet-so Sounding at d is h = let a = end-cell d in let b = from-start ((p + w) * k.length) in record { quiet = quiet-cell; through = omega (arith, a, b, h, is) }
  quiet-so Silent at d is h = let a = end-cell d in let b = from-start (p * k.length) in record { quiet = quiet-cell; over = omega (arith, a, b, h, is) }

-- up to the unit in which the next chord begins
pub part-quiet : (k : BarInput) (u next n at : ℕ) (d : Inner) → ((v : ℕ) → u ≤ v → v ≤ next → SplitsAt k v n) → end_of_earlier k n d * k.resolution ≡ at → next ≤ k.resolution
    → (s : Stretch) → IsUnitPart k.length at next u s → IsQuietFrom k u s
part-quiet k u next n at d splits is within s h some =
    let near : s.until ≤ next = (h some).0 in
    let whole : s.until ≡ u + (s.until - u) = omega (arith, some) in
    record {
      within = omega (arith, near, within);
      quiet = λ g units. quiet-so k u (s.until - u) n (splits u (omega arith) (omega (arith, some, near))) (splits (u + (s.until - u)) (omega arith) (omega (arith, near, whole))) g units s.quiet at d is
          (subst (λ v. SoundsSo s.quiet k.length at u v) whole (h some).1);
    }
