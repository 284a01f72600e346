-- What the onsets in a leaf cost.
use Rattle.std.proofs.Common.{◌≡◌, ℕ, ◌<◌, ◌≤◌, ◌+◌, ◌-◌, ◌*◌, ◌/◌, ◌&&◌, Bool, true, false, not, [], ◌∷◌, filter, refl, sym, ap, ap₂, ◌∙◌, arith, inl, inr}
use Rattle.std.specs.Prelude.{nat_le, nat_lt, if◌then◌else◌, sum_by}
use Rattle.std.proofs.Math.Nat.{zero-div}
use Rattle.std.proofs.lemmas.Bool.{cases_lt}
use Rattle.rhythm_base.specs.declared.inner.Inner.{Inner}
use Rattle.rhythm_base.specs.BarInput.{BarInput}
use Rattle.rhythm_base.specs.Cost.{charges, displacement_of, displacement_in, is_after, is_late}
use Rattle.rhythm_base.specs.Grammar.{Grammar}
use Rattle.rhythm_base.specs.Leaves.{goes_left, lies_in}
use Rattle.rhythm_base.specs.Lists.{gap}
use Rattle.rhythm_base.proofs.Booleans.{and_left, and_right}
use Rattle.tree_laws.proofs.Ticks.{le_from, le_tells, lt_not_le, take_zero}
use Rattle.row_laws.specs.Leaves.{leaf_of_cell}
use Rattle.bar_view.specs.Displaced.{displacements}
use Rattle.bar_view.proofs.Filters.{sum-split, sum-times}
use Rattle.bar_view.proofs.Leaves.{lies-is}

module _ (k : BarInput) (p w late early : ℕ) where
  abbrev displaced : ℕ → ℕ → ℕ
  displaced q t = displacement_of k.num k.den k.length k.resolution q t

  -- an onset on its unit is not displaced
  on-unit : (q t : ℕ) → t * k.resolution ≡ q * k.length → displacement_of k.num k.den k.length k.resolution q t ≡ 0
  on-unit q t h =
      let near : gap (t * k.resolution) (q * k.length) ≡ 0 = omega (arith, h) in
      ap (λ n. (3840 * k.num * n) / (k.den * (k.resolution * k.length))) near ∙ ap (λ n. n / (k.den * (k.resolution * k.length))) (none (3840 * k.num)) ∙ zero-div (k.den * (k.resolution * k.length))
    where
      none : (n : ℕ) → n * 0 ≡ 0
      none n = omega arith

  -- after its unit, or on it
  after-unit : (q t : ℕ) → q * k.length ≤ t * k.resolution
      → (if is_after k.length k.resolution q t then late else early) * displacement_of k.num k.den k.length k.resolution q t ≡ late * displacement_of k.num k.den k.length k.resolution q t
  after-unit q t low = go (is_after k.length k.resolution q t) refl
    where
      go : (b : Bool) → is_after k.length k.resolution q t ≡ b
          → (if b then late else early) * displacement_of k.num k.den k.length k.resolution q t ≡ late * displacement_of k.num k.den k.length k.resolution q t
      go true is = refl
      go false is =
          let near : t * k.resolution ≡ q * k.length = not_after is in
          let none = on-unit q t near in
          ap (λ n. early * n) none ∙ nothing early late ∙ ap (λ n. late * n) (sym none)
        where
          nothing : (m n : ℕ) → m * 0 ≡ n * 0
          nothing m n = omega arith

          turned : (a b : ℕ) → not (nat_le b a) ≡ false → nat_le b a ≡ true
          turned a b h = flip (nat_le b a) h
            where
              flip : (x : Bool) → not x ≡ false → x ≡ true
              flip true h = refl
              flip false h = absurd (cc)

          not_after : is_after k.length k.resolution q t ≡ false → t * k.resolution ≡ q * k.length
          not_after is =
              let le = le_tells (t * k.resolution) (q * k.length) (turned (q * k.length) (t * k.resolution) (sym (lt_not_le (q * k.length) (t * k.resolution)) ∙ is)) in
              omega (arith, le, low)

  -- before its unit
  before-unit : (q t : ℕ) → t * k.resolution < q * k.length
      → (if is_after k.length k.resolution q t then late else early) * displacement_of k.num k.den k.length k.resolution q t ≡ early * displacement_of k.num k.den k.length k.resolution q t
  before-unit q t high =
      let off : is_after k.length k.resolution q t ≡ false = lt_not_le (q * k.length) (t * k.resolution) ∙ ap not (le_from (t * k.resolution) (q * k.length) (omega (arith, high))) in
      ap (λ b. (if b then late else early) * displacement_of k.num k.den k.length k.resolution q t) off

  lt_tells : (a b : ℕ) → nat_lt a b ≡ true → a < b
  lt_tells a b h = turned (nat_le b a) refl (sym (lt_not_le a b) ∙ h)
    where
      turned : (x : Bool) → nat_le b a ≡ x → not x ≡ true → a < b
      turned true e h = absurd (cc)
      turned false e h = elim (cases_lt a b) [ inl less ↦ less | inr le ↦ let on = le_from b a le in absurd (cc) ]

  one-onset : (t : ℕ) → (if lies_in k.resolution (leaf_of_cell k p w) t then (if is_late k.resolution (leaf_of_cell k p w) t then late else early) * displacement_in k.resolution (leaf_of_cell k p w) t else 0)
      ≡ (if lies_in k.resolution (leaf_of_cell k p w) t && goes_left k.resolution (leaf_of_cell k p w) t then late * displacement_of k.num k.den k.length k.resolution p t else 0)
      + (if lies_in k.resolution (leaf_of_cell k p w) t && not (goes_left k.resolution (leaf_of_cell k p w) t) then early * displacement_of k.num k.den k.length k.resolution (p + w) t else 0)
  one-onset t = go (lies_in k.resolution (leaf_of_cell k p w) t) (goes_left k.resolution (leaf_of_cell k p w) t) (λ h. near h)
    where
      near : lies_in k.resolution (leaf_of_cell k p w) t ≡ true → (p * k.length ≤ t * k.resolution) × (t * k.resolution < (p + w) * k.length)
      near h =
          let both = sym (lies-is k p w t) ∙ h in (
            le_tells (p * k.length) (t * k.resolution) (and_left (nat_le (p * k.length) (t * k.resolution)) (nat_lt (t * k.resolution) ((p + w) * k.length)) both),
            lt_tells (t * k.resolution) ((p + w) * k.length) (and_right (nat_le (p * k.length) (t * k.resolution)) (nat_lt (t * k.resolution) ((p + w) * k.length)) both),
          )

      go : (a b : Bool) → (a ≡ true → (p * k.length ≤ t * k.resolution) × (t * k.resolution < (p + w) * k.length))
          → (if a then (if is_after k.length k.resolution (if b then p else p + w) (t - 0) then late else early) * displacement_of k.num k.den k.length k.resolution (if b then p else p + w) (t - 0) else 0)
          ≡ (if a && b then late * displacement_of k.num k.den k.length k.resolution p t else 0) + (if a && not b then early * displacement_of k.num k.den k.length k.resolution (p + w) t else 0)
      go false b h = refl
      go true true h =
          let sum : late * displacement_of k.num k.den k.length k.resolution p t + 0 ≡ late * displacement_of k.num k.den k.length k.resolution p t = omega arith in
          ap (λ u. (if is_after k.length k.resolution p u then late else early) * displacement_of k.num k.den k.length k.resolution p u) (take_zero t) ∙ after-unit p t (h refl).0 ∙ sym sum
      go true false h =
          let sum : 0 + early * displacement_of k.num k.den k.length k.resolution (p + w) t ≡ early * displacement_of k.num k.den k.length k.resolution (p + w) t = omega arith in
          ap (λ u. (if is_after k.length k.resolution (p + w) u then late else early) * displacement_of k.num k.den k.length k.resolution (p + w) u) (take_zero t) ∙ before-unit (p + w) t (h refl).1 ∙ sym sum

-- those of the left half are late, those of the right half early
pub charges-so : (g : Grammar) (k : BarInput) (p w : ℕ) → g.resolution ≡ k.resolution → charges g (leaf_of_cell k p w ∷ []) k.chords
    ≡ g.late * displacements k p (filter (λ c. lies_in k.resolution (leaf_of_cell k p w) c.onset && goes_left k.resolution (leaf_of_cell k p w) c.onset) k.chords)
    + g.early * displacements k (p + w) (filter (λ c. lies_in k.resolution (leaf_of_cell k p w) c.onset && not (goes_left k.resolution (leaf_of_cell k p w) c.onset)) k.chords)
charges-so g k p w units =
    let x = leaf_of_cell k p w in
    let s : Inner → Bool = λ c. lies_in k.resolution x c.onset && goes_left k.resolution x c.onset in
    let u : Inner → Bool = λ c. lies_in k.resolution x c.onset && not (goes_left k.resolution x c.onset) in
    ap (λ r. sum_by (λ (c : Inner). if lies_in r x c.onset then (if is_late r x c.onset then g.late else g.early) * displacement_in r x c.onset else 0) k.chords) units
    ∙ sum-split (λ c. if lies_in k.resolution x c.onset then (if is_late k.resolution x c.onset then g.late else g.early) * displacement_in k.resolution x c.onset else 0)
    (λ c. g.late * displacement_of k.num k.den k.length k.resolution p c.onset) (λ c. g.early * displacement_of k.num k.den k.length k.resolution (p + w) c.onset) s u
    (λ c. one-onset k p w g.late g.early c.onset) k.chords
    ∙ ap₂ ◌+◌ (sum-times g.late (λ c. displacement_of k.num k.den k.length k.resolution p c.onset) (filter s k.chords)) (sum-times g.early (λ c. displacement_of k.num k.den k.length k.resolution (p + w) c.onset) (filter u k.chords))
