-- The units between two onsets.
use Rattle.std.proofs.Common.{◌≡◌, ℕ, ◌+◌, ◌*◌, ◌<◌, ◌≤◌, List, length, max, get_or, sym, subst, ◌∙◌, arith, inl, inr}
use Rattle.std.proofs.Math.Nat.{mul-le-mul_right}
use Rattle.std.proofs.lemmas.Bool.{cases_lt}
use Rattle.row_laws.specs.declared.quiet.Quiet.TheVariants.{Sounding, Silent}
use Rattle.bar_view.specs.Points.{IsPoint}
use Rattle.bar_view.specs.Units.{IsFilled, IsUnitPart, IsUnitWhole}
use Rattle.bar_view.specs.declared.point.Point.{Point}
use Rattle.bar_view.specs.declared.stretch.Stretch.{Stretch}

pub parted : (ticks at next full over : ℕ) (end : Point) (ws xs ys zs : List Stretch) (none : Stretch) → none.until ≡ 0 → IsPoint ticks at end → full ≤ end.unit → full ≤ next → over ≤ next
    → ((u : ℕ) → over ≤ u → u < next → at ≤ u * ticks)
    → IsFilled full (record { until = full; quiet = Sounding }) ws xs → IsFilled over none xs ys → IsFilled next (record { until = next; quiet = Silent }) ys zs
    → (u : ℕ) (d : Stretch) → length ws ≤ u → u < next → IsUnitPart ticks at next u (get_or zs u d)
parted ticks at next full over end ws xs ys zs none empty point filled within short past one two three u d low high = elim (cases_lt u full) [
  | inl below ↦
      let first : length xs ≡ max (length ws) full = one.long in
      let second : length ys ≡ max (length xs) over = two.long in
      let is : get_or zs u d ≡ record { until = full; quiet = Sounding }
      = three.same u d (omega (arith, first, second, below)) ∙ two.same u d (omega (arith, first, below)) ∙ one.more u d low below in
      let area : full * ticks ≤ end.unit * ticks = mul-le-mul_right ticks filled in
      subst (IsUnitPart ticks at next u) (sym is) (λ some. (within, omega (arith, area, point.sum)))
  | inr above ↦ elim (cases_lt u over) [
    | inl below ↦
        let first : length xs ≡ max (length ws) full = one.long in
        let second : length ys ≡ max (length xs) over = two.long in
        let is : get_or zs u d ≡ none = three.same u d (omega (arith, first, second, below)) ∙ two.more u d (omega (arith, first, above, low)) below in
        subst (IsUnitPart ticks at next u) (sym is) (λ some. absurd (omega (arith, some, empty)))
    | inr after ↦
        let first : length xs ≡ max (length ws) full = one.long in
        let second : length ys ≡ max (length xs) over = two.long in
        let is : get_or zs u d ≡ record { until = next; quiet = Silent } = three.more u d (omega (arith, first, second, above, after, low)) high in
        let refl_next : next ≤ next = omega arith in
        subst (IsUnitPart ticks at next u) (sym is) (λ some. (refl_next, past u after high))
  ]
]

-- each stretch has all that it can have
pub parted-whole : (ticks at next full over : ℕ) (end : Point) (ws xs ys zs : List Stretch) (none : Stretch) → 1 ≤ ticks → IsPoint ticks at end → full ≤ end.unit → ((m : ℕ) → m ≤ end.unit → m ≤ next → m ≤ full)
    → ((u : ℕ) → at ≤ u * ticks → over ≤ u)
    → IsFilled full (record { until = full; quiet = Sounding }) ws xs → IsFilled over none xs ys → IsFilled next (record { until = next; quiet = Silent }) ys zs
    → (u : ℕ) (d : Stretch) → length ws ≤ u → u < next → IsUnitWhole ticks at next u (get_or zs u d)
parted-whole ticks at next full over end ws xs ys zs none some point filled near early one two three u d low high = elim (cases_lt u full) [
  | inl below ↦
      let first : length xs ≡ max (length ws) full = one.long in
      let second : length ys ≡ max (length xs) over = two.long in
      let is : get_or zs u d ≡ record { until = full; quiet = Sounding }
      = three.same u d (omega (arith, first, second, below)) ∙ two.same u d (omega (arith, first, below)) ∙ one.more u d low below in
      subst (IsUnitWhole ticks at next u) (sym is) (in_first below)
  | inr above ↦ elim (cases_lt u over) [
    | inl below ↦
        let first : length xs ≡ max (length ws) full = one.long in
        let second : length ys ≡ max (length xs) over = two.long in
        let is : get_or zs u d ≡ none = three.same u d (omega (arith, first, second, below)) ∙ two.more u d (omega (arith, first, above, low)) below in
        subst (IsUnitWhole ticks at next u) (sym is) (in_second above below)
    | inr after ↦
        let first : length xs ≡ max (length ws) full = one.long in
        let second : length ys ≡ max (length xs) over = two.long in
        let is : get_or zs u d ≡ record { until = next; quiet = Silent } = three.more u d (omega (arith, first, second, above, after, low)) high in
        subst (IsUnitWhole ticks at next u) (sym is) (λ q w wide within sounds. within)
  ]
]
  where
    -- what sounds up to a unit ends in it or after it
    reaches : (m : ℕ) → m * ticks ≤ at → m ≤ end.unit
    reaches m h = elim (cases_lt end.unit m) [
      | inl less ↦
          let wider : (end.unit + 1) * ticks ≤ m * ticks = mul-le-mul_right ticks (omega (arith, less)) in
          let sum : (end.unit + 1) * ticks ≡ end.unit * ticks + ticks = grind arith in
          absurd (omega (arith, wider, sum, h, point.sum, point.inside))
      | inr le ↦ le
    ]

    in_first : u < full → IsUnitWhole ticks at next u (record { until = full; quiet = Sounding })
    in_first below Sounding w wide within sounds = near (u + w) (reaches (u + w) sounds) within
    in_first below Silent w wide within sounds =
        let area : (u + 1) * ticks ≤ end.unit * ticks = mul-le-mul_right ticks (omega (arith, below, filled)) in
        let sum : (u + 1) * ticks ≡ u * ticks + ticks = grind arith in
        absurd (omega (arith, area, sum, sounds, some, point.sum))

    in_second : full ≤ u → u < over → IsUnitWhole ticks at next u none
    in_second above below Sounding w wide within sounds =
        let far = near (u + w) (reaches (u + w) sounds) within in
        absurd (omega (arith, far, above, wide))
    in_second above below Silent w wide within sounds = let late = early u sounds in absurd (omega (arith, late, below))
