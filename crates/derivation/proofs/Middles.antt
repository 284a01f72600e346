-- The leaves of a voice on one scale, of ticks times twice the units of a bar: each begins where the one before it ends, and a
-- chord is attached to a leaf or to an earlier one exactly where it does not begin after the leaf's middle.
use Rattle.std.proofs.Common.{◌≡◌, ℕ, zero, suc, ◌+◌, ◌-◌, ◌*◌, ◌<◌, ◌≤◌, Bool, true, false, inl, inr, List, [], ◌∷◌, ◌++◌, refl, sym, ap, ◌∙◌, subst, arith}
use Rattle.std.specs.Prelude.{nat_lt, nat_le, Some, slice_get, if◌then◌else◌}
use Rattle.std.proofs.Math.Nat.{mul-le-mul_right}
use Rattle.std.proofs.lemmas.Bool.{cases_lt}
use Rattle.std.proofs.lemmas.Bool.Decides.{nat_tests}
use Rattle.rhythm_base.proofs.Booleans.{and_left, and_right}
use Rattle.rhythm_base.specs.Forest.{Tree}
use Rattle.rhythm_base.specs.Grammar.{Grammar}
use Rattle.rhythm_base.specs.Leaves.{Leaf, VoiceBar, are_bars, goes_left, in_bar, lies_in, looks, voice_leaves}
use Rattle.rhythm_base.specs.Line.{seat}
use Rattle.rhythm_base.specs.Trees.{BarLeaf, is_tree, leaves_of}
use Rattle.tree_laws.proofs.Bars.{SideBySide, times_wide}
use Rattle.tree_laws.proofs.Ticks.{le_from, le_not, le_tells, parts-fill}
use Rattle.tree_laws.specs.Voices.{Adjacent}

-- ---- one leaf

abbrev pub begin_of : ℕ → Leaf → ℕ
begin_of r x = 2 * x.bar.start * r + 2 * x.part.place * x.bar.length

abbrev pub middle_of : ℕ → Leaf → ℕ
middle_of r x = 2 * x.bar.start * r + (2 * x.part.place + x.part.width) * x.bar.length

abbrev pub end_of : ℕ → Leaf → ℕ
end_of r x = 2 * x.bar.start * r + 2 * (x.part.place + x.part.width) * x.bar.length

-- leaves side by side from s to z
abbrev pub Touch : ℕ → ℕ → List Leaf → ℕ → Type 0
Touch r s [] z = s ≡ z
Touch r s (x ∷ xs) z = (begin_of r x ≡ s) × (s < middle_of r x) × (middle_of r x < end_of r x) × Touch r (end_of r x) xs z

-- a tick from the start of its bar on
scale : (b r t : ℕ) → b ≤ t → 2 * t * r ≡ 2 * b * r + 2 * ((t - b) * r)
scale b r t le = let whole : t ≡ b + (t - b) = omega (arith, le) in go (t - b) whole
  where
    go : (d : ℕ) → t ≡ b + d → 2 * t * r ≡ 2 * b * r + 2 * (d * r)
    go d w = let apart : 2 * (b + d) * r ≡ 2 * b * r + 2 * (d * r) = grind arith in ap (λ n. 2 * n * r) w ∙ apart

early : (b r t : ℕ) → 1 ≤ r → t < b → 2 * t * r < 2 * b * r
early b r t some lt =
    let more : (2 * t + 2) * r ≤ 2 * b * r = mul-le-mul_right r (omega (arith, lt)) in
    let apart : (2 * t + 2) * r ≡ 2 * t * r + 2 * r = grind arith in
    omega (arith, more, apart, some)

twice : (p l : ℕ) → 2 * p * l ≡ 2 * (p * l)
twice p l = grind arith

half_parts : (p w l : ℕ) → (2 * p + w) * l ≡ 2 * (p * l) + w * l
half_parts p w l = grind arith

whole_parts : (p w l : ℕ) → 2 * (p + w) * l ≡ 2 * (p * l) + 2 * (w * l)
whole_parts p w l = grind arith

sum_parts : (p w l : ℕ) → (p + w) * l ≡ p * l + w * l
sum_parts p w l = grind arith

-- the tick lies in the leaf, on that scale, and it goes to the leaf or to the next
module _ (r : ℕ) (some : 1 ≤ r) (x : Leaf) (t : ℕ) where
  lies_tells : lies_in r x t ≡ true → (begin_of r x ≤ 2 * t * r) × (2 * t * r < end_of r x)
  lies_tells h =
      let here = le_tells _ _ (and_left (nat_le x.bar.start t) _ h) in
      let others = and_right (nat_le x.bar.start t) _ h in
      let low = le_tells _ _ (and_left (nat_le (x.part.place * x.bar.length) ((t - x.bar.start) * r)) _ others) in
      let high' = and_right (nat_le (x.part.place * x.bar.length) ((t - x.bar.start) * r)) _ others in
      let high : (t - x.bar.start) * r < (x.part.place + x.part.width) * x.bar.length = grind (arith, nat_tests) in
      let at = scale x.bar.start r t here in
      let parts = sum_parts x.part.place x.part.width x.bar.length in
      let whole = whole_parts x.part.place x.part.width x.bar.length in
      let double = twice x.part.place x.bar.length in
      (omega (arith, low, at, double), omega (arith, high, at, parts, whole))

  lies_from : begin_of r x ≤ 2 * t * r → 2 * t * r < end_of r x → lies_in r x t ≡ true
  lies_from low high = elim (cases_lt t x.bar.start) [ inl lt ↦ absurd (before lt) | inr le ↦ inside le ]
    where
      before : t < x.bar.start → ⊥
      before lt = let less = early x.bar.start r t some lt in omega (arith, less, low)

      inside : x.bar.start ≤ t → lies_in r x t ≡ true
      inside le =
          let at = scale x.bar.start r t le in
          let parts = sum_parts x.part.place x.part.width x.bar.length in
          let whole = whole_parts x.part.place x.part.width x.bar.length in
          let double = twice x.part.place x.bar.length in
          let first : x.part.place * x.bar.length ≤ (t - x.bar.start) * r = omega (arith, low, at, double) in
          let last : (t - x.bar.start) * r < (x.part.place + x.part.width) * x.bar.length = omega (arith, high, at, parts, whole) in
          let is_last : nat_lt ((t - x.bar.start) * r) ((x.part.place + x.part.width) * x.bar.length) ≡ true = grind (arith, nat_tests, last) in
          rw (le_from x.bar.start t le, le_from (x.part.place * x.bar.length) ((t - x.bar.start) * r) first) is_last

  left_is : lies_in r x t ≡ true → goes_left r x t ≡ nat_le (2 * t * r) (middle_of r x)
  left_is h = go (nat_le (2 * t * r) (middle_of r x)) refl
    where
      here : x.bar.start ≤ t
      here = le_tells _ _ (and_left (nat_le x.bar.start t) _ h)

      low : x.part.place * x.bar.length ≤ (t - x.bar.start) * r
      low = le_tells _ _ (and_left (nat_le (x.part.place * x.bar.length) ((t - x.bar.start) * r)) _ (and_right (nat_le x.bar.start t) _ h))

      go : (b : Bool) → nat_le (2 * t * r) (middle_of r x) ≡ b → goes_left r x t ≡ b
      go true e =
          let le = le_tells (2 * t * r) (middle_of r x) e in
          let at = scale x.bar.start r t here in
          let half = half_parts x.part.place x.part.width x.bar.length in
          le_from (2 * ((t - x.bar.start) * r - x.part.place * x.bar.length)) (x.part.width * x.bar.length) (omega (arith, le, at, half, low))
      go false e =
          let gt : middle_of r x < 2 * t * r = grind (arith, nat_tests, e) in
          let at = scale x.bar.start r t here in
          let half = half_parts x.part.place x.part.width x.bar.length in
          le_not (2 * ((t - x.bar.start) * r - x.part.place * x.bar.length)) (x.part.width * x.bar.length) (omega (arith, gt, at, half, low))

-- ---- a line of leaves

-- all middles of leaves from s on are at s or after it
middle_after : (r s : ℕ) (xs : List Leaf) (z : ℕ) → Touch r s xs z → (i : ℕ) (x : Leaf) → slice_get xs i ≡ Some x → s < middle_of r x
middle_after r s [] z line i x is = absurd (cc)
middle_after r s (y ∷ ys) z line zero x is = let same : y ≡ x = (cc) in subst (λ y. s < middle_of r y) same line.1
middle_after r s (y ∷ ys) z line (suc i) x is = let ih = middle_after r (end_of r y) ys z line.3 i x is in omega (arith, ih, line.1, line.2)

module _ (r : ℕ) (some : 1 ≤ r) where
  le_suc : (a b : ℕ) → nat_le (suc a) (suc b) ≡ nat_le a b
  le_suc a b = go (nat_le a b) refl
    where
      go : (t : Bool) → nat_le a b ≡ t → nat_le (suc a) (suc b) ≡ t
      go true e = grind (arith, nat_tests)
      go false e = grind (arith, nat_tests)

  side_first : (b : Bool) → nat_le (if b then 0 else 1) 0 ≡ b
  side_first true = refl
  side_first false = refl

  side_later : (b : Bool) (i : ℕ) → nat_le (if b then 0 else 1) (suc i) ≡ true
  side_later true i = le_from 0 (suc i) (omega arith)
  side_later false i = le_from 1 (suc i) (omega arith)

  not_lies : (x : Leaf) (t : ℕ) → end_of r x ≤ 2 * t * r → lies_in r x t ≡ false
  not_lies x t after = go (lies_in r x t) refl
    where
      go : (b : Bool) → lies_in r x t ≡ b → b ≡ false
      go true h = let inside = lies_tells r some x t h in absurd (omega (arith, inside.1, after))
      go false h = refl

  -- the seat of an onset is leaf i or an earlier one exactly where the onset is not after the middle of leaf i
  pub seat_by_middle : (s : ℕ) (xs : List Leaf) (z : ℕ) → Touch r s xs z → (i : ℕ) (x : Leaf) → slice_get xs i ≡ Some x → (t : ℕ) → s ≤ 2 * t * r
      → nat_le (seat (looks r) xs t) i ≡ nat_le (2 * t * r) (middle_of r x)
  seat_by_middle s [] z line i x is t le = absurd (cc)
  seat_by_middle s (y ∷ ys) z line zero x is t le = elim (cases_lt (2 * t * r) (end_of r y)) [ inl lt ↦ inside lt | inr ge ↦ outside ge ]
    where
      same : y ≡ x
      same = (cc)

      inside : 2 * t * r < end_of r y → nat_le (seat (looks r) (y ∷ ys) t) 0 ≡ nat_le (2 * t * r) (middle_of r x)
      inside lt =
          let lies = lies_from r some y t (omega (arith, line.0, le)) lt in
          ap (λ b. nat_le (if b then (if goes_left r y t then 0 else 1) else suc (seat (looks r) ys t)) 0) lies
          ∙ side_first (goes_left r y t)
          ∙ left_is r some y t lies
          ∙ ap (λ x. nat_le (2 * t * r) (middle_of r x)) same

      outside : end_of r y ≤ 2 * t * r → nat_le (seat (looks r) (y ∷ ys) t) 0 ≡ nat_le (2 * t * r) (middle_of r x)
      outside ge =
          ap (λ b. nat_le (if b then (if goes_left r y t then 0 else 1) else suc (seat (looks r) ys t)) 0) (not_lies y t ge)
          ∙ le_not (suc (seat (looks r) ys t)) 0 (omega arith)
          ∙ sym (le_not (2 * t * r) (middle_of r y) (omega (arith, line.2, ge)))
          ∙ ap (λ x. nat_le (2 * t * r) (middle_of r x)) same
  seat_by_middle s (y ∷ ys) z line (suc i) x is t le =
      elim (cases_lt (2 * t * r) (end_of r y)) [ inl lt ↦ inside lt | inr ge ↦ outside ge (seat_by_middle (end_of r y) ys z line.3 i x is t ge) ]
    where
      inside : 2 * t * r < end_of r y → nat_le (seat (looks r) (y ∷ ys) t) (suc i) ≡ nat_le (2 * t * r) (middle_of r x)
      inside lt =
          let lies = lies_from r some y t (omega (arith, line.0, le)) lt in
          let later = middle_after r (end_of r y) ys z line.3 i x is in
          ap (λ b. nat_le (if b then (if goes_left r y t then 0 else 1) else suc (seat (looks r) ys t)) (suc i)) lies
          ∙ side_later (goes_left r y t) i
          ∙ sym (le_from (2 * t * r) (middle_of r x) (omega (arith, later, lt)))

      outside : end_of r y ≤ 2 * t * r → nat_le (seat (looks r) ys t) i ≡ nat_le (2 * t * r) (middle_of r x)
          → nat_le (seat (looks r) (y ∷ ys) t) (suc i) ≡ nat_le (2 * t * r) (middle_of r x)
      outside ge ih =
          ap (λ b. nat_le (if b then (if goes_left r y t then 0 else 1) else suc (seat (looks r) ys t)) (suc i)) (not_lies y t ge)
          ∙ le_suc (seat (looks r) ys t) i
          ∙ ih

-- ---- the leaves of a voice

Touch-append : (r s m z : ℕ) (xs ys : List Leaf) → Touch r s xs m → Touch r m ys z → Touch r s (xs ++ ys) z
Touch-append r s m z [] ys line more = subst (λ s. Touch r s ys z) (sym line) more
Touch-append r s m z (x ∷ xs) ys line more = (line.0, line.1, line.2, Touch-append r (end_of r x) m z xs ys line.3 more)

parts_touch : (r : ℕ) (bar : VoiceBar) (p q : ℕ) (xs : List BarLeaf) → 1 ≤ bar.length → SideBySide p xs q
    → Touch r (2 * bar.start * r + 2 * p * bar.length) (in_bar bar xs) (2 * bar.start * r + 2 * q * bar.length)
parts_touch r bar p q [] long h = ap (λ n. 2 * bar.start * r + 2 * n * bar.length) h
parts_touch r bar p q (x ∷ xs) long h =
    let wide = times_wide x.width bar.length h.1 long in
    let place = h.0 in
    let double = twice x.place bar.length in
    let half = half_parts x.place x.width bar.length in
    let whole = whole_parts x.place x.width bar.length in
    let first : 2 * bar.start * r + 2 * x.place * bar.length ≡ 2 * bar.start * r + 2 * p * bar.length = ap (λ n. 2 * bar.start * r + 2 * n * bar.length) place in (
      first,
      omega (arith, first, double, half, wide),
      omega (arith, half, whole, wide),
      subst (λ n. Touch r (2 * bar.start * r + 2 * (n + x.width) * bar.length) (in_bar bar xs) (2 * bar.start * r + 2 * q * bar.length)) (sym place) (parts_touch r bar (p + x.width) q xs long h.2),
    )

pub voice_touch : (g : Grammar) (bars : List VoiceBar) (ts : List Tree) (b e : ℕ) → 1 ≤ g.resolution → Adjacent b bars e → are_bars g bars ts ≡ true
    → Touch g.resolution (2 * b * g.resolution) (voice_leaves g bars ts) (2 * e * g.resolution)
voice_touch g [] [] b e some near h = ap (λ n. 2 * n * g.resolution) near
voice_touch g [] (t ∷ ts) b e some near h = absurd (cc)
voice_touch g (bar ∷ bars) [] b e some near h = absurd (cc)
voice_touch g (bar ∷ bars) (t ∷ ts) b e some near h =
    let r : ℕ = g.resolution in
    let tree = and_left (is_tree g.rules g.resolution bar.symbol bar.pin t) _ h in
    let own = parts_touch r bar 0 r (leaves_of g.rules r bar.symbol t) near.1 (parts-fill g.rules r bar.symbol bar.pin t some tree) in
    let others = voice_touch g bars ts (b + bar.length) e some near.2 (and_right (is_tree g.rules g.resolution bar.symbol bar.pin t) _ h) in
    let nothing : 2 * 0 * bar.length ≡ 0 = grind arith in
    let first : 2 * bar.start * r + 2 * 0 * bar.length ≡ 2 * b * r = omega (arith, nothing) ∙ ap (λ n. 2 * n * r) near.0 in
    let last : 2 * bar.start * r + 2 * r * bar.length ≡ 2 * (b + bar.length) * r = ap (λ n. 2 * n * r + 2 * r * bar.length) near.0 ∙ grind arith in
    let here : Touch r (2 * b * r) (in_bar bar (leaves_of g.rules r bar.symbol t)) (2 * (b + bar.length) * r) =
    subst (λ n. Touch r n (in_bar bar (leaves_of g.rules r bar.symbol t)) (2 * (b + bar.length) * r)) first
    (subst (λ n. Touch r (2 * bar.start * r + 2 * 0 * bar.length) (in_bar bar (leaves_of g.rules r bar.symbol t)) n) last own) in
    Touch-append r (2 * b * r) (2 * (b + bar.length) * r) (2 * e * r) (in_bar bar (leaves_of g.rules r bar.symbol t)) (voice_leaves g bars ts) here others
