-- The chords of a leaf.
use Rattle.std.proofs.Common.{◌≡◌, ℕ, zero, suc, ◌<◌, ◌≤◌, ◌+◌, ◌-◌, ◌*◌, ◌&&◌, Bool, true, false, not, List, [], ◌∷◌, length, map, filter, take, drop, get_or, cond, refl, sym, ap, ap₂, ◌∙◌, arith, inl, inr}
use Rattle.std.specs.Prelude.{nat_le, nat_lt}
use Rattle.std.proofs.Math.Nat.{mul-le-mul_right}
use Rattle.std.proofs.lemmas.Bool.{cases_lt}
use Rattle.std.proofs.lemmas.List.{length-drop, length-map, length-take-le}
use Rattle.rhythm_base.specs.declared.inner.Inner.{Inner}
use Rattle.rhythm_base.specs.BarInput.{BarInput, IsBarInput}
use Rattle.rhythm_base.specs.Cells.{bar_of}
use Rattle.rhythm_base.specs.Leaves.{goes_left, lies_in, sounds}
use Rattle.rhythm_base.specs.Line.{Rising}
use Rattle.rhythm_base.specs.Lists.{last_end}
use Rattle.tree_laws.specs.Places.{end_before}
use Rattle.tree_laws.proofs.Ticks.{le_from, le_not, take_zero}
use Rattle.row_laws.specs.Leaves.{IsCrowded, leaf_of_cell, next_ends, own_ends}
use Rattle.bar_view.specs.Units.{SplitsAt, end_of_earlier}
use Rattle.bar_view.proofs.Filters.{ends-taken, filter-range}
use Rattle.bar_view.proofs.Quiets.{end-at-split}
use Rattle.rhythm_base.proofs.Booleans.{lt_test, ge_test}

-- ---- one onset

module _ (k : BarInput) (p w t : ℕ) where
  pub lies-is : lies_in k.resolution (leaf_of_cell k p w) t ≡ nat_le (p * k.length) (t * k.resolution) && nat_lt (t * k.resolution) ((p + w) * k.length)
  lies-is =
      ap (λ b. b && (nat_le (p * k.length) ((t - 0) * k.resolution) && nat_lt ((t - 0) * k.resolution) ((p + w) * k.length))) (le_from 0 t (omega arith))
      ∙ ap (λ n. nat_le (p * k.length) (n * k.resolution) && nat_lt (n * k.resolution) ((p + w) * k.length)) (take_zero t)

  goes-is : goes_left k.resolution (leaf_of_cell k p w) t ≡ nat_le (2 * (t * k.resolution - p * k.length)) (w * k.length)
  goes-is = ap (λ n. nat_le (2 * (n * k.resolution - p * k.length)) (w * k.length)) (take_zero t)

  pub lies-in : p * k.length ≤ t * k.resolution → t * k.resolution < (p + w) * k.length → lies_in k.resolution (leaf_of_cell k p w) t ≡ true
  lies-in low high = lies-is ∙ ap₂ ◌&&◌ (le_from (p * k.length) (t * k.resolution) low) (lt_test (t * k.resolution) ((p + w) * k.length) high)

  pub lies-before : t * k.resolution < p * k.length → lies_in k.resolution (leaf_of_cell k p w) t ≡ false
  lies-before h = lies-is ∙ ap (λ b. b && nat_lt (t * k.resolution) ((p + w) * k.length)) (le_not (p * k.length) (t * k.resolution) h)

  pub lies-after : (p + w) * k.length ≤ t * k.resolution → lies_in k.resolution (leaf_of_cell k p w) t ≡ false
  lies-after h = lies-is ∙ ap (λ b. nat_le (p * k.length) (t * k.resolution) && b) (ge_test (t * k.resolution) ((p + w) * k.length) h) ∙ no (nat_le (p * k.length) (t * k.resolution))
    where
      no : (b : Bool) → b && false ≡ false
      no true = refl
      no false = refl

  wide : (2 * p + w) * k.length ≡ 2 * (p * k.length) + w * k.length
  wide = grind arith

  pub goes-left : 2 * (t * k.resolution) ≤ (2 * p + w) * k.length → goes_left k.resolution (leaf_of_cell k p w) t ≡ true
  goes-left h = let all = wide in goes-is ∙ le_from (2 * (t * k.resolution - p * k.length)) (w * k.length) (omega (arith, all, h))

  pub goes-right : (2 * p + w) * k.length < 2 * (t * k.resolution) → goes_left k.resolution (leaf_of_cell k p w) t ≡ false
  goes-right h = let all = wide in goes-is ∙ le_not (2 * (t * k.resolution - p * k.length)) (w * k.length) (omega (arith, all, h))

-- ---- the chords of the cell

-- onsets rise
rising-above : (low : ℕ) (cs : List Inner) → Rising low cs → (j : ℕ) (e : Inner) → j < length cs → low ≤ (get_or cs j e).onset
rising-above low [] rise j e h = absurd (omega arith)
rising-above low (c ∷ cs) rise zero e h = rise.0
rising-above low (c ∷ cs) rise (suc j) e h =
    let ih : c.onset + 1 ≤ (get_or cs j e).onset = rising-above (c.onset + 1) cs rise.1 j e (omega arith) in
    let own : low ≤ c.onset = rise.0 in
    omega (arith, ih, own)

rising-order : (low : ℕ) (cs : List Inner) → Rising low cs → (i j : ℕ) (d e : Inner) → i ≤ j → j < length cs → (get_or cs i d).onset ≤ (get_or cs j e).onset
rising-order low [] rise i j d e h k = absurd (omega arith)
rising-order low (c ∷ cs) rise zero zero d e h k = omega arith
rising-order low (c ∷ cs) rise zero (suc j) d e h k =
    let above : c.onset + 1 ≤ (get_or cs j e).onset = rising-above (c.onset + 1) cs rise.1 j e (omega arith) in
    omega (arith, above)
rising-order low (c ∷ cs) rise (suc i) zero d e h k = absurd (omega arith)
rising-order low (c ∷ cs) rise (suc i) (suc j) d e h k = rising-order (c.onset + 1) cs rise.1 i j d e (omega arith) (omega arith)

pub onsets-rise : (k : BarInput) → IsBarInput k → (i j : ℕ) (d e : Inner) → i ≤ j → j < length k.chords → (get_or k.chords i d).onset * k.resolution ≤ (get_or k.chords j e).onset * k.resolution
onsets-rise k cell i j d e h low = mul-le-mul_right k.resolution (rising-order 0 k.chords cell.rising i j d e h low)

pub ordered : (k : BarInput) (p w a b : ℕ) → SplitsAt k p a → SplitsAt k (p + w) b → a ≤ b
ordered k p w a b first last = elim (cases_lt b a) [
  | inr le ↦ le
  | inl less ↦
      let d : Inner = record { onset = 0; end = 0 } in
      let inside : a ≤ length k.chords = first.within in
      let off = first.low b d less in
      let on = last.high b d (omega arith) (omega (arith, less)) in
      let wider : p * k.length ≤ (p + w) * k.length = mul-le-mul_right k.length (omega arith) in
      absurd (omega (arith, off, on, wider))
]

no_left : (x y : Bool) → x ≡ false → x && y ≡ false
no_left x y h = ap (λ b. b && y) h

length-between : (cs : List Inner) (a n : ℕ) → a + n ≤ length cs → length (map (λ c. c.end) (take n (drop a cs))) ≡ n
length-between cs a n within =
    let cut = length-drop a cs in
    let long = length-take-le n (drop a cs) (omega (arith, cut, within)) in
    let all = length-map (take n (drop a cs)) (λ (c : Inner). c.end) in
    omega (arith, long, all)

-- those in a leaf
pub filter-counts : (s l : Inner → Bool) (xs : List Inner) → length (map (λ c. c.end) (filter (λ c. s c && l c) xs)) + length (map (λ c. c.end) (filter (λ c. s c && not (l c)) xs)) ≡ length (map (λ c. c.end) (filter s xs))
filter-counts s l [] = refl
filter-counts s l (x ∷ xs) = go (s x) (l x) (filter-counts s l xs)
  where
    go : (a b : Bool) → length (map (λ c. c.end) (filter (λ c. s c && l c) xs)) + length (map (λ c. c.end) (filter (λ c. s c && not (l c)) xs)) ≡ length (map (λ c. c.end) (filter s xs))
        → length (map (λ c. c.end) (cond (a && b) (x ∷ filter (λ c. s c && l c) xs) (filter (λ c. s c && l c) xs)))
        + length (map (λ c. c.end) (cond (a && not b) (x ∷ filter (λ c. s c && not (l c)) xs) (filter (λ c. s c && not (l c)) xs)))
        ≡ length (map (λ c. c.end) (cond a (x ∷ filter s xs) (filter s xs)))
    go true true ih = omega (arith, ih)
    go true false ih = omega (arith, ih)
    go false b ih = ih

module _ (k : BarInput) (p w a b : ℕ) (first : SplitsAt k p a) (last : SplitsAt k (p + w) b) where
  inside : (i : ℕ) (d : Inner) → a ≤ i → i < b → lies_in k.resolution (leaf_of_cell k p w) (get_or k.chords i d).onset ≡ true
  inside i d low high =
      let within : b ≤ length k.chords = last.within in
      lies-in k p w (get_or k.chords i d).onset (first.high i d low (omega (arith, high, within))) (last.low i d high)

  earlier : (i : ℕ) (d : Inner) → i < a → lies_in k.resolution (leaf_of_cell k p w) (get_or k.chords i d).onset ≡ false
  earlier i d h = lies-before k p w (get_or k.chords i d).onset (first.low i d h)

  later : (i : ℕ) (d : Inner) → b ≤ i → i < length k.chords → lies_in k.resolution (leaf_of_cell k p w) (get_or k.chords i d).onset ≡ false
  later i d h low = lies-after k p w (get_or k.chords i d).onset (last.high i d h low)

  all-chords : filter (λ c. lies_in k.resolution (leaf_of_cell k p w) c.onset) k.chords ≡ take (b - a) (drop a k.chords)
  all-chords =
      let order = ordered k p w a b first last in
      let within : b ≤ length k.chords = last.within in
      filter-range (λ c. lies_in k.resolution (leaf_of_cell k p w) c.onset) k.chords a (b - a) (omega (arith, order, within))
      (λ i d h. earlier i d h)
      (λ i d low high. inside i d low (omega (arith, order, high)))
      (λ i d low high. later i d (omega (arith, order, low)) high)

  -- more than eight are too many
  pub crowd : 8 < b - a → IsCrowded k p w
  crowd many =
      let order = ordered k p w a b first last in
      let within : b ≤ length k.chords = last.within in
      let own : ℕ = length (own_ends k p w) in
      let next : ℕ = length (next_ends k p w) in
      let sum : own + next ≡ length (map (λ (c : Inner). c.end) (filter (λ c. lies_in k.resolution (leaf_of_cell k p w) c.onset) k.chords))
      = filter-counts (λ c. lies_in k.resolution (leaf_of_cell k p w) c.onset) (λ c. goes_left k.resolution (leaf_of_cell k p w) c.onset) k.chords in
      let all = ap (λ l. length (map (λ (c : Inner). c.end) l)) all-chords in
      let long = length-between k.chords a (b - a) (omega (arith, order, within)) in
      elim (cases_lt 4 own) [ inl h ↦ inl h | inr h ↦ inr (omega (arith, h, sum, all, long, many)) ]

  module _ (m : ℕ) (low : a ≤ m) (high : m ≤ b)
      (left : (i : ℕ) (d : Inner) → a ≤ i → i < m → 2 * ((get_or k.chords i d).onset * k.resolution) ≤ (2 * p + w) * k.length)
      (right : (i : ℕ) (d : Inner) → m ≤ i → i < b → (2 * p + w) * k.length < 2 * ((get_or k.chords i d).onset * k.resolution)) where
    pub own-chords : filter (λ c. lies_in k.resolution (leaf_of_cell k p w) c.onset && goes_left k.resolution (leaf_of_cell k p w) c.onset) k.chords ≡ take (m - a) (drop a k.chords)
    own-chords =
        let within : b ≤ length k.chords = last.within in
        filter-range (λ c. lies_in k.resolution (leaf_of_cell k p w) c.onset && goes_left k.resolution (leaf_of_cell k p w) c.onset) k.chords a (m - a) (omega (arith, low, high, within))
        (λ i d h. no_left _ _ (earlier i d h))
        (λ i d on less. ap₂ ◌&&◌ (inside i d on (omega (arith, low, high, less))) (goes-left k p w (get_or k.chords i d).onset (left i d on (omega (arith, low, less)))))
        (λ i d past less. elim (cases_lt i b) [
          | inl near ↦ ap₂ ◌&&◌ (inside i d (omega (arith, past, low)) near) (goes-right k p w (get_or k.chords i d).onset (right i d (omega (arith, past, low)) near))
          | inr far ↦ no_left _ _ (later i d far less)
        ])

    pub next-chords : filter (λ c. lies_in k.resolution (leaf_of_cell k p w) c.onset && not (goes_left k.resolution (leaf_of_cell k p w) c.onset)) k.chords ≡ take (b - m) (drop m k.chords)
    next-chords =
        let within : b ≤ length k.chords = last.within in
        filter-range (λ c. lies_in k.resolution (leaf_of_cell k p w) c.onset && not (goes_left k.resolution (leaf_of_cell k p w) c.onset)) k.chords m (b - m) (omega (arith, high, within))
        (λ i d less. elim (cases_lt i a) [
          | inl before ↦ no_left _ _ (earlier i d before)
          | inr on ↦ ap₂ (λ x y. x && not y) (inside i d on (omega (arith, high, less))) (goes-left k p w (get_or k.chords i d).onset (left i d on less))
        ])
        (λ i d on less. ap₂ (λ x y. x && not y) (inside i d (omega (arith, low, on)) (omega (arith, high, less))) (goes-right k p w (get_or k.chords i d).onset (right i d on (omega (arith, high, less)))))
        (λ i d past less. no_left _ _ (later i d (omega (arith, past, high)) less))

    pub own-count : length (own_ends k p w) ≡ m - a
    own-count = let within : b ≤ length k.chords = last.within in ap (λ l. length (map (λ (c : Inner). c.end) l)) own-chords ∙ length-between k.chords a (m - a) (omega (arith, low, high, within))

    pub next-count : length (next_ends k p w) ≡ b - m
    next-count = let within : b ≤ length k.chords = last.within in ap (λ l. length (map (λ (c : Inner). c.end) l)) next-chords ∙ length-between k.chords m (b - m) (omega (arith, high, within))

    -- the latest chord
    latest : (d : Inner) → last_end (end_before k.resolution (bar_of k) k.chords k.before p) (own_ends k p w) ≡ end_of_earlier k m d
    latest d =
        let within : b ≤ length k.chords = last.within in
        let sum : a + (m - a) ≡ m = omega (arith, low) in
        ap₂ last_end (end-at-split k p a d first) (ap (map (λ (c : Inner). c.end)) own-chords) ∙ ends-taken k a (m - a) d (omega (arith, low, high, within)) ∙ ap (λ n. end_of_earlier k n d) sum

    pub sounds-so : (d : Inner) (x : Bool) → ((x ≡ true) → (2 * p + w) * k.length ≤ 2 * (end_of_earlier k m d * k.resolution)) → ((x ≡ false) → 2 * (end_of_earlier k m d * k.resolution) < (2 * p + w) * k.length)
        → x ≡ sounds k.resolution (leaf_of_cell k p w) (last_end (end_before k.resolution (bar_of k) k.chords k.before p) (own_ends k p w))
    sounds-so d x on off = sym (ap (sounds k.resolution (leaf_of_cell k p w)) (latest d) ∙ go x on off)
      where
        start : (r n : ℕ) → 2 * 0 * r + n ≡ n
        start r n = grind arith

        turned : (e r : ℕ) → 2 * e * r ≡ 2 * (e * r)
        turned e r = grind arith

        go : (x : Bool) → ((x ≡ true) → (2 * p + w) * k.length ≤ 2 * (end_of_earlier k m d * k.resolution)) → ((x ≡ false) → 2 * (end_of_earlier k m d * k.resolution) < (2 * p + w) * k.length)
            → sounds k.resolution (leaf_of_cell k p w) (end_of_earlier k m d) ≡ x
        go true on off = ap₂ nat_le (start k.resolution ((2 * p + w) * k.length)) (turned (end_of_earlier k m d) k.resolution) ∙ le_from _ _ (on refl)
        go false on off = ap₂ nat_le (start k.resolution ((2 * p + w) * k.length)) (turned (end_of_earlier k m d) k.resolution) ∙ le_not _ _ (off refl)
