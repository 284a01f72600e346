-- The bars after an edit: one starts elsewhere, the last is dropped, or one more stands after them.
use Rattle.std.proofs.Common.{◌≡◌, ℕ, zero, suc, ◌+◌, ◌-◌, ◌*◌, ◌/◌, ◌%◌, ◌<◌, ◌≤◌, true, false, ◌==◌, List, [], ◌∷◌, ◌++◌, length, take, subst, refl, sym, ap, ◌∙◌, arith, ◌⊎◌, inl, inr, length-append, Some}
use Rattle.std.specs.List.Sorted.{IsStrictlyIncreasing}
use Rattle.std.specs.Prelude.{All, slice_index, slice_get}
use Rattle.std.proofs.Math.ListN.{get_or-append}
use Rattle.std.proofs.Math.Nat.{div-add-mod, mul-le-mul}
use Rattle.std.proofs.Math.Seq.{get_or-append_seam}
use Rattle.std.proofs.lemmas.Bool.Decides.{eqb_tells}
use Rattle.std.proofs.lemmas.Bool.{cases_order}
use Rattle.std.proofs.lemmas.List.Elements.{All-nil}
use Rattle.std.proofs.lemmas.List.Kept.{AllPairs-from_increasing}
use Rattle.std.proofs.lemmas.List.{length-map, length-take-le, map-append}
use Rattle.rhythm_base.specs.declared.note.Bar.{Bar}
use Rattle.rhythm_base.specs.Barlines.{barline}
use Rattle.edit_laws.specs.Edits.{with_barline, with_start}
use Rattle.rhythm_base.proofs.OrderedLists.{all_cons, all_head, all_tail}
use Rattle.performance_laws.proofs.EditedBars.{barline_is, start_all, starts}

-- ---- another start of one bar

pub length-with_barline : (k tick : ℕ) (bars : List Bar) → length (with_barline k tick bars) ≡ length bars
length-with_barline k tick [] = refl
length-with_barline zero tick (b ∷ bars) = refl
length-with_barline (suc k) tick (b ∷ bars) = ap suc (length-with_barline k tick bars)

pub All-with_barline : (P : Bar → Type 0) (k tick : ℕ) (bars : List Bar) → ((b : Bar) → P b → P (with_start tick b)) → All P bars → All P (with_barline k tick bars)
All-with_barline P k tick [] keeps all = all
All-with_barline P zero tick (b ∷ bars) keeps all = all_cons P (with_start tick b) bars (keeps b (all_head P b bars all)) (all_tail P b bars all)
All-with_barline P (suc k) tick (b ∷ bars) keeps all =
    all_cons P b (with_barline k tick bars) (all_head P b bars all) (All-with_barline P k tick bars keeps (all_tail P b bars all))

-- the bar of that number starts there, and the others where they did
pub there : (k tick : ℕ) (bars : List Bar) → k < length bars → slice_index (starts (with_barline k tick bars)) k ≡ tick
there k tick [] lt = absurd (omega arith)
there zero tick (b ∷ bars) lt = refl
there (suc k) tick (b ∷ bars) lt = there k tick bars (omega arith)

pub elsewhere : (k tick j : ℕ) (bars : List Bar) → (j ≡ k → ⊥) → slice_index (starts (with_barline k tick bars)) j ≡ slice_index (starts bars) j
elsewhere k tick j [] other = refl
elsewhere zero tick zero (b ∷ bars) other = absurd (other refl)
elsewhere zero tick (suc j) (b ∷ bars) other = refl
elsewhere (suc k) tick zero (b ∷ bars) other = refl
elsewhere (suc k) tick (suc j) (b ∷ bars) other = elsewhere k tick j bars (λ same. other (ap suc same))

-- the starts rise where the new one is between its neighbours
module _ (k tick last : ℕ) (bars : List Bar) (inside : k < length bars) (up : IsStrictlyIncreasing (starts bars)) (some : 1 ≤ k)
    (low : barline bars last (k - 1) < tick) (high : k + 1 < length bars → tick < barline bars last (k + 1)) where
  abbrev Rises : ℕ → Type 0
  Rises j = slice_index (starts (with_barline k tick bars)) j < slice_index (starts (with_barline k tick bars)) (j + 1)

  at_it : (j : ℕ) → j + 1 < length bars → j ≡ k → Rises j
  at_it j few same =
      let here : slice_index (starts (with_barline k tick bars)) j ≡ tick = ap (slice_index (starts (with_barline k tick bars))) same ∙ there k tick bars inside in
      let next = elsewhere k tick (j + 1) bars (λ wrong. omega (arith, wrong, same)) in
      let is : barline bars last (j + 1) ≡ slice_index (starts bars) (j + 1) = barline_is bars last (j + 1) few in
      let above : tick < barline bars last (j + 1) = subst (λ i. tick < barline bars last (i + 1)) (sym same) (high (omega (arith, few, same))) in
      omega (arith, here, next, is, above)

  before_it : (j : ℕ) → j + 1 < length bars → j + 1 ≡ k → Rises j
  before_it j few same =
      let here = elsewhere k tick j bars (λ wrong. omega (arith, wrong, same)) in
      let next : slice_index (starts (with_barline k tick bars)) (j + 1) ≡ tick = ap (slice_index (starts (with_barline k tick bars))) same ∙ there k tick bars inside in
      let is : barline bars last j ≡ slice_index (starts bars) j = barline_is bars last j (omega (arith, few)) in
      let below : barline bars last j < tick = subst (λ i. barline bars last i < tick) (omega (arith, same)) low in
      omega (arith, here, next, is, below)

  beside_it : (j : ℕ) → j + 1 < length bars → (j ≡ k → ⊥) → (j + 1 ≡ k → ⊥) → Rises j
  beside_it j few not_it not_before =
      let here = elsewhere k tick j bars not_it in
      let next = elsewhere k tick (j + 1) bars not_before in
      let old = up j (omega (arith, few, length-map bars (λ b. b.start))) in
      omega (arith, here, next, old)

  pub rises : IsStrictlyIncreasing (starts (with_barline k tick bars))
  rises j lt =
      let few : j + 1 < length bars = omega (arith, lt, length-map (with_barline k tick bars) (λ b. b.start), length-with_barline k tick bars) in
      elim (eqb_tells j k) [
        | inl is ↦ at_it j few is.1
        | inr not_it ↦ elim (eqb_tells (j + 1) k) [ inl is ↦ before_it j few is.1 | inr not_before ↦ beside_it j few not_it.1 not_before.1 ]
      ]

-- ---- fewer bars, and one more

-- the first bars start where they did
pub start-take : (n k : ℕ) (bars : List Bar) → k < n → slice_index (starts (take n bars)) k ≡ slice_index (starts bars) k
start-take zero k bars lt = absurd (omega arith)
start-take (suc n) k [] lt = refl
start-take (suc n) zero (b ∷ bars) lt = refl
start-take (suc n) (suc k) (b ∷ bars) lt = start-take n k bars (omega arith)

pub rises-take : (n : ℕ) (bars : List Bar) → n ≤ length bars → IsStrictlyIncreasing (starts bars) → IsStrictlyIncreasing (starts (take n bars))
rises-take n bars few up k lt =
    let size : length (take n bars) ≡ n = length-take-le n bars few in
    let sizes : length (starts (take n bars)) ≡ length (take n bars) = length-map (take n bars) (λ b. b.start) in
    let here = start-take n k bars (omega (arith, lt, size, sizes)) in
    let next = start-take n (k + 1) bars (omega (arith, lt, size, sizes)) in
    let old = up k (omega (arith, lt, size, sizes, few, length-map bars (λ b. b.start))) in
    omega (arith, here, next, old)

pub ne_lt : (k n : ℕ) → k ≤ n → (k ≡ n → ⊥) → k < n
ne_lt k n le other = elim (cases_order k n) [ inl same ↦ absurd (other same) | inr more ↦ elim more [ inl less ↦ less | inr back ↦ absurd (omega (arith, le, back)) ] ]

pub all_starts : (P : ℕ → Type 0) (bars : List Bar) → ((k : ℕ) → k < length bars → P (slice_index (starts bars) k)) → All (λ b. P b.start) bars
all_starts P [] each = All-nil (λ b. P b.start)
all_starts P (b ∷ bars) each =
    all_cons (λ b. P b.start) b bars (each zero (omega arith)) (all_starts P bars (λ k lt. each (suc k) (omega arith)))

-- all bars before one start before it
pub below_start : (bars : List Bar) (n t : ℕ) → IsStrictlyIncreasing (starts bars) → n < length bars → slice_index (starts bars) n < t
    → (k : ℕ) → k ≤ n → slice_index (starts bars) k < t
below_start bars n t up lt less k le =
    elim (eqb_tells k n) [
      | inl same ↦ subst (λ i. slice_index (starts bars) i < t) (sym same.1) less
      | inr other ↦
          let sizes = length-map bars (λ b. b.start) in
          let before : slice_index (starts bars) k < slice_index (starts bars) n = AllPairs-from_increasing (starts bars) up k n 0 (ne_lt k n le other.1) (omega (arith, lt, sizes)) in
          omega (arith, before, less)
    ]

-- one more bar that starts after all
pub rises-push : (bars : List Bar) (b : Bar) → IsStrictlyIncreasing (starts bars) → All (λ x. x.start < b.start) bars → IsStrictlyIncreasing (starts (bars ++ b ∷ []))
rises-push bars b up below k lt = pushed (eqb_tells (k + 1) (length bars))
  where
    size : length (starts bars) ≡ length bars
    size = length-map bars (λ b. b.start)

    whole : starts (bars ++ b ∷ []) ≡ starts bars ++ b.start ∷ []
    whole = map-append (λ b. b.start) bars (b ∷ [])

    more : k + 1 < length bars + 1
    more = omega (arith, lt, length-map (bars ++ b ∷ []) (λ b. b.start), length-append bars (b ∷ []))

    left : k < length bars → slice_index (starts (bars ++ b ∷ [])) k ≡ slice_index (starts bars) k
    left h = ap (λ l. slice_index l k) whole ∙ get_or-append (starts bars) (b.start ∷ []) 0 k (omega (arith, h, size))

    pushed : (((k + 1) == length bars ≡ true) × (k + 1 ≡ length bars)) ⊎ (((k + 1) == length bars ≡ false) × (k + 1 ≡ length bars → ⊥))
        → slice_index (starts (bars ++ b ∷ [])) k < slice_index (starts (bars ++ b ∷ [])) (k + 1)
    pushed (inl same) =
        let here = left (omega (arith, same.1)) in
        let next : slice_index (starts (bars ++ b ∷ [])) (k + 1) ≡ b.start =
        ap (λ l. slice_index l (k + 1)) whole ∙ ap (slice_index (starts bars ++ b.start ∷ [])) (same.1 ∙ sym size) ∙ get_or-append_seam (starts bars) b.start [] 0 in
        let less = start_all (λ s. s < b.start) bars below k (omega (arith, same.1)) in
        omega (arith, here, next, less)
    pushed (inr other) =
        let inside : k + 1 < length bars = ne_lt (k + 1) (length bars) (omega (arith, more)) other.1 in
        let here = left (omega (arith, inside)) in
        let next : slice_index (starts (bars ++ b ∷ [])) (k + 1) ≡ slice_index (starts bars) (k + 1) =
        ap (λ l. slice_index l (k + 1)) whole ∙ get_or-append (starts bars) (b.start ∷ []) 0 (k + 1) (omega (arith, inside, size)) in
        let old = up k (omega (arith, inside, size)) in
        omega (arith, here, next, old)

-- a start after the bars changes none
pub unchanged : (k tick : ℕ) (bars : List Bar) → length bars ≤ k → with_barline k tick bars ≡ bars
unchanged k tick [] le = refl
unchanged zero tick (b ∷ bars) le = absurd (omega arith)
unchanged (suc k) tick (b ∷ bars) le = ap (λ l. b ∷ l) (unchanged k tick bars (omega arith))

-- what holds of all bars holds of the one of a number
pub All-get : (P : Bar → Type 0) (bars : List Bar) (k : ℕ) (b : Bar) → All P bars → slice_get bars k ≡ Some b → P b
All-get P [] k b all is = absurd (cc)
All-get P (x ∷ bars) zero b all is = let same : x ≡ b = cc in subst P same (all_head P x bars all)
All-get P (x ∷ bars) (suc k) b all is = All-get P bars k b (all_tail P x bars all) is

-- a whole number that is a multiple of a beat is a beat or more
some_of : (n den q : ℕ) → 1 ≤ n → den * q + n % den ≡ n → n % den ≡ 0 → 1 ≤ q
some_of n den zero some is whole = absurd (omega (arith, some, whole, is))
some_of n den (suc q) some is whole = omega arith

-- a whole bar has a tick or more
pub some_tick : (division num den : ℕ) → 1 ≤ division → 1 ≤ num → (4 * division * num) % den ≡ 0 → 1 ≤ (4 * division * num) / den
some_tick division num den d n whole =
    let product : 1 * 1 ≤ division * num = mul-le-mul {n₁ = 1} {m₁ = 1} {n₂ = division} {m₂ = num} d n in
    let four : 4 * division * num ≡ 4 * (division * num) = grind arith in
    some_of (4 * division * num) den ((4 * division * num) / den) (omega (arith, product, four)) (div-add-mod (4 * division * num) den) whole
