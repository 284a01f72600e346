-- Barlines, and where the bars of a performance start.
use Rattle.std.proofs.Common.{◌⊎◌, inl, inr, ◌+◌, ◌≡◌, ℕ, zero, suc, ◌<◌, ◌≤◌, List, [], ◌∷◌, length, map, refl, arith}
use Rattle.std.specs.Prelude.{All, slice_index}
use Rattle.std.specs.List.Sorted.{IsStrictlyIncreasing}
use Rattle.std.proofs.lemmas.Bool.{cases_lt}
use Rattle.std.proofs.lemmas.List.{length-map}
use Rattle.rhythm_base.specs.declared.note.Bar.{Bar}
use Rattle.rhythm_base.specs.Barlines.{barline}
use Rattle.rhythm_base.proofs.OrderedLists.{all_head, all_tail}

abbrev pub starts : List Bar → List ℕ
starts bars = map (λ b. b.start) bars

-- a barline inside the bars is the start of a bar
pub barline_is : (bars : List Bar) (last k : ℕ) → k < length bars → barline bars last k ≡ slice_index (starts bars) k
barline_is [] last k lt = absurd (omega arith)
barline_is (b ∷ bars) last zero lt = refl
barline_is (b ∷ bars) last (suc k) lt = barline_is bars last k (omega arith)

-- and the last barline stands after them
pub barline_last : (bars : List Bar) (last k : ℕ) → length bars ≤ k → barline bars last k ≡ last
barline_last [] last k le = refl
barline_last (b ∷ bars) last zero le = absurd (omega arith)
barline_last (b ∷ bars) last (suc k) le = barline_last bars last k (omega arith)

-- what holds of a bar holds where it starts
pub start_all : (P : ℕ → Type 0) (bars : List Bar) → All (λ b. P b.start) bars → (k : ℕ) → k < length bars → P (slice_index (starts bars) k)
start_all P [] all k lt = absurd (omega arith)
start_all P (b ∷ bars) all zero lt = all_head (λ b. P b.start) b bars all
start_all P (b ∷ bars) all (suc k) lt = start_all P bars (all_tail (λ b. P b.start) b bars all) k (omega arith)

-- the barline after a bar is after its start, and not after the last one
pub barlines_rise : (bars : List Bar) (last n : ℕ) → IsStrictlyIncreasing (starts bars) → All (λ b. b.start < last) bars → n < length bars
    → (barline bars last n < barline bars last (n + 1)) × (barline bars last (n + 1) ≤ last)
barlines_rise bars last n up before lt = by (cases_lt (n + 1) (length bars))
  where
    by : (n + 1 < length bars) ⊎ (length bars ≤ n + 1) → (barline bars last n < barline bars last (n + 1)) × (barline bars last (n + 1) ≤ last)
    by (inl inside) =
        let here = barline_is bars last n lt in
        let next = barline_is bars last (n + 1) inside in
        let rise = up n (omega (arith, inside, length-map bars (λ b. b.start))) in
        let most = start_all (λ s. s < last) bars before (n + 1) inside in
        (omega (arith, here, next, rise), omega (arith, next, most))
    by (inr end) =
        let here = barline_is bars last n lt in
        let next = barline_last bars last (n + 1) end in
        let most = start_all (λ s. s < last) bars before n lt in
        (omega (arith, here, next, most), omega (arith, next))
