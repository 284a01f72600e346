-- The candidates, step by step.
use Rattle.std.proofs.Common.{◌≡◌, ℕ, zero, suc, ◌+◌, ◌-◌, ◌*◌, ◌/◌, ◌<◌, ◌≤◌, List, [], ◌∷◌, ◌++◌, length, get_or, sym, ap, ◌∙◌, subst, append_assoc, arith}
use Rattle.std.specs.Prelude.{Contains, ◌↔◌}
use Rattle.std.specs.List.Sorted.{IsStrictlyIncreasing}
use Rattle.std.proofs.Math.Nat.{le-div_iff_mul-le, mul-le-mul}
use Rattle.std.proofs.lemmas.List.FromFn.{get_or-map-range_with_len, length-map-range_with_len, map-range_with_len_more}
use Rattle.barline_fit.specs.Candidates.{candidates, stepped, ticks_of}
use Rattle.barline_fit.specs.Laws.{CandidatesAreSteps}
use Rattle.barline_fit.specs.declared.candidates.Candidates.{Candidates}

module _ (low step : ℕ) where
  pub length-stepped : (count : ℕ) → length (stepped low step count) ≡ count
  length-stepped count = length-map-range_with_len (λ k. low + k * step) 0 count

  pub get_or-stepped : (count k d : ℕ) → k < count → get_or (stepped low step count) k d ≡ low + k * step
  get_or-stepped count k d lt = get_or-map-range_with_len (λ k. low + k * step) 0 count k k d lt (omega arith)

  pub stepped_more : (count : ℕ) → stepped low step (count + 1) ≡ stepped low step count ++ (low + count * step) ∷ []
  stepped_more count = map-range_with_len_more (λ k. low + k * step) 0 count count (omega arith)

  -- a tick among the first ones is so many steps from the lowest
  pub step_of : (count tick : ℕ) → Contains (stepped low step count) tick → (k : ℕ) × (k < count) × (tick ≡ low + k * step)
  step_of count tick (k, lt, is) =
      let within : k < count = omega (arith, lt, length-stepped count) in
      (k, within, sym is ∙ get_or-stepped count k tick within)

  pub step_there : (count k : ℕ) → k < count → Contains (stepped low step count) (low + k * step)
  step_there count k lt = (k, omega (arith, lt, length-stepped count), get_or-stepped count k (low + k * step) lt)

  -- a later step leads to a later tick
  pub later_step : (j k : ℕ) → 1 ≤ step → j < k → low + j * step < low + k * step
  later_step j k some less =
      let more : (j + 1) * step ≤ k * step = mul-le-mul {n₂ = k} {m₂ = step} (omega (arith, less)) (omega arith) in
      omega (arith, more, some)

-- whole steps fit between two ticks exactly where they lead no further than the later one
pub within_steps : (low high step k : ℕ) → low ≤ high → 1 ≤ step → low + k * step ≤ high → k < (high - low) / step + 1
within_steps low high step k order some le =
    let fits : k ≤ (high - low) / step = (le-div_iff_mul-le some).1 (omega (arith, le)) in
    omega (arith, fits)

pub steps_within : (low high step k : ℕ) → low ≤ high → 1 ≤ step → k < (high - low) / step + 1 → low + k * step ≤ high
steps_within low high step k order some lt =
    let fits : k * step ≤ high - low = (le-div_iff_mul-le some).0 (omega (arith, lt)) in
    omega (arith, fits, order)

pub candidates_steps : CandidatesAreSteps
candidates_steps = record { steps = steps; rise = rise; count = λ low high step. length-stepped low step ((high - low) / step + 1) }
  where
    steps : (low high step tick : ℕ) → low ≤ high → 1 ≤ step → Contains (candidates low high step) tick ↔ ((k : ℕ) × (tick ≡ low + k * step) × (tick ≤ high))
    steps low high step tick order some = (
      λ there.
          (let one = step_of low step ((high - low) / step + 1) tick there in
          let le = steps_within low high step one.0 order some one.1 in
          (one.0, one.2, omega (arith, one.2, le))),
      λ (k, is, le).
          (let within = within_steps low high step k order some (omega (arith, is, le)) in
          subst (Contains (candidates low high step)) (sym is) (step_there low step ((high - low) / step + 1) k within)),
    )

    rise : (low high step : ℕ) → 1 ≤ step → IsStrictlyIncreasing (candidates low high step)
    rise low high step some k lt =
        let count = (high - low) / step + 1 in
        let few : k + 1 < count = omega (arith, lt, length-stepped low step count) in
        let here = get_or-stepped low step count k 0 (omega (arith, few)) in
        let next = get_or-stepped low step count (k + 1) 0 few in
        let less = later_step low step k (k + 1) some (omega arith) in
        omega (arith, here, next, less)

-- the first ticks, the one after them, and the others
pub stepped_split : (low step count more : ℕ) → (rest : List ℕ) × (stepped low step (count + 1 + more) ≡ stepped low step count ++ (low + count * step) ∷ rest)
stepped_split low step count zero = ([], ap (stepped low step) (omega arith) ∙ stepped_more low step count)
stepped_split low step count (suc more) =
    let before = stepped_split low step count more in
    let last = low + (count + 1 + more) * step in
    let front = stepped low step count in
    let next : stepped low step (count + 1 + suc more) ≡ stepped low step (count + 1 + more) ++ last ∷ [] = ap (stepped low step) (omega arith) ∙ stepped_more low step (count + 1 + more) in
    (before.0 ++ last ∷ [], next ∙ ap (λ xs. xs ++ last ∷ []) before.1 ∙ append_assoc front ((low + count * step) ∷ before.0) (last ∷ []))

-- a candidate is no later than the highest
pub candidate_within : (c : Candidates) (k count : ℕ) → count ≡ length (ticks_of c) → k < count → c.low ≤ c.high → 1 ≤ c.step → c.low + k * c.step ≤ c.high
candidate_within c k count all lt order some =
    steps_within c.low c.high c.step k order some (omega (arith, all, lt, length-stepped c.low c.step ((c.high - c.low) / c.step + 1)))
