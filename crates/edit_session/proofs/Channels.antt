-- Channels rise and are below 16.
use Rattle.std.proofs.Common.{◌≡◌, ℕ, ◌<◌, ◌≤◌, List, length, get_or, ap, ◌∙◌, inl, inr, arith}
use Rattle.std.specs.List.Sorted.{IsStrictlyIncreasing}
use Rattle.std.proofs.lemmas.Bool.{cases_lt}
use Rattle.std.proofs.lemmas.List.Kept.{AllPairs-from_increasing}
use Rattle.std.proofs.lemmas.Map.Keys.{sorted_from_strictly_increasing}
use Rattle.std.proofs.lemmas.Map.Views.{length-le_from_below}
use Rattle.chain_bars.proofs.Lists.{default_same}
use Rattle.rhythm_base.specs.declared.limits.TheConstants.{MOST_VOICES}
use Rattle.rhythm_base.specs.Performance.{IsWellFormed, Performance}

pub few_channels : (p : Performance) → IsWellFormed p → length p.channels ≤ MOST_VOICES
few_channels p w = length-le_from_below 16 p.channels (sorted_from_strictly_increasing p.channels w.voices_rise) w.voices

-- a lower channel stands at a lower place
pub place_before : (xs : List ℕ) (j k d e : ℕ) → IsStrictlyIncreasing xs → j < length xs → k < length xs → get_or xs j d < get_or xs k e → j < k
place_before xs j k d e up lj lk low =
    elim (cases_lt j k) [
      | inl before ↦ before
      | inr after ↦ elim (cases_lt k j) [
        | inl later ↦
            let rise : get_or xs k e < get_or xs j e = AllPairs-from_increasing xs up k j e later lj in
            let same : get_or xs j d ≡ get_or xs j e = default_same xs j d e lj in
            absurd (omega (arith, rise, same, low))
        | inr up_to ↦
            let here : j ≡ k = omega (arith, after, up_to) in
            let same : get_or xs j d ≡ get_or xs k e = default_same xs j d e lj ∙ ap (λ n. get_or xs n e) here in
            absurd (omega (arith, same, low))
      ]
    ]
