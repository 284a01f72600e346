-- The bars that start at or before a tick, and those after it.
use Rattle.std.proofs.Common.{◌≡◌, ◌⊎◌, ℕ, ◌+◌, ◌-◌, ◌<◌, ◌≤◌, List, length, map, get_or, ap, inl, inr, arith}
use Rattle.std.specs.List.Sorted.{IsNonDecreasingBy, IsStrictlyIncreasing}
use Rattle.std.proofs.lemmas.Bool.{cases_lt}
use Rattle.std.proofs.lemmas.List.Kept.{AllPairs-from_increasing}
use Rattle.rhythm_base.specs.declared.event.Tempo.{Tempo}
use Rattle.rhythm_base.specs.declared.note.Bar.{Bar}
use Rattle.rhythm_base.specs.declared.note.Note.{Note}
use Rattle.rhythm_base.specs.Barlines.{barline}
use Rattle.tempo_map.specs.TempoMap.{AreUpTo}
use Rattle.tempo_map.proofs.InForce.{by_tick}
use Rattle.bar_cut.proofs.Barlines.{starts_at}
use Rattle.edit_session.specs.Spans.{IsBarEnd, IsFirstBar}

abbrev no_bar : Bar
no_bar = record { start = 0; num = 0; den = 0 }

module _ (bars : List Bar) where
  pub starts_rise : IsStrictlyIncreasing (map (λ b. b.start) bars) → IsNonDecreasingBy (λ b. b.start) bars
  starts_rise up = by_tick (λ (b : Bar). b.start) bars (λ i j d le within. rise i j d le within (cases_lt i j))
    where
      rise : (i j d : ℕ) → i ≤ j → j < length (map (λ (b : Bar). b.start) bars) → (i < j) ⊎ (j ≤ i)
          → get_or (map (λ (b : Bar). b.start) bars) i d ≤ get_or (map (λ (b : Bar). b.start) bars) j d
      rise i j d le within (inl lt) = let less = AllPairs-from_increasing (map (λ (b : Bar). b.start) bars) up i j d lt within in omega (arith, less)
      rise i j d le within (inr ge) = let same : i ≡ j = omega (arith, le, ge) in omega (arith, ap (λ k. get_or (map (λ (b : Bar). b.start) bars) k d) same)

  -- all but the last of those that start by the tick end by it
  pub ends_by : (last tick n bar : ℕ) → AreUpTo (λ b. b.start) bars tick n → bar < n - 1 → barline bars last (bar + 1) ≤ tick
  ends_by last tick n bar up lt =
      let low = up.past (bar + 1) no_bar (omega arith) (omega (arith, lt)) in
      omega (arith, low, starts_at bars last (bar + 1) no_bar (omega (arith, lt, up.within)))

  pub starts_after : (last tick n bar : ℕ) → AreUpTo (λ b. b.start) bars tick n → n ≤ bar → bar < length bars → tick < barline bars last bar
  starts_after last tick n bar up le lt =
      let high = up.ahead bar no_bar le lt in
      omega (arith, high, starts_at bars last bar no_bar lt)

-- fewer bars at the start, and more up to the end
pub earlier_bar : (tempos : List Tempo) (division window : ℕ) (before after : List Note) (bars : List Bar) (last number fewer : ℕ) → fewer ≤ number
    → IsFirstBar tempos division window before after bars last number → IsFirstBar tempos division window before after bars last fewer
earlier_bar tempos division window before after bars last number fewer le h = record {
  place = h.place;
  tick = h.tick;
  within = omega (arith, le, h.within);
  same = h.same;
  bars_end = λ bar lt. h.bars_end bar (omega (arith, lt, le));
}

pub later_end : (tempos : List Tempo) (division window : ℕ) (before after : List Note) (bars : List Bar) (last number more : ℕ) → number ≤ more → more ≤ length bars
    → IsBarEnd tempos division window before after bars last number → IsBarEnd tempos division window before after bars last more
later_end tempos division window before after bars last number more le within h = record {
  within = within;
  is = elim h.is [
    | inl all ↦ inl (omega (arith, all, le))
    | inr edge ↦ inr (edge.0, edge.1, edge.2, λ bar from lt. edge.3 bar (omega (arith, from, le)) lt)
  ];
}
