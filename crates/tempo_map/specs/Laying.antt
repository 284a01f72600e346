-- What laying bars comes to, and what a performance wants of its bars.
use Rattle.rhythm_base.specs.declared.limits.TheConstants.{LATEST_TICK, MOST_BARS}
use Rattle.std.specs.Prelude.{◌≡◌, ℕ, ◌^◌, ◌≤◌, List, length, map, All, slice_index, Some, None, Result, Ok, Err, ⊤}
use Rattle.std.specs.List.Sorted.{IsStrictlyIncreasing}
use Rattle.rhythm_base.specs.declared.bar_fault.BarFault.{BarFault}
use Rattle.rhythm_base.specs.declared.bar_fault.BarFault.TheVariants.{Memory}
use Rattle.rhythm_base.specs.declared.event.Signature.{Signature}
use Rattle.rhythm_base.specs.declared.note.Bar.{Bar}
use Rattle.rhythm_base.specs.Bars.{fault_at, signature_at, IsLaying}
use Rattle.rhythm_base.specs.Performance.{IsBarOf}

pub record Laid : Type 0 where
  pub bars : List Bar
  pub last : ℕ

-- the bars, or the first fault; want of memory says nothing of them
abbrev pub Lays : ℕ → List Signature → ℕ → ℕ → Result Laid BarFault → Type 0
Lays division signatures onset end (Ok laid) = IsLaying division signatures onset end (Ok (laid.bars, laid.last))
Lays division signatures onset end (Err Memory) = ⊤
Lays division signatures onset end (Err fault) = IsLaying division signatures onset end (Err fault)

-- the bar that begins at a tick, or its fault
abbrev pub IsBarAt : ℕ → List Signature → ℕ → ℕ → Result Bar BarFault → Type 0
IsBarAt division signatures i b (Ok bar) =
    (fault_at division signatures i b ≡ None)
    × (bar ≡ record { start = b; num = (signature_at signatures b).0; den = 2 ^ (signature_at signatures b).1 })
IsBarAt division signatures i b (Err fault) = fault_at division signatures i b ≡ Some fault

-- one bar or more and not too many, side by side from tick 0, each with a signature in range and a whole number of ticks
pub record AreBars (division : ℕ) (bars : List Bar) (last : ℕ) : Type 0 where
  pub some : 1 ≤ length bars
  pub few : length bars ≤ MOST_BARS
  pub each : All (IsBarOf division last) bars
  pub first : slice_index (map (λ b. b.start) bars) 0 ≡ 0
  pub rise : IsStrictlyIncreasing (map (λ b. b.start) bars)
  pub last_barline : last ≤ LATEST_TICK
