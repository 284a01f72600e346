-- The bars of a file, laid one after another from tick 0.
use Rattle.rhythm_base.specs.declared.limits.TheConstants.{MOST_BARS}
use Rattle.std.specs.Prelude.{◌≡◌, ℕ, ◌+◌, ◌-◌, ◌*◌, ◌/◌, ◌%◌, ◌^◌, ◌≤◌, ◌<◌, ◌==◌, ◌||◌, nat_lt, if◌then◌else◌, List, [], ◌∷◌, length, take, Option, Some, None, Result, Ok, Err}
use Rattle.rhythm_base.specs.declared.bar_fault.BarFault.{BarFault}
use Rattle.rhythm_base.specs.declared.bar_fault.BarFault.TheVariants.{TooManyBars, BadSignature, UnevenBar}
use Rattle.rhythm_base.specs.declared.event.Signature.{Signature}
use Rattle.rhythm_base.specs.declared.note.Bar.{Bar}
use Rattle.rhythm_base.specs.Lists.{last_of}
use Rattle.rhythm_base.specs.Time.{in_force}

-- the beats of a signature, and the power of two that is the value of a beat; 4/4 where there is none
abbrev pub beats_of : Option Signature → ℕ × ℕ
beats_of None = (4, 2)
beats_of (Some s) = (s.num, s.dd)

-- the signature of a bar is the one in force at its start, so one inside a bar counts from the next barline
abbrev pub signature_at : List Signature → ℕ → ℕ × ℕ
signature_at signatures b = beats_of (in_force (λ s. s.tick) signatures b)

-- why bar i cannot begin at tick b: there are too many, its signature is out of range, or it has no whole number of ticks
abbrev pub fault_of : ℕ → ℕ → ℕ → ℕ × ℕ → Option BarFault
fault_of division i b s =
    if i == MOST_BARS then Some (TooManyBars b)
    else (if (s.0 == 0) || (nat_lt 64 s.0 || nat_lt 6 s.1) then Some (BadSignature s.0 s.1)
    else (if (4 * division * s.0) % (2 ^ s.1) == 0 then None else Some (UnevenBar i s.0 (2 ^ s.1))))

abbrev pub fault_at : ℕ → List Signature → ℕ → ℕ → Option BarFault
fault_at division signatures i b = fault_of division i b (signature_at signatures b)

-- ticks of a bar that begins at b: 4 * division * num / den
abbrev pub nominal_at : ℕ → List Signature → ℕ → ℕ
nominal_at division signatures b = (4 * division * (signature_at signatures b).0) / (2 ^ (signature_at signatures b).1)

-- the bars, numbered from i on, stand side by side from tick b to tick e, each with its signature and without a fault
abbrev pub AreLaid : ℕ → List Signature → ℕ → ℕ → List Bar → ℕ → Type 0
AreLaid division signatures i b [] e = b ≡ e
AreLaid division signatures i b (bar ∷ bars) e =
    (fault_at division signatures i b ≡ None)
    × (bar ≡ record { start = b; num = (signature_at signatures b).0; den = 2 ^ (signature_at signatures b).1 })
    × AreLaid division signatures (i + 1) (b + nominal_at division signatures b) bars e

-- the last onset is in the last sixteenth of the last bar, which ends at e, so that it may be carried over the barline
abbrev pub IsAtBarline : ℕ → Option Bar → ℕ → Type 0
IsAtBarline onset None e = ⊥
IsAtBarline onset (Some bar) e = (bar.start ≤ onset) × (15 * (e - bar.start) < 16 * (onset - bar.start))

-- Enough bars: the last barline, at e, is at or after the last note end and after the last onset, and the last onset is not
-- in the last sixteenth of the last bar. So one bar more is laid where it is.
pub record AreEnough (last_onset last_end : ℕ) (bars : List Bar) (e : ℕ) : Type 0 where
  pub ends : last_end ≤ e
  pub begins : last_onset < e
  pub inside : IsAtBarline last_onset (last_of bars) e → ⊥

-- the first k of the bars are not enough
abbrev pub AreTooFew : ℕ → List Signature → ℕ → ℕ → List Bar → ℕ → Type 0
AreTooFew division signatures onset end bars k =
    (e : ℕ) → AreLaid division signatures 0 0 (take k bars) e → AreEnough onset end (take k bars) e → ⊥

-- the fewest bars that are enough, with the tick of the last barline; or the first fault before there are enough
abbrev pub IsLaying : ℕ → List Signature → ℕ → ℕ → Result (List Bar × ℕ) BarFault → Type 0
IsLaying division signatures onset end (Ok (bars, last)) =
    AreLaid division signatures 0 0 bars last × AreEnough onset end bars last
    × ((k : ℕ) → k < length bars → AreTooFew division signatures onset end bars k)
IsLaying division signatures onset end (Err fault) =
    (bars : List Bar) × (b : ℕ) × AreLaid division signatures 0 0 bars b
    × ((k : ℕ) → k ≤ length bars → AreTooFew division signatures onset end bars k)
    × (fault_at division signatures (length bars) b ≡ Some fault)
