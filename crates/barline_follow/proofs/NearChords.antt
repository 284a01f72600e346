-- The chords before the last one before a tick play no part in a bar that begins there.
use Rattle.std.proofs.Common.{◌≡◌, ℕ, zero, suc, ◌+◌, ◌-◌, ◌<◌, ◌≤◌, true, false, List, [], ◌∷◌, drop, get_or, length, map, refl, ap, ◌∙◌, arith}
use Rattle.std.specs.Prelude.{All, filter, nat_lt, nat_le}
use Rattle.std.specs.List.Sorted.{IsNonDecreasingBy}
use Rattle.std.proofs.lemmas.Bool.Decides.{nat_tests}
use Rattle.bar_cut.specs.Cuts.{Rises}
use Rattle.rhythm_base.specs.declared.chord.Chord.{Chord}
use Rattle.rhythm_base.specs.declared.inner.Inner.{Inner}
use Rattle.rhythm_base.specs.Cells.{cut_end, has_onset, input, within_bar}
use Rattle.rhythm_base.specs.Grammar.{Grammar}
use Rattle.rhythm_base.specs.Leaves.{VoiceBar, soundings}
use Rattle.rhythm_base.specs.Lists.{last_end}
use Rattle.rhythm_base.proofs.OrderedLists.{all_tail}
use Rattle.barline_follow.specs.Sounded.{AreSounded}

-- ---- a chord is left out

module _ (g : Grammar) (m : VoiceBar) where
  is_before : (onset : ℕ) → onset < m.start → nat_lt onset m.start ≡ true
  is_before onset lt = grind (arith, nat_tests, lt)

  is_outside : (onset : ℕ) → onset < m.start → has_onset m onset ≡ false
  is_outside onset lt = let early : nat_le m.start onset ≡ false = grind (arith, nat_tests, lt) in rw early refl

  one_less : (c d : Inner) (cs : List Inner) → c.onset < m.start → d.onset < m.start → input g m (d ∷ cs) ≡ input g m (c ∷ d ∷ cs)
  one_less c d cs early late =
      let own : filter (λ (x : Inner). has_onset m x.onset) (d ∷ cs) ≡ filter (λ (x : Inner). has_onset m x.onset) (c ∷ d ∷ cs) =
      rw (is_outside c.onset early) refl in
      let last : last_end 0 (map (λ (x : Inner). x.end) (filter (λ (x : Inner). nat_lt x.onset m.start) (d ∷ cs)))
      ≡ last_end 0 (map (λ (x : Inner). x.end) (filter (λ (x : Inner). nat_lt x.onset m.start) (c ∷ d ∷ cs))) =
      rw (is_before c.onset early, is_before d.onset late) refl in
      λ i. record {
        symbol = m.symbol;
        resolution = g.resolution;
        num = m.num;
        den = m.den;
        length = m.length;
        chords = map (within_bar m) (own i);
        before = cut_end m (last i);
        pin = m.pin;
      }

  -- all but the last of those before it
  pub near_input : (n : ℕ) (cs : List Chord) → n < length cs → ((k : ℕ) (d : Chord) → k ≤ n → (get_or cs k d).onset < m.start)
      → input g m (soundings (drop n cs)) ≡ input g m (soundings cs)
  near_input zero cs within early = refl
  near_input (suc n) [] within early = absurd (omega (arith, within))
  near_input (suc n) (c ∷ []) within early = absurd (omega (arith, within))
  near_input (suc n) (c ∷ d ∷ cs) within early =
      near_input n (d ∷ cs) (omega (arith, within)) (λ k e le. early (suc k) e (omega (arith, le)))
      ∙ one_less (record { onset = c.onset; end = c.end }) (record { onset = d.onset; end = d.end }) (soundings cs)
      (early 0 c (omega arith)) (early 1 c (omega arith))

  -- so many begin before it, and all but the last of them are left out
  pub near_point : (count n : ℕ) (cs : List Chord) → n ≡ count - 1 → count ≤ length cs
      → ((k : ℕ) (d : Chord) → k < count → (get_or cs k d).onset < m.start) → input g m (soundings (drop n cs)) ≡ input g m (soundings cs)
  near_point zero n cs is le early = let none : n ≡ 0 = omega (arith, is) in ap (λ k. input g m (soundings (drop k cs))) none
  near_point (suc count) n cs is le early =
      let all : n ≡ count = omega (arith, is) in
      ap (λ k. input g m (soundings (drop k cs))) all
      ∙ near_input count cs (omega (arith, le)) (λ k d low. early k d (omega (arith, low)))

-- ---- what is left is sounded

rises_drop : (low n : ℕ) (cs : List Chord) → Rises low cs → Rises 0 (drop n cs)
rises_drop low zero [] rise = tt
rises_drop low zero (c ∷ cs) rise = (omega arith, rise.1)
rises_drop low (suc n) [] rise = tt
rises_drop low (suc n) (c ∷ cs) rise = rises_drop (c.onset + 1) n cs rise.1

all_drop : (P : Chord → Type 0) (n : ℕ) (cs : List Chord) → All P cs → All P (drop n cs)
all_drop P zero cs all = all
all_drop P (suc n) [] all = all
all_drop P (suc n) (c ∷ cs) all = all_drop P n cs (all_tail P c cs all)

pub sounded_drop : (n : ℕ) (cs : List Chord) → AreSounded cs → AreSounded (drop n cs)
sounded_drop n cs sounded = record {
  rise = rises_drop 0 n cs sounded.rise;
  ends = all_drop (λ c. c.onset ≤ c.end) n cs sounded.ends;
}

from_low : (low : ℕ) (cs : List Chord) → Rises low cs → (k : ℕ) (d : Chord) → k < length cs → low ≤ (get_or cs k d).onset
from_low low [] rise k d lt = absurd (omega (arith, lt))
from_low low (c ∷ cs) rise zero d lt = rise.0
from_low low (c ∷ cs) rise (suc k) d lt = let h = from_low (c.onset + 1) cs rise.1 k d (omega (arith, lt)) in omega (arith, h, rise.0)

pub onsets_rise : (low : ℕ) (cs : List Chord) → Rises low cs → IsNonDecreasingBy (λ c. c.onset) cs
onsets_rise low [] rise i j d le lt = absurd (omega (arith, lt))
onsets_rise low (c ∷ cs) rise zero zero d le lt = omega arith
onsets_rise low (c ∷ cs) rise zero (suc j) d le lt = let h = from_low (c.onset + 1) cs rise.1 j d (omega (arith, lt)) in omega (arith, h)
onsets_rise low (c ∷ cs) rise (suc i) zero d le lt = absurd (omega (arith, le))
onsets_rise low (c ∷ cs) rise (suc i) (suc j) d le lt = onsets_rise (c.onset + 1) cs rise.1 i j d (omega (arith, le)) (omega (arith, lt))
