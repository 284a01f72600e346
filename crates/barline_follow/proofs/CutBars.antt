-- One bar of a voice can be cut, alone or after one bar up to it.
use Rattle.std.proofs.Common.{◌≡◌, ℕ, zero, suc, ◌+◌, ◌<◌, ◌≤◌, List, [], ◌∷◌, refl, arith}
use Rattle.std.specs.Prelude.{All}
use Rattle.std.proofs.lemmas.List.Elements.{All-map}
use Rattle.bar_cut.specs.Cuts.{AreBarsAndChords, IsBarBefore, inputs}
use Rattle.rhythm_base.specs.declared.chord.Chord.{Chord}
use Rattle.rhythm_base.specs.declared.limits.TheConstants.{LATEST_TICK}
use Rattle.rhythm_base.specs.declared.note.Bar.{Bar}
use Rattle.rhythm_base.specs.declared.pin.Pin.{Pin}
use Rattle.rhythm_base.specs.Cells.{input}
use Rattle.edit_laws.specs.Edits.{with_start}
use Rattle.rhythm_base.specs.Grammar.{Grammar}
use Rattle.rhythm_base.specs.Leaves.{soundings}
use Rattle.rhythm_base.specs.Signatures.{IsSignature}
use Rattle.rhythm_base.specs.Voices.{voice_bars_from}
use Rattle.rhythm_base.proofs.OrderedLists.{all_cons}
use Rattle.barline_follow.specs.Sounded.{AreSounded}

none : (P : Bar → Type 0) → All P []
none P k d lt = absurd (omega (arith, lt))

pub one_bar : (b : Bar) (end : ℕ) (cs : List Chord) → AreSounded cs → IsSignature b.num b.den → b.start ≡ 0 → b.start < end → end ≤ LATEST_TICK
    → AreBarsAndChords (b ∷ []) end cs
one_bar b end cs sounded signature start some few = record {
  some_bar = omega arith;
  few_bars = omega arith;
  are_before = all_cons (IsBarBefore end) b [] (record { start = some; signature = signature }) (none (IsBarBefore end));
  first_bar = start;
  bars_rise = λ k lt. absurd (omega (arith, lt));
  last_barline = few;
  chords_rise = sounded.rise;
  chords = sounded.ends;
}

pub two_bars : (b : Bar) (end : ℕ) (cs : List Chord) → AreSounded cs → IsSignature b.num b.den → 0 < b.start → b.start < end → end ≤ LATEST_TICK
    → AreBarsAndChords (with_start 0 b ∷ b ∷ []) end cs
two_bars b end cs sounded signature start some few = record {
  some_bar = omega arith;
  few_bars = omega arith;
  are_before = all_cons (IsBarBefore end) (with_start 0 b) (b ∷ []) (record { start = omega (arith, start, some); signature = signature })
      (all_cons (IsBarBefore end) b [] (record { start = some; signature = signature }) (none (IsBarBefore end)));
  first_bar = refl;
  bars_rise = rise;
  last_barline = few;
  chords_rise = sounded.rise;
  chords = sounded.ends;
}
  where
    rise : (k : ℕ) → k + 1 < 2 → Rattle.std.specs.Prelude.slice_index (0 ∷ b.start ∷ []) k < Rattle.std.specs.Prelude.slice_index (0 ∷ b.start ∷ []) (k + 1)
    rise zero lt = start
    rise (suc k) lt = absurd (omega (arith, lt))

-- all inputs have the units of the grammar
pub units_are : (g : Grammar) (pins : List Pin) (channel last : ℕ) (bars : List Bar) (cs : List Chord)
    → All (λ k. k.resolution ≡ g.resolution) (inputs g pins channel last bars cs)
units_are g pins channel last bars cs =
    All-map (λ k. k.resolution ≡ g.resolution) (λ m. input g m (soundings cs)) (voice_bars_from g pins channel last 0 bars) (λ k d lt. refl)
