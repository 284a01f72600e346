-- Four quarter notes in one bar make a well-formed performance.
use Rattle.std.proofs.Common.{◌≡◌, ℕ, ◌+◌, ◌<◌, ◌≤◌, List, [], ◌∷◌, refl, arith}
use Rattle.std.specs.Cmp.Lexicographic.{slice_cmp}
use Rattle.std.specs.Ordering.{nat_cmp}
use Rattle.std.specs.declared.cmp.Ordering.TheVariants.{Less}
use Rattle.std.proofs.lemmas.List.Elements.{All-from_recursion}
use Rattle.std.proofs.lemmas.List.Kept.{AllPairs-cons}
use Rattle.rhythm_base.specs.declared.note.Bar.{Bar}
use Rattle.rhythm_base.specs.declared.note.Note.{Note}
use Rattle.rhythm_base.specs.Lists.{AreInOrder}
use Rattle.rhythm_base.specs.Performance.{IsBarOf, IsNoteOf, IsWellFormed, place_of_note}

abbrev pub quarter : ℕ → ℕ → Note
quarter key onset = record { channel = 0; key = key; onset = onset; end = onset + 480 }

abbrev pub bars : List Bar
bars = record { start = 0; num = 4; den = 4 } ∷ []

abbrev pub quarters : List Note
quarters = quarter 60 0 ∷ quarter 62 480 ∷ quarter 64 960 ∷ quarter 65 1440 ∷ []

abbrev Before : Note → Note → Type 0
Before x y = slice_cmp nat_cmp (place_of_note x) (place_of_note y) ≡ Less

in_order : AreInOrder place_of_note quarters
in_order =
    AllPairs-cons Before (quarter 60 0) (quarter 62 480 ∷ quarter 64 960 ∷ quarter 65 1440 ∷ [])
    (All-from_recursion (Before (quarter 60 0)) (quarter 62 480 ∷ quarter 64 960 ∷ quarter 65 1440 ∷ []) (refl, (refl, (refl, tt))))
    (AllPairs-cons Before (quarter 62 480) (quarter 64 960 ∷ quarter 65 1440 ∷ [])
    (All-from_recursion (Before (quarter 62 480)) (quarter 64 960 ∷ quarter 65 1440 ∷ []) (refl, (refl, tt)))
    (AllPairs-cons Before (quarter 64 960) (quarter 65 1440 ∷ [])
    (All-from_recursion (Before (quarter 64 960)) (quarter 65 1440 ∷ []) (refl, tt))
    (AllPairs-cons Before (quarter 65 1440) [] (λ k d within. absurd (omega arith)) (λ i j d lt within. absurd (omega arith)))))

is_note : (key onset : ℕ) → key < 128 → onset ≤ 1440 → IsNoteOf (0 ∷ []) 1920 (quarter key onset)
is_note key onset low early = record { voice = (0, omega arith, refl); key = low; onset = omega (arith, early); after = omega arith; end = omega (arith, early) }

pub four_formed : IsWellFormed (record { division = 480; tempos = []; key_marks = []; bars = bars; last = 1920; channels = 0 ∷ []; notes = quarters; pins = [] })
four_formed = record {
  division_low = omega arith;
  division_high = omega arith;
  tempos = λ k d within. absurd (omega arith);
  tempos_in_order = λ i j d le within. absurd (omega arith);
  key_marks = λ k d within. absurd (omega arith);
  key_marks_in_order = λ i j d le within. absurd (omega arith);
  some_bar = omega arith;
  few_bars = omega arith;
  bars = All-from_recursion (IsBarOf 480 1920) bars (record { start = omega arith; signature = record { some = omega arith; few = omega arith; power = refl }; whole = refl }, tt);
  first_bar = refl;
  bars_rise = λ k within. absurd (omega arith);
  last_barline = omega arith;
  some_voice = omega arith;
  voices_rise = λ k within. absurd (omega arith);
  voices = All-from_recursion (λ c. c < 16) (0 ∷ []) (omega arith, tt);
  notes = All-from_recursion (IsNoteOf (0 ∷ []) 1920) quarters
      (is_note 60 0 (omega arith) (omega arith), (is_note 62 480 (omega arith) (omega arith), (is_note 64 960 (omega arith) (omega arith), (is_note 65 1440 (omega arith) (omega arith), tt))));
  notes_in_order = in_order;
  pins = λ k d within. absurd (omega arith);
  pins_in_order = λ i j d lt within. absurd (omega arith);
}
