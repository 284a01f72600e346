-- Two voices over two bars make a well-formed performance.
use Rattle.std.proofs.Common.{◌≡◌, ℕ, zero, suc, ◌*◌, ◌%◌, ◌<◌, ◌≤◌, negsuc, pos, List, [], ◌∷◌, refl, arith}
use Rattle.std.specs.Cmp.Lexicographic.{slice_cmp}
use Rattle.std.specs.List.Sorted.{IsNonDecreasing, IsStrictlyIncreasing}
use Rattle.std.specs.Ordering.{nat_cmp}
use Rattle.std.specs.declared.cmp.Ordering.TheVariants.{Less}
use Rattle.std.proofs.lemmas.Bool.Decides.{nat_tests}
use Rattle.std.proofs.lemmas.List.Elements.{All-from_recursion}
use Rattle.std.proofs.lemmas.List.Kept.{AllPairs-cons}
use Rattle.rhythm_base.specs.declared.event.KeyMark.{KeyMark}
use Rattle.rhythm_base.specs.declared.event.Tempo.{Tempo}
use Rattle.rhythm_base.specs.declared.note.Bar.{Bar}
use Rattle.rhythm_base.specs.declared.note.Note.{Note}
use Rattle.rhythm_base.specs.Lists.{AreInOrder}
use Rattle.rhythm_base.specs.Performance.{IsBarOf, IsKeyMark, IsNoteOf, IsTempo, IsWellFormed, Performance, place_of_note}

abbrev pub tempos : List Tempo
tempos = record { tick = 0; micros = 500000 } ∷ []

abbrev pub key_marks : List KeyMark
key_marks = record { tick = 0; sf = negsuc 2 } ∷ record { tick = 1920; sf = pos 1 } ∷ []

abbrev pub bars : List Bar
bars = record { start = 0; num = 4; den = 4 } ∷ record { start = 1920; num = 3; den = 4 } ∷ []

abbrev note : ℕ → ℕ → ℕ → ℕ → Note
note channel key onset end = record { channel = channel; key = key; onset = onset; end = end }

abbrev pub notes : List Note
notes = note 0 60 0 480 ∷ note 0 67 0 960 ∷ note 0 64 480 960 ∷ note 3 48 0 1920 ∷ []

abbrev Before : Note → Note → Type 0
Before x y = slice_cmp nat_cmp (place_of_note x) (place_of_note y) ≡ Less

in_order : AreInOrder place_of_note notes
in_order =
    AllPairs-cons Before (note 0 60 0 480) (note 0 67 0 960 ∷ note 0 64 480 960 ∷ note 3 48 0 1920 ∷ [])
    (All-from_recursion (Before (note 0 60 0 480)) (note 0 67 0 960 ∷ note 0 64 480 960 ∷ note 3 48 0 1920 ∷ []) (refl, (refl, (refl, tt))))
    (AllPairs-cons Before (note 0 67 0 960) (note 0 64 480 960 ∷ note 3 48 0 1920 ∷ [])
    (All-from_recursion (Before (note 0 67 0 960)) (note 0 64 480 960 ∷ note 3 48 0 1920 ∷ []) (refl, (refl, tt)))
    (AllPairs-cons Before (note 0 64 480 960) (note 3 48 0 1920 ∷ [])
    (All-from_recursion (Before (note 0 64 480 960)) (note 3 48 0 1920 ∷ []) (refl, tt))
    (AllPairs-cons Before (note 3 48 0 1920) [] (λ k d within. absurd (omega arith)) (λ i j d lt within. absurd (omega arith)))))

-- two numbers of which the first is the lesser
rise : (m n : ℕ) → m < n → IsStrictlyIncreasing (m ∷ n ∷ [])
rise m n lt zero within = lt
rise m n lt (suc k) within = absurd (omega arith)

do_not_fall : (m n : ℕ) → m ≤ n → IsNonDecreasing (m ∷ n ∷ [])
do_not_fall m n le zero zero d up within = omega arith
do_not_fall m n le zero (suc zero) d up within = le
do_not_fall m n le (suc i) zero d up within = absurd (omega arith)
do_not_fall m n le (suc zero) (suc zero) d up within = omega arith
do_not_fall m n le (suc (suc i)) (suc zero) d up within = absurd (omega arith)
do_not_fall m n le i (suc (suc j)) d up within = absurd (omega arith)

one_alone : (n : ℕ) → IsNonDecreasing (n ∷ [])
one_alone n zero zero d up within = omega arith
one_alone n (suc i) zero d up within = absurd (omega arith)
one_alone n i (suc j) d up within = absurd (omega arith)

is_first : (key onset end : ℕ) → key < 128 → onset < 3360 → onset ≤ end → end ≤ 3360 → IsNoteOf (0 ∷ 3 ∷ []) 3360 (note 0 key onset end)
is_first key onset end low early after within = record { voice = (0, omega arith, refl); key = low; onset = early; after = after; end = within }

is_second : IsNoteOf (0 ∷ 3 ∷ []) 3360 (note 3 48 0 1920)
is_second = record { voice = (1, omega arith, refl); key = omega arith; onset = omega arith; after = omega arith; end = omega arith }

flats : IsKeyMark (record { tick = 0; sf = negsuc 2 })
flats = record { low = grind (arith, nat_tests); high = grind (arith, nat_tests) }

sharp : IsKeyMark (record { tick = 1920; sf = pos 1 })
sharp = record { low = grind (arith, nat_tests); high = grind (arith, nat_tests) }

is_bar : (start num : ℕ) → start < 3360 → 1 ≤ num → num ≤ 64 → (4 * 480 * num) % 4 ≡ 0
    → IsBarOf 480 3360 (record { start = start; num = num; den = 4 })
is_bar start num early some few whole = record { start = early; signature = record { some = some; few = few; power = refl }; whole = whole }

abbrev pub two_voices : Performance
two_voices = record {
  division = 480;
  tempos = tempos;
  key_marks = key_marks;
  bars = bars;
  last = 3360;
  channels = 0 ∷ 3 ∷ [];
  notes = notes;
  pins = [];
}

pub two_formed : IsWellFormed two_voices
two_formed = record {
  division_low = omega arith;
  division_high = omega arith;
  tempos = All-from_recursion IsTempo tempos (record { some = omega arith; few = omega arith }, tt);
  tempos_in_order = one_alone 0;
  key_marks = All-from_recursion IsKeyMark key_marks (flats, (sharp, tt));
  key_marks_in_order = do_not_fall 0 1920 (omega arith);
  some_bar = omega arith;
  few_bars = omega arith;
  bars = All-from_recursion (IsBarOf 480 3360) bars
      (is_bar 0 4 (omega arith) (omega arith) (omega arith) refl, (is_bar 1920 3 (omega arith) (omega arith) (omega arith) refl, tt));
  first_bar = refl;
  bars_rise = rise 0 1920 (omega arith);
  last_barline = omega arith;
  some_voice = omega arith;
  voices_rise = rise 0 3 (omega arith);
  voices = All-from_recursion (λ c. c < 16) (0 ∷ 3 ∷ []) (omega arith, (omega arith, tt));
  notes = All-from_recursion (IsNoteOf (0 ∷ 3 ∷ []) 3360) notes (
    is_first 60 0 480 (omega arith) (omega arith) (omega arith) (omega arith),
    (
      is_first 67 0 960 (omega arith) (omega arith) (omega arith) (omega arith),
      (is_first 64 480 960 (omega arith) (omega arith) (omega arith) (omega arith), (is_second, tt)),
    ),
  );
  notes_in_order = in_order;
  pins = λ k d within. absurd (omega arith);
  pins_in_order = λ i j d lt within. absurd (omega arith);
}
