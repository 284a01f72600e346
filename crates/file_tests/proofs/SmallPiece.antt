-- Three bars and three notes make a well formed performance.
use Rattle.std.proofs.Common.{◌≡◌, ℕ, zero, suc, ◌<◌, List, [], ◌∷◌, map, refl, arith}
use Rattle.std.specs.Prelude.{All}
use Rattle.std.specs.List.Sorted.{IsStrictlyIncreasing}
use Rattle.std.specs.Cmp.Lexicographic.{slice_cmp}
use Rattle.std.specs.Ordering.{nat_cmp}
use Rattle.std.specs.declared.cmp.Ordering.TheVariants.{Less}
use Rattle.std.proofs.lemmas.List.Elements.{All-from_recursion}
use Rattle.std.proofs.lemmas.List.Kept.{AllPairs-cons}
use Rattle.rhythm_base.specs.declared.note.Bar.{Bar}
use Rattle.rhythm_base.specs.declared.note.Note.{Note}
use Rattle.rhythm_base.specs.Lists.{AreInOrder}
use Rattle.rhythm_base.specs.Performance.{IsBarOf, IsNoteOf, IsWellFormed, place_of_note}

abbrev pub bars : List Bar
bars = record { start = 0; num = 4; den = 4 } ∷ record { start = 1920; num = 4; den = 4 } ∷ record { start = 3840; num = 4; den = 4 } ∷ []

abbrev pub notes : List Note
notes =
    record { channel = 0; key = 60; onset = 0; end = 400 }
    ∷ record { channel = 0; key = 64; onset = 480; end = 880 }
    ∷ record { channel = 1; key = 48; onset = 0; end = 1920 }
    ∷ []

whole_bars : All (IsBarOf 480 5760) bars
whole_bars = All-from_recursion (IsBarOf 480 5760) bars (whole 0 (omega arith), (whole 1920 (omega arith), (whole 3840 (omega arith), tt)))
  where
    whole : (start : ℕ) → start < 5760 → IsBarOf 480 5760 (record { start = start; num = 4; den = 4 })
    whole start within = record { start = within; signature = record { some = omega arith; few = omega arith; power = refl }; whole = refl }

rise : IsStrictlyIncreasing (map (λ b. b.start) bars)
rise zero within = omega arith
rise (suc zero) within = omega arith
rise (suc (suc k)) within = absurd (omega arith)

in_order : AreInOrder place_of_note notes
in_order =
    let R : Note → Note → Type 0 = λ x y. slice_cmp nat_cmp (place_of_note x) (place_of_note y) ≡ Less in
    let first : Note = record { channel = 0; key = 60; onset = 0; end = 400 } in
    let second : Note = record { channel = 0; key = 64; onset = 480; end = 880 } in
    let third : Note = record { channel = 1; key = 48; onset = 0; end = 1920 } in
    AllPairs-cons R first (second ∷ third ∷ []) (All-from_recursion (R first) (second ∷ third ∷ []) (refl, (refl, tt)))
    (AllPairs-cons R second (third ∷ []) (All-from_recursion (R second) (third ∷ []) (refl, tt))
    (AllPairs-cons R third [] (λ k d within. absurd (omega arith)) (λ i j d lt within. absurd (omega arith))))

each_note : All (IsNoteOf (0 ∷ 1 ∷ []) 5760) notes
each_note =
    All-from_recursion (IsNoteOf (0 ∷ 1 ∷ []) 5760) notes (
      record { voice = (0, omega arith, refl); key = omega arith; onset = omega arith; after = omega arith; end = omega arith },
      (
        record { voice = (0, omega arith, refl); key = omega arith; onset = omega arith; after = omega arith; end = omega arith },
        (record { voice = (1, omega arith, refl); key = omega arith; onset = omega arith; after = omega arith; end = omega arith }, tt),
      ),
    )

voices_rise : IsStrictlyIncreasing (0 ∷ 1 ∷ [])
voices_rise zero within = omega arith
voices_rise (suc k) within = absurd (omega arith)

pub small_piece : IsWellFormed (record { division = 480; tempos = []; key_marks = []; bars = bars; last = 5760; channels = 0 ∷ 1 ∷ []; notes = notes; pins = [] })
small_piece = record {
  division_low = omega arith;
  division_high = omega arith;
  tempos = λ k d within. absurd (omega arith);
  tempos_in_order = λ i j d le within. absurd (omega arith);
  key_marks = λ k d within. absurd (omega arith);
  key_marks_in_order = λ i j d le within. absurd (omega arith);
  some_bar = omega arith;
  few_bars = omega arith;
  bars = whole_bars;
  first_bar = refl;
  bars_rise = rise;
  last_barline = omega arith;
  some_voice = omega arith;
  voices_rise = voices_rise;
  voices = All-from_recursion (λ c. c < 16) (0 ∷ 1 ∷ []) (omega arith, (omega arith, tt));
  notes = each_note;
  notes_in_order = in_order;
  pins = λ k d within. absurd (omega arith);
  pins_in_order = λ i j d lt within. absurd (omega arith);
}
