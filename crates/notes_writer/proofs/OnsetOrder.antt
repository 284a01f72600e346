-- Notes in the order of channels, put in the order of onsets.
use Rattle.std.proofs.Common.{◌≡◌, Bool, false, List, get_or, arith}
use Rattle.std.specs.Prelude.{◌==◌, ◌&&◌}
use Rattle.std.specs.Cmp.Lexicographic.{slice_cmp}
use Rattle.std.specs.List.{IsDistinct}
use Rattle.std.specs.List.Sorted.{IsPermutation, IsSortedByKey}
use Rattle.std.specs.Ordering.{is_lt, nat_cmp}
use Rattle.std.specs.declared.cmp.Ordering.TheVariants.{Less}
use Rattle.std.proofs.lemmas.Bool.Decides.{nat_tests}
use Rattle.std.proofs.lemmas.Cmp.{nat_list_cmp_total}
use Rattle.std.proofs.lemmas.List.Sorted.{ranks_by, sorted_far}
use Rattle.std.proofs.lemmas.Map.Keys.{IsDistinct-IsPermutation, IsDistinct-from_apart, apart_from_distinct}
use Rattle.rhythm_base.specs.declared.note.Note.{Note}
use Rattle.rhythm_base.specs.Lists.{AreInOrder}
use Rattle.rhythm_base.specs.Performance.{place_of_note}
use Rattle.notes_writer.specs.ByOnset.{AreByOnset, place_in_text}

-- two notes agree in channel, onset and key
abbrev are_placed_alike : Note → Note → Bool
are_placed_alike m n = (m.channel == n.channel) && ((m.onset == n.onset) && (m.key == n.key))

alike_turned : (m n : Note) → are_placed_alike m n ≡ are_placed_alike n m
alike_turned m n = grind (arith, nat_tests)

not_alike : (m n : Note) → slice_cmp nat_cmp (place_of_note m) (place_of_note n) ≡ Less → are_placed_alike m n ≡ false
not_alike m n h = grind (arith, nat_tests)

before : (m n : Note) → is_lt (slice_cmp nat_cmp (place_in_text n) (place_in_text m)) ≡ false → are_placed_alike m n ≡ false
    → slice_cmp nat_cmp (place_in_text m) (place_in_text n) ≡ Less
before m n h k = grind (arith, nat_tests)

-- notes that no two places share, sorted
pub by_onset : (notes list : List Note) → AreInOrder place_of_note notes → IsPermutation notes list
    → IsSortedByKey place_in_text (slice_cmp nat_cmp) list → AreByOnset notes list
by_onset notes list order same sorted =
    let apart : IsDistinct are_placed_alike notes =
    IsDistinct-from_apart are_placed_alike notes (λ i j d lt within. not_alike (get_or notes i d) (get_or notes j d) (order i j d lt within)) in
    let still = IsDistinct-IsPermutation are_placed_alike alike_turned notes list same apart in
    let by : Note → Note → Bool = λ x y. is_lt (slice_cmp nat_cmp (place_in_text x) (place_in_text y)) in
    record {
      same = same;
      in_order = λ i j d lt within. before (get_or list i d) (get_or list j d)
          (sorted_far by (ranks_by nat_list_cmp_total place_in_text) list sorted i j d (omega (arith, lt)) within)
          (apart_from_distinct are_placed_alike list i j d still lt within);
    }
