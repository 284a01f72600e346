-- One more rule of a list that is being counted.
use Rattle.std.proofs.Common.{◌≡◌, ◌≢◌, ℕ, ◌+◌, ◌<◌, ◌≤◌, ◌==◌, true, false, List, [], length, take, set, get_or, get_or-set_same, get_or-set_other, refl, sym, ap, ◌∙◌, inl, inr, arith}
use Rattle.std.specs.Prelude.{slice_index, min}
use Rattle.std.proofs.Math.ListN.{length-set}
use Rattle.std.proofs.lemmas.Bool.{cases_eq}
use Rattle.std.proofs.lemmas.Bool.Decides.{nat_tests}
use Rattle.std.proofs.lemmas.List.Sums.{count_by_more_yes, count_by_more_no}
use Rattle.rule_counts.specs.Counts.{AreRaised, uses}

-- before the first rule of a list nothing is raised
pub raised_none : (counts : List ℕ) → ((k : ℕ) → k < length counts → slice_index counts k ≤ 1048576) → AreRaised counts [] counts
raised_none counts few = record { of_each = refl; are = λ rule h. omega (arith, few rule h) }

pub raised_more : (old list new : List ℕ) (i n : ℕ) → i < length list → n ≡ get_or list i 0 → n < length old
    → AreRaised old (take i list) new → AreRaised old (take (i + 1) list) (set new n (min 1048576 (slice_index new n + 1)))
raised_more old list new i n here is within h =
    record {
      of_each = length-set new n (min 1048576 (slice_index new n + 1)) ∙ h.of_each;
      are = λ rule lt. elim (cases_eq rule n) [
        | inl same ↦ at rule lt same
        | inr other ↦ elsewhere rule lt other
      ];
    }
  where
    at : (rule : ℕ) → rule < length old → rule ≡ n
        → slice_index (set new n (min 1048576 (slice_index new n + 1))) rule ≡ min (slice_index old rule + uses rule (take (i + 1) list)) 1048576
    at rule lt same =
        let stands : (get_or list i 0 == rule) ≡ true = grind (arith, nat_tests) in
        let more : uses rule (take (i + 1) list) ≡ uses rule (take i list) + 1 = count_by_more_yes (λ r. r == rule) list i 0 here stands in
        let now : slice_index new n ≡ min (slice_index old rule + uses rule (take i list)) 1048576 = ap (slice_index new) (sym same) ∙ h.are rule lt in
        let fits : n < length new = omega (arith, h.of_each) in
        let value : slice_index (set new n (min 1048576 (slice_index new n + 1))) n ≡ min 1048576 (slice_index new n + 1) =
        get_or-set_same new n (min 1048576 (slice_index new n + 1)) 0 fits in
        ap (slice_index (set new n (min 1048576 (slice_index new n + 1)))) same ∙ value ∙ omega (arith, more, now)

    elsewhere : (rule : ℕ) → rule < length old → rule ≢ n
        → slice_index (set new n (min 1048576 (slice_index new n + 1))) rule ≡ min (slice_index old rule + uses rule (take (i + 1) list)) 1048576
    elsewhere rule lt other =
        let stands : (get_or list i 0 == rule) ≡ false = grind (arith, nat_tests) in
        let more : uses rule (take (i + 1) list) ≡ uses rule (take i list) = count_by_more_no (λ r. r == rule) list i 0 here stands in
        get_or-set_other new n rule (min 1048576 (slice_index new n + 1)) 0 other ∙ h.are rule lt
        ∙ ap (λ m. min (slice_index old rule + m) 1048576) (sym more)
