-- Lists that are counted one after another.
use Rattle.std.proofs.Common.{◌≡◌, ℕ, ◌+◌, ◌<◌, List, [], ◌∷◌, ◌++◌, length, sym, ap, ◌∙◌, arith}
use Rattle.std.specs.Prelude.{slice_index, min}
use Rattle.std.proofs.lemmas.List.{ext_get_or}
use Rattle.std.proofs.lemmas.List.Sums.{sum_by_push}
use Rattle.std.proofs.lemmas.List.Sorted.{sum_by-IsPermutation}
use Rattle.rule_counts.specs.Counts.{uses, uses_in_all}
use Rattle.rule_counts.specs.Laws.{CountsAddUp, CountsAreOfAnyOrder, RuleCountsAreOne}

pub add_up : CountsAddUp
add_up rules lists list old new counts raised = record {
  of_each = raised.of_each ∙ counts.of_each;
  are = λ rule lt.
      let within : rule < length old = omega (arith, counts.of_each) in
      let sum : uses_in_all rule (lists ++ list ∷ []) ≡ uses_in_all rule lists + uses rule list = sum_by_push (uses rule) lists list in
      omega (arith, sum, raised.are rule within, counts.are rule lt);
}

pub of_any_order : CountsAreOfAnyOrder
of_any_order rules lists others counts order are = record {
  of_each = are.of_each;
  are = λ rule lt. are.are rule lt ∙ ap (λ n. min n 1048576) (sym (sum_by-IsPermutation (uses rule) lists others order));
}

-- numbers that are said one by one are one list
same_numbers : (rules : ℕ) (number : ℕ → ℕ) (some other : List ℕ) → length some ≡ rules → length other ≡ rules
    → ((rule : ℕ) → rule < rules → slice_index some rule ≡ number rule) → ((rule : ℕ) → rule < rules → slice_index other rule ≡ number rule) → some ≡ other
same_numbers rules number some other few many are said =
    ext_get_or 0 some other (few ∙ sym many)
    (λ rule lt. let within : rule < rules = omega (arith, few) in are rule within ∙ sym (said rule within))

pub are_one : RuleCountsAreOne
are_one = record {
  counts = λ rules lists some other are said.
      same_numbers rules (λ rule. min (uses_in_all rule lists) 1048576) some other are.of_each said.of_each are.are said.are;
  raised = λ old list some other are said.
      same_numbers (length old) (λ rule. min (slice_index old rule + uses rule list) 1048576) some other are.of_each said.of_each are.are said.are;
}
