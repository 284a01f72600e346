-- The spans of symbols, rule by rule.
use Rattle.std.proofs.Common.{◌≡◌, ◌≢◌, ℕ, ◌<◌, ◌≤◌, ◌+◌, ◌⊎◌, inl, inr, List, length, get_or, ap, ◌∙◌, arith}
use Rattle.std.specs.Prelude.{Some, slice_get, slice_set}
use Rattle.std.proofs.lemmas.Bool.{cases_eq}
use Rattle.std.proofs.lemmas.Grind.{get_or-set_at}
use Rattle.std.proofs.lemmas.List.{get_or-set_other}
use Rattle.std.proofs.lemmas.Option.{get_or_from_slice_get}
use Rattle.rhythm_base.specs.declared.rule.Rule.{Rule}
use Rattle.grammar_plan.specs.Spans.{AreSpansBelow}

-- the rule n is taken in
pub spans-next : (rules : List Rule) (n m : ℕ) (x : Rule) (first end : List ℕ) → slice_get rules n ≡ Some x → x.lhs < length first → x.lhs < length end → m ≤ n → m ≤ get_or first x.lhs 0
    → AreSpansBelow rules n first end → AreSpansBelow rules (n + 1) (slice_set first x.lhs m) (slice_set end x.lhs (n + 1))
spans-next rules n m x first end at low high here below h i d before within = elim (cases_eq (get_or rules i d).lhs x.lhs) [
  | inl same ↦ (first_of same (cases_eq i n), end_of same)
  | inr other ↦ both other (cases_eq i n)
]
  where
    first_of : (get_or rules i d).lhs ≡ x.lhs → (i ≡ n) ⊎ (i ≢ n) → get_or (slice_set first x.lhs m) (get_or rules i d).lhs 0 ≤ i
    first_of same (inl is) = let e = get_or-set_at first x.lhs (get_or rules i d).lhs m 0 same low in omega (arith, e, here, is)
    first_of same (inr not) =
        let e = get_or-set_at first x.lhs (get_or rules i d).lhs m 0 same low in
        let old = h i d (omega (arith, before, not)) within in
        let one : get_or first (get_or rules i d).lhs 0 ≡ get_or first x.lhs 0 = ap (λ s. get_or first s 0) same in
        omega (arith, e, below, old.0, one)

    end_of : (get_or rules i d).lhs ≡ x.lhs → i < get_or (slice_set end x.lhs (n + 1)) (get_or rules i d).lhs 0
    end_of same = let e = get_or-set_at end x.lhs (get_or rules i d).lhs (n + 1) 0 same high in omega (arith, e, before)

    both : (get_or rules i d).lhs ≢ x.lhs → (i ≡ n) ⊎ (i ≢ n)
        → (get_or (slice_set first x.lhs m) (get_or rules i d).lhs 0 ≤ i) × (i < get_or (slice_set end x.lhs (n + 1)) (get_or rules i d).lhs 0)
    both other (inl is) =
        let own : get_or rules i d ≡ x = ap (λ j. get_or rules j d) is ∙ get_or_from_slice_get rules n x d at in
        absurd (other (ap (λ (r : Rule). r.lhs) own))
    both other (inr not) =
        let a = get_or-set_other first x.lhs (get_or rules i d).lhs m 0 other in
        let b = get_or-set_other end x.lhs (get_or rules i d).lhs (n + 1) 0 other in
        let old = h i d (omega (arith, before, not)) within in
        (omega (arith, a, old.0), omega (arith, b, old.1))
