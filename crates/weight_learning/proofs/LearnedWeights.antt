-- What learned weights come to.
use Rattle.std.proofs.Common.{◌≡◌, ℕ, ◌-◌, ◌*◌, ◌/◌, ◌<◌, ◌≤◌, ◌==◌, ◌&&◌, Bool, true, false, List, length, get_or, refl, sym, ap, ◌∙◌, subst, lit<}
use Rattle.std.specs.Prelude.{Option, Some, if◌then◌else◌, nat_lt, option_map, slice_index}
use Rattle.std.specs.List.{zip}
use Rattle.std.proofs.lemmas.Bool.{eq-eqb, eqb-true}
use Rattle.std.proofs.lemmas.List.{get_or_default}
use Rattle.std.proofs.lemmas.List.Folds.{list_any_none}
use Rattle.std.proofs.lemmas.Option.{slice_get-map}
use Rattle.std.proofs.Math.Nat.{le_of_eq, le_trans, lt_of_le_of_lt}
use Rattle.rhythm_base.specs.Cost.{weight_of}
use Rattle.rhythm_base.specs.Grammar.{Grammar}
use Rattle.rhythm_base.specs.declared.rule.Rule.{Rule}
use Rattle.weight_learning.specs.Learned.{CanLearn, learned, learned_rule}
use Rattle.weight_learning.specs.Laws.{LearnedWeightsAreFew, LoneRulesWeighNothing, MoreUsedIsNoHeavier, UnusedSymbolsKeepTheirWeights, symbol_at, weight_at}
use Rattle.weight_learning.specs.Steps.{steps}
use Rattle.weight_learning.specs.Weights.{CountedRule, is_used, part_sum, parts_of, share_of, share_sum}
use Rattle.weight_learning.proofs.CountedRules.{IsRuleAt, all_counted, counted_at, counted_found, length-counted, rule_at, used_here}
use Rattle.weight_learning.proofs.Logarithms.{steps_few, steps_rise}
use Rattle.weight_learning.proofs.Sums.{sum_alone}
use Rattle.weight_learning.proofs.WeightLemmas.{few_parts, parts_rise, share_of_falls, share_read, some_parts, some_share, weight_falls, weight_few, weight_nothing}

-- the weight of a rule among those of a symbol
abbrev pub weight_among : ℕ → List Rule → List ℕ → ℕ → CountedRule → ℕ
weight_among bit rules counts symbol q =
    if is_used symbol rules counts
    then bit * (steps (part_sum bit symbol rules counts) - steps (parts_of bit (share_sum bit symbol rules) q)) / 64 else q.0.weight

-- where the symbol is used ..
pub among_used : (bit : ℕ) (rules : List Rule) (counts : List ℕ) (symbol : ℕ) (q : CountedRule) → is_used symbol rules counts ≡ true
    → weight_among bit rules counts symbol q ≡ bit * (steps (part_sum bit symbol rules counts) - steps (parts_of bit (share_sum bit symbol rules) q)) / 64
among_used bit rules counts symbol q used =
    ap (λ b. if b then bit * (steps (part_sum bit symbol rules counts) - steps (parts_of bit (share_sum bit symbol rules) q)) / 64 else q.0.weight) used

-- .. and where not
pub among_unused : (bit : ℕ) (rules : List Rule) (counts : List ℕ) (symbol : ℕ) (q : CountedRule) → is_used symbol rules counts ≡ false
    → weight_among bit rules counts symbol q ≡ q.0.weight
among_unused bit rules counts symbol q unused =
    ap (λ b. if b then bit * (steps (part_sum bit symbol rules counts) - steps (parts_of bit (share_sum bit symbol rules) q)) / 64 else q.0.weight) unused

pub among_few : (bit : ℕ) (rules : List Rule) (counts : List ℕ) (symbol : ℕ) (q : CountedRule) → bit ≤ 10000 → is_used symbol rules counts ≡ true
    → weight_among bit rules counts symbol q ≤ 400000
among_few bit rules counts symbol q few used =
    le_trans (le_of_eq (among_used bit rules counts symbol q used)) (weight_few bit _ _ few (steps_few (part_sum bit symbol rules counts)))

-- no weight gets out of a range that has the learned ones
pub among_range : (bit : ℕ) (rules : List Rule) (counts : List ℕ) (symbol : ℕ) (q : CountedRule) (most : ℕ) → bit ≤ 10000 → 400000 ≤ most
    → q.0.weight ≤ most → weight_among bit rules counts symbol q ≤ most
among_range bit rules counts symbol q most few wide light = at (is_used symbol rules counts) refl
  where
    at : (b : Bool) → is_used symbol rules counts ≡ b → weight_among bit rules counts symbol q ≤ most
    at true used = le_trans (among_few bit rules counts symbol q few used) wide
    at false unused = le_trans (le_of_eq (among_unused bit rules counts symbol q unused)) light

module _ (g : Grammar) (counts : List ℕ) (bit : ℕ) (can : CanLearn g counts bit) where
  -- what a rule weighs afterwards
  weight_after : (i : ℕ) (r : Rule) → i < length g.rules → IsRuleAt g.rules i r
      → weight_at (learned g counts bit) i ≡ weight_among bit g.rules counts r.lhs (r, slice_index counts i)
  unfolding learned
  weight_after i r lt is =
      ap weight_of
      (slice_get-map (learned_rule bit g.rules counts) (zip g.rules counts) i
      ∙ ap (option_map (learned_rule bit g.rules counts)) (counted_found g.rules counts can.of_each i r lt is.read))

  -- and weighed before
  weight_before : (i : ℕ) (r : Rule) → IsRuleAt g.rules i r → weight_at g i ≡ r.weight
  weight_before i r is = ap weight_of is.found

  one_symbol : (i j : ℕ) (r s : Rule) → IsRuleAt g.rules i r → IsRuleAt g.rules j s → symbol_at g i ≡ symbol_at g j → r.lhs ≡ s.lhs
  one_symbol i j r s is are same =
      let P : Option Rule → Option ℕ = λ o. option_map (λ (x : Rule). x.lhs) o in
      let both : Some r.lhs ≡ Some s.lhs = sym (ap P is.found) ∙ same ∙ ap P are.found in
      cc

pub few : LearnedWeightsAreFew
few g counts bit i j can same some =
    let one = rule_at g.rules i same.one in
    let other = rule_at g.rules j same.other in
    let symbol = one_symbol g counts bit can i j one.0 other.0 one.1 other.1 same.symbol in
    let used = used_here g.rules counts can.of_each one.0.lhs j other.0 same.other other.1.read (sym symbol) some in
    le_trans (le_of_eq (weight_after g counts bit can i one.0 same.one one.1))
    (among_few bit g.rules counts one.0.lhs (one.0, slice_index counts i) can.bit_range used)

pub no_heavier : MoreUsedIsNoHeavier
no_heavier g counts bit i j can same more lighter =
    let one = rule_at g.rules i same.one in
    let other = rule_at g.rules j same.other in
    let symbol = one_symbol g counts bit can i j one.0 other.0 one.1 other.1 same.symbol in
    let light : one.0.weight ≤ other.0.weight =
    le_trans (le_of_eq (sym (weight_before g counts bit can i one.0 one.1))) (le_trans lighter (le_of_eq (weight_before g counts bit can j other.0 other.1))) in
    le_trans (le_of_eq (weight_after g counts bit can i one.0 same.one one.1))
    (le_trans (among i j one.0 other.0 same.one one.1 more light)
    (le_of_eq (ap (λ x. weight_among bit g.rules counts x (other.0, slice_index counts j)) symbol ∙ sym (weight_after g counts bit can j other.0 same.other other.1))))
  where
    among : (i j : ℕ) (r s : Rule) → i < length g.rules → IsRuleAt g.rules i r → slice_index counts j ≤ slice_index counts i → r.weight ≤ s.weight
        → weight_among bit g.rules counts r.lhs (r, slice_index counts i) ≤ weight_among bit g.rules counts r.lhs (s, slice_index counts j)
    among i j r s lt is more light = at (is_used r.lhs g.rules counts) refl
      where
        own_rises : parts_of bit (share_sum bit r.lhs g.rules) (s, slice_index counts j) ≤ parts_of bit (share_sum bit r.lhs g.rules) (r, slice_index counts i)
        own_rises = parts_rise (slice_index counts i) (slice_index counts j) (share_of bit r) (share_of bit s) (share_sum bit r.lhs g.rules) (some_share bit r.lhs g.rules) more (share_of_falls bit r s can.some_bit light)

        own_few : parts_of bit (share_sum bit r.lhs g.rules) (r, slice_index counts i) ≤ 1073762304
        own_few =
            let part : share_of bit r ≤ (share_sum bit r.lhs g.rules) = share_read bit r.lhs g.rules i r lt is.read refl in
            let within : i < length counts = subst (λ n. i < n) (sym can.of_each) lt in
            few_parts (slice_index counts i) (share_of bit r) (share_sum bit r.lhs g.rules) (can.capped i 0 within) part

        at : (b : Bool) → is_used r.lhs g.rules counts ≡ b
            → weight_among bit g.rules counts r.lhs (r, slice_index counts i) ≤ weight_among bit g.rules counts r.lhs (s, slice_index counts j)
        at true used =
            let rise = steps_rise (parts_of bit (share_sum bit r.lhs g.rules) (s, slice_index counts j)) (parts_of bit (share_sum bit r.lhs g.rules) (r, slice_index counts i)) (some_parts (slice_index counts j) (share_of bit s) (share_sum bit r.lhs g.rules)) own_rises (lt_of_le_of_lt own_few (lit< tt)) in
            le_trans (le_of_eq (among_used bit g.rules counts r.lhs (r, slice_index counts i) used))
            (le_trans (weight_falls bit (steps (part_sum bit r.lhs g.rules counts)) _ _ rise)
            (le_of_eq (sym (among_used bit g.rules counts r.lhs (s, slice_index counts j) used))))
        at false unused =
            le_trans (le_of_eq (among_unused bit g.rules counts r.lhs (r, slice_index counts i) unused))
            (le_trans light (le_of_eq (sym (among_unused bit g.rules counts r.lhs (s, slice_index counts j) unused))))

pub lone : LoneRulesWeighNothing
lone g counts bit i can lt alone some =
    let here = rule_at g.rules i lt in
    let symbol = here.0.lhs in
    let q : CountedRule = (here.0, slice_index counts i) in
    let used = used_here g.rules counts can.of_each symbol i here.0 lt here.1.read refl some in
    let sum = sum_is here.0 here.1 in
    let all : ℕ = part_sum bit symbol g.rules counts in
    weight_after g counts bit can i here.0 lt here.1 ∙ among_used bit g.rules counts symbol q used
    ∙ ap (λ n. bit * (steps all - steps n) / 64) (sym sum) ∙ weight_nothing bit (steps all)
  where
    sum_is : (r : Rule) → IsRuleAt g.rules i r → part_sum bit r.lhs g.rules counts ≡ parts_of bit (share_sum bit r.lhs g.rules) (r, slice_index counts i)
    sum_is r is =
        let d : CountedRule = (r, 0) in
        let f : CountedRule → ℕ = parts_of bit (share_sum bit r.lhs g.rules) in
        let within : i < length (zip g.rules counts) = subst (λ n. i < n) (sym (length-counted g.rules counts can.of_each)) lt in
        let pair = counted_at g.rules counts can.of_each i d lt in
        let P : Rule → Type 0 = λ x. (x.lhs == r.lhs) ≡ true in
        let passes = subst (λ (q : CountedRule). (q.0.lhs == r.lhs) ≡ true) (sym pair) (subst P (sym is.read) (eq-eqb r.lhs r.lhs refl)) in
        let V : Rule → Type 0 = λ x. f (get_or (zip g.rules counts) i d) ≡ f (x, slice_index counts i) in
        sum_alone (λ (q : CountedRule). q.0.lhs == r.lhs) f (zip g.rules counts) i d within passes (only r is)
        ∙ subst V is.read (ap f pair)
      where
        only : (r : Rule) → IsRuleAt g.rules i r → (k : ℕ) → k < length (zip g.rules counts)
            → ((get_or (zip g.rules counts) k (let d : CountedRule = (r, 0) in d)).0.lhs == r.lhs) ≡ true → k ≡ i
        only r is k less passes =
            let d : CountedRule = (r, 0) in
            let near : k < length g.rules = subst (λ n. k < n) (length-counted g.rules counts can.of_each) less in
            let there = rule_at g.rules k near in
            let read : (get_or g.rules k r).lhs ≡ r.lhs =
            eqb-true _ _ (subst (λ (q : CountedRule). (q.0.lhs == r.lhs) ≡ true) (counted_at g.rules counts can.of_each k d near) passes) in
            let same : get_or g.rules k r ≡ there.0 = get_or_default g.rules k r there.0 near ∙ there.1.read in
            let lhs : there.0.lhs ≡ r.lhs = ap (λ (x : Rule). x.lhs) (sym same) ∙ read in
            alone k record {
              one = near;
              other = lt;
              symbol = ap (option_map (λ (x : Rule). x.lhs)) there.1.found ∙ ap (λ n. Some n) lhs ∙ sym (ap (option_map (λ (x : Rule). x.lhs)) is.found);
            }

pub kept : UnusedSymbolsKeepTheirWeights
kept g counts bit i can lt idle =
    let here = rule_at g.rules i lt in
    let q : CountedRule = (here.0, slice_index counts i) in
    weight_after g counts bit can i here.0 lt here.1 ∙ among_unused bit g.rules counts here.0.lhs q (unused here.0 here.1)
    ∙ sym (weight_before g counts bit can i here.0 here.1)
  where
    unused : (r : Rule) → IsRuleAt g.rules i r → is_used r.lhs g.rules counts ≡ false
    unused r is =
        list_any_none (λ (q : CountedRule). (q.0.lhs == r.lhs) && nat_lt 0 q.1) (zip g.rules counts)
        (all_counted g.rules counts can.of_each (λ (q : CountedRule). ((q.0.lhs == r.lhs) && nat_lt 0 q.1) ≡ false) each)
      where
        each : (k : ℕ) (d : Rule) → k < length g.rules → (((get_or g.rules k d).lhs == r.lhs) && nat_lt 0 (slice_index counts k)) ≡ false
        each k d near = at ((get_or g.rules k d).lhs == r.lhs) refl
          where
            at : (b : Bool) → ((get_or g.rules k d).lhs == r.lhs) ≡ b → (b && nat_lt 0 (slice_index counts k)) ≡ false
            at false e = refl
            at true e =
                let there = rule_at g.rules k near in
                let same : get_or g.rules k d ≡ there.0 = get_or_default g.rules k d there.0 near ∙ there.1.read in
                let lhs : there.0.lhs ≡ r.lhs = ap (λ (x : Rule). x.lhs) (sym same) ∙ eqb-true _ _ e in
                let none : slice_index counts k ≡ 0 = idle k record {
                  one = near;
                  other = lt;
                  symbol = ap (option_map (λ (x : Rule). x.lhs)) there.1.found ∙ ap (λ n. Some n) lhs ∙ sym (ap (option_map (λ (x : Rule). x.lhs)) is.found);
                } in
                ap (λ n. nat_lt 0 n) none
