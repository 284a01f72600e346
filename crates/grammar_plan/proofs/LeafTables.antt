-- The rules of leaves, rule by rule.
use Rattle.std.proofs.Common.{◌≡◌, ℕ, zero, suc, ◌+◌, ◌<◌, ◌≤◌, ◌⊎◌, inl, inr, ◌==◌, ◌&&◌, not, Bool, true, false, List, length, refl, sym, ap, subst, ◌∙◌, arith}
use Rattle.std.specs.Prelude.{Option, Some, None, nat_lt, nat_le, slice_get, slice_set, slice_index_or, if◌then◌else◌}
use Rattle.std.proofs.lemmas.Bool.{cases_eq, cases_lt}
use Rattle.std.proofs.lemmas.Bool.Decides.{nat_tests}
use Rattle.std.proofs.lemmas.Grind.{get_or-set_at}
use Rattle.std.proofs.lemmas.List.{get_or-set_other}
use Rattle.std.proofs.lemmas.Option.{slice_get_within}
use Rattle.rhythm_base.specs.Bodies.{ending_of}
use Rattle.rhythm_base.specs.Grammar.{Grammar}
use Rattle.rhythm_base.specs.Line.{agrees}
use Rattle.rhythm_base.specs.declared.rule.Ending.{Ending}
use Rattle.rhythm_base.specs.declared.rule.Ending.TheVariants.{Note, Short, Tie, Rest, Grace}
use Rattle.rhythm_base.specs.declared.rule.Rule.{Rule}
use Rattle.tree_laws.proofs.Runs.{agrees-few}
use Rattle.row_laws.specs.LeafRules.{IsLeafRule}
use Rattle.grammar_plan.specs.LeafTables.{AreFirstBelow, HasLeafPlace, IsFirstBelow, lighter_of, place_in, leaf_place, place_of_ending}
use Rattle.grammar_plan.specs.Plans.{HasLeafRule, place_of_leaf}
use Rattle.grammar_plan.specs.declared.leaf_rule.LeafRule.{LeafRule}

-- ---- one rule more

pub some_one : {X : Type 0} (x y : X) → Some x ≡ Some y → x ≡ y
some_one x y e = ap (λ o. get_value o x) e
  where
    get_value : {X : Type 0} → Option X → X → X
    get_value None x = x
    get_value (Some y) x = y

pub last_of : (r n : ℕ) → r < n + 1 → (r < n) ⊎ (r ≡ n)
last_of r n h = elim (cases_lt r n) [
  | inl low ↦ inl low
  | inr far ↦ inr (omega (arith, h, far))
]

module _ (g : Grammar) (symbol n : ℕ) (rule : Rule) (at : slice_get g.rules n ≡ Some rule) where
  own_rule : (r : ℕ) (other : Rule) → r ≡ n → slice_get g.rules r ≡ Some other → other ≡ rule
  own_rule r other same is = some_one other rule (sym is ∙ ap (slice_get g.rules) same ∙ at)

  -- the rule has another place
  first-other : (place : ℕ) (o : Option LeafRule) → (place_in rule symbol ≡ Some place → ⊥) → IsFirstBelow g symbol n place o → IsFirstBelow g symbol (n + 1) place o
  first-other place None not h = λ r other low has. elim (last_of r n low) [
    | inl below ↦ h r other below has
    | inr same ↦ not (ap (λ x. place_in x symbol) (sym (own_rule r other same has.0)) ∙ has.1)
  ]
  first-other place (Some l) not h = (
    h.0,
    h.1,
    h.2,
    omega (arith, h.3),
    λ s other low has. elim (last_of s n low) [
      | inl below ↦ h.4 s other below has
      | inr same ↦ absurd (not (ap (λ x. place_in x symbol) (sym (own_rule s other same has.0)) ∙ has.1))
    ],
  )

  -- the rule has the place
  first-own : (place : ℕ) (o : Option LeafRule) (l : LeafRule) → l.rule ≡ n → l.weight ≡ rule.weight → place_in rule symbol ≡ Some place → IsFirstBelow g symbol n place o
      → IsFirstBelow g symbol (n + 1) place (Some (lighter_of o l))
  first-own place None l number weighs own h = (
    rule,
    (ap (slice_get g.rules) number ∙ at, own),
    sym weighs,
    omega (arith, number),
    λ s other low has. elim (last_of s n low) [
      | inl below ↦ absurd (h s other below has)
      | inr same ↦ inr (weighs ∙ ap (λ (x : Rule). x.weight) (sym (own_rule s other same has.0)), omega (arith, number, same))
    ],
  )
  first-own place (Some x) l number weighs own h = go (nat_le x.weight l.weight) refl
    where
      go : (b : Bool) → nat_le x.weight l.weight ≡ b → IsFirstBelow g symbol (n + 1) place (Some (if b then x else l))
      go true e = (
        h.0,
        h.1,
        h.2,
        omega (arith, h.3),
        λ s other low has. elim (last_of s n low) [
          | inl below ↦ h.4 s other below has
          | inr same ↦
              let le : x.weight ≤ l.weight = grind (arith, nat_tests) in
              let w : other.weight ≡ rule.weight = ap (λ (x : Rule). x.weight) (own_rule s other same has.0) in
              let under = h.3 in
              elim (cases_lt x.weight l.weight) [
                | inl less ↦ inl (omega (arith, less, w, weighs))
                | inr more ↦ inr (omega (arith, le, more, w, weighs), omega (arith, under, same))
              ]
        ],
      )
      go false e = (
        rule,
        (ap (slice_get g.rules) number ∙ at, own),
        sym weighs,
        omega (arith, number),
        λ s other low has.
            let less : l.weight < x.weight = grind (arith, nat_tests) in
            elim (last_of s n low) [
              | inl below ↦ elim (h.4 s other below has) [
                | inl above ↦ inl (omega (arith, less, above))
                | inr level ↦ inl (let same = level.0 in omega (arith, less, same))
              ]
              | inr same ↦ inr (weighs ∙ ap (λ (x : Rule). x.weight) (sym (own_rule s other same has.0)), omega (arith, number, same))
            ],
      )

  pub firsts-other : (row : List (Option LeafRule)) → place_in rule symbol ≡ None → AreFirstBelow g symbol n row → AreFirstBelow g symbol (n + 1) row
  firsts-other row none h place low = first-other place (slice_index_or row place None) (λ own. let no = sym none ∙ own in absurd (cc)) (h place low)

  pub firsts-own : (row : List (Option LeafRule)) (at_place : ℕ) (l : LeafRule) → length row ≡ 7 → at_place < 7 → l.rule ≡ n → l.weight ≡ rule.weight → place_in rule symbol ≡ Some at_place
      → AreFirstBelow g symbol n row → AreFirstBelow g symbol (n + 1) (slice_set row at_place (Some (lighter_of (slice_index_or row at_place None) l)))
  firsts-own row at_place l long low_place number weighs own h place low = elim (cases_eq place at_place) [
    | inl same ↦
        let set = get_or-set_at row at_place place (Some (lighter_of (slice_index_or row at_place None) l)) None same (omega (arith, long, low_place)) in
        subst (IsFirstBelow g symbol (n + 1) place) (sym set)
        (first-own place (slice_index_or row at_place None) l number weighs (own ∙ ap Some (sym same)) (subst (λ k. IsFirstBelow g symbol n place (slice_index_or row k None)) same (h place low)))
    | inr other ↦
        let set = get_or-set_other row at_place place (Some (lighter_of (slice_index_or row at_place None) l)) None other in
        subst (IsFirstBelow g symbol (n + 1) place) (sym set)
        (first-other place (slice_index_or row place None) (λ mine. other (some_one place at_place (sym mine ∙ own))) (h place low))
  ]

-- ---- places

pub place-low : (ending : Ending) (place : ℕ) → place_of_ending ending ≡ Some place → place < 7
place-low Note place e = let n = some_one _ _ e in omega (arith, n)
place-low Short place e = let n = some_one _ _ e in omega (arith, n)
place-low Tie place e = let n = some_one _ _ e in omega (arith, n)
place-low Rest place e = let n = some_one _ _ e in omega (arith, n)
place-low (Grace m) place e = go (nat_lt 0 m && nat_lt m 4) refl e
  where
    go : (b : Bool) → nat_lt 0 m && nat_lt m 4 ≡ b → (if b then Some (m + 3) else None) ≡ Some place → place < 7
    go true on e = let n = some_one _ _ e in let low : m < 4 = grind (arith, nat_tests) in omega (arith, n, low)
    go false on e = absurd (cc)

pub place_in-low : (rule : Rule) (symbol place : ℕ) → place_in rule symbol ≡ Some place → place < 7
place_in-low rule symbol place e = go (rule.lhs == symbol) e
  where
    by_ending : (o : Option Ending) → leaf_place o ≡ Some place → place < 7
    by_ending None e = absurd (cc)
    by_ending (Some ending) e = place-low ending place e

    go : (b : Bool) → (if b then leaf_place (ending_of rule.body) else None) ≡ Some place → place < 7
    go true e = by_ending (ending_of rule.body) e
    go false e = absurd (cc)

-- ---- what a leaf asks

-- a leaf with n chords that sounds so has one place, and those of its rules are those that have the place
place-asked : (ending : Ending) (n : ℕ) (sounds : Bool) → agrees ending n sounds ≡ true → place_of_ending ending ≡ Some (place_of_leaf n sounds)
place-asked Note zero sounds h = absurd (cc)
place-asked Note (suc zero) true h = refl
place-asked Note (suc zero) false h = absurd (cc)
place-asked Note (suc (suc n)) sounds h = absurd (grind (arith, nat_tests))
place-asked Short zero sounds h = absurd (cc)
place-asked Short (suc zero) false h = refl
place-asked Short (suc zero) true h = absurd (cc)
place-asked Short (suc (suc n)) sounds h = absurd (grind (arith, nat_tests))
place-asked Tie zero true h = refl
place-asked Tie zero false h = absurd (cc)
place-asked Tie (suc n) sounds h = absurd (grind (arith, nat_tests))
place-asked Rest zero false h = refl
place-asked Rest zero true h = absurd (cc)
place-asked Rest (suc n) sounds h = absurd (grind (arith, nat_tests))
place-asked (Grace m) n sounds h = go (nat_lt 0 m && nat_lt m 4) refl (n == m + 1) refl h
  where
    at : (n : ℕ) → n ≡ m + 1 → 1 ≤ m → place_of_leaf n sounds ≡ m + 3
    at zero e low = absurd (omega (arith, e))
    at (suc zero) e low = absurd (omega (arith, e, low))
    at (suc (suc n)) e low = omega (arith, e)

    go : (b : Bool) → nat_lt 0 m && nat_lt m 4 ≡ b → (c : Bool) → n == m + 1 ≡ c → b && c ≡ true → (if b then Some (m + 3) else None) ≡ Some (place_of_leaf n sounds)
    go true on true same h =
        let low : 1 ≤ m = grind (arith, nat_tests) in
        let number : n ≡ m + 1 = grind (arith, nat_tests) in
        ap Some (sym (at n number low))
    go true on false same h = let no : false ≡ true = h in absurd (cc)
    go false on c same h = let no : false ≡ true = h in absurd (cc)

asked-place : (ending : Ending) (n : ℕ) (sounds : Bool) → place_of_ending ending ≡ Some (place_of_leaf n sounds) → agrees ending n sounds ≡ true
asked-place ending n sounds e = by_place ending (place_of_leaf n sounds) e n sounds refl
  where
    numbers : (ending : Ending) (p q : ℕ) → place_of_ending ending ≡ Some p → place_of_ending ending ≡ Some q → p ≡ q
    numbers ending p q h k = some_one p q (sym h ∙ k)

    by_place : (ending : Ending) (p : ℕ) → place_of_ending ending ≡ Some p → (n : ℕ) (sounds : Bool) → place_of_leaf n sounds ≡ p → agrees ending n sounds ≡ true
    by_place Note p h zero true e = let no = some_one _ _ h in absurd (omega (arith, no, e))
    by_place Note p h zero false e = let no = some_one _ _ h in absurd (omega (arith, no, e))
    by_place Note p h (suc zero) true e = refl
    by_place Note p h (suc zero) false e = let no = some_one _ _ h in absurd (omega (arith, no, e))
    by_place Note p h (suc (suc n)) sounds e = let no = some_one _ _ h in absurd (omega (arith, no, e))
    by_place Short p h zero true e = let no = some_one _ _ h in absurd (omega (arith, no, e))
    by_place Short p h zero false e = let no = some_one _ _ h in absurd (omega (arith, no, e))
    by_place Short p h (suc zero) true e = let no = some_one _ _ h in absurd (omega (arith, no, e))
    by_place Short p h (suc zero) false e = refl
    by_place Short p h (suc (suc n)) sounds e = let no = some_one _ _ h in absurd (omega (arith, no, e))
    by_place Tie p h zero true e = refl
    by_place Tie p h zero false e = let no = some_one _ _ h in absurd (omega (arith, no, e))
    by_place Tie p h (suc zero) true e = let no = some_one _ _ h in absurd (omega (arith, no, e))
    by_place Tie p h (suc zero) false e = let no = some_one _ _ h in absurd (omega (arith, no, e))
    by_place Tie p h (suc (suc n)) sounds e = let no = some_one _ _ h in absurd (omega (arith, no, e))
    by_place Rest p h zero true e = let no = some_one _ _ h in absurd (omega (arith, no, e))
    by_place Rest p h zero false e = refl
    by_place Rest p h (suc zero) true e = let no = some_one _ _ h in absurd (omega (arith, no, e))
    by_place Rest p h (suc zero) false e = let no = some_one _ _ h in absurd (omega (arith, no, e))
    by_place Rest p h (suc (suc n)) sounds e = let no = some_one _ _ h in absurd (omega (arith, no, e))
    by_place (Grace m) p h n sounds e = go (nat_lt 0 m && nat_lt m 4) refl h n sounds e
      where
        go : (b : Bool) → nat_lt 0 m && nat_lt m 4 ≡ b → (if b then Some (m + 3) else None) ≡ Some p → (n : ℕ) (sounds : Bool) → place_of_leaf n sounds ≡ p → b && (n == m + 1) ≡ true
        go false on h n sounds e = absurd (cc)
        go true on h zero true e = let no = some_one _ _ h in let low : 1 ≤ m = grind (arith, nat_tests) in absurd (omega (arith, no, e, low))
        go true on h zero false e = let no = some_one _ _ h in let low : 1 ≤ m = grind (arith, nat_tests) in absurd (omega (arith, no, e, low))
        go true on h (suc zero) true e = let no = some_one _ _ h in absurd (omega (arith, no, e))
        go true on h (suc zero) false e = let no = some_one _ _ h in absurd (omega (arith, no, e))
        go true on h (suc (suc n)) sounds e = let no = some_one _ _ h in let same : suc (suc n) ≡ m + 1 = omega (arith, no, e) in grind (arith, nat_tests)

module _ (g : Grammar) (symbol n : ℕ) (sounds : Bool) where
  has_place : (r : ℕ) (rule : Rule) → IsLeafRule g symbol n sounds r rule → HasLeafPlace g symbol (place_of_leaf n sounds) r rule
  has_place r rule h = (h.at, go (rule.lhs == symbol) refl)
    where
      go : (b : Bool) → rule.lhs == symbol ≡ b → (if b then leaf_place (ending_of rule.body) else None) ≡ Some (place_of_leaf n sounds)
      go true e = ap leaf_place h.ends ∙ place-asked h.ending n sounds h.agree
      go false e = let same = h.own in absurd (grind (arith, nat_tests))

  is_leaf : (r : ℕ) (rule : Rule) → HasLeafPlace g symbol (place_of_leaf n sounds) r rule → IsLeafRule g symbol n sounds r rule
  is_leaf r rule h = go (rule.lhs == symbol) refl (ending_of rule.body) refl h.1
    where
      go : (b : Bool) → rule.lhs == symbol ≡ b → (o : Option Ending) → ending_of rule.body ≡ o → (if b then leaf_place o else None) ≡ Some (place_of_leaf n sounds) → IsLeafRule g symbol n sounds r rule
      go false e o is place = absurd (cc)
      go true e None is place = absurd (cc)
      go true e (Some ending) is place = record { at = h.0; own = grind (arith, nat_tests); ending = ending; ends = is; agree = asked-place ending n sounds place }

  pub leaf-first : (o : Option LeafRule) → IsFirstBelow g symbol (length g.rules) (place_of_leaf n sounds) o → HasLeafRule g symbol n sounds o
  leaf-first None h = λ r rule is. h r rule (slice_get_within g.rules r rule is.at) (has_place r rule is)
  leaf-first (Some l) h = record {
    rule = h.0;
    is = is_leaf l.rule h.0 h.1;
    weighs = h.2;
    first = λ s other is. h.4 s other (slice_get_within g.rules s other is.at) (has_place s other is);
  }

-- no leaf takes more than four chords
pub leaf-many : (g : Grammar) (symbol n : ℕ) (sounds : Bool) → 4 < n → HasLeafRule g symbol n sounds None
leaf-many g symbol n sounds many r rule is = let few = agrees-few is.ending n sounds is.agree in absurd (omega (arith, few, many))

pub place_of_leaf-low : (n : ℕ) (sounds : Bool) → n ≤ 4 → place_of_leaf n sounds < 7
place_of_leaf-low zero true h = omega arith
place_of_leaf-low zero false h = omega arith
place_of_leaf-low (suc zero) true h = omega arith
place_of_leaf-low (suc zero) false h = omega arith
place_of_leaf-low (suc (suc n)) sounds h = omega (arith, h)
