-- Rules beside their counts.
use Rattle.std.proofs.Common.{zero, suc, ◌≡◌, ◌≢◌, ◌⊎◌, ℕ, ◌+◌, ◌<◌, ◌≤◌, ◌==◌, ◌&&◌, ◌||◌, Bool, true, false, List, [], ◌∷◌, ◌++◌, length, get_or, map, min, take, refl, sym, ap, ap₂, ◌∙◌, subst, inl, inr, arith}
use Rattle.std.specs.Prelude.{All, Some, nat_lt, slice_get, slice_index}
use Rattle.std.specs.List.{list_any, sum_by, zip}
use Rattle.std.proofs.lemmas.Bool.{eq-eqb, lt-ltb}
use Rattle.std.proofs.lemmas.Bool.Decides.{nat_tests}
use Rattle.std.proofs.lemmas.List.{get_or_default, map_more, take_all, take_more}
use Rattle.std.proofs.lemmas.List.Folds.{list_any-append}
use Rattle.std.proofs.lemmas.Option.{slice_get-get_or, slice_get_cases}
use Rattle.std.proofs.lemmas.Slice.Zip.{get_or-zip, length-zip}
use Rattle.std.proofs.Math.Nat.{le_of_eq, le_trans}
use Rattle.rhythm_base.specs.declared.rule.Rule.{Rule}
use Rattle.weight_learning.specs.Weights.{CountedRule, counted_of, is_used}
use Rattle.weight_learning.proofs.Sums.{sum_more_no, sum_more_yes, within_sum}

-- a rule, by its number
pub record IsRuleAt (rules : List Rule) (i : ℕ) (r : Rule) : Type 0 where
  pub found : slice_get rules i ≡ Some r
  pub read : get_or rules i r ≡ r

pub rule_at : (rules : List Rule) (i : ℕ) → i < length rules → (r : Rule) × IsRuleAt rules i r
rule_at rules i lt = elim ((slice_get_cases rules i).1) [
  | inl there ↦ (there.0, record { found = there.2; read = there.3 })
  | inr past ↦ (let far : length rules ≤ i = past.0 in absurd (omega arith))
]

module _ (rules : List Rule) (counts : List ℕ) (all : length counts ≡ length rules) where
  pub length-counted : length (zip rules counts) ≡ length rules
  length-counted = length-zip rules counts ∙ least (length rules) (length counts) all
    where
      least : (m n : ℕ) → n ≡ m → min m n ≡ m
      least m n h = omega arith

  -- the pair of a number
  pub counted_at : (i : ℕ) (d : CountedRule) → i < length rules → ◌≡◌ {A = CountedRule} (get_or (zip rules counts) i d) (get_or rules i d.0, slice_index counts i)
  counted_at i d lt =
      let within : i < length counts = subst (λ n. i < n) (sym all) lt in
      let P : ℕ → Type 0 = λ c. ◌≡◌ {A = CountedRule} (get_or (zip rules counts) i d) (get_or rules i d.0, c) in
      subst P (get_or_default counts i d.1 0 within) (get_or-zip rules counts i d lt within)

  pub counted_found : (i : ℕ) (r : Rule) → i < length rules → get_or rules i r ≡ r → slice_get (zip rules counts) i ≡ Some (r, slice_index counts i)
  counted_found i r lt read =
      let d : CountedRule = (r, 0) in
      let within : i < length (zip rules counts) = subst (λ n. i < n) (sym length-counted) lt in
      let P : Rule → Type 0 = λ x. slice_get (zip rules counts) i ≡ Some (x, slice_index counts i) in
      subst P read (slice_get-get_or (zip rules counts) i d within ∙ ap (λ (q : CountedRule). Some q) (counted_at i d lt))

  -- what holds of each pair of a rule and its count
  pub all_counted : (P : CountedRule → Type 0) → ((i : ℕ) (d : Rule) → i < length rules → P (get_or rules i d, slice_index counts i)) → All P (zip rules counts)
  all_counted P each k d lt =
      let within : k < length rules = subst (λ n. k < n) length-counted lt in
      subst P (sym (counted_at k d within)) (each k d.0 within)

-- what one passes some pass
pub any_at : {X : Type 0} (p : X → Bool) (xs : List X) (i : ℕ) (d : X) → i < length xs → p (get_or xs i d) ≡ true → list_any p xs ≡ true
any_at p [] i d lt passes = absurd (omega arith)
any_at p (x ∷ xs) zero d lt passes = ap (λ b. b || list_any p xs) passes
any_at p (x ∷ xs) (suc i) d lt passes = at (p x) (any_at p xs i d (omega arith) passes)
  where
    at : (b : Bool) → list_any p xs ≡ true → (b || list_any p xs) ≡ true
    at true h = refl
    at false h = h

-- ---- as loops go over them

module _ (rules : List Rule) (counts : List ℕ) (all : length counts ≡ length rules) (symbol i : ℕ) (r : Rule) (lt : i < length rules) (read : get_or rules i r ≡ r) where
  abbrev pair : CountedRule
  pair = (r, 0)

  within : i < length (zip rules counts)
  within = subst (λ n. i < n) (sym (length-counted rules counts all)) lt

  -- the pair that is read
  read_pair : ◌≡◌ {A = CountedRule} (get_or (zip rules counts) i pair) (r, slice_index counts i)
  read_pair =
      let P : Rule → Type 0 = λ x. ◌≡◌ {A = CountedRule} (get_or (zip rules counts) i pair) (x, slice_index counts i) in
      subst P read (counted_at rules counts all i pair lt)

  -- the pair passes a test that its parts pass
  read_test : (p : CountedRule → Bool) (b : Bool) → p (r, slice_index counts i) ≡ b → p (get_or (zip rules counts) i pair) ≡ b
  read_test p b test = ap p read_pair ∙ test

  pub sum_with : (f : CountedRule → ℕ) → r.lhs ≡ symbol
      → sum_by f (counted_of symbol (take (i + 1) (zip rules counts))) ≡ sum_by f (counted_of symbol (take i (zip rules counts))) + f (r, slice_index counts i)
  sum_with f of =
      sum_more_yes (λ (q : CountedRule). q.0.lhs == symbol) f (zip rules counts) i pair within
      (read_test (λ (q : CountedRule). q.0.lhs == symbol) true (eq-eqb r.lhs symbol of))
      ∙ ap (λ n. sum_by f (counted_of symbol (take i (zip rules counts))) + n) (ap f read_pair)

  pub sum_without : (f : CountedRule → ℕ) → r.lhs ≢ symbol
      → sum_by f (counted_of symbol (take (i + 1) (zip rules counts))) ≡ sum_by f (counted_of symbol (take i (zip rules counts)))
  sum_without f other =
      sum_more_no (λ (q : CountedRule). q.0.lhs == symbol) f (zip rules counts) i pair within
      (read_test (λ (q : CountedRule). q.0.lhs == symbol) false (grind (arith, nat_tests)))

  pub used_here : r.lhs ≡ symbol → 0 < slice_index counts i → is_used symbol rules counts ≡ true
  used_here of some =
      any_at (λ (q : CountedRule). (q.0.lhs == symbol) && nat_lt 0 q.1) (zip rules counts) i pair within
      (read_test (λ (q : CountedRule). (q.0.lhs == symbol) && nat_lt 0 q.1) true
      (ap (λ b. b && nat_lt 0 (slice_index counts i)) (eq-eqb r.lhs symbol of) ∙ lt-ltb 0 (slice_index counts i) some))

  pub unused_with : (r.lhs ≢ symbol) ⊎ (slice_index counts i ≤ 0)
      → list_any (λ (q : CountedRule). (q.0.lhs == symbol) && nat_lt 0 q.1) (take i (zip rules counts)) ≡ false
      → list_any (λ (q : CountedRule). (q.0.lhs == symbol) && nat_lt 0 q.1) (take (i + 1) (zip rules counts)) ≡ false
  unused_with idle before =
      let p : CountedRule → Bool = λ q. (q.0.lhs == symbol) && nat_lt 0 q.1 in
      let x : CountedRule = get_or (zip rules counts) i pair in
      let here : p x ≡ false = read_test p false (fails idle) in
      ap (list_any p) (take_more (zip rules counts) i pair within) ∙ list_any-append p (take i (zip rules counts)) (x ∷ [])
      ∙ ap₂ ◌||◌ before (ap (λ b. b || false) here)
    where
      fails : (r.lhs ≢ symbol) ⊎ (slice_index counts i ≤ 0) → ((r.lhs == symbol) && nat_lt 0 (slice_index counts i)) ≡ false
      fails (inl other) = (let test : (r.lhs == symbol) ≡ false = grind (arith, nat_tests) in ap (λ b. b && nat_lt 0 (slice_index counts i)) test)
      fails (inr none) = at (r.lhs == symbol)
        where
          test : nat_lt 0 (slice_index counts i) ≡ false
          test = grind (arith, nat_tests)

          at : (b : Bool) → (b && nat_lt 0 (slice_index counts i)) ≡ false
          at true = test
          at false = refl

  pub sum_has : (f : CountedRule → ℕ) → r.lhs ≡ symbol → f (r, slice_index counts i) ≤ sum_by f (counted_of symbol (zip rules counts))
  sum_has f of =
      le_trans (le_of_eq (sym (ap f read_pair)))
      (within_sum (λ (q : CountedRule). q.0.lhs == symbol) f (zip rules counts) i pair within
      (read_test (λ (q : CountedRule). q.0.lhs == symbol) true (eq-eqb r.lhs symbol of)))

  pub map_with : (f : CountedRule → Rule) → map f (take (i + 1) (zip rules counts)) ≡ map f (take i (zip rules counts)) ++ f (r, slice_index counts i) ∷ []
  map_with f =
      map_more f (zip rules counts) i pair within
      ∙ ap (λ x. map f (take i (zip rules counts)) ++ x ∷ []) (ap f read_pair)

  -- what holds of the rule and its count holds of what is found there
  pub at_found : (P : CountedRule → Type 0) (q : CountedRule) → slice_get (zip rules counts) i ≡ Some q → P (r, slice_index counts i) → P q
  at_found P q found h =
      let here : CountedRule = (r, slice_index counts i) in
      let both : Some here ≡ Some q = sym (counted_found rules counts all i r lt read) ∙ found in
      let same : here ≡ q = cc in
      subst P same h

-- the whole list
pub all_of_them : (rules : List Rule) (counts : List ℕ) (i : ℕ) → length counts ≡ length rules → length rules ≤ i → take i (zip rules counts) ≡ zip rules counts
all_of_them rules counts i all past = take_all i (zip rules counts) (le_trans (le_of_eq (length-counted rules counts all)) past)
