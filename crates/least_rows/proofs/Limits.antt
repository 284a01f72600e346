-- A cut is left out where its trees all come after those that are there already.
use Rattle.std.proofs.Common.{◌⊎◌, inl, inr, ◌≡◌, ℕ, zero, suc, ◌+◌, ◌-◌, ◌*◌, ◌^◌, ◌<◌, ◌≤◌, ◌==◌, nat_lt, Bool, true, false, List, ◌∷◌, [], ◌++◌, take, drop, refl, sym, ap, subst, arith, take-append-drop}
use Rattle.std.specs.Prelude.{⊤, Option, Some, None, if◌then◌else◌, nat_le}
use Rattle.std.proofs.lemmas.Bool.{cases_lt}
use Rattle.std.proofs.lemmas.Bool.Decides.{nat_tests}
use Rattle.rhythm_base.specs.Bodies.{children}
use Rattle.rhythm_base.specs.Ranked.{Key, is_before}
use Rattle.rhythm_base.specs.Trees.{leaf_of_ending}
use Rattle.tree_laws.specs.Forests.{AreWide, Ground, IsForestKey, IsGround}
use Rattle.path_laws.specs.Rows.{same}
use Rattle.row_laws.specs.BestRules.{IsMarked, choice_key}
use Rattle.row_laws.specs.RuleKeys.{IsRuleKey}
use Rattle.row_laws.proofs.BestRules.{best-passed, dearer-after, higher-after}
use Rattle.row_laws.proofs.Passing.{cut-over}
use Rattle.row_laws.proofs.RuleKeys.{cut-key}
use Rattle.grammar_plan.specs.Plans.{IsCutOf}
use Rattle.grammar_plan.specs.declared.cut.Cut.{Cut}
use Rattle.grammar_plan.specs.declared.plan.Plan.{Plan}
use Rattle.least_rows.specs.Choices.{AreBestChoices, choice_in, greater, left_below, left_of, limit_below, sum_of_choice, tie_of}
use Rattle.least_rows.specs.Ways.{AreWays, one_way, sum_of_way}
use Rattle.least_rows.specs.declared.choice.Choice.{Choice}
use Rattle.least_rows.specs.declared.way.Way.{Way}
use Rattle.least_rows.proofs.Settling.{same-key-of}

-- ---- limits

-- the choice comes before the ways under the cut that cost so much
abbrev pub ComesFirst : Choice → Cut → ℕ → Type 0
ComesFirst c cut cost = c.cost < cut.weight + tie_of c cut + cost

-- so do the choices for each count that is carried out
abbrev pub AllComeFirst : List (Option Choice) → (most : ℕ) → Cut → ℕ → Type 0
AllComeFirst best most cut cost = (b : ℕ) → b ≤ most → (c : Choice) × (choice_in best b ≡ Some c) × ComesFirst c cut cost

-- a cost over a limit, or no way may come first
abbrev pub IsOver : Option ℕ → ℕ → Type 0
IsOver None cost = ⊤
IsOver (Some limit) cost = limit < cost

over-left : (o : Option Choice) (cut : Cut) (cost : ℕ) → cost < 2 ^ 64 → IsOver (left_of o cut) cost → (c : Choice) × (o ≡ Some c) × ComesFirst c cut cost
over-left None cut cost small over = absurd (omega (arith, small, over))
over-left (Some c) cut cost small over = (c, refl, go (cut.weight + tie_of c cut) (nat_le (cut.weight + tie_of c cut) c.cost) refl over)
  where
    go : (weight : ℕ) (t : Bool) → nat_le weight c.cost ≡ t → IsOver (if t then Some (c.cost - weight) else None) cost → c.cost < weight + cost
    go weight true e over = omega (arith, over)
    go weight false e over = let less : c.cost < weight = grind (arith, nat_tests) in omega (arith, less)

over-both : (x y : Option ℕ) (cost : ℕ) → IsOver (greater x y) cost → IsOver x cost × IsOver y cost
over-both None y cost over = (tt, over)
over-both (Some x) None cost over = (over, tt)
over-both (Some x) (Some y) cost over = (omega (arith, over), omega (arith, over))

over-below : (best : List (Option Choice)) (cut : Cut) (cost : ℕ) → cost < 2 ^ 64 → (n : ℕ) → IsOver (left_below best n cut) cost → (b : ℕ) → b < n → (c : Choice) × (choice_in best b ≡ Some c) × ComesFirst c cut cost
over-below best cut cost small zero over b low = absurd (omega (arith, low))
over-below best cut cost small (suc n) over b low =
    let each = over-both (left_below best n cut) (left_of (choice_in best n) cut) cost over in
    elim (cases_lt b n) [
      | inl less ↦ over-below best cut cost small n each.0 b less
      | inr le ↦
          let last : n ≡ b = omega (arith, low, le) in
          subst (λ n. (c : Choice) × (choice_in best n ≡ Some c) × ComesFirst c cut cost) last (over-left (choice_in best n) cut cost small each.1)
    ]

pub over-limit : (best : List (Option Choice)) (most : ℕ) (cut : Cut) (cost : ℕ) → cost < 2 ^ 64 → IsOver (limit_below best most cut) cost → AllComeFirst best most cut cost
unfolding limit_below
over-limit best most cut cost small over = go (nat_lt most 4) over
  where
    go : (t : Bool) → IsOver (if t then left_below best (most + 1) cut else Some (2 ^ 64 - 1)) cost → AllComeFirst best most cut cost
    go true over = λ b low. over-below best cut cost small (most + 1) over b (omega (arith, low))
    go false over = absurd (omega (arith, small, over))

pub limit-none : (best : List (Option Choice)) (most : ℕ) (cut : Cut) → most ≡ 0 → limit_below best most cut ≡ left_of (choice_in best 0) cut
unfolding limit_below
limit-none best zero cut e = refl
limit-none best (suc most) cut e = absurd (omega (arith, e))

pub limit-few : (best : List (Option Choice)) (most : ℕ) (cut : Cut) → most < 4 → limit_below best most cut ≡ left_below best (most + 1) cut
unfolding limit_below
limit-few best most cut few = go (nat_lt most 4) refl
  where
    go : (t : Bool) → nat_lt most 4 ≡ t → (if t then left_below best (most + 1) cut else Some (2 ^ 64 - 1)) ≡ left_below best (most + 1) cut
    go true e = refl
    go false e = absurd (grind (arith, nat_tests))

pub limit-many : (best : List (Option Choice)) (most : ℕ) (cut : Cut) → 4 ≤ most → limit_below best most cut ≡ Some (2 ^ 64 - 1)
unfolding limit_below
limit-many best most cut many = go (nat_lt most 4) refl
  where
    go : (t : Bool) → nat_lt most 4 ≡ t → (if t then left_below best (most + 1) cut else Some (2 ^ 64 - 1)) ≡ Some (2 ^ 64 - 1)
    go true e = absurd (grind (arith, nat_tests))
    go false e = refl

-- ---- a cut that is left out

module _ (d : Ground) (ground : IsGround d) (plan : Plan) (p : ℕ) (q : ℕ × ℕ) (a : ℕ) (rules : ℕ → Type 0) (best : List (Option Choice)) (h : AreBestChoices d plan p q a rules best)
    (cut : Cut) (is : IsCutOf d.book plan q cut) (wide : AreWide (children is.rule.body q.0)) (most : ℕ) (few : (b : ℕ) (k : Key) → IsForestKey d None p (q ∷ []) a b k → b ≤ most)
    (n : ℕ) (w : Way) (m : ℕ) (ways : AreWays d p (children is.rule.body q.0) a n (one_way w m)) (first : AllComeFirst best most cut w.cost) where
  abbrev qs : List (ℕ × ℕ)
  qs = children is.rule.body q.0

  split : qs ≡ take n qs ++ drop n qs
  split = sym (take-append-drop n qs)

  -- the trees of the cut cost no less than the way
  over : (limit : ℕ) → limit < cut.weight + w.cost → (b : ℕ) (k : Key) → IsRuleKey d None p q cut.rule a b k → limit < k.0
  over limit less b k key = cut-over d ground q cut.rule is.rule is.is (take n qs) (drop n qs) split p a ways.row limit (subst AreWide split wide) ways.least dear b k key
    where
      dear : (i : ℕ) (x : Key) → i < 5 → ways.row i ≡ Some x → limit < is.rule.weight + x.0
      dear i x low e = go (m == i) (subst (λ o. same o (choice_key (sum_of_way (one_way w m i)))) e (ways.alike.costs i low))
        where
          go : (t : Bool) → same (Some x) (choice_key (sum_of_way (if t then Some w else None))) → limit < is.rule.weight + x.0
          go true s = let weight = is.weighs in omega (arith, s, weight, less)
          go false s = absurd s

  no-less : (b : ℕ) (k : Key) → IsRuleKey d None p q cut.rule a b k → (cost : ℕ) → cost ≤ cut.weight + w.cost → cost ≤ k.0
  no-less b k key zero less = omega arith
  no-less b k key (suc cost) less = let more = over cost (omega (arith, less)) b k key in omega (arith, more)

  list-of : (b : ℕ) (k : Key) → IsRuleKey d None p q cut.rule a b k → (xs : List ℕ) × (k.1 ≡ cut.rule ∷ xs)
  list-of b k key =
      let below = cut-key d None p q cut.rule a b is.rule is.is.at is.is.suit (ap (λ o. leaf_of_ending o p q.0) is.is.cuts) k key in
      (below.0.1, ap (λ (k : Key). k.1) below.2)

  after : (b : ℕ) (k : Key) → IsRuleKey d None p q cut.rule a b k → (c : Choice) → ComesFirst c cut w.cost → (x : Key) → x.0 ≡ c.cost → IsMarked rules (Some (c.cost, c.order)) (Some x) → is_before k x ≡ false
  after b k key c before x cost mark = go (nat_lt c.order (cut.rule * 2 ^ 48)) refl before
    where
      go : (t : Bool) → nat_lt c.order (cut.rule * 2 ^ 48) ≡ t → c.cost < cut.weight + (if t then 1 else 0) + w.cost → is_before k x ≡ false
      go true e before =
          let lower : c.order < cut.rule * 2 ^ 48 = grind (arith, nat_tests) in
          let order = mark.5 in
          let rule : mark.0 < cut.rule = omega (arith, lower, order) in
          let list = list-of b k key in
          let less = no-less b k key c.cost (omega (arith, before)) in
          higher-after k x cut.rule mark.0 list.0 mark.2 list.1 mark.6 rule (omega (arith, cost, less))
      go false e before =
          let more = over c.cost (omega (arith, before)) b k key in
          dearer-after k x (omega (arith, cost, more))

  passed : (b : ℕ) (k : Key) → b < 5 → IsRuleKey d None p q cut.rule a b k → (x : Key) × (h.keys b ≡ Some x) × (is_before k x ≡ false)
  passed b k low key =
      let there = first b (few b k (_, key.1, key.2)) in
      let c = there.0 in
      let own : (x : Key) × (h.keys b ≡ Some x) × (x.0 ≡ c.cost) = same-key-of (h.keys b) c (subst (λ o. same (h.keys b) (choice_key (sum_of_choice o))) there.1 (h.best_of.alike.costs b low)) in
      let mark : IsMarked rules (Some (c.cost, c.order)) (Some own.0) = subst (IsMarked rules (Some (c.cost, c.order))) own.1 (subst (λ o. IsMarked rules (sum_of_choice o) (h.keys b)) there.1 (h.best_of.marked b low)) in
      (own.0, own.1, after b k key c there.2 own.0 own.2 mark)

  pub choices-over : AreBestChoices d plan p q a (λ s. rules s ⊎ (s ≡ cut.rule)) best
  choices-over = record {
    keys = h.keys;
    best_of = best-passed d p q a rules h.keys (λ b. sum_of_choice (choice_in best b)) h.best_of cut.rule passed;
    made = h.made;
  }
