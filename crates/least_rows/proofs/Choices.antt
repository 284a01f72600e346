-- The choices of a row, with one cut more.
use Rattle.std.proofs.Common.{inl, inr, ◌⊎◌, ◌≡◌, ◌≢◌, ℕ, ◌+◌, ◌*◌, ◌<◌, ◌≤◌, ◌^◌, Bool, true, false, List, [], ◌∷◌, length, take, refl, sym, ap, ◌∙◌, subst, arith}
use Rattle.std.specs.Prelude.{Option, Some, None, if◌then◌else◌, slice_get}
use Rattle.std.proofs.lemmas.Bool.{cases_lt}
use Rattle.std.proofs.lemmas.Bool.Decides.{nat_tests}
use Rattle.rhythm_base.specs.Bodies.{children, cuts_or_ends, ending_of}
use Rattle.rhythm_base.specs.Grammar.{Grammar}
use Rattle.rhythm_base.specs.Ranked.{Key}
use Rattle.rhythm_base.specs.Trees.{suits}
use Rattle.rhythm_base.specs.declared.rule.Rule.{Rule}
use Rattle.tree_laws.specs.Forests.{Ground}
use Rattle.path_laws.specs.Rows.{lists_cmp, same}
use Rattle.path_laws.proofs.LeastKeys.{IsLeast-same}
use Rattle.row_laws.specs.BestRules.{AreBestOf, IsKeyOfRules, IsMarked, choice_key, is_nearer, nearer_of, topped_of}
use Rattle.row_laws.specs.BestRules as best
use Rattle.row_laws.specs.LeafRules.{EndsInterval}
use Rattle.row_laws.specs.RuleKeys.{IsCutRule}
use Rattle.row_laws.specs.Rows.{AreLeastRow}
use Rattle.row_laws.proofs.BestRules.{best-cut, best-which}
use Rattle.row_laws.proofs.Lower.{lower_of, on_top}
use Rattle.grammar_plan.specs.Plans.{IsCutOf, IsSeat, pair_of}
use Rattle.grammar_plan.specs.declared.cut.Cut.{Cut}
use Rattle.grammar_plan.specs.declared.plan.Plan.{Plan}
use Rattle.grammar_plan.specs.declared.seat.Seat.{Seat}
use Rattle.least_rows.specs.Choices.{AreBestChoices, IsChoiceMade, RulesBefore, choice_in, nearer_choice, sum_of_choice, topped_choice}
use Rattle.least_rows.specs.Ways.{AreWays, IsWayMade, sum_of_way}
use Rattle.least_rows.specs.declared.choice.Choice.{Choice}
use Rattle.least_rows.specs.declared.way.Way.{Way}
use Rattle.least_rows.proofs.FirstWays.{small-power}

-- ---- other names for the same

pub best-to : (d : Ground) (p : ℕ) (q : ℕ × ℕ) (a : ℕ) (rules : ℕ → Type 0) (keys : ℕ → Option Key) (c e : ℕ → Option best.Choice) → ((b : ℕ) → b < 5 → c b ≡ e b) → AreBestOf d p q a rules keys c → AreBestOf d p q a rules keys e
best-to d p q a rules keys c e is h = record {
  least = h.least;
  alike = record {
    costs = λ b low. subst (λ o. same (keys b) (choice_key o)) (is b low) (h.alike.costs b low);
    order = λ b b' lb lc. h.alike.order b b' lb lc ∙ (λ i. lists_cmp (choice_key (is b lb i)) (choice_key (is b' lc i)));
  };
  marked = λ b low. subst (λ o. IsMarked rules o (keys b)) (is b low) (h.marked b low);
}

marked-to : (r s : ℕ → Type 0) → ((n : ℕ) → r n → s n) → (o : Option best.Choice) (k : Option Key) → IsMarked r o k → IsMarked s o k
marked-to r s f None k h = tt
marked-to r s f (Some c) None h = tt
marked-to r s f (Some c) (Some k) h = (h.0, h.1, h.2, f h.0 h.3, h.4, h.5, h.6)

pub choices-rules : (d : Ground) (plan : Plan) (p : ℕ) (q : ℕ × ℕ) (a : ℕ) (r s : ℕ → Type 0) (xs : List (Option Choice)) → ((n : ℕ) → r n → s n) → ((n : ℕ) → s n → r n) → AreBestChoices d plan p q a r xs → AreBestChoices d plan p q a s xs
choices-rules d plan p q a r s xs f g h = record {
  keys = h.keys;
  best_of = record {
    least = λ b low. IsLeast-same (IsKeyOfRules d p q r a b) (IsKeyOfRules d p q s a b) (h.keys b) (λ k x. (x.0, f x.0 x.1, x.2)) (λ k x. (x.0, g x.0 x.1, x.2)) (h.best_of.least b low);
    alike = h.best_of.alike;
    marked = λ b low. marked-to r s f (sum_of_choice (choice_in xs b)) (h.keys b) (h.best_of.marked b low);
  };
  made = h.made;
}

-- ---- the nearer of two choices

sum-nearer : (o u : Option Choice) → sum_of_choice (nearer_choice o u) ≡ nearer_of (sum_of_choice o) (sum_of_choice u)
sum-nearer o None = refl
sum-nearer None (Some x) = refl
sum-nearer (Some y) (Some x) = go (is_nearer (x.cost, x.order) (y.cost, y.order))
  where
    go : (t : Bool) → sum_of_choice (if t then Some x else Some y) ≡ (if t then Some (x.cost, x.order) else Some (y.cost, y.order))
    go true = refl
    go false = refl

sum-topped : (cut : Cut) (n : ℕ) (o : Option Way) → sum_of_choice (topped_choice cut n o) ≡ topped_of cut.weight cut.rule (sum_of_way o)
sum-topped cut n None = refl
sum-topped cut n (Some w) = refl

never-itself : (c : best.Choice) → is_nearer c c ≡ false
never-itself c = grind (arith, nat_tests)

one-mark : (r s low more x : ℕ) → low < 2 ^ 48 → more < 2 ^ 48 → x ≡ r * 2 ^ 48 + low → x ≡ s * 2 ^ 48 + more → r ≡ s
one-mark r s low more x h k e f = omega (arith, h, k, e, f)

-- ---- one cut more

abbrev chosen : Bool → best.Choice → best.Choice → Option best.Choice
chosen t x y = if t then Some x else Some y

take-all : {X : Type 0} (xs : List X) → take (length xs) xs ≡ xs
take-all [] = refl
take-all (x ∷ xs) = ap (λ l. x ∷ l) (take-all xs)

module _ (d : Ground) (plan : Plan) (p : ℕ) (q : ℕ × ℕ) (a : ℕ) (rules : ℕ → Type 0) (old : List (Option Choice)) (h : AreBestChoices d plan p q a rules old)
    (number : ℕ) (cut : Cut) (at : slice_get plan.cuts.items number ≡ Some cut) (is : IsCutOf d.book plan q cut) (new : rules cut.rule → ⊥)
    (front : ℕ → Option Way) (few : length (children is.rule.body q.0) ≤ 16) (ways : AreWays d p (children is.rule.body q.0) a (length (children is.rule.body q.0)) front) where
  abbrev parts : List (ℕ × ℕ)
  parts = children is.rule.body q.0

  row-least : AreLeastRow d p parts a ways.row
  row-least = subst (λ l. AreLeastRow d p l a ways.row) (take-all parts) ways.least

  short : (b : ℕ) (c : best.Choice) → b < 5 → sum_of_way (front b) ≡ Some c → c.1 < 2 ^ 48
  short b c low e = go (front b) refl e
    where
      go : (o : Option Way) → front b ≡ o → sum_of_way o ≡ Some c → c.1 < 2 ^ 48
      go None f e = absurd (cc)
      go (Some w) f e =
          let own : (w.cost, w.order) ≡ c = cc in
          let digits = (ways.short b w low f).0 in
          let power = small-power (length parts) few in
          subst (λ (c : best.Choice). c.1 < 2 ^ 48) own (omega (arith, digits, power))

  all-best : AreBestOf d p q a (λ s. rules s ⊎ (s ≡ cut.rule)) (λ b. lower_of (h.keys b) (on_top is.rule.weight cut.rule (ways.row b))) (λ b. nearer_of (sum_of_choice (choice_in old b)) (topped_of is.rule.weight cut.rule (sum_of_way (front b))))
  all-best = best-cut d p q a rules h.keys (λ b. sum_of_choice (choice_in old b)) h.best_of cut.rule is.rule is.is new ways.row row-least (λ b. sum_of_way (front b)) ways.alike short

  which : (b : ℕ) → b < 5
      → ((nearer_of (sum_of_choice (choice_in old b)) (topped_of is.rule.weight cut.rule (sum_of_way (front b))) ≡ sum_of_choice (choice_in old b)) × (lower_of (h.keys b) (on_top is.rule.weight cut.rule (ways.row b)) ≡ h.keys b))
      ⊎ ((nearer_of (sum_of_choice (choice_in old b)) (topped_of is.rule.weight cut.rule (sum_of_way (front b))) ≡ topped_of is.rule.weight cut.rule (sum_of_way (front b))) × (lower_of (h.keys b) (on_top is.rule.weight cut.rule (ways.row b)) ≡ on_top is.rule.weight cut.rule (ways.row b)))
  which b low = best-which d p q a rules h.keys (λ b. sum_of_choice (choice_in old b)) h.best_of cut.rule is.rule is.is new ways.row row-least (λ b. sum_of_way (front b)) ways.alike short b low

  -- the list of a topped choice
  top-made : (b : ℕ) → b < 5 → (o : Option Way) → front b ≡ o → (u : Option Key) → ways.row b ≡ u → IsWayMade d p parts a (length parts) b o u
      → IsChoiceMade d plan p q a b (topped_choice cut number o) (on_top is.rule.weight cut.rule u)
  top-made b low None e u f m = tt
  top-made b low (Some w) e None f m = tt
  top-made b low (Some w) e (Some k) f m =
      let digits = (ways.short b w low e).0 in
      let power = small-power (length parts) few in
      (cut.rule, w.order, omega (arith, digits, power), refl, (cut, is.rule, k.1, at, refl, is, is.is, m, refl))

  new-made : (b : ℕ) → b < 5 → IsChoiceMade d plan p q a b (topped_choice cut number (front b)) (on_top is.rule.weight cut.rule (ways.row b))
  new-made b low = top-made b low (front b) refl (ways.row b) refl (ways.made b low)

  abbrev lower : ℕ → Option Key
  lower b = lower_of (h.keys b) (on_top is.rule.weight cut.rule (ways.row b))

  sum-top : (b : ℕ) → topped_of is.rule.weight cut.rule (sum_of_way (front b)) ≡ sum_of_choice (topped_choice cut number (front b))
  sum-top b = ap (λ w. topped_of w cut.rule (sum_of_way (front b))) (sym is.weighs) ∙ sym (sum-topped cut number (front b))

  -- which of the two stands there
  abbrev Which : ℕ → Option Choice → Option Choice → Type 0
  Which b o u =
      ((nearer_of (sum_of_choice o) (sum_of_choice u) ≡ sum_of_choice o) × (lower b ≡ h.keys b))
      ⊎ ((nearer_of (sum_of_choice o) (sum_of_choice u) ≡ sum_of_choice u) × (lower b ≡ on_top is.rule.weight cut.rule (ways.row b)))

  which-choice : (b : ℕ) → b < 5 → Which b (choice_in old b) (topped_choice cut number (front b))
  which-choice b low =
      subst (λ t. ((nearer_of (sum_of_choice (choice_in old b)) t ≡ sum_of_choice (choice_in old b)) × (lower b ≡ h.keys b))
      ⊎ ((nearer_of (sum_of_choice (choice_in old b)) t ≡ t) × (lower b ≡ on_top is.rule.weight cut.rule (ways.row b)))) (sum-top b) (which b low)

  stays : (b : ℕ) → b < 5 → (o : Option Choice) → choice_in old b ≡ o → lower b ≡ h.keys b → IsChoiceMade d plan p q a b o (lower b)
  stays b low o e k = subst (IsChoiceMade d plan p q a b o) (sym k) (subst (λ o. IsChoiceMade d plan p q a b o (h.keys b)) e (h.made b low))

  enters : (b : ℕ) → b < 5 → (u : Option Choice) → topped_choice cut number (front b) ≡ u → lower b ≡ on_top is.rule.weight cut.rule (ways.row b) → IsChoiceMade d plan p q a b u (lower b)
  enters b low u f k = subst (IsChoiceMade d plan p q a b u) (sym k) (subst (λ o. IsChoiceMade d plan p q a b o (on_top is.rule.weight cut.rule (ways.row b))) f (new-made b low))

  -- no choice has the order of another rule
  other-order : (b : ℕ) → b < 5 → (y x : Choice) → choice_in old b ≡ Some y → topped_choice cut number (front b) ≡ Some x → y.order ≢ x.order
  other-order b low y x e f same-order =
      marks (h.keys b) (subst (λ o. same (h.keys b) (choice_key (sum_of_choice o))) e (h.best_of.alike.costs b low)) (subst (λ o. IsMarked rules (sum_of_choice o) (h.keys b)) e (h.best_of.marked b low)) (front b) refl f
    where
      marks : (k : Option Key) → same k (Some (y.cost, y.order ∷ [])) → IsMarked rules (Some (y.cost, y.order)) k → (w : Option Way) → front b ≡ w → topped_choice cut number w ≡ Some x → ⊥
      marks None s m w g f = s
      marks (Some k) s m None g f = absurd (cc)
      marks (Some k) s m (Some w) g f =
          let own : record { cost = cut.weight + w.cost; order = cut.rule * 2 ^ 48 + w.order; cut = Some number; way = w.way } ≡ x = cc in
          let order : cut.rule * 2 ^ 48 + w.order ≡ x.order = ap (λ (x : Choice). x.order) own in
          let digits = (ways.short b w low g).0 in
          let power = small-power (length parts) few in
          let one : m.0 ≡ cut.rule = one-mark m.0 cut.rule m.1 w.order y.order m.4 (omega (arith, digits, power)) m.5 (same-order ∙ sym order) in
          new (subst rules one m.3)

  made-of : (b : ℕ) → b < 5 → (o u : Option Choice) → choice_in old b ≡ o → topped_choice cut number (front b) ≡ u → Which b o u → IsChoiceMade d plan p q a b (nearer_choice o u) (lower b)
  made-of b low o None e f (inl w) = stays b low o e w.1
  made-of b low None None e f (inr w) = tt
  made-of b low (Some y) None e f (inr w) = let no : sum_of_choice (Some y) ≡ None = w.0 in absurd (cc)
  made-of b low None (Some x) e f (inl w) = let no : sum_of_choice (Some x) ≡ None = w.0 in absurd (cc)
  made-of b low None (Some x) e f (inr w) = enters b low (Some x) f w.1
  made-of b low (Some y) (Some x) e f w = go (is_nearer (x.cost, x.order) (y.cost, y.order)) refl w
    where
      go : (t : Bool) → is_nearer (x.cost, x.order) (y.cost, y.order) ≡ t
          → ((chosen t (x.cost, x.order) (y.cost, y.order) ≡ sum_of_choice (Some y)) × (lower b ≡ h.keys b))
          ⊎ ((chosen t (x.cost, x.order) (y.cost, y.order) ≡ sum_of_choice (Some x)) × (lower b ≡ on_top is.rule.weight cut.rule (ways.row b)))
          → IsChoiceMade d plan p q a b (if t then Some x else Some y) (lower b)
      go true i (inl w) =
          let alike : (x.cost, x.order) ≡ (y.cost, y.order) = cc in
          let no : is_nearer (y.cost, y.order) (y.cost, y.order) ≡ true = subst (λ c. is_nearer c (y.cost, y.order) ≡ true) alike i in
          let yes = never-itself (y.cost, y.order) in
          absurd (cc)
      go true i (inr w) = enters b low (Some x) f w.1
      go false i (inl w) = stays b low (Some y) e w.1
      go false i (inr w) =
          let alike : (y.cost, y.order) ≡ (x.cost, x.order) = cc in
          absurd (other-order b low y x e f (ap (λ (c : best.Choice). c.1) alike))

  pub choices-cut : (next : List (Option Choice)) → ((b : ℕ) → b < 5 → choice_in next b ≡ nearer_choice (choice_in old b) (topped_choice cut number (front b))) → AreBestChoices d plan p q a (λ s. rules s ⊎ (s ≡ cut.rule)) next
  choices-cut next e = record {
    keys = λ b. lower_of (h.keys b) (on_top is.rule.weight cut.rule (ways.row b));
    best_of = best-to d p q a (λ s. rules s ⊎ (s ≡ cut.rule)) (λ b. lower_of (h.keys b) (on_top is.rule.weight cut.rule (ways.row b))) _ (λ b. sum_of_choice (choice_in next b)) sums all-best;
    made = λ b low. subst (λ o. IsChoiceMade d plan p q a b o (lower_of (h.keys b) (on_top is.rule.weight cut.rule (ways.row b)))) (sym (e b low)) (made-of b low (choice_in old b) (topped_choice cut number (front b)) refl refl (which-choice b low));
  }
    where
      sums : (b : ℕ) → b < 5 → nearer_of (sum_of_choice (choice_in old b)) (topped_of is.rule.weight cut.rule (sum_of_way (front b))) ≡ sum_of_choice (choice_in next b)
      sums b low =
          ap (nearer_of (sum_of_choice (choice_in old b))) (sum-top b) ∙ sym (sum-nearer (choice_in old b) (topped_choice cut number (front b))) ∙ ap sum_of_choice (sym (e b low))

-- ---- the rules

pub no_cut-yet : (g : Grammar) (plan : Plan) (s : Seat) (n : ℕ) → RulesBefore g plan s s.first n → EndsInterval g n
no_cut-yet g plan s n (inl h) = h
no_cut-yet g plan s n (inr h) = absurd (omega (arith, h.2, h.3))

pub one-more-cut : (g : Grammar) (plan : Plan) (s : Seat) (i : ℕ) (cut : Cut) → s.first ≤ i → slice_get plan.cuts.items i ≡ Some cut → (n : ℕ) → RulesBefore g plan s i n ⊎ (n ≡ cut.rule) → RulesBefore g plan s (i + 1) n
one-more-cut g plan s i cut low at n (inl (inl h)) = inl h
one-more-cut g plan s i cut low at n (inl (inr h)) = inr (h.0, h.1, h.2, omega (arith, h.3), h.4, h.5)
one-more-cut g plan s i cut low at n (inr e) = inr (i, cut, low, omega arith, at, sym e)

pub one-cut-less : (g : Grammar) (plan : Plan) (s : Seat) (i : ℕ) (cut : Cut) → slice_get plan.cuts.items i ≡ Some cut → (n : ℕ) → RulesBefore g plan s (i + 1) n → RulesBefore g plan s i n ⊎ (n ≡ cut.rule)
one-cut-less g plan s i cut at n (inl h) = inl (inl h)
one-cut-less g plan s i cut at n (inr h) = elim (cases_lt h.0 i) [
  | inl less ↦ inl (inr (h.0, h.1, h.2, less, h.4, h.5))
  | inr more ↦
      let here : h.0 ≡ i = omega (arith, h.3, more) in
      let same-cut : Some h.1 ≡ Some cut = sym h.4 ∙ ap (slice_get plan.cuts.items) here ∙ at in
      let is : h.1 ≡ cut = cc in
      inr (sym h.5 ∙ ap (λ (c : Cut). c.rule) is)
]

module _ (g : Grammar) (plan : Plan) (s : Seat) (seat : IsSeat g plan s) where
  pub cut-new : (i : ℕ) (cut : Cut) (rule : Rule) → s.first ≤ i → i < s.end → slice_get plan.cuts.items i ≡ Some cut → IsCutRule g (pair_of s) cut.rule rule → RulesBefore g plan s i cut.rule → ⊥
  cut-new i cut rule low high at is (inl h) =
      let own : Some rule ≡ Some h.0 = sym is.at ∙ h.2 in
      let one : rule ≡ h.0 = cc in
      let ends : ending_of rule.body ≡ Some h.1 = ap (λ (r : Rule). ending_of r.body) one ∙ h.3 in
      let cuts : ending_of rule.body ≡ None = is.cuts in
      absurd (cc)
  cut-new i cut rule low high at is (inr h) =
      let less = seat.rise h.0 i h.1 cut h.2 h.3 high h.4 at in
      absurd (omega (arith, less, h.5))

  pub all-rules : (r : ℕ) → suits (slice_get g.rules r) (pair_of s) ≡ true → RulesBefore g plan s s.end r
  all-rules r on = go (slice_get g.rules r) refl on
    where
      go : (o : Option Rule) → slice_get g.rules r ≡ o → suits o (pair_of s) ≡ true → RulesBefore g plan s s.end r
      go None e on = absurd (cc)
      go (Some rule) e on = elim (cuts_or_ends rule.body) [
        | inl t ↦ let w = seat.whole r rule (record { at = e; suit = on; cuts = t.2 }) in inr (w.0, w.1, w.2, w.3, w.4, w.5)
        | inr t ↦ inl (rule, t.0, e, t.2)
      ]
