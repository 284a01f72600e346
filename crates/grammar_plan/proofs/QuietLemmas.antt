-- The least trees over the quiet intervals of a seat: by the leaf, and then by one cut after the other.
use Rattle.std.proofs.Common.{◌≡◌, ℕ, ◌+◌, ◌<◌, ◌≤◌, ◌⊎◌, inl, inr, ◌==◌, Bool, true, false, List, [], ◌∷◌, length, get_or, refl, sym, ap, subst, ◌∙◌, arith}
use Rattle.std.specs.Prelude.{Option, Some, None, slice_get, if◌then◌else◌}
use Rattle.std.proofs.lemmas.Option.{slice_get_read}
use Rattle.rhythm_base.specs.Bodies.{children}
use Rattle.rhythm_base.specs.Grammar.{Grammar}
use Rattle.rhythm_base.specs.Ranked.{Key, is_before, plus}
use Rattle.rhythm_base.specs.Readable.{IsReadable}
use Rattle.rhythm_base.specs.Trees.{leaf_of_ending, suits}
use Rattle.rhythm_base.specs.declared.rule.Rule.{Rule}
use Rattle.rhythm_base.proofs.Booleans.{and_right}
use Rattle.tree_laws.specs.Forests.{AreWide}
use Rattle.tree_laws.specs.Shares.{AreBelow}
use Rattle.tree_laws.proofs.Shares.{below-wide, children-below, children-whole}
use Rattle.row_laws.specs.BestRules.{is_nearer}
use Rattle.row_laws.specs.LeafRules.{EndsInterval}
use Rattle.row_laws.specs.QuietTrees.{AreQuietLeast, IsQuietBest, IsQuietList, sounds_so}
use Rattle.row_laws.specs.RuleKeys.{IsCutRule}
use Rattle.row_laws.specs.declared.quiet.Quiet.{Quiet}
use Rattle.row_laws.proofs.QuietTrees.{quiet-beside, quiet-cheap, quiet-cut, quiet-leaf, quiet-nothing, quiet-one, quiet-rules, quiet-whole, tops-before}
use Rattle.row_laws.proofs.RuleSets.{cut-no_end, ends-or-cuts}
use Rattle.grammar_plan.specs.Plans.{HasLeafRule, HasSeat, HaveSeats, IsCutOf, IsQuietMade, IsQuietTree, IsSeat, between, pair_of}
use Rattle.grammar_plan.specs.QuietRows.{AreQuietRows, added, cut_tree, entry, leaf_tree, nearer_tree, others_cost, parts_cost}
use Rattle.grammar_plan.specs.declared.cut.Cut.{Cut}
use Rattle.grammar_plan.specs.declared.leaf_rule.LeafRule.{LeafRule}
use Rattle.grammar_plan.specs.declared.plan.Plan.{Plan}
use Rattle.grammar_plan.specs.declared.quiet_tree.QuietTree.{QuietTree}
use Rattle.grammar_plan.specs.declared.seat.Seat.{Seat}
use Rattle.grammar_plan.proofs.LeafTables.{last_of, some_one}

-- a cut has parts
no_parts : (rule : Rule) (g : Grammar) (q : ℕ × ℕ) (r : ℕ) → 1 ≤ q.0 → IsCutRule g q r rule → children rule.body q.0 ≡ [] → ⊥
no_parts rule g q r wide cut none =
    let whole = children-whole rule.body 0 q.0 wide (and_right (rule.lhs == q.1) _ cut.suit) (ap (λ o. leaf_of_ending o 0 q.0) cut.cuts) in
    let many = whole.1 in
    let few = ap length none in
    omega (arith, many, few)

-- ---- trees side by side

-- the cost of the least trees side by side, with the list that they have
abbrev pub IsPartsCost : Grammar → Quiet → List (ℕ × ℕ) → ℕ → Option ℕ → Type 0
IsPartsCost g quiet qs a None = AreQuietLeast g quiet qs a None
IsPartsCost g quiet qs a (Some cost) = (k : Key) × AreQuietLeast g quiet qs a (Some k) × (cost ≡ k.0) × IsQuietList g quiet qs a k.1

module _ (g : Grammar) (plan : Plan) (quiet : Quiet) where
  beside : (q : ℕ × ℕ) (qs : List (ℕ × ℕ)) (a : ℕ) → AreWide (q ∷ qs) → (t : Option QuietTree) (o : Option ℕ) → IsQuietTree g plan quiet q a t → IsPartsCost g quiet qs 0 o → IsPartsCost g quiet (q ∷ qs) a (added t o)
  beside q qs a wide None None first others = quiet-beside g quiet q qs a wide None None first others
  beside q qs a wide None (Some cost) first others = quiet-beside g quiet q qs a wide None (Some others.0) first others.1
  beside q qs a wide (Some t) None first others = quiet-beside g quiet q qs a wide (Some first.0) None first.1 others
  beside q qs a wide (Some t) (Some cost) first others =
      let one = first.2 in
      let two = others.2 in (
        plus first.0 others.0,
        quiet-beside g quiet q qs a wide (Some first.0) (Some others.0) first.1 others.1,
        omega (arith, one, two),
        (first.0, others.0.1, first.1, others.3, refl),
      )

  module _ (rows : List (List (Option QuietTree))) (w m : ℕ) (known : AreQuietRows g plan quiet rows w m) where
    tree-of : (n : ℕ) (q : ℕ × ℕ) (a : ℕ) → HasSeat plan n q → q.0 < w → a < 5 → IsQuietTree g plan quiet q a (entry rows n a)
    tree-of n q a seat low few =
        subst (λ q. IsQuietTree g plan quiet q a (entry rows n a)) seat.2
        (known.least n seat.0 a seat.1 (inl (subst (λ (p : ℕ × ℕ). p.0 < w) (sym seat.2) low)) few)

    others-least : (ns : List ℕ) (qs : List (ℕ × ℕ)) → HaveSeats plan ns qs → AreBelow w qs → IsPartsCost g quiet qs 0 (others_cost rows ns)
    others-least [] [] seats below = ((0, []), quiet-nothing g quiet, refl, refl)
    others-least [] (q ∷ qs) seats below = absurd seats
    others-least (n ∷ ns) [] seats below = absurd seats
    others-least (n ∷ ns) (q ∷ qs) seats below =
        beside q qs 0 (below-wide w (q ∷ qs) below) (entry rows n 0) (others_cost rows ns) (tree-of n q 0 seats.0 below.1 (omega arith)) (others-least ns qs seats.1 below.2)

    pub parts-least : (ns : List ℕ) (q : ℕ × ℕ) (qs : List (ℕ × ℕ)) (a : ℕ) → a < 5 → HaveSeats plan ns (q ∷ qs) → AreBelow w (q ∷ qs) → IsPartsCost g quiet (q ∷ qs) a (parts_cost rows a ns)
    parts-least [] q qs a few seats below = absurd seats
    parts-least (n ∷ ns) q qs a few seats below =
        beside q qs a (below-wide w (q ∷ qs) below) (entry rows n a) (others_cost rows ns) (tree-of n q a seats.0 below.1 few) (others-least ns qs seats.1 below.2)

  -- ---- rules

  -- the least tree with a rule of the set on top
  abbrev pub IsBestTree : ℕ × ℕ → ℕ → (ℕ → Type 0) → Option QuietTree → Type 0
  IsBestTree q a rules None = IsQuietBest g quiet q rules a None
  IsBestTree q a rules (Some t) = (k : Key) × IsQuietBest g quiet q rules a (Some k) × (t.cost ≡ k.0) × rules t.rule × IsQuietMade g plan quiet q a t.rule t.cut k.1

  made-top : (q : ℕ × ℕ) (a rule : ℕ) (cut : Option ℕ) (list : List ℕ) → IsQuietMade g plan quiet q a rule cut list → (xs : List ℕ) × (list ≡ rule ∷ xs)
  made-top q a rule None list made = ([], made)
  made-top q a rule (Some n) list made = (made.2, made.8)

  pub best-leaf : (q : ℕ × ℕ) (a : ℕ) → 1 ≤ q.0 → a < 5 → (o : Option LeafRule) → HasLeafRule g q.1 a (sounds_so quiet) o → IsBestTree q a (EndsInterval g) (leaf_tree o)
  best-leaf q a wide few None h = quiet-leaf g quiet q a wide few None h
  best-leaf q a wide few (Some l) h =
      ((l.weight, l.rule ∷ []), quiet-leaf g quiet q a wide few (Some (l.rule, l.weight)) h, refl, (h.rule, h.is.ending, h.is.at, h.is.ends), refl)

  best-same : (q : ℕ × ℕ) (a : ℕ) (rules others : ℕ → Type 0) → ((r : ℕ) → rules r → others r) → ((r : ℕ) → others r → rules r) → (o : Option QuietTree) → IsBestTree q a rules o → IsBestTree q a others o
  best-same q a rules others there back None h = quiet-rules g quiet q a rules others there back None h
  best-same q a rules others there back (Some t) h = (h.0, quiet-rules g quiet q a rules others there back (Some h.0) h.1, h.2, there t.rule h.3, h.4)

  module _ (q : ℕ × ℕ) (a : ℕ) (wide : 1 ≤ q.0) (rules : ℕ → Type 0) (n : ℕ) (c : Cut) (at : slice_get plan.cuts.items n ≡ Some c) (is : IsCutOf g plan q c) (new : rules c.rule → ⊥) where
    made : (k : Key) → IsQuietList g quiet (children is.rule.body q.0) a k.1 → IsQuietMade g plan quiet q a c.rule (Some n) (c.rule ∷ k.1)
    made k list = (c, is.rule, k.1, at, refl, is, is.is, list, refl)

    best-cut : (o : Option QuietTree) (u : Option ℕ) → IsBestTree q a rules o → IsPartsCost g quiet (children is.rule.body q.0) a u → IsBestTree q a (λ s. rules s ⊎ (s ≡ c.rule)) (nearer_tree o (cut_tree c n u))
    best-cut None None h k = quiet-cut g quiet q a wide rules c.rule is.rule is.is None None h k
    best-cut (Some t) None h k = (h.0, quiet-cut g quiet q a wide rules c.rule is.rule is.is (Some h.0) None h.1 k, h.2, inl h.3, h.4)
    best-cut None (Some cost) h k =
        let weighs = is.weighs in
        let same = k.2 in
        ((is.rule.weight + k.0.0, c.rule ∷ k.0.1), quiet-cut g quiet q a wide rules c.rule is.rule is.is None (Some k.0) h k.1, omega (arith, weighs, same), inr refl, made k.0 k.3)
    best-cut (Some t) (Some cost) h k = go (is_before x h.0) refl
      where
        x : Key
        x = (is.rule.weight + k.0.0, c.rule ∷ k.0.1)

        top : (xs : List ℕ) × (h.0.1 ≡ t.rule ∷ xs)
        top = made-top q a t.rule t.cut h.0.1 h.4

        dear : c.weight + cost ≡ is.rule.weight + k.0.0
        dear = let weighs = is.weighs in let same = k.2 in omega (arith, weighs, same)

        nearer : is_nearer (c.weight + cost, c.rule) (t.cost, t.rule) ≡ is_before x h.0
        nearer =
            (λ i. is_nearer (dear i, c.rule) (h.2 i, t.rule))
            ∙ sym (tops-before x h.0 c.rule t.rule k.0.1 top.0 refl top.1 (λ e. new (subst rules (sym e) h.3)))

        least : IsQuietBest g quiet q (λ s. rules s ⊎ (s ≡ c.rule)) a (if is_before x h.0 then Some x else Some h.0)
        least = quiet-cut g quiet q a wide rules c.rule is.rule is.is (Some h.0) (Some k.0) h.1 k.1

        both : (b : Bool) → IsQuietBest g quiet q (λ s. rules s ⊎ (s ≡ c.rule)) a (if b then Some x else Some h.0)
            → IsBestTree q a (λ s. rules s ⊎ (s ≡ c.rule)) (if b then Some (record { cost = c.weight + cost; rule = c.rule; cut = Some n }) else Some t)
        both true least = (x, least, dear, inr refl, made k.0 k.3)
        both false least = (h.0, least, h.2, inl h.3, h.4)

        go : (b : Bool) → is_before x h.0 ≡ b
            → IsBestTree q a (λ s. rules s ⊎ (s ≡ c.rule)) (if is_nearer (c.weight + cost, c.rule) (t.cost, t.rule) then Some (record { cost = c.weight + cost; rule = c.rule; cut = Some n }) else Some t)
        go b e =
            subst (λ b. IsBestTree q a (λ s. rules s ⊎ (s ≡ c.rule)) (if b then Some (record { cost = c.weight + cost; rule = c.rule; cut = Some n }) else Some t)) (sym (nearer ∙ e))
            (both b (subst (λ b. IsQuietBest g quiet q (λ s. rules s ⊎ (s ≡ c.rule)) a (if b then Some x else Some h.0)) e least))

  -- ---- the cuts of a seat

  -- a rule that ends its interval, or one of the seat's cuts before the number i
  abbrev pub IsTriedRule : Seat → ℕ → ℕ → Type 0
  IsTriedRule s i r = EndsInterval g r ⊎ ((j : ℕ) × (c : Cut) × (s.first ≤ j) × (j < i) × (slice_get plan.cuts.items j ≡ Some c) × (c.rule ≡ r))

  module _ (s : Seat) (seat : IsSeat g plan s) (a : ℕ) (few : a < 5) where
    pub tried-none : (o : Option LeafRule) → HasLeafRule g s.symbol a (sounds_so quiet) o → IsBestTree (pair_of s) a (IsTriedRule s s.first) (leaf_tree o)
    tried-none o h =
        best-same (pair_of s) a (EndsInterval g) (IsTriedRule s s.first) (λ r e. inl e) back (leaf_tree o) (best-leaf (pair_of s) a seat.wide few o h)
      where
        back : (r : ℕ) → IsTriedRule s s.first r → EndsInterval g r
        back r (inl e) = e
        back r (inr t) = let from = t.2 in let low = t.3 in absurd (omega (arith, from, low))

    pub tried-next : (rows : List (List (Option QuietTree))) (m : ℕ) → AreQuietRows g plan quiet rows s.width m → (i : ℕ) (c : Cut) → s.first ≤ i → i < s.end → slice_get plan.cuts.items i ≡ Some c → (o : Option QuietTree)
        → IsBestTree (pair_of s) a (IsTriedRule s i) o → IsBestTree (pair_of s) a (IsTriedRule s (i + 1)) (nearer_tree o (cut_tree c i (parts_cost rows a (between plan.parts.items c.first c.end))))
    tried-next rows m known i c from low at o h =
        best-same (pair_of s) a (λ r. IsTriedRule s i r ⊎ (r ≡ c.rule)) (IsTriedRule s (i + 1)) there back (nearer_tree o (cut_tree c i (parts_cost rows a (between plan.parts.items c.first c.end))))
        (best-cut (pair_of s) a seat.wide (IsTriedRule s i) i c at is new o (parts_cost rows a (between plan.parts.items c.first c.end)) h parts)
      where
        is : IsCutOf g plan (pair_of s) c
        is = seat.cuts i c from low at

        new : IsTriedRule s i c.rule → ⊥
        new (inl e) = cut-no_end g (pair_of s) c.rule is.rule is.is e
        new (inr t) =
            let rise = seat.rise t.0 i t.1 c t.2 t.3 low t.4 at in
            let same = t.5 in
            omega (arith, rise, same)

        parts : IsPartsCost g quiet (children is.rule.body s.width) a (parts_cost rows a (between plan.parts.items c.first c.end))
        parts = go (children is.rule.body s.width) refl is.parts (children-below is.rule.body s.width seat.wide (and_right (is.rule.lhs == s.symbol) _ is.is.suit))
          where
            go : (qs : List (ℕ × ℕ)) → children is.rule.body s.width ≡ qs → HaveSeats plan (between plan.parts.items c.first c.end) qs → AreBelow s.width qs
                → IsPartsCost g quiet qs a (parts_cost rows a (between plan.parts.items c.first c.end))
            go [] e seats below = absurd (no_parts is.rule g (pair_of s) c.rule seat.wide is.is e)
            go (q ∷ qs) e seats below = parts-least rows s.width m known (between plan.parts.items c.first c.end) q qs a few seats below

        there : (r : ℕ) → IsTriedRule s i r ⊎ (r ≡ c.rule) → IsTriedRule s (i + 1) r
        there r (inl (inl e)) = inl e
        there r (inl (inr t)) = let below = t.3 in inr (t.0, t.1, t.2, omega (arith, below), t.4, t.5)
        there r (inr e) = inr (i, c, from, omega arith, at, sym e)

        back : (r : ℕ) → IsTriedRule s (i + 1) r → IsTriedRule s i r ⊎ (r ≡ c.rule)
        back r (inl e) = inl (inl e)
        back r (inr t) = elim (last_of t.0 i t.3) [
          | inl below ↦ inl (inr (t.0, t.1, t.2, below, t.4, t.5))
          | inr same ↦
              let own : c ≡ t.1 = some_one c t.1 (sym at ∙ ap (slice_get plan.cuts.items) (sym same) ∙ t.4) in
              inr (sym t.5 ∙ ap (λ (c : Cut). c.rule) (sym own))
        ]

    pub tried-all : IsReadable g → (i : ℕ) → s.end ≤ i → (o : Option QuietTree) → IsBestTree (pair_of s) a (IsTriedRule s i) o → IsQuietTree g plan quiet (pair_of s) a o
    tried-all readable i past o h = go o h
      where
        whole : (r : ℕ) → suits (slice_get g.rules r) (pair_of s) ≡ true → IsTriedRule s i r
        whole r suit = elim (ends-or-cuts g (pair_of s) r suit) [
          | inl e ↦ inl e
          | inr cut ↦
              let there = seat.whole r cut.0 cut.1 in
              let low = there.3 in
              inr (there.0, there.1, there.2, omega (arith, low, past), there.4, there.5)
        ]

        go : (o : Option QuietTree) → IsBestTree (pair_of s) a (IsTriedRule s i) o → IsQuietTree g plan quiet (pair_of s) a o
        go None h = quiet-whole g quiet (pair_of s) a seat.wide (IsTriedRule s i) whole None h
        go (Some t) h =
            let least = quiet-whole g quiet (pair_of s) a seat.wide (IsTriedRule s i) whole (Some h.0) h.1 in
            let within = seat.within in
            let low = quiet-cheap g readable.ranges quiet (pair_of s ∷ []) a h.0 (seat.wide, tt) (omega (arith, within)) (quiet-one g quiet (pair_of s) a (Some h.0) least) in
            let same = h.2 in
            (h.0, least, h.2, omega (arith, low, same), h.4)

-- the cut of this number
pub cut-here : (g : Grammar) (plan : Plan) (s : Seat) → IsSeat g plan s → (i : ℕ) (x : Cut) → s.first ≤ i → i < s.end → x ≡ get_or plan.cuts.items i x → (slice_get plan.cuts.items i ≡ Some x) × IsCutOf g plan (pair_of s) x
cut-here g plan s seat i x from low is =
    let inside = seat.inside in
    let at = slice_get_read plan.cuts.items (length plan.cuts.items) i x refl (omega (arith, low, inside)) is in
    (at, seat.cuts i x from low at)
