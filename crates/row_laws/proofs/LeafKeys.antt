-- The least keys of trees that are one leaf, by what the leaf asks.
use Rattle.std.proofs.Common.{◌≡◌, ℕ, ◌<◌, ◌≤◌, ◌+◌, ◌==◌, ◌⊎◌, inl, inr, ◌&&◌, Bool, true, false, [], ◌∷◌, refl, sym, ap, ◌∙◌, subst, arith}
use Rattle.std.specs.Prelude.{Option, Some, None, slice_get, if◌then◌else◌}
use Rattle.std.specs.Cmp.{nat_cmp_is}
use Rattle.std.specs.Ordering.{nat_cmp, ordering_then, is_lt}
use Rattle.std.specs.declared.cmp.Ordering.TheVariants.{Equal, Greater}
use Rattle.std.proofs.lemmas.Bool.{cases_lt}
use Rattle.std.proofs.lemmas.Bool.Decides.{nat_tests}
use Rattle.rhythm_base.specs.Bodies.{can_cut, children, cuts_or_ends, divides, ending_of, parts_of_cut}
use Rattle.rhythm_base.specs.Cost.{charges}
use Rattle.rhythm_base.specs.Leaves.{in_bar}
use Rattle.rhythm_base.specs.Grammar.{Grammar}
use Rattle.rhythm_base.specs.Line.{agrees}
use Rattle.rhythm_base.specs.Ranked.{Key, is_before}
use Rattle.rhythm_base.specs.Trees.{BarLeaf, leaf_of, leaf_of_ending, suits}
use Rattle.rhythm_base.specs.declared.rule.Body.{Body}
use Rattle.rhythm_base.specs.declared.rule.Ending.{Ending}
use Rattle.rhythm_base.specs.declared.rule.Rule.{Rule}
use Rattle.tree_laws.specs.Forests.{Ground}
use Rattle.tree_laws.specs.Places.{FitsAt}
use Rattle.path_laws.specs.Tables.{IsLeastKey}
use Rattle.rhythm_base.proofs.TotalOrders.{above}
use Rattle.path_laws.proofs.KeyOrders.{keys_total}
use Rattle.tree_laws.proofs.Ranks.{both}
use Rattle.row_laws.specs.BestRules.{IsKeyOfRules}
use Rattle.row_laws.specs.LeafRules.{EndsInterval, HasNoLeafRule, IsFirstLeafRule, IsLeafRule}
use Rattle.row_laws.specs.RuleKeys.{IsRuleKey}
use Rattle.row_laws.proofs.RuleKeys.{leaf-least}

-- the rule of such a leaf and its weight, where there is one
abbrev pub IsLeafRuleOf : Grammar → ℕ → ℕ → Bool → Option (ℕ × ℕ) → Type 0
IsLeafRuleOf g symbol n sounds None = HasNoLeafRule g symbol n sounds
IsLeafRuleOf g symbol n sounds (Some x) = IsFirstLeafRule g symbol n sounds x.0 x.1

abbrev pub leaf_key : Option (ℕ × ℕ) → ℕ → ℕ → ℕ → Option Key
leaf_key None next cost b = None
leaf_key (Some x) next cost b = if next == b then Some (x.1 + cost, x.0 ∷ []) else None

-- ---- leaves

-- a body that ends its interval is a leaf, of any width
pub leaf_body : (b : Body) (e : Ending) (p w : ℕ) → ending_of b ≡ Some e → (leaf_of b p w ≡ record { ending = e; place = p; width = w } ∷ []) × (children b w ≡ []) × (can_cut b w ≡ true)
leaf_body b e p w is = elim (cuts_or_ends b) [
  | inl t ↦ let no : ◌≡◌ {A = Option Ending} None (Some e) = sym t.2 ∙ is in absurd (cc)
  | inr t ↦ (ap (λ o. leaf_of_ending o p w) is, ap (λ c. parts_of_cut c w) t.1, ap (λ c. divides c w) t.1)
]

pub and_true : (x y : Bool) → x ≡ true → y ≡ true → x && y ≡ true
and_true true y e f = f
and_true false y e f = e

later_above : (x y n r s : ℕ) → (x < y) ⊎ ((x ≡ y) × (r ≤ s)) → is_before (y + n, s ∷ []) (x + n, r ∷ []) ≡ false
later_above x y n r s (inl h) = sym (ap (λ o. is_lt (ordering_then o (ordering_then (nat_cmp s r) Equal))) (nat_cmp_is (y + n) (x + n) Greater (omega (arith, h))))
later_above x y n r s (inr h) =
    sym (ap (λ o. is_lt (ordering_then o (ordering_then (nat_cmp s r) Equal))) (nat_cmp_is (y + n) (x + n) Equal (let e = h.0 in omega (arith, e)))) ∙ not_before (cases_lt r s)
  where
    not_before : (r < s) ⊎ (s ≤ r) → is_lt (ordering_then (nat_cmp s r) Equal) ≡ false
    not_before (inl less) = sym (ap (λ o. is_lt (ordering_then o Equal)) (nat_cmp_is s r Greater less))
    not_before (inr most) = sym (ap (λ o. is_lt (ordering_then o Equal)) (nat_cmp_is s r Equal (let least = h.1 in omega (arith, least, most))))

-- n chords are attached to the leaf, the latest chord sounds in it or not, the next number is carried out, and its onsets cost so much
module _ (d : Ground) (p w symbol a n next cost : ℕ) (sounds : Bool)
    (fits : (ending : Ending) (b : ℕ) → FitsAt d.book.resolution d.bar d.chords d.before p (record { ending = ending; place = p; width = w } ∷ []) a b → agrees ending n sounds && (next == b) ≡ true)
    (agree : (ending : Ending) (b : ℕ) → b < 5 → agrees ending n sounds && (next == b) ≡ true → FitsAt d.book.resolution d.bar d.chords d.before p (record { ending = ending; place = p; width = w } ∷ []) a b)
    (charged : (ending : Ending) → cost ≡ charges d.book (in_bar d.bar (record { ending = ending; place = p; width = w } ∷ [])) d.chords) where
  abbrev leaf : Ending → BarLeaf
  leaf ending = record { ending = ending; place = p; width = w }

  abbrev fit : Ending → ℕ → Bool
  fit ending b = agrees ending n sounds && (next == b)

  -- the keys of one rule of the symbol
  rule-least : (r : ℕ) (rule : Rule) (ending : Ending) (b : ℕ) → b < 5 → slice_get d.book.rules r ≡ Some rule → ending_of rule.body ≡ Some ending → suits (Some rule) (w, symbol) ≡ true
      → IsLeastKey (IsRuleKey d None p (w, symbol) r a b) (if fit ending b then Some (rule.weight + cost, r ∷ []) else None)
  rule-least r rule ending b lb at ends suit =
      let body = leaf_body rule.body ending p w ends in
      subst (λ c. IsLeastKey (IsRuleKey d None p (w, symbol) r a b) (if fit ending b then Some (rule.weight + c, r ∷ []) else None)) (sym (charged ending))
      (leaf-least d None p (w, symbol) r a b rule at suit (leaf ending) body.0 body.1 (fit ending b)
      (λ e. (refl, agree ending b lb e))
      (λ e shaped run. let on = fits ending b run in absurd (cc)))

  -- a rule of a tree that ends the leaf is one of those that the leaf may be ended with
  own-rule : (r : ℕ) (rule : Rule) (ending : Ending) → slice_get d.book.rules r ≡ Some rule → ending_of rule.body ≡ Some ending → suits (Some rule) (w, symbol) ≡ true → agrees ending n sounds ≡ true
      → IsLeafRule d.book symbol n sounds r rule
  own-rule r rule ending at ends suit on =
      let named : (rule.lhs == symbol) ≡ true = (both (rule.lhs == symbol) (can_cut rule.body w) suit).0 in
      record { at = at; own = grind (arith, nat_tests); ending = ending; ends = ends; agree = on }

  -- the rule on top of a tree suits
  top-suits : (r b : ℕ) (rule : Rule) (key : Key) → slice_get d.book.rules r ≡ Some rule → IsRuleKey d None p (w, symbol) r a b key → suits (Some rule) (w, symbol) ≡ true
  top-suits r b rule key at h =
      let on : suits (slice_get d.book.rules r) (w, symbol) ≡ true = (both (suits (slice_get d.book.rules r) (w, symbol)) _ h.1.trees).0 in
      subst (λ o. suits o (w, symbol) ≡ true) at on

  -- a key of a leaf is that of its rule
  rule-key : (r b : ℕ) (rule : Rule) (ending : Ending) (key : Key) → b < 5 → slice_get d.book.rules r ≡ Some rule → ending_of rule.body ≡ Some ending → IsRuleKey d None p (w, symbol) r a b key
      → (IsLeafRule d.book symbol n sounds r rule) × (next ≡ b) × (is_before key (rule.weight + cost, r ∷ []) ≡ false)
  rule-key r b rule ending key lb at ends h = go (fit ending b) refl (rule-least r rule ending b lb at ends suit)
    where
      suit : suits (Some rule) (w, symbol) ≡ true
      suit = top-suits r b rule key at h

      go : (t : Bool) → fit ending b ≡ t → IsLeastKey (IsRuleKey d None p (w, symbol) r a b) (if t then Some (rule.weight + cost, r ∷ []) else None)
          → (IsLeafRule d.book symbol n sounds r rule) × (next ≡ b) × (is_before key (rule.weight + cost, r ∷ []) ≡ false)
      go true e l =
          let t = both (agrees ending n sounds) (next == b) e in
          let out : next ≡ b = let same = t.1 in grind (arith, nat_tests) in
          (own-rule r rule ending at ends suit t.0, out, l.1 key h)
      go false e l = absurd (l key h)

  abbrev Keyed : ℕ → Key → Type 0
  Keyed b key = IsKeyOfRules d p (w, symbol) (EndsInterval d.book) a b key

  leaf-none : HasNoLeafRule d.book symbol n sounds → (b : ℕ) → b < 5 → IsLeastKey (Keyed b) None
  leaf-none empty b lb key (r, (rule, ending, at, ends), h) = empty r rule (rule-key r b rule ending key lb at ends h).0

  leaf-first : (x : ℕ × ℕ) → IsFirstLeafRule d.book symbol n sounds x.0 x.1 → (b : ℕ) → b < 5 → IsLeastKey (Keyed b) (if next == b then Some (x.1 + cost, x.0 ∷ []) else None)
  leaf-first x best b lb = go (next == b) refl
    where
      rule : Rule
      rule = best.rule

      ending : Ending
      ending = best.is.ending

      suit : suits (Some rule) (w, symbol) ≡ true
      suit =
          let named : (rule.lhs == symbol) ≡ true = let own = best.is.own in grind (arith, nat_tests) in
          and_true (rule.lhs == symbol) (can_cut rule.body w) named (leaf_body rule.body ending p w best.is.ends).2

      first : (key : Key) → Keyed b key → is_before key (x.1 + cost, x.0 ∷ []) ≡ false
      first key (s, (other, end, at, ends), h) =
          let found = rule-key s b other end key lb at ends h in
          above keys_total key (other.weight + cost, s ∷ []) (x.1 + cost, x.0 ∷ []) found.2 (later_above x.1 other.weight cost x.0 s (best.first s other found.0))

      go : (t : Bool) → (next == b) ≡ t → IsLeastKey (Keyed b) (if t then Some (x.1 + cost, x.0 ∷ []) else None)
      go true e =
          let yes_fit : fit ending b ≡ true = and_true (agrees ending n sounds) (next == b) best.is.agree e in
          let least : IsLeastKey (IsRuleKey d None p (w, symbol) x.0 a b) (Some (rule.weight + cost, x.0 ∷ []))
          = subst (λ t. IsLeastKey (IsRuleKey d None p (w, symbol) x.0 a b) (if t then Some (rule.weight + cost, x.0 ∷ []) else None)) yes_fit (rule-least x.0 rule ending b lb best.is.at best.is.ends suit) in
          let key : IsRuleKey d None p (w, symbol) x.0 a b (x.1 + cost, x.0 ∷ [])
          = subst (λ c. IsRuleKey d None p (w, symbol) x.0 a b (c + cost, x.0 ∷ [])) best.weighs least.0 in
          ((x.0, (rule, ending, best.is.at, best.is.ends), key), first)
      go false e = λ key (s, (other, end, at, ends), h).
          let out : next ≡ b = (rule-key s b other end key lb at ends h).1 in
          let on : (next == b) ≡ true = grind (arith, nat_tests) in
          absurd (cc)

  pub leaf_keys-least : (o : Option (ℕ × ℕ)) → IsLeafRuleOf d.book symbol n sounds o → (b : ℕ) → b < 5 → IsLeastKey (IsKeyOfRules d p (w, symbol) (EndsInterval d.book) a b) (leaf_key o next cost b)
  leaf_keys-least None empty b lb = leaf-none empty b lb
  leaf_keys-least (Some x) best b lb = leaf-first x best b lb
