-- The cuts of a seat, rule by rule.
use Rattle.std.proofs.Common.{◌≡◌, ℕ, zero, suc, ◌+◌, ◌<◌, ◌≤◌, inl, inr, ◌&&◌, ◌==◌, true, false, List, [], ◌∷◌, ◌++◌, length, map, refl, sym, ap, subst, ◌∙◌, arith}
use Rattle.std.specs.Prelude.{Option, Some, None, slice_get, All}
use Rattle.std.proofs.lemmas.Bool.Decides.{nat_tests}
use Rattle.std.proofs.lemmas.Option.{slice_get_within, get_or_from_slice_get}
use Rattle.rhythm_base.specs.Bodies.{Cut as Division, children, cut_of, ending_of, equal, parts_of_cut, unequal}
use Rattle.rhythm_base.specs.Grammar.{Grammar}
use Rattle.rhythm_base.specs.Readable.{IsBodyOf, IsReadable}
use Rattle.rhythm_base.specs.Trees.{suits}
use Rattle.rhythm_base.specs.declared.rule.Ending.{Ending}
use Rattle.rhythm_base.specs.declared.rule.Rule.{Rule}
use Rattle.rhythm_base.proofs.Booleans.{and_left, and_right}
use Rattle.tree_laws.specs.Shares.{AreBelow}
use Rattle.tree_laws.proofs.Shares.{children-below}
use Rattle.row_laws.specs.RuleKeys.{IsCutRule}
use Rattle.grammar_plan.specs.Drafts.{ArePairs, ArePushed, HasMoreCuts, HavePairs, IsCutIn, IsLonger, cuts_pair, is_no_ending}
use Rattle.grammar_plan.specs.Plans.{between}
use Rattle.grammar_plan.specs.Spans.{IsRuleSpan}
use Rattle.grammar_plan.specs.declared.cut.Cut.{Cut}
use Rattle.grammar_plan.proofs.Growing.{between-longer, between-new, get-last, get-longer, get-new, get-shorter, have-longer, length-longer, longer-itself, longer-then}
use Rattle.grammar_plan.proofs.LeafTables.{last_of, some_one}

-- ---- which rules cut

no_ending : (o : Option Ending) → is_no_ending o ≡ true → o ≡ None
no_ending None h = refl
no_ending (Some ending) h = absurd (cc)

pub cut-rule : (g : Grammar) (q : ℕ × ℕ) (n : ℕ) (rule : Rule) → slice_get g.rules n ≡ Some rule → cuts_pair rule q ≡ true → IsCutRule g q n rule
cut-rule g q n rule at h = record {
  at = at;
  suit = and_right (is_no_ending (ending_of rule.body)) _ h;
  cuts = no_ending (ending_of rule.body) (and_left (is_no_ending (ending_of rule.body)) _ h);
}

pub rule-cuts : (g : Grammar) (q : ℕ × ℕ) (n : ℕ) (rule : Rule) → IsCutRule g q n rule → cuts_pair rule q ≡ true
rule-cuts g q n rule h = ap (λ o. is_no_ending o && suits (Some rule) q) h.cuts ∙ h.suit

-- ---- the parts are lawful

below-lawful : (w most names : ℕ) (qs : List (ℕ × ℕ)) → w ≤ most → AreBelow w qs → ((i : ℕ) (q : ℕ × ℕ) → slice_get qs i ≡ Some q → q.1 < names) → ArePairs most names qs
below-lawful w most names [] few h s n q e = absurd (cc)
below-lawful w most names (p ∷ qs) few h s zero q e =
    let one = some_one p q e in
    let low = h.0 in
    let high = h.1 in
    let a : q.0 ≡ p.0 = ap (λ (x : ℕ × ℕ). x.0) (sym one) in
    (omega (arith, a, low), omega (arith, a, high, few), s zero q e)
below-lawful w most names (p ∷ qs) few h s (suc n) q e = below-lawful w most names qs few h.2 (λ i q e. s (suc i) q e) n q e

map-symbols : {X : Type 0} (f : X → ℕ × ℕ) (names : ℕ) (xs : List X) → ((i : ℕ) (x : X) → slice_get xs i ≡ Some x → (f x).1 < names) → (i : ℕ) (q : ℕ × ℕ) → slice_get (map f xs) i ≡ Some q → q.1 < names
map-symbols f names [] h i q e = absurd (cc)
map-symbols f names (x ∷ xs) h zero q e = subst (λ (p : ℕ × ℕ). p.1 < names) (some_one (f x) q e) (h zero x refl)
map-symbols f names (x ∷ xs) h (suc i) q e = map-symbols f names xs (λ j y k. h (suc j) y k) i q e

all_get : {X : Type 0} (P : X → Type 0) (xs : List X) → All P xs → (i : ℕ) (x : X) → slice_get xs i ≡ Some x → P x
all_get P xs h i x e = subst P (get_or_from_slice_get xs i x x e) (h i x (slice_get_within xs i x e))

part-symbols : (version names w : ℕ) (o : Option Division) (ending : Option Ending) → IsBodyOf version names o ending → (i : ℕ) (q : ℕ × ℕ) → slice_get (parts_of_cut o w) i ≡ Some q → q.1 < names
part-symbols version names w None ending h = λ i q e. absurd (cc)
part-symbols version names w (Some (equal symbols)) ending h = map-symbols (λ s. (_, s)) names symbols (all_get (λ s. s < names) symbols h.2)
part-symbols version names w (Some (unequal parts)) ending h = map-symbols (λ q. (_, q.1)) names parts (λ i x e. (all_get (λ (q : ℕ × ℕ). (1 ≤ q.0) × (q.0 ≤ 96) × (q.1 < names)) parts h.3 i x e).2)

pub parts-lawful : (g : Grammar) → IsReadable g → (q : ℕ × ℕ) (n : ℕ) (rule : Rule) → IsCutRule g q n rule → 1 ≤ q.0 → q.0 ≤ g.resolution → ArePairs g.resolution (length g.names) (children rule.body q.0)
parts-lawful g readable q n rule h wide within =
    let body = all_get (λ (r : Rule). IsBodyOf g.version (length g.names) (cut_of r.body) (ending_of r.body)) g.rules readable.bodies n rule h.at in
    below-lawful q.0 g.resolution (length g.names) (children rule.body q.0) within
    (children-below rule.body q.0 wide (and_right (rule.lhs == q.1) _ h.suit))
    (part-symbols g.version (length g.names) q.0 (cut_of rule.body) (ending_of rule.body) body)

-- ---- what stands stays

pub cut-longer : (g : Grammar) (old pairs : List (ℕ × ℕ)) (before parts : List ℕ) (q : ℕ × ℕ) (c : Cut) → IsLonger old pairs → IsLonger before parts → IsCutIn g old before q c → IsCutIn g pairs parts q c
cut-longer g old pairs before parts q c h k is =
    let within = is.within in
    let long = length-longer before parts k in
    record {
      rule = is.rule;
      is = is.is;
      weighs = is.weighs;
      order = is.order;
      within = omega (arith, within, long);
      have = subst (λ ns. HavePairs pairs ns (children is.rule.body q.0)) (sym (between-longer before parts c.first c.end k is.order is.within)) (have-longer old pairs _ _ h is.have);
    }

-- ---- one rule more

module _ (g : Grammar) (q : ℕ × ℕ) (old pairs : List (ℕ × ℕ)) (before parts : List ℕ) (was cuts : List Cut) (n : ℕ) (h : HasMoreCuts g q old pairs before parts was cuts n)
    (rule : Rule) (at : slice_get g.rules n ≡ Some rule) where
  pub cuts-skip : cuts_pair rule q ≡ false → HasMoreCuts g q old pairs before parts was cuts (n + 1)
  cuts-skip off = record {
    pairs_longer = h.pairs_longer;
    parts_longer = h.parts_longer;
    cuts_longer = h.cuts_longer;
    own = record {
      each = h.own.each;
      below = λ i c from e. let low = h.own.below i c from e in omega (arith, low);
      rise = h.own.rise;
      whole = λ r other low is. elim (last_of r n low) [
        | inl below ↦ h.own.whole r other below is
        | inr same ↦
            let own : other ≡ rule = some_one other rule (sym is.at ∙ ap (slice_get g.rules) same ∙ at) in
            let on = rule-cuts g q r other is in
            let off' : cuts_pair other q ≡ false = ap (λ x. cuts_pair x q) own ∙ off in
            absurd (cc)
      ];
    };
    lawful = h.lawful;
  }

  pub cuts-next : (new : List (ℕ × ℕ)) (more : List ℕ) (next : List Cut) → IsReadable g → cuts_pair rule q ≡ true → ArePushed pairs new parts more (children rule.body q.0)
      → next ≡ cuts ++ record { rule = n; weight = rule.weight; first = length parts; end = length more } ∷ [] → HasMoreCuts g q old new before more was next (n + 1)
  cuts-next new more next readable on pushed is = subst (λ l. HasMoreCuts g q old new before more was l (n + 1)) (sym is) whole
    where
      is_cut : IsCutRule g q n rule
      is_cut = cut-rule g q n rule at on

      longer : IsLonger parts more
      longer = (pushed.numbers, pushed.parts_longer)

      own : Cut
      own = record { rule = n; weight = rule.weight; first = length parts; end = length more }

      made : IsCutIn g new more q own
      made = record {
        rule = rule;
        is = is_cut;
        weighs = refl;
        order = length-longer parts more longer;
        within = omega arith;
        have = subst (λ ns. HavePairs new ns (children rule.body q.0)) (sym (ap (λ l. between l (length parts) (length l)) pushed.parts_longer ∙ between-new parts pushed.numbers)) pushed.have;
      }

      far : length was ≤ length cuts
      far = length-longer was cuts h.cuts_longer

      whole : HasMoreCuts g q old new before more was (cuts ++ own ∷ []) (n + 1)
      whole = record {
        pairs_longer = longer-then old pairs new h.pairs_longer pushed.longer;
        parts_longer = longer-then before parts more h.parts_longer longer;
        cuts_longer = longer-then was cuts (cuts ++ own ∷ []) h.cuts_longer (own ∷ [], refl);
        own = record {
          each = λ i c from e. elim (get-last cuts own c i e) [
            | inl there ↦ cut-longer g pairs new parts more q c pushed.longer longer (h.own.each i c from there)
            | inr last ↦ subst (IsCutIn g new more q) (sym last.1) made
          ];
          below = λ i c from e. elim (get-last cuts own c i e) [
            | inl there ↦ let low = h.own.below i c from there in omega (arith, low)
            | inr last ↦ let same : c.rule ≡ n = ap (λ (x : Cut). x.rule) last.1 in omega (arith, same)
          ];
          rise = λ i j c d from order e k. elim (get-last cuts own d j k) [
            | inl there ↦ h.own.rise i j c d from order (before_it i c e (let low = slice_get_within cuts j d there in omega (arith, low, order))) there
            | inr last ↦
                let place = last.0 in
                let low = h.own.below i c from (before_it i c e (omega (arith, place, order))) in
                let same : d.rule ≡ n = ap (λ (x : Cut). x.rule) last.1 in
                omega (arith, low, same)
          ];
          whole = λ r other low is. elim (last_of r n low) [
            | inl below ↦
                let there = h.own.whole r other below is in
                (there.0, there.1, there.2, get-longer cuts (cuts ++ own ∷ []) there.0 there.1 (own ∷ [], refl) there.3, there.4)
            | inr same ↦ (length cuts, own, far, get-new cuts own, sym same)
          ];
        };
        lawful = λ k wide within. pushed.lawful g.resolution (length g.names) (h.lawful k wide within) (parts-lawful g readable q n rule is_cut wide within);
      }
        where
          before_it : (i : ℕ) (c : Cut) → slice_get (cuts ++ own ∷ []) i ≡ Some c → i < length cuts → slice_get cuts i ≡ Some c
          before_it i c e low = get-shorter cuts (cuts ++ own ∷ []) i c (own ∷ [], refl) low e

-- ---- the first rule and the last

pub in_span : (g : Grammar) (w s first end : ℕ) → IsRuleSpan g.rules s first end → (r : ℕ) (rule : Rule) → IsCutRule g (w, s) r rule → (first ≤ r) × (r < end)
in_span g w s first end span r rule is =
    let own = get_or_from_slice_get g.rules r rule rule is.at in
    let symbol : rule.lhs ≡ s = let on = and_left (rule.lhs == s) _ is.suit in grind (arith, nat_tests) in
    span r rule (slice_get_within g.rules r rule is.at) (ap (λ (x : Rule). x.lhs) own ∙ symbol)

pub cuts-none : (g : Grammar) (pairs : List (ℕ × ℕ)) (parts : List ℕ) (cuts : List Cut) (w s first end : ℕ) → IsRuleSpan g.rules s first end → HasMoreCuts g (w, s) pairs pairs parts parts cuts cuts first
cuts-none g pairs parts cuts w s first end span = record {
  pairs_longer = longer-itself pairs;
  parts_longer = longer-itself parts;
  cuts_longer = longer-itself cuts;
  own = record {
    each = λ i c from e. let low = slice_get_within cuts i c e in absurd (omega (arith, from, low));
    below = λ i c from e. let low = slice_get_within cuts i c e in absurd (omega (arith, from, low));
    rise = λ i j c d from order e k. let low = slice_get_within cuts i c e in absurd (omega (arith, from, low));
    whole = λ r other low is. let inside = (in_span g w s first end span r other is).0 in absurd (omega (arith, inside, low));
  };
  lawful = λ h wide within. h;
}

pub cuts-all : (g : Grammar) (old pairs : List (ℕ × ℕ)) (before parts : List ℕ) (was cuts : List Cut) (w s first end n : ℕ) → IsRuleSpan g.rules s first end → end ≤ n → n ≤ length g.rules
    → HasMoreCuts g (w, s) old pairs before parts was cuts n → HasMoreCuts g (w, s) old pairs before parts was cuts (length g.rules)
cuts-all g old pairs before parts was cuts w s first end n span past few h = record {
  pairs_longer = h.pairs_longer;
  parts_longer = h.parts_longer;
  cuts_longer = h.cuts_longer;
  own = record {
    each = h.own.each;
    below = λ i c from e. let low = h.own.below i c from e in omega (arith, low, few);
    rise = h.own.rise;
    whole = λ r other low is. let inside = (in_span g w s first end span r other is).1 in h.own.whole r other (omega (arith, inside, past)) is;
  };
  lawful = h.lawful;
}
