-- Weights decide no derivation: what fits does not look at them.
use Rattle.std.proofs.Common.{◌≡◌, ℕ, ◌+◌, true, ◌&&◌, List, [], ◌∷◌, ◌++◌, map, refl, sym, ap, ap₂, ◌∙◌, subst}
use Rattle.std.specs.Prelude.{Option, Some, None, option_map, slice_get}
use Rattle.std.proofs.lemmas.Option.{slice_get-map}
use Rattle.rhythm_base.specs.Forest.{Forest, Tree, more, none}
use Rattle.rhythm_base.specs.Grammar.{Grammar}
use Rattle.rhythm_base.specs.Leaves.{FitsVoice, VoiceBar, are_bars, in_bar, looks, voice_leaves}
use Rattle.rhythm_base.specs.Line.{agree, past}
use Rattle.rhythm_base.specs.Performance.{Performance}
use Rattle.rhythm_base.specs.Trees.{are_trees, children_of, has_pin, leaves, leaves_at, suits}
use Rattle.rhythm_base.specs.Voices.{HasDerivation, HasStarts}
use Rattle.rhythm_base.specs.declared.inner.Inner.{Inner}
use Rattle.rhythm_base.specs.declared.note.Bar.{Bar}
use Rattle.rhythm_base.specs.declared.rule.Rule.{Rule}
use Rattle.weight_learning.specs.Learned.{unweighted, without_weight}
use Rattle.weight_learning.specs.Laws.{WeightsDecideNoDerivation}

-- ---- one rule

suits-same : (o : Option Rule) (q : ℕ × ℕ) → suits (option_map without_weight o) q ≡ suits o q
suits-same None q = refl
suits-same (Some r) q = refl

children-same : (o : Option Rule) (w : ℕ) → children_of (option_map without_weight o) w ≡ children_of o w
children-same None w = refl
children-same (Some r) w = refl

leaves-same : (o : Option Rule) (p w : ℕ) → leaves_at (option_map without_weight o) p w ≡ leaves_at o p w
leaves-same None p w = refl
leaves-same (Some r) p w = refl

-- ---- trees

module _ (rules : List Rule) where
  -- rules that weigh nothing
  abbrev light : List Rule
  light = map without_weight rules

  light_suits : (r : ℕ) (q : ℕ × ℕ) → suits (slice_get light r) q ≡ suits (slice_get rules r) q
  light_suits r q = ap (λ o. suits o q) (slice_get-map without_weight rules r) ∙ suits-same (slice_get rules r) q

  light_children : (r w : ℕ) → children_of (slice_get light r) w ≡ children_of (slice_get rules r) w
  light_children r w = ap (λ o. children_of o w) (slice_get-map without_weight rules r) ∙ children-same (slice_get rules r) w

  light_leaves_at : (r p w : ℕ) → leaves_at (slice_get light r) p w ≡ leaves_at (slice_get rules r) p w
  light_leaves_at r p w = ap (λ o. leaves_at o p w) (slice_get-map without_weight rules r) ∙ leaves-same (slice_get rules r) p w

  light_trees : (qs : List (ℕ × ℕ)) (f : Forest) → are_trees light qs f ≡ are_trees rules qs f
  light_trees [] none = refl
  light_trees [] (more r kids rest) = refl
  light_trees (q ∷ qs) none = refl
  light_trees (q ∷ qs) (more r kids rest) =
      ap₂ ◌&&◌ (light_suits r q)
      (ap₂ ◌&&◌ (ap (λ cs. are_trees light cs kids) (light_children r q.0) ∙ light_trees (children_of (slice_get rules r) q.0) kids)
      (light_trees qs rest))

  light_leaves : (p : ℕ) (qs : List (ℕ × ℕ)) (f : Forest) → leaves light p qs f ≡ leaves rules p qs f
  light_leaves p [] none = refl
  light_leaves p (q ∷ qs) none = refl
  light_leaves p [] (more r kids rest) = refl
  light_leaves p (q ∷ qs) (more r kids rest) =
      ap₂ ◌++◌ (light_leaves_at r p q.0)
      (ap₂ ◌++◌ (ap (λ cs. leaves light p cs kids) (light_children r q.0) ∙ light_leaves p (children_of (slice_get rules r) q.0) kids)
      (light_leaves (p + q.0) qs rest))

-- ---- voices

module _ (g : Grammar) where
  light_bars : (bars : List VoiceBar) (ts : List Tree) → are_bars (unweighted g) bars ts ≡ are_bars g bars ts
  light_bars [] [] = refl
  light_bars [] (t ∷ ts) = refl
  light_bars (bar ∷ bars) [] = refl
  light_bars (bar ∷ bars) (t ∷ ts) =
      ap₂ ◌&&◌ (ap (λ b. b && has_pin bar.pin t) (light_trees g.rules ((g.resolution, bar.symbol) ∷ []) (more t.rule t.kids none))) (light_bars bars ts)

  light_voice : (bars : List VoiceBar) (ts : List Tree) → voice_leaves (unweighted g) bars ts ≡ voice_leaves g bars ts
  light_voice [] ts = refl
  light_voice (bar ∷ bars) [] = refl
  light_voice (bar ∷ bars) (t ∷ ts) =
      ap₂ ◌++◌ (ap (in_bar bar) (light_leaves g.rules 0 ((g.resolution, bar.symbol) ∷ []) (more t.rule t.kids none))) (light_voice bars ts)

  lighter : (bars : List VoiceBar) (cs : List Inner) (ts : List Tree) → FitsVoice g bars cs ts → FitsVoice (unweighted g) bars cs ts
  lighter bars cs ts fits = record {
    trees = light_bars bars ts ∙ fits.trees;
    leaves = subst (λ xs. agree (looks g.resolution) [] [] cs xs ≡ true) (sym (light_voice bars ts)) fits.leaves;
    leave = subst (λ xs. past (looks g.resolution) [] cs xs ≡ 0) (sym (light_voice bars ts)) fits.leave;
  }

  heavier : (bars : List VoiceBar) (cs : List Inner) (ts : List Tree) → FitsVoice (unweighted g) bars cs ts → FitsVoice g bars cs ts
  heavier bars cs ts fits = record {
    trees = sym (light_bars bars ts) ∙ fits.trees;
    leaves = subst (λ xs. agree (looks g.resolution) [] [] cs xs ≡ true) (light_voice bars ts) fits.leaves;
    leave = subst (λ xs. past (looks g.resolution) [] cs xs ≡ 0) (light_voice bars ts) fits.leave;
  }

  lighter_derivation : (p : Performance) (channel : ℕ) → HasDerivation g p channel → HasDerivation (unweighted g) p channel
  lighter_derivation p channel h = (h.0, h.1, h.2, h.3, lighter _ _ h.1 h.4)

  heavier_derivation : (p : Performance) (channel : ℕ) → HasDerivation (unweighted g) p channel → HasDerivation g p channel
  heavier_derivation p channel h = (h.0, h.1, h.2, h.3, heavier _ _ h.1 h.4)

-- ---- two grammars

to : (g h : Grammar) → unweighted g ≡ unweighted h → (p : Performance) (channel : ℕ) → HasDerivation g p channel → HasDerivation h p channel
to g h same p channel d = heavier_derivation h p channel (subst (λ (k : Grammar). HasDerivation k p channel) same (lighter_derivation g p channel d))

fit_to : (g h : Grammar) → unweighted g ≡ unweighted h → (bars : List VoiceBar) (cs : List Inner) (ts : List Tree) → FitsVoice g bars cs ts → FitsVoice h bars cs ts
fit_to g h same bars cs ts fits = heavier h bars cs ts (subst (λ (k : Grammar). FitsVoice k bars cs ts) same (lighter g bars cs ts fits))

starts_to : (g h : Grammar) → unweighted g ≡ unweighted h → (bars : List Bar) → HasStarts g bars → HasStarts h bars
starts_to g h same bars starts = subst (λ (k : Grammar). HasStarts k bars) same starts

pub same_derivations : WeightsDecideNoDerivation
same_derivations g h same = record {
  fits = λ bars cs ts. (fit_to g h same bars cs ts, fit_to h g (sym same) bars cs ts);
  starts = λ bars. (starts_to g h same bars, starts_to h g (sym same) bars);
  voices = λ p channel. (to g h same p channel, to h g (sym same) p channel);
}
