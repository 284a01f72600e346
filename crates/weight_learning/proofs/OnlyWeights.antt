-- Only weights are learned.
use Rattle.std.proofs.Common.{◌≡◌, ℕ, ◌≤◌, ◌<◌, List, [], ◌∷◌, length, get_or, map, refl, sym, ap, ap₂, ◌∙◌, subst, arith, lit≤}
use Rattle.std.specs.Prelude.{All, slice_index}
use Rattle.std.specs.List.{zip}
use Rattle.std.proofs.lemmas.List.{length-map}
use Rattle.std.proofs.lemmas.List.Elements.{All-map}
use Rattle.rhythm_base.specs.Grammar.{Grammar}
use Rattle.rhythm_base.specs.Readable.{AppearInOrder, IsBody, IsReadable}
use Rattle.rhythm_base.specs.declared.rule.Rule.{Rule}
use Rattle.weight_learning.specs.Learned.{CanLearn, learned, learned_rule, learned_rules, unweighted, without_weight}
use Rattle.weight_learning.specs.Laws.{OnlyWeightsAreLearned}
use Rattle.weight_learning.specs.Weights.{CountedRule}
use Rattle.weight_learning.proofs.CountedRules.{all_counted, length-counted}
use Rattle.weight_learning.proofs.LearnedWeights.{among_range}

-- what does not look at the change is the same
unchanged : {X : Type 0} (change : CountedRule → Rule) (look : Rule → X) → ((q : CountedRule) → look (change q) ≡ look q.0)
    → (rules : List Rule) (counts : List ℕ) → length counts ≡ length rules → map look (map change (zip rules counts)) ≡ map look rules
unchanged change look same [] counts all = refl
unchanged change look same (r ∷ rules) [] all = absurd (omega arith)
unchanged change look same (r ∷ rules) (c ∷ counts) all = ap₂ ◌∷◌ (same (r, c)) (unchanged change look same rules counts (omega arith))

module _ (g : Grammar) (counts : List ℕ) (bit : ℕ) (can : CanLearn g counts bit) where
  same : unweighted (learned g counts bit) ≡ unweighted g
  unfolding learned
  same =
      ap (λ (rules : List Rule). let h : Grammar = record g { rules = rules } in h)
      (unchanged (learned_rule bit g.rules counts) without_weight (λ q. refl) g.rules counts can.of_each)

  length-learned : length (learned_rules bit g.rules counts) ≡ length g.rules
  length-learned = length-map (zip g.rules counts) (learned_rule bit g.rules counts) ∙ length-counted g.rules counts can.of_each

  -- what holds of each rule, whatever it weighs
  all_learned : (P : Rule → Type 0) → ((i : ℕ) (d : Rule) → i < length g.rules → P (learned_rule bit g.rules counts (get_or g.rules i d, slice_index counts i))) → All P (learned_rules bit g.rules counts)
  all_learned P each =
      All-map P (learned_rule bit g.rules counts) (zip g.rules counts)
      (all_counted g.rules counts can.of_each (λ q. P (learned_rule bit g.rules counts q)) each)

  readable : IsReadable g → IsReadable (learned g counts bit)
  unfolding learned
  readable h = record {
    version = h.version;
    ranges = record {
      some_unit = h.ranges.some_unit;
      few_units = h.ranges.few_units;
      window = h.ranges.window;
      early = h.ranges.early;
      late = h.ranges.late;
      weights = all_learned (λ r. r.weight ≤ 1000000) (λ i d lt.
          let r : Rule = get_or g.rules i d in
          among_range bit g.rules counts r.lhs (r, slice_index counts i) 1000000 can.bit_range (lit≤ tt) (h.ranges.weights i d lt));
    };
    unequal_units = h.unequal_units;
    one_weight = h.one_weight;
    few_names = h.few_names;
    names_differ = h.names_differ;
    starts = h.starts;
    starts_differ = h.starts_differ;
    few_rules = subst (λ n. n ≤ 512) (sym length-learned) h.few_rules;
    bodies = all_learned (λ r. IsBody g.version (length g.names) r.body) (λ i d lt. h.bodies i d lt);
    left_sides = subst (λ sides. AppearInOrder 0 sides (length g.names))
        (sym (unchanged (learned_rule bit g.rules counts) (λ (r : Rule). r.lhs) (λ q. refl) g.rules counts can.of_each)) h.left_sides;
  }

pub only_weights : OnlyWeightsAreLearned
only_weights = record { same = same; readable = readable }
