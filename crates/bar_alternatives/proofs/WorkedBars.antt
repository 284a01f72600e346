-- A bar of four quarters, evaluated: its best tree, and the second, whose last quarter is tied of two eighths.
use Rattle.std.proofs.Common.{ℕ, List, [], ◌∷◌, refl, arith}
use Rattle.std.specs.Prelude.{None, Option, Some}
use Rattle.rhythm_base.specs.declared.rule.Body.{Body}
use Rattle.rhythm_base.specs.declared.rule.Body.TheVariants.{Split, Note, Short, Tie, Rest, Grace}
use Rattle.rhythm_base.specs.declared.rule.Rule.{Rule}
use Rattle.tree_laws.specs.Alternatives.{IsEarlier}
use Rattle.rhythm_base.specs.BarInput.{BarInput}
use Rattle.rhythm_base.specs.Forest.{Forest, Tree, none, more}
use Rattle.rhythm_base.specs.Grammar.{Grammar}
use Rattle.rhythm_base.specs.Shape.{end, part}
use Rattle.bar_alternatives.specs.BestTrees.{IsLookedAt, unpinned}

abbrev rule : ℕ → ℕ → Body → Rule
rule lhs weight body = record { lhs = lhs; weight = weight; body = body }

-- a bar is cut into halves, these into quarters, and these into eighths
abbrev quarters : Grammar
quarters = record {
  version = 1;
  resolution = 8;
  window = 0;
  early = 1;
  late = 1;
  names = [];
  starts = [];
  rules =
      rule 0 10 Note ∷ rule 0 10 Tie ∷ rule 0 5 Rest ∷ rule 0 20 (Split (1 ∷ 1 ∷ [])) ∷ rule 1 10 Note ∷ rule 1 10 Tie ∷ rule 1 10 Rest ∷ rule 1 20 (Split (2 ∷ 2 ∷ []))
      ∷ rule 2 10 Note ∷ rule 2 15 Short ∷ rule 2 10 Tie ∷ rule 2 10 Rest ∷ rule 2 40 (Split (3 ∷ 3 ∷ [])) ∷ rule 3 10 Note ∷ rule 3 20 Short ∷ rule 3 10 Tie ∷ rule 3 10 Rest ∷ rule 3 60 (Grace 1) ∷ [];
}

-- four quarters, and a pin that demands two halves
abbrev four : BarInput
four = record {
  symbol = 0;
  resolution = 8;
  num = 4;
  den = 4;
  length = 1920;
  chords =
      record { onset = 0; end = 480 } ∷ record { onset = 480; end = 960 } ∷ record { onset = 960; end = 1440 } ∷ record { onset = 1440; end = 1920 } ∷ [];
  before = 0;
  pin = Some (part end (part end end));
}

abbrev alone : List (Option ℕ)
alone = Some 0 ∷ None ∷ None ∷ None ∷ None ∷ []

abbrev half : Forest → Forest → Forest
half last rest = more 7 (more 8 none last) rest

abbrev plain : Tree
plain = record { rule = 3; kids = half (more 8 none none) (half (more 8 none none) none) }

abbrev tied : Tree
tied = record { rule = 3; kids = half (more 8 none none) (half (more 12 (more 13 none (more 15 none none)) none) none) }

plain-is : IsLookedAt quarters (unpinned four) alone alone (100, plain)
plain-is = record {
  from = 0;
  to = 0;
  fits = record { tree = refl; leave = refl; leaves = refl; few_from = omega arith; few_to = omega arith };
  first = 0;
  last = 0;
  there_before = refl;
  there_after = refl;
  total = refl;
}

tied-is : IsLookedAt quarters (unpinned four) alone alone (150, tied)
tied-is = record {
  from = 0;
  to = 0;
  fits = record { tree = refl; leave = refl; leaves = refl; few_from = omega arith; few_to = omega arith };
  first = 0;
  last = 0;
  there_before = refl;
  there_after = refl;
  total = refl;
}

plain-first : IsEarlier (100, plain) (150, tied)
plain-first = refl
