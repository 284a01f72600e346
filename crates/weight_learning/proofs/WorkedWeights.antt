-- Learned weights of two small grammars, evaluated. In the first grammar each symbol has one rule; the second has four symbols,
-- of which the last is not used.
use Rattle.std.proofs.Common.{◌≡◌, ℕ, List, [], ◌∷◌, map, refl}
use Rattle.rhythm_base.specs.declared.rule.Body.{Body}
use Rattle.rhythm_base.specs.declared.rule.Body.TheVariants.{Split, Note, Short, Tie, Rest, Grace}
use Rattle.rhythm_base.specs.declared.rule.Rule.{Rule}
use Rattle.weight_learning.specs.Learned.{learned_rules}
use Rattle.weight_learning.specs.Shares.{share}
use Rattle.weight_learning.specs.Steps.{steps}
use Rattle.weight_learning.specs.Thresholds.{threshold}

abbrev rule : ℕ → ℕ → Body → Rule
rule lhs weight body = record { lhs = lhs; weight = weight; body = body }

-- the weights afterwards, where a halving costs 17
abbrev weights_of : List Rule → List ℕ → List ℕ
weights_of rules counts = map (λ (r : Rule). r.weight) (learned_rules 17 rules counts)

-- ---- logarithms and shares

logarithms : map steps (1 ∷ 2 ∷ 3 ∷ 9081 ∷ 24575 ∷ 4633242347 ∷ []) ≡ 0 ∷ 64 ∷ 101 ∷ 841 ∷ 933 ∷ 2055 ∷ []
unfolding steps
logarithms = refl

shares : map share (0 ∷ 1 ∷ 37 ∷ 64 ∷ 640 ∷ 1983 ∷ 1984 ∷ []) ≡ 2147483648 ∷ 2124350982 ∷ 1438457051 ∷ 1073741824 ∷ 2097152 ∷ 1 ∷ 0 ∷ []
unfolding share threshold
shares = refl

-- ---- one rule a symbol

abbrev cuts : List Rule
cuts = rule 0 0 (Split (1 ∷ 1 ∷ [])) ∷ rule 1 0 (Split (2 ∷ 2 ∷ [])) ∷ rule 2 0 Note ∷ []

nothing : weights_of cuts (1 ∷ 2 ∷ 4 ∷ []) ≡ 0 ∷ 0 ∷ 0 ∷ []
unfolding steps share threshold
nothing = refl

-- ---- four symbols, of which the last is not used

abbrev bars : List Rule
bars =
    rule 0 10 Note ∷ rule 0 10 Tie ∷ rule 0 5 Rest ∷ rule 0 20 (Split (1 ∷ 1 ∷ []))
    ∷ rule 1 10 Note ∷ rule 1 10 Tie ∷ rule 1 10 Rest ∷ rule 1 20 (Split (2 ∷ 2 ∷ []))
    ∷ rule 2 10 Note ∷ rule 2 15 Short ∷ rule 2 10 Tie ∷ rule 2 10 Rest ∷ rule 2 40 (Split (3 ∷ 3 ∷ []))
    ∷ rule 3 10 Note ∷ rule 3 20 Short ∷ rule 3 10 Tie ∷ rule 3 10 Rest ∷ rule 3 60 (Grace 1) ∷ []

-- one bar in quarters
once : weights_of bars (0 ∷ 0 ∷ 0 ∷ 1 ∷ 0 ∷ 0 ∷ 0 ∷ 2 ∷ 4 ∷ 0 ∷ 0 ∷ 0 ∷ 0 ∷ 0 ∷ 0 ∷ 0 ∷ 0 ∷ 0 ∷ [])
    ≡ 34 ∷ 34 ∷ 29 ∷ 38 ∷ 34 ∷ 34 ∷ 34 ∷ 33 ∷ 24 ∷ 44 ∷ 39 ∷ 39 ∷ 69 ∷ 10 ∷ 20 ∷ 10 ∷ 10 ∷ 60 ∷ []
unfolding steps share threshold
once = refl

-- and the same bar twice
twice : weights_of bars (0 ∷ 0 ∷ 0 ∷ 2 ∷ 0 ∷ 0 ∷ 0 ∷ 4 ∷ 8 ∷ 0 ∷ 0 ∷ 0 ∷ 0 ∷ 0 ∷ 0 ∷ 0 ∷ 0 ∷ 0 ∷ [])
    ≡ 35 ∷ 35 ∷ 30 ∷ 34 ∷ 36 ∷ 36 ∷ 36 ∷ 28 ∷ 19 ∷ 47 ∷ 42 ∷ 42 ∷ 72 ∷ 10 ∷ 20 ∷ 10 ∷ 10 ∷ 60 ∷ []
unfolding steps share threshold
twice = refl
