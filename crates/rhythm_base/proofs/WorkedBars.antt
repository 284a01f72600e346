-- Worked bars, computed by the definitions: what fits, what it costs, and that nothing that fits is earlier.
use Rattle.std.specs.Prelude.{◌≡◌, ℕ, Bool, true, false, ◌&&◌, ◌==◌, not, List, [], ◌∷◌, ◌++◌, length, map, filter, slice_get, refl, None}
use Rattle.std.proofs.Common.{zero, suc}
use Rattle.std.specs.List.{list_all, flat_map}
use Rattle.std.specs.Ordering.{is_lt}
use Rattle.std.specs.declared.cmp.Ordering.TheVariants.{Less}
use Rattle.rhythm_base.specs.declared.rule.Rule.{Rule}
use Rattle.rhythm_base.specs.declared.rule.Body.TheVariants.{Split, Parts, Note, Short, Tie, Rest, Grace}
use Rattle.rhythm_base.specs.Cells.{input, cell_cost}
use Rattle.rhythm_base.specs.Cost.{cost, sequence_of}
use Rattle.rhythm_base.specs.Forest.{Forest, none, more, Tree}
use Rattle.rhythm_base.specs.Leaves.{VoiceBar, are_bars, voice_leaves, looks}
use Rattle.rhythm_base.specs.Least.{rank_of, rank_cmp}
use Rattle.rhythm_base.specs.declared.inner.Inner.{Inner}
use Rattle.rhythm_base.specs.Line.{agree, past}
use Rattle.rhythm_base.specs.Grammar.{Grammar}
use Rattle.rhythm_base.specs.Trees.{children_of, suits}

-- a grammar by its resolution, its weights of early and late onsets, and its rules
abbrev book : ℕ → ℕ → ℕ → List Rule → Grammar
book resolution early late rules = record {
  version = 1;
  resolution = resolution;
  window = 0;
  early = early;
  late = late;
  names = [];
  starts = [];
  rules = rules;
}

-- a bar of 4/4 with 480 ticks to the quarter
abbrev bar_at : ℕ → VoiceBar
bar_at b = record { start = b; length = 1920; num = 4; den = 4; symbol = 0; pin = None }

abbrev one_bar : List VoiceBar
one_bar = bar_at 0 ∷ []

abbrev two_bars : List VoiceBar
two_bars = bar_at 0 ∷ bar_at 1920 ∷ []

abbrev chord : ℕ → ℕ → Inner
chord onset end = record { onset = onset; end = end }

abbrev leaf : ℕ → Forest → Forest
leaf r rest = more r none rest

abbrev tree : ℕ → Forest → Tree
tree r kids = record { rule = r; kids = kids }

-- the trees fit the bars as a whole voice
abbrev fits : Grammar → List VoiceBar → List Inner → List Tree → Bool
fits g bars cs ts =
    are_bars g bars ts
    && (agree (looks g.resolution) [] [] cs (voice_leaves g bars ts) && (past (looks g.resolution) [] cs (voice_leaves g bars ts) == 0))

-- ---- all trees of one bar, to see that the least is the least

abbrev below : ℕ → List ℕ
below zero = []
below (suc n) = below n ++ n ∷ []

abbrev every_forest : ℕ → List Rule → List (ℕ × ℕ) → List Forest
every_forest zero rules parts = []
every_forest (suc n) rules [] = none ∷ []
every_forest (suc n) rules (q ∷ qs) =
    flat_map
    (λ r. flat_map (λ kids. map (λ rest. more r kids rest) (every_forest n rules qs))
    (every_forest n rules (children_of (slice_get rules r) q.0)))
    (filter (λ r. suits (slice_get rules r) q) (below (length rules)))

abbrev trees_of : Forest → List Tree
trees_of none = []
trees_of (more r kids rest) = tree r kids ∷ trees_of rest

-- of all trees of the bar that fit, none is earlier
abbrev is_least : Grammar → List Inner → Tree → Bool
is_least g cs t =
    fits g one_bar cs (t ∷ [])
    && list_all
    (λ f. not (is_lt (rank_cmp (rank_of g one_bar cs (trees_of f)) (rank_of g one_bar cs (t ∷ [])))))
    (filter (λ f. fits g one_bar cs (trees_of f)) (every_forest 8 g.rules ((g.resolution, 0) ∷ [])))

-- ---- four quarters

abbrev quarters_only : Grammar
quarters_only = book 4 1 1
    (record { lhs = 0; weight = 0; body = Split (1 ∷ 1 ∷ []) } ∷ record { lhs = 1; weight = 0; body = Split (2 ∷ 2 ∷ []) } ∷ record { lhs = 2; weight = 0; body = Note } ∷ [])

abbrev four_chords : List Inner
four_chords = chord 0 480 ∷ chord 480 960 ∷ chord 960 1440 ∷ chord 1440 1920 ∷ []

abbrev four_quarters : Tree
four_quarters = tree 0 (more 1 (leaf 2 (leaf 2 none)) (more 1 (leaf 2 (leaf 2 none)) none))

four_quarters-least : is_least quarters_only four_chords four_quarters ≡ true
four_quarters-least = refl

four_quarters-cost : cost quarters_only one_bar four_chords (four_quarters ∷ []) ≡ 0
four_quarters-cost = refl

four_quarters-sequence : sequence_of (four_quarters ∷ []) ≡ 0 ∷ 1 ∷ 2 ∷ 2 ∷ 1 ∷ 2 ∷ 2 ∷ []
four_quarters-sequence = refl

-- ---- an onset exactly in a leaf's middle goes left, one tick later it goes right

abbrev halves : Grammar
halves = book 2 1 1
    (record { lhs = 0; weight = 0; body = Split (1 ∷ 1 ∷ []) } ∷ record { lhs = 1; weight = 0; body = Note } ∷ record { lhs = 1; weight = 0; body = Rest }
    ∷ record { lhs = 1; weight = 0; body = Tie } ∷ record { lhs = 1; weight = 0; body = Short } ∷ [])

abbrev note_then_tie : Tree
note_then_tie = tree 0 (leaf 1 (leaf 3 none))

abbrev rest_then_note : Tree
rest_then_note = tree 0 (leaf 2 (leaf 1 none))

middle_goes_left : is_least halves (chord 480 1920 ∷ []) note_then_tie ≡ true
middle_goes_left = refl

middle_goes_left-cost : cost halves one_bar (chord 480 1920 ∷ []) (note_then_tie ∷ []) ≡ 960
middle_goes_left-cost = refl

middle_not_right : fits halves one_bar (chord 480 1920 ∷ []) (rest_then_note ∷ []) ≡ false
middle_not_right = refl

later_goes_right : is_least halves (chord 481 1920 ∷ []) rest_then_note ≡ true
later_goes_right = refl

later_goes_right-cost : cost halves one_bar (chord 481 1920 ∷ []) (rest_then_note ∷ []) ≡ 958
later_goes_right-cost = refl

later_not_left : fits halves one_bar (chord 481 1920 ∷ []) (note_then_tie ∷ []) ≡ false
later_not_left = refl

-- ---- a usual grammar: bars, halves, quarters and eighths

abbrev usual : Grammar
usual = book 8 1 1
    (record { lhs = 0; weight = 10; body = Note } ∷ record { lhs = 0; weight = 10; body = Tie } ∷ record { lhs = 0; weight = 5; body = Rest }
    ∷ record { lhs = 0; weight = 20; body = Split (1 ∷ 1 ∷ []) } ∷ record { lhs = 1; weight = 10; body = Note } ∷ record { lhs = 1; weight = 10; body = Tie }
    ∷ record { lhs = 1; weight = 10; body = Rest } ∷ record { lhs = 1; weight = 20; body = Split (2 ∷ 2 ∷ []) } ∷ record { lhs = 2; weight = 10; body = Note }
    ∷ record { lhs = 2; weight = 15; body = Short } ∷ record { lhs = 2; weight = 10; body = Tie } ∷ record { lhs = 2; weight = 10; body = Rest }
    ∷ record { lhs = 2; weight = 40; body = Split (3 ∷ 3 ∷ []) } ∷ record { lhs = 3; weight = 10; body = Note } ∷ record { lhs = 3; weight = 20; body = Short }
    ∷ record { lhs = 3; weight = 10; body = Tie } ∷ record { lhs = 3; weight = 10; body = Rest } ∷ record { lhs = 3; weight = 60; body = Grace 1 } ∷ [])

-- a note 20 ticks before the barline is carried over it: a bar of rest, then a half and a half of rest

abbrev before_barline : List Inner
before_barline = chord 1900 2400 ∷ []

abbrev whole_rest : Tree
whole_rest = tree 2 none

abbrev half_and_rest : Tree
half_and_rest = tree 3 (leaf 4 (leaf 6 none))

carried_over-fits : fits usual two_bars before_barline (whole_rest ∷ half_and_rest ∷ []) ≡ true
carried_over-fits = refl

-- 40 of it for the displacement, in the first bar
carried_over-cost : cost usual two_bars before_barline (whole_rest ∷ half_and_rest ∷ []) ≡ 85
carried_over-cost = refl

carried_over-first_cost : cell_cost usual (input usual (bar_at 0) before_barline) whole_rest ≡ 45
carried_over-first_cost = refl

carried_over-second_cost : cell_cost usual (input usual (bar_at 1920) before_barline) half_and_rest ≡ 40
carried_over-second_cost = refl

-- it leaves the first bar, so that bar by itself is no voice, and the second bar alone has no chord
carried_over-leaves : past (looks 8) [] before_barline (voice_leaves usual one_bar (whole_rest ∷ [])) ≡ 1
carried_over-leaves = refl

carried_over-not_kept : fits usual two_bars before_barline (tree 0 none ∷ half_and_rest ∷ []) ≡ false
carried_over-not_kept = refl

-- two onsets 21 ticks apart: a grace note, and a chord whose ties go on to the bar's end

abbrev close_onsets : List Inner
close_onsets = chord 0 1920 ∷ chord 21 1920 ∷ []

abbrev grace_and_ties : Tree
grace_and_ties = tree 3 (more 7 (more 12 (leaf 17 (leaf 15 none)) (leaf 10 none)) (leaf 5 none))

grace_and_ties-fits : fits usual one_bar close_onsets (grace_and_ties ∷ []) ≡ true
grace_and_ties-fits = refl

grace_and_ties-cost : cost usual one_bar close_onsets (grace_and_ties ∷ []) ≡ 212
grace_and_ties-cost = refl

-- without the grace note the first leaf would have two chords
one_leaf_one_chord : fits usual one_bar close_onsets (tree 0 none ∷ []) ≡ false
one_leaf_one_chord = refl

-- ---- at equal cost the first in rule order

abbrev two_or_three : Grammar
two_or_three = book 6 1 1
    (record { lhs = 0; weight = 0; body = Split (1 ∷ 1 ∷ []) } ∷ record { lhs = 0; weight = 0; body = Split (2 ∷ 2 ∷ 2 ∷ []) }
    ∷ record { lhs = 1; weight = 0; body = Note } ∷ record { lhs = 1; weight = 0; body = Tie }
    ∷ record { lhs = 2; weight = 0; body = Note } ∷ record { lhs = 2; weight = 0; body = Tie } ∷ [])

abbrev one_chord : List Inner
one_chord = chord 0 1920 ∷ []

abbrev in_two : Tree
in_two = tree 0 (leaf 2 (leaf 3 none))

abbrev in_three : Tree
in_three = tree 1 (leaf 4 (leaf 5 (leaf 5 none)))

in_three-fits : fits two_or_three one_bar one_chord (in_three ∷ []) ≡ true
in_three-fits = refl

equal_costs : cost two_or_three one_bar one_chord (in_three ∷ []) ≡ cost two_or_three one_bar one_chord (in_two ∷ [])
equal_costs = refl

first_in_order : rank_cmp (rank_of two_or_three one_bar one_chord (in_two ∷ [])) (rank_of two_or_three one_bar one_chord (in_three ∷ [])) ≡ Less
first_in_order = refl

in_two-least : is_least two_or_three one_chord in_two ≡ true
in_two-least = refl

-- ---- unequal parts, and early and late onsets by their own weights

abbrev dotted : Grammar
dotted = book 4 3 1 (record { lhs = 0; weight = 0; body = Parts ((3, 1) ∷ (1, 1) ∷ []) } ∷ record { lhs = 1; weight = 0; body = Note } ∷ [])

abbrev three_and_one : Tree
three_and_one = tree 0 (leaf 1 (leaf 1 none))

on_time : is_least dotted (chord 0 1440 ∷ chord 1440 1920 ∷ []) three_and_one ≡ true
on_time = refl

on_time-cost : cost dotted one_bar (chord 0 1440 ∷ chord 1440 1920 ∷ []) (three_and_one ∷ []) ≡ 0
on_time-cost = refl

late-cost : cost dotted one_bar (chord 0 1440 ∷ chord 1460 1920 ∷ []) (three_and_one ∷ []) ≡ 40
late-cost = refl

early-fits : fits dotted one_bar (chord 0 1400 ∷ chord 1420 1920 ∷ []) (three_and_one ∷ []) ≡ true
early-fits = refl

early-cost : cost dotted one_bar (chord 0 1400 ∷ chord 1420 1920 ∷ []) (three_and_one ∷ []) ≡ 120
early-cost = refl

-- ---- five onsets that no derivation takes: no leaf takes more than four

abbrev quarters_with_graces : Grammar
quarters_with_graces = book 4 1 1
    (record { lhs = 0; weight = 0; body = Split (1 ∷ 1 ∷ 1 ∷ 1 ∷ []) } ∷ record { lhs = 1; weight = 0; body = Note } ∷ record { lhs = 1; weight = 0; body = Rest }
    ∷ record { lhs = 1; weight = 0; body = Tie } ∷ record { lhs = 1; weight = 0; body = Short } ∷ record { lhs = 1; weight = 5; body = Grace 2 } ∷ [])

abbrev three_near : List Inner
three_near = chord 400 440 ∷ chord 440 480 ∷ chord 480 960 ∷ []

abbrev with_graces : Tree
with_graces = tree 0 (leaf 2 (leaf 5 (leaf 2 (leaf 2 none))))

with_graces-least : is_least quarters_with_graces three_near with_graces ≡ true
with_graces-least = refl

with_graces-cost : cost quarters_with_graces one_bar three_near (with_graces ∷ []) ≡ 245
with_graces-cost = refl

abbrev five_near : List Inner
five_near = chord 400 410 ∷ chord 420 430 ∷ chord 440 450 ∷ chord 460 470 ∷ chord 480 490 ∷ []

five_near-none : filter (λ f. fits quarters_with_graces one_bar five_near (trees_of f)) (every_forest 8 quarters_with_graces.rules ((4, 0) ∷ [])) ≡ []
five_near-none = refl
