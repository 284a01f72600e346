-- The answer: the script to the barlines that are chosen, where its lines are accepted; else nothing.
use Rattle.std.proofs.Common.{◌≡◌, inl, inr, ℕ, ◌+◌, ◌-◌, ◌*◌, ◌≤◌, true, false, List, [], ◌∷◌, ◌++◌, length, map, max, replicate, refl, ap, sym, ◌∙◌, subst, arith}
use Rattle.std.specs.Prelude.{All, Option, Some, filter, nat_le, nat_lt, reverse, if◌then◌else◌}
use Rattle.std.specs.Int.{div_ceil}
use Rattle.std.specs.List.{flat_map, fold, range_with_len}
use Rattle.std.proofs.lemmas.Bool.Decides.{nat_tests}
use Rattle.std.proofs.lemmas.List.{append-nil}
use Rattle.std.proofs.lemmas.List.Elements.{All-append, All-map, All-nil, All-replicate}
use Rattle.rhythm_base.specs.declared.edit.Edit.{Edit}
use Rattle.rhythm_base.specs.declared.edit.Edit.TheVariants.{AddBar, DropBar}
use Rattle.rhythm_base.specs.Grammar.{Grammar}
use Rattle.rhythm_base.specs.Lists.{gap, last_end}
use Rattle.rhythm_base.specs.Performance.{Performance}
use Rattle.rhythm_base.specs.Voices.{IsCostOf}
use Rattle.barline_follow.specs.Answer.{IsAnswer, chosen}
use Rattle.barline_follow.specs.Bars.{barlines_of}
use Rattle.barline_follow.specs.Barring.{Barring, barring_value}
use Rattle.barline_follow.specs.Rounds.{IsBest}
use Rattle.barline_follow.specs.Script.{IsOfBars, Leads, first_barlines, further, last_bar, last_barlines, lengthened, pace, script}
use Rattle.barline_follow.specs.Stages.{Shift, aims, all_stages, farthest, is_earlier, is_later, shift_line, paired, shifts, stage, stage_count, stage_lines}

-- ---- the lines of a script are edits of bars

lines_of_bars : (ss : List Shift) → All IsOfBars (map shift_line ss)
lines_of_bars ss = All-map IsOfBars shift_line ss (λ k d lt. tt)

stages_of_bars : (stages : ℕ) (ticks goal : List ℕ) (ks : List ℕ) → All IsOfBars (flat_map (stage_lines stages ticks goal) ks)
stages_of_bars stages ticks goal [] = All-nil IsOfBars
stages_of_bars stages ticks goal (k ∷ ks) =
    let from : List ℕ = aims stages k ticks goal in
    let to : List ℕ = aims stages (k + 1) ticks goal in
    All-append IsOfBars (stage from to) (flat_map (stage_lines stages ticks goal) ks)
    (All-append IsOfBars (map shift_line (reverse (filter is_later (shifts 0 from to)))) (map shift_line (filter is_earlier (shifts 0 from to)))
    (lines_of_bars (reverse (filter is_later (shifts 0 from to)))) (lines_of_bars (filter is_earlier (shifts 0 from to))))
    (stages_of_bars stages ticks goal ks)

pub of_bars : (p : Performance) (goal : List ℕ) → All IsOfBars (script p goal)
of_bars p goal =
    let first : List ℕ = first_barlines p goal in
    let last : List ℕ = last_barlines p goal in
    let stages : ℕ = stage_count (pace p) first last in
    let drops : List Edit = replicate (length (barlines_of p) - length goal) DropBar in
    All-append IsOfBars (replicate (length goal - length (barlines_of p)) AddBar) (all_stages stages first last ++ drops)
    (All-replicate IsOfBars (length goal - length (barlines_of p)) AddBar tt)
    (All-append IsOfBars (all_stages stages first last) drops (stages_of_bars stages first last (range_with_len 0 stages))
    (All-replicate IsOfBars (length (barlines_of p) - length goal) DropBar tt))

-- ---- the script to the barlines that are there

no_gap : (a : ℕ) (xs : List ℕ) → fold (λ n m. max n m) a (paired gap xs xs) ≡ a
no_gap a [] = refl
no_gap a (x ∷ xs) =
    let none : max a (gap x x) ≡ a = omega arith in
    ap (λ b. fold (λ n m. max n m) b (paired gap xs xs)) none ∙ no_gap a xs

no_more : (bar count : ℕ) (ticks : List ℕ) → count ≡ length ticks → lengthened bar count ticks ≡ ticks
no_more bar count ticks is =
    let none : count - length ticks ≡ 0 = omega (arith, is) in
    ap (λ n. ticks ++ further bar (last_end 0 ticks) n) none ∙ append-nil ticks

no_stage : (bar : ℕ) (xs : List ℕ) → 1 ≤ bar → stage_count bar xs xs ≡ 0
no_stage bar xs some =
    let far : farthest xs xs ≡ 0 = no_gap 0 xs in
    ap (λ n. div_ceil n bar) far ∙ none bar some
  where
    none : (bar : ℕ) → 1 ≤ bar → div_ceil 0 bar ≡ 0
    none bar some = omega (arith, some)

pub no_script : (p : Performance) → script p (barlines_of p) ≡ []
no_script p =
    let old : List ℕ = barlines_of p in
    let same : length old - length old ≡ 0 = omega arith in
    let first : first_barlines p old ≡ old = no_more (last_bar p) (length old) old refl in
    let stages : all_stages (stage_count (pace p) (first_barlines p old) (last_barlines p old)) (first_barlines p old) (last_barlines p old) ≡ [] =
    ap (λ l. all_stages (stage_count (pace p) l l) l l) first ∙ ap (λ n. all_stages n old old) (no_stage (pace p) old (omega arith)) in
    (λ i. replicate (same i) AddBar ++ (stages i ++ replicate (same i) DropBar))

-- ---- answers

module _ (g : Grammar) (p : Performance) (best : Option Barring) (cost : ℕ) (is_best : IsBest g p best) (is_cost : IsCostOf g p cost) where
  pub kept : chosen p cost best ≡ barlines_of p → IsAnswer g p []
  kept is = (
    barlines_of p,
    (best, cost, is_best, is_cost, sym is),
    inl (p, subst (λ (l : List Edit). Leads g p l p) (sym (no_script p)) refl, sym (no_script p)),
  )

  pub accepted : (ticks : List ℕ) (after : Performance) → chosen p cost best ≡ ticks → Leads g p (script p ticks) after → IsAnswer g p (script p ticks)
  accepted ticks after is leads = (ticks, (best, cost, is_best, is_cost, sym is), inl (after, leads, refl))

  pub refused : (ticks : List ℕ) → chosen p cost best ≡ ticks → ((after : Performance) → Leads g p (script p ticks) after → ⊥) → IsAnswer g p []
  refused ticks is never = (ticks, (best, cost, is_best, is_cost, sym is), inr (never, refl))

-- ---- what is chosen

pub chosen_best : (p : Performance) (before : ℕ) (b : Barring) → nat_le (10 * (b.cost + b.prices)) (7 * before) ≡ true → chosen p before (Some b) ≡ b.ticks
chosen_best p before b is =
    let test : nat_lt (7 * before) (10 * barring_value b) ≡ false = grind (arith, nat_tests, is) in
    ap (λ t. if t then barlines_of p else b.ticks) test

pub chosen_old : (p : Performance) (before : ℕ) (b : Barring) → nat_le (10 * (b.cost + b.prices)) (7 * before) ≡ false → chosen p before (Some b) ≡ barlines_of p
chosen_old p before b is =
    let test : nat_lt (7 * before) (10 * barring_value b) ≡ true = grind (arith, nat_tests, is) in
    ap (λ t. if t then barlines_of p else b.ticks) test
