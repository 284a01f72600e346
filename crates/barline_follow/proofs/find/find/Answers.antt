use Rattle.std.proofs.Common.{◌≡◌, ◌+◌, ◌≤◌, ◌^◌, ℕ, true, false, List, [], length, map, refl, ap, ap₂, sym, subst, ◌∙◌, arith}
use Rattle.std.specs.Prelude.{All, Option, Some, None, nat_le}
use Rattle.std.specs.List.{zip}
use Rattle.std.proofs.lemmas.Bool.Decides.{nat_tests}
use Rattle.least_cost.specs.declared.costs.BarCosts.{BarCosts}
use Rattle.barline_follow.specs.declared.heads.Heads.{Heads}
use Rattle.barline_follow.specs.Barring.{Barring, Course, barring_end}
use Rattle.barline_follow.specs.Costs.{AreLowHeads, costs_with_bar, total}
use Rattle.barline_follow.specs.NextBars.{IsCourseOf, asked_cells}
use Rattle.barline_follow.specs.Rounds.{IsFound, at_cost, going, whole, with_bar}
use Rattle.barline_follow.proofs.BarCosts.{all_low_bars}
use Rattle.barline_follow.proofs.Finding.{few_heads, fits, heads_low, is_going, is_lost, is_course, is_whole, longer_low}
use Rattle.rhythm_base.proofs.OrderedLists.{all_cons}
use Rattle.std.proofs.lemmas.List.Elements.{All-nil}
use Rattle.barline_follow.proofs.find.find.Goals as goal

abbrev costs_of : Heads → List (Option ℕ)
costs_of h = h.costs

abbrev longer_costs : Heads × BarCosts → List (Option ℕ)
longer_costs pair = costs_with_bar pair.0.costs pair.1.costs

no_cost : (o : Option ℕ) → ((c : ℕ) → o ≡ Some c → ⊥) → o ≡ None
no_cost None h = refl
no_cost (Some c) h = absurd (h c refl)

pub heads_with-requires-clause-low_bars : goal.heads_with-requires-clause-low_bars
heads_with-requires-clause-low_bars c =
    all_low_bars c.args.next.now.grammar.now (asked_cells c.args.next.now c.args.course.now c.args.offer) c.args.costs.now c.requires.costs

pub heads_with-requires-clause-low : goal.heads_with-requires-clause-low
heads_with-requires-clause-low c =
    subst (λ (l : List Heads). All AreLowHeads l) (sym c.heads.ensures)
    (heads_low c.args.next.now c.requires.next c.args.course.now c.requires.course c.args.offer c.requires.tried)

pub total-requires-clause-few : goal.total-requires-clause-few
total-requires-clause-few c =
    let are = c.in_ok-heads.ensures ∙ ap (λ (l : List Heads). map longer_costs (zip l c.args.costs.now)) c.heads.ensures in
    subst (λ (l : List Heads). length l ≤ 16) (sym c.as_slice.ensures.value)
    (few_heads c.args.next.now c.requires.next c.args.course.now c.requires.course c.args.offer c.requires.tried c.args.costs.now c.in_ok-heads.heads.items c.requires.costs are)

pub total-requires-clause-low : goal.total-requires-clause-low
total-requires-clause-low c =
    let are = c.in_ok-heads.ensures ∙ ap (λ (l : List Heads). map longer_costs (zip l c.args.costs.now)) c.heads.ensures in
    subst (λ (l : List Heads). All AreLowHeads l) (sym c.as_slice.ensures.value)
    (longer_low c.args.next.now c.requires.next c.args.course.now c.requires.course c.args.offer c.requires.tried c.args.costs.now c.in_ok-heads.heads.items c.requires.costs are)

pub longer-requires-clause-low : goal.longer-requires-clause-low
longer-requires-clause-low c =
    let are = c.in_ok-heads.ensures ∙ ap (λ (l : List Heads). map longer_costs (zip l c.args.costs.now)) c.heads.ensures in
    let low : c.in-Some.cost ≤ 2 ^ 56 = c.in-Some.ensures.low c.in-Some.cost refl in
    let fit = fits c.args.next.now c.requires.next c.args.course.now c.requires.course c.args.offer c.requires.tried c.args.costs.now c.in_ok-heads.heads.items c.requires.costs are c.in-Some.cost low in
    omega (arith, fit, ap (λ (b : Barring). b.prices) c.barring-2.ensures)

pub returns-in_default-clause-found : goal.returns-in_default-clause-found
returns-in_default-clause-found c =
    let next = c.args.next.now in
    let are = c.in_ok-heads.ensures ∙ ap (λ (l : List Heads). map longer_costs (zip l c.args.costs.now)) c.heads.ensures in
    let end : c.end.result ≡ barring_end c.args.course.now.barring = c.end.ensures.value ∙ ap barring_end c.barring.ensures in
    let value = c.total.ensures.value
    ∙ ap₂ (λ (n : ℕ) (l : List Heads). total (nat_le next.closing (n + c.args.offer.ticks)) l) end c.as_slice.ensures.value in
    is_lost next c.requires.next c.args.course.now c.requires.course c.args.offer c.requires.tried c.args.costs.now c.in_ok-heads.heads.items c.requires.costs are
    (sym value ∙ no_cost c.total.result c.in_default.not-Some)

pub returns-then-is_closed-clause-found : goal.returns-then-is_closed-clause-found
returns-then-is_closed-clause-found c =
    let next = c.args.next.now in
    let are = c.in_ok-heads.ensures ∙ ap (λ (l : List Heads). map longer_costs (zip l c.args.costs.now)) c.heads.ensures in
    let end : c.end.result ≡ barring_end c.args.course.now.barring = c.end.ensures.value ∙ ap barring_end c.barring.ensures in
    let value = c.total.ensures.value
    ∙ ap₂ (λ (n : ℕ) (l : List Heads). total (nat_le next.closing (n + c.args.offer.ticks)) l) end c.as_slice.ensures.value in
    let closed : nat_le next.closing (barring_end c.args.course.now.barring + c.args.offer.ticks) ≡ true =
    let low = c.if-is_closed.true in grind (arith, nat_tests, low, end) in
    let cost : total true c.in_ok-heads.heads.items ≡ Some c.in-Some.cost = ap (λ b. total b c.in_ok-heads.heads.items) (sym closed) ∙ sym value ∙ c.in-Some.is in
    let made = c.in_ok-barring.ensures ∙ ap (λ (b : Barring). at_cost (with_bar b c.args.offer) c.in-Some.cost) c.barring-2.ensures in
    subst (λ (b : Barring). IsFound next.grammar.now next.performance.now (with_bar c.args.course.now.barring c.args.offer) (whole b)) (sym made)
    (is_whole next c.requires.next c.args.course.now c.requires.course c.args.offer c.requires.tried c.args.costs.now c.in_ok-heads.heads.items c.requires.costs are c.in-Some.cost closed cost)

pub returns-else-is_closed-clause-found : goal.returns-else-is_closed-clause-found
returns-else-is_closed-clause-found c =
    let next = c.args.next.now in
    let are = c.in_ok-heads.ensures ∙ ap (λ (l : List Heads). map longer_costs (zip l c.args.costs.now)) c.heads.ensures in
    let end : c.end.result ≡ barring_end c.args.course.now.barring = c.end.ensures.value ∙ ap barring_end c.barring.ensures in
    let value = c.total.ensures.value
    ∙ ap₂ (λ (n : ℕ) (l : List Heads). total (nat_le next.closing (n + c.args.offer.ticks)) l) end c.as_slice.ensures.value in
    let closed : nat_le next.closing (barring_end c.args.course.now.barring + c.args.offer.ticks) ≡ false =
    let high = c.if-is_closed.false in grind (arith, nat_tests, high, end) in
    let cost : total false c.in_ok-heads.heads.items ≡ Some c.in-Some.cost = ap (λ b. total b c.in_ok-heads.heads.items) (sym closed) ∙ sym value ∙ c.in-Some.is in
    let made = c.in_ok-barring.ensures ∙ ap (λ (b : Barring). at_cost (with_bar b c.args.offer) c.in-Some.cost) c.barring-2.ensures in
    let there : c.of.result.barring ≡ at_cost (with_bar c.args.course.now.barring c.args.offer) c.in-Some.cost = ap (λ (t : Course). t.barring) c.of.ensures ∙ made in
    subst (λ (b : Barring). IsFound next.grammar.now next.performance.now (with_bar c.args.course.now.barring c.args.offer) (going b)) (sym there)
    (is_going next c.requires.next c.args.course.now c.requires.course c.args.offer c.requires.tried c.args.costs.now c.in_ok-heads.heads.items c.requires.costs are c.in-Some.cost closed cost)

pub returns-else-is_closed-clause-going : goal.returns-else-is_closed-clause-going
returns-else-is_closed-clause-going c =
    let next = c.args.next.now in
    let are = c.in_ok-heads.ensures ∙ ap (λ (l : List Heads). map longer_costs (zip l c.args.costs.now)) c.heads.ensures in
    let made = c.in_ok-barring.ensures ∙ ap (λ (b : Barring). at_cost (with_bar b c.args.offer) c.in-Some.cost) c.barring-2.ensures in
    let there : c.of.result ≡ record { barring = at_cost (with_bar c.args.course.now.barring c.args.offer) c.in-Some.cost; heads = c.in_ok-heads.heads.items } =
    c.of.ensures ∙ ap (λ (b : Barring). record { barring = b; heads = c.in_ok-heads.heads.items }) made in
    all_cons (IsCourseOf next (next.number + 1)) c.of.result [] (subst (IsCourseOf next (next.number + 1)) (sym there)
    (is_course next c.requires.next c.args.course.now c.requires.course c.args.offer c.requires.tried c.args.costs.now c.in_ok-heads.heads.items c.requires.costs are c.in-Some.cost))
    (All-nil (IsCourseOf next (next.number + 1)))
