use Rattle.std.proofs.Common.{rules, ◌≡◌, ◌+◌, ◌++◌, ℕ, List, subst, arith}
use Rattle.std.specs.Prelude.{filter}
use Rattle.std.specs.List.{flat_map, range_with_len}
use Rattle.barline_follow.specs.Bars.{bar_step, whole_bar}
use Rattle.barline_follow.specs.declared.offers.Offer.{Offer}
use Rattle.barline_follow.specs.Least.{AreFirstLeast}
use Rattle.barline_follow.specs.Offers.{in_tempo, is_offered, onset_weight, proposals, proposed, most_steps}
use Rattle.barline_follow.proofs.Offered.{rows_more}
use Rattle.barline_follow.proofs.offers.offers.Goals as goal

abbrev Are : List Offer → List Offer → Type 0
Are xs kept = AreFirstLeast (λ o. o.price) (λ o. o.ticks) xs kept

abbrev rows : ℕ → ℕ → ℕ → ℕ → ℕ → List Offer
rows weight whole tempo step n = filter (is_offered whole) (flat_map (proposed weight whole tempo step) (range_with_len 0 n))

pub steps-preserved : goal.steps-preserved
steps-preserved c =
    let weight = c.from-weight.result in
    let whole = c.whole_bar-whole.result in
    let tempo = c.in_tempo-tempo.result in
    let step = c.bar_step-step.result in
    let one = c.in_ok-keep_offered.ensures (rows weight whole tempo step c.steps.steps) c.steps.invariant in
    let all = subst (λ l. Are (rows weight whole tempo step c.steps.steps ++ filter (is_offered whole) l) c.keep_offered.new.offers.items) c.proposed-proposals.ensures one in
    subst (λ l. Are l c.keep_offered.new.offers.items) (rows_more (is_offered whole) (proposed weight whole tempo step) c.steps.steps) all

pub returns : goal.returns
returns c =
    let weight_is : c.from-weight.result ≡ onset_weight c.args.grammar.now = search rules in
    let whole_is : c.whole_bar-whole.result ≡ whole_bar c.args.performance.now c.args.number = c.whole_bar-whole.ensures.value in
    let tempo_is : c.in_tempo-tempo.result ≡ in_tempo c.args.performance.now c.args.number c.args.before = c.in_tempo-tempo.ensures.value in
    let step_is : c.bar_step-step.result ≡ bar_step c.args.performance.now c.args.number = c.bar_step-step.ensures.value in
    let reach_is : c.reach-steps-end.result ≡ most_steps c.args.number = c.reach-steps-end.ensures.value in
    let steps_are : c.steps.steps ≡ most_steps c.args.number + 1 = omega (arith, reach_is, c.steps-test.false, c.steps.auto.steps-end) in
    let all : rows c.from-weight.result c.whole_bar-whole.result c.in_tempo-tempo.result c.bar_step-step.result c.steps.steps
    ≡ proposals c.args.grammar.now c.args.performance.now c.args.number c.args.before =
    λ i. rows (weight_is i) (whole_is i) (tempo_is i) (step_is i) (steps_are i) in
    subst (λ l. Are l c.steps.offers.items) all c.steps.invariant
