use Rattle.std.proofs.Common.{rules, ◌≡◌, ◌-◌, ◌*◌, ◌/◌, ◌%◌, ◌≤◌, map, ap, subst, ◌∙◌}
use Rattle.rhythm_base.specs.Lists.{least_of}
use Rattle.performance_load.specs.Take.{Take}
use Rattle.performance_prepare.specs.Shift.{shifted_take, unless_late}
use Rattle.performance_prepare.specs.Upbeat.{placed, ticks_of, upbeat_shift}
use Rattle.performance_prepare.specs.Outcome.{Answers}
use Rattle.performance_prepare.specs.declared.options.Fraction.{Fraction}
use Rattle.performance_prepare.proofs.Answered.{placed_answers}
use Rattle.performance_prepare.proofs.upbeat.placed.Goals as goal

pub returns : goal.returns
returns c =
    let u : Fraction = c.args.upbeat in
    let t : Take = c.args.take.now in
    let division : c.from.result ≡ t.division = search rules in
    let num : c.from-2.result ≡ u.num = search rules in
    let den : c.from-under.result ≡ u.den = search rules in
    let over : 4 * c.from.result * c.from-2.result ≡ 4 * t.division * u.num = λ i. 4 * division i * num i in
    let onsets : c.deref.result.now ≡ t.notes = search rules in
    let onset : c.first_onset.result ≡ least_of (map (λ n. n.onset) t.notes) = c.first_onset.ensures
    ∙ ap (λ ns. least_of (map (λ n. n.onset) ns)) onsets in
    let whole : (4 * t.division * u.num) % u.den ≡ 0 = subst (λ n. n % u.den
    ≡ 0) over (subst (λ d. (4 * c.from.result * c.from-2.result) % d ≡ 0) den c.if-over-under-ne0.false) in
    let ticks : (4 * c.from.result * c.from-2.result) / c.from-under.result ≡ ticks_of t.division u = λ i. over i / den i in
    let fits : ticks_of t.division u ≤ c.count-bar.result = subst (λ n. n ≤ c.count-bar.result) ticks c.if-bar-ticks.false in
    let shifted : c.in_ok-shifted.shifted ≡ shifted_take (upbeat_shift c.count-bar.result (ticks_of t.division u) t) t =
    c.in_ok-shifted.ensures
    ∙ (λ i. shifted_take (record { times = 1; later = (c.count-bar.result - ticks i) % c.count-bar.result; earlier = onset i }) t) in
    subst (λ b. Answers (placed b u t) c.unless_late.result) c.count-bar.ensures.is
    (placed_answers c.count-bar.result u t c.unless_late.result whole fits (c.unless_late.ensures ∙ ap unless_late shifted))
