use Rattle.std.proofs.Common.{arith, sym, ◌∙◌, ap, ◌≡◌, ◌≤◌, ◌<◌, ◌+◌, ◌*◌, ◌-◌, subst}
use Rattle.performance_prepare.specs.Tempo.{finer}
use Rattle.performance_prepare.proofs.Fineness.{finer_begin, finer_more, finer_none, finer_stop, small_product, times_low}
use Rattle.performance_prepare.proofs.tempo.fineness.Goals as goal

pub loop-doubling-init : goal.loop-doubling-init
loop-doubling-init c = record { value = finer_begin c.args.division; few = omega arith }

pub overflow_mul-times : goal.overflow_mul-times
overflow_mul-times c = let few = c.loop-doubling.invariant.few in omega (arith, few)

pub overflow_mul-times-in-loop-doubling : goal.overflow_mul-times-in-loop-doubling
overflow_mul-times-in-loop-doubling c =
    let few = c.loop-doubling.invariant.few in
    let twice : 2 * c.loop-doubling.times ≤ 16384 = omega (arith, few) in
    let few_ticks = c.ticks-ticks.ensures.few in
    let small : c.ticks-ticks.result ≤ 65535 = omega (arith, few_ticks) in
    let low = small_product (2 * c.loop-doubling.times) c.ticks-ticks.result twice small in
    omega (arith, low)

pub returns-then-times-ticks-gt-FINEST : goal.returns-then-times-ticks-gt-FINEST
returns-then-times-ticks-gt-FINEST c =
    let enough : 8192 < 2 * c.loop-doubling.times * c.args.division =
    subst (λ d. 8192 < 2 * c.loop-doubling.times * d) c.ticks-ticks.ensures.is c.if-times-ticks-gt-FINEST.true in
    sym (finer_stop (13 - c.loop-doubling._doubling) c.args.division c.loop-doubling.times enough) ∙ c.loop-doubling.invariant.value

pub loop-doubling-preserved : goal.loop-doubling-preserved
loop-doubling-preserved c =
    let low : 2 * c.loop-doubling.times * c.args.division ≤ 8192 =
    subst (λ d. 2 * c.loop-doubling.times * d ≤ 8192) c.ticks-ticks.ensures.is c.if-times-ticks-gt-FINEST.false in
    record {
      value = sym (finer_more (13 - c.loop-doubling._doubling) (13 - (c.loop-doubling._doubling + 1)) c.args.division c.loop-doubling.times
          (omega arith) low) ∙ c.loop-doubling.invariant.value;
      few = times_low c.args.division c.loop-doubling.times (omega (arith, c.ticks-ticks.ensures.is, c.ticks-ticks.ensures.some)) low;
    }

pub returns : goal.returns
returns c =
    let none : 13 - c.loop-doubling._doubling ≡ 0 = omega arith in
    sym (finer_none c.args.division c.loop-doubling.times) ∙ sym (ap (λ n. finer n c.args.division c.loop-doubling.times) none)
    ∙ c.loop-doubling.invariant.value
