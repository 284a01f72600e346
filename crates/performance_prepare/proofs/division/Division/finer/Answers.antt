use Rattle.std.proofs.Common.{◌≡◌, ◌*◌, ℕ, arith}
use Rattle.performance_prepare.specs.Tempo.{fineness}
use Rattle.performance_prepare.proofs.Fineness.{IsFine, at_least, finer_low, fineness_fine}
use Rattle.performance_prepare.proofs.division.Division.finer.Goals as goal

pub overflow_mul-result : goal.overflow_mul-result
overflow_mul-result c =
    let ticks : ℕ = c.args.self in
    let fine : IsFine ticks (fineness ticks) = fineness_fine ticks (omega (arith, c.ticks.ensures.is, c.ticks.ensures.some)) in
    let low = finer_low ticks (fineness ticks) (omega (arith, c.ticks.ensures.is, c.ticks.ensures.few)) fine in
    let same : c.ticks.result * c.args.times ≡ ticks * fineness ticks = λ i. c.ticks.ensures.is i * c.requires i in
    omega (arith, low, same)

pub overflow_cast-result : goal.overflow_cast-result
overflow_cast-result c =
    let ticks : ℕ = c.args.self in
    let fine : IsFine ticks (fineness ticks) = fineness_fine ticks (omega (arith, c.ticks.ensures.is, c.ticks.ensures.some)) in
    let low = finer_low ticks (fineness ticks) (omega (arith, c.ticks.ensures.is, c.ticks.ensures.few)) fine in
    let same : c.ticks.result * c.args.times ≡ ticks * fineness ticks = λ i. c.ticks.ensures.is i * c.requires i in
    omega (arith, low, same)

pub invariant_of-result : goal.invariant_of-result
invariant_of-result c =
    let ticks : ℕ = c.args.self in
    let fine : IsFine ticks (fineness ticks) = fineness_fine ticks (omega (arith, c.ticks.ensures.is, c.ticks.ensures.some)) in
    let low = finer_low ticks (fineness ticks) (omega (arith, c.ticks.ensures.is, c.ticks.ensures.few)) fine in
    let more = at_least ticks (fineness ticks) fine.some in
    let same : c.ticks.result * c.args.times ≡ ticks * fineness ticks = λ i. c.ticks.ensures.is i * c.requires i in
    (omega (arith, same, more, c.ticks.ensures.is, c.ticks.ensures.some), omega (arith, low, same))
