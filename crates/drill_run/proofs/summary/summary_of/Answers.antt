use Rattle.std.proofs.Common.{◌*◌, ◌≤◌, ◌∙◌, arith, refl, ap, length}
use Rattle.std.proofs.Math.Nat.{mul-le-mul}
use Rattle.edit_session.proofs.Channels.{few_channels}
use Rattle.drill_run.specs.declared.figures.Figures.{Figures}
use Rattle.drill_run.proofs.summary.summary_of.Goals as goal

pub overflow_mul-cells : goal.overflow_mul-cells
overflow_mul-cells c =
    let few = few_channels c.performance-performance.result.now c.bars.ensures.formed in
    let channels = ap length c.channels.ensures in
    let bars = ap length c.bars.ensures.value in
    let most : length c.channels.result.now * length c.bars.result.now ≤ 16 * 4096 = mul-le-mul {n₂ = 16} {m₂ = 4096} (omega (arith, few, channels)) (omega (arith, c.bars.ensures.formed.few_bars, bars)) in
    omega (arith, most)

pub returns-in-Ok-text_of-clause-summary : goal.returns-in-Ok-text_of-clause-summary
returns-in-Ok-text_of-clause-summary c =
    let own = c.performance-performance.ensures.value in
    let bars = ap length (c.bars.ensures.value ∙ ap (λ p. p.bars) own) in
    let channels = ap length (c.channels.ensures ∙ ap (λ p. p.channels) own) in
    let score = c.in-Ok.ensures.length in
    let figures : Figures = record {
      bars = length c.bars.result.now;
      cells = length c.channels.result.now * length c.bars.result.now;
      accepted = c.from.result;
      built = c.args.built;
      cost = c.cost-cost.result;
      bytes = c.in-Ok.bytes;
    } in (
      figures,
      record {
        bars = bars;
        cells = λ i. channels i * bars i;
        accepted = c.from.ensures;
        built = refl;
        cost = c.cost-cost.ensures;
        score = score.0;
        is_score = score.1;
        short = score.2;
        bytes = score.3;
      },
      c.in-Ok-text_of.ensures,
    )
