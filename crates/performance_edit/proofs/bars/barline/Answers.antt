use Rattle.std.proofs.Common.{◌<◌, ◌≤◌, get_or, length, sym, ap, ◌∙◌, arith}
use Rattle.performance_laws.proofs.EditedBars.{barline_last}
use Rattle.performance_edit.proofs.OtherBarlines.{barline_at}
use Rattle.performance_edit.proofs.bars.barline.Goals as goal

pub returns-in-Some : goal.returns-in-Some
returns-in-Some c =
    let bars = c.args.performance.now.bars in
    let at = c.in-Some.ensures.lookup.1 ∙ ap (λ l. get_or l c.args.number c.in-Some.bar.now) c.bars.ensures.value in
    let lt : c.args.number < length bars = omega (arith, c.in-Some.ensures.lookup.3.0, ap length c.bars.ensures.value) in
    ap (λ b. b.start) at ∙ sym (barline_at bars c.args.performance.now.last c.args.number c.in-Some.bar.now lt)

pub returns-in-None : goal.returns-in-None
returns-in-None c =
    let bars = c.args.performance.now.bars in
    let le : length bars ≤ c.args.number = omega (arith, c.in-None.ensures.lookup.3, ap length c.bars.ensures.value) in
    c.last.ensures ∙ sym (barline_last bars c.args.performance.now.last c.args.number le)
