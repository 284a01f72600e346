use Rattle.std.proofs.Common.{◌-◌, ◌<◌, List, get_or, length, sym, ap, ◌∙◌, arith}
use Rattle.rhythm_base.specs.declared.note.Bar.{Bar}
use Rattle.performance_edit.proofs.OtherBarlines.{barline_at}
use Rattle.performance_edit.proofs.bars.last_start.Goals as goal

pub returns-in-len1-up : goal.returns-in-len1-up
returns-in-len1-up c =
    let bars = c.args.performance.now.bars in
    let none : Bar = record { start = 0; num = 0; den = 0 } in
    let lt : length bars - 1 < length bars = omega (arith, c.in-len1-up.len_at_least, ap length c.bars.ensures.value) in
    ap (λ (l : List Bar). (get_or l (length l - 1) none).start) c.bars.ensures.value
    ∙ sym (barline_at bars c.args.performance.now.last (length bars - 1) none lt)
