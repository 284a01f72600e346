use Rattle.std.proofs.Common.{ℕ, subst}
use Rattle.voices.specs.Breaks.{IsLastBreak, IsNextBreak}
use Rattle.edit_session.proofs.Edges.{part_is}
use Rattle.edit_session.proofs.span.part_of.Goals as goal

pub returns : goal.returns
returns c =
    let tempos = c.args.tempo_map.now.tempos in
    let notes = c.args.notes.now in
    let first : ℕ = c.break_up_to-first.result in
    let end : ℕ = c.break_from-end.result in
    part_is tempos c.args.division c.args.window notes c.args.low c.args.high c.count_before-earlier.result c.count_before-up_to.result first end
    c.count_before-earlier.ensures.within c.count_before-earlier.ensures.front c.count_before-up_to.ensures.back
    (subst (λ k. IsLastBreak tempos c.args.division c.args.window notes k first) c.saturating_sub.ensures c.break_up_to-first.ensures)
    (subst (λ k. IsNextBreak tempos c.args.division c.args.window notes k end) c.max.ensures c.break_from-end.ensures)
