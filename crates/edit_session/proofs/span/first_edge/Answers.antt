use Rattle.std.proofs.Common.{arith, sym, subst}
use Rattle.edit_session.specs.Spans.{AreSameBefore}
use Rattle.edit_session.proofs.Edges.{edge_first, edge_later}
use Rattle.edit_session.proofs.span.first_edge.Goals as goal

pub returns-then-place-eq0 : goal.returns-then-place-eq0
returns-then-place-eq0 c =
    let tempos = c.args.tempo_map.now.tempos in
    subst (λ k. AreSameBefore tempos c.args.division c.args.window c.args.before.now c.args.after.now k 0) (sym c.if-place-eq0.true)
    (edge_first tempos c.args.division c.args.window c.args.before.now c.args.after.now)

pub returns : goal.returns
returns c =
    let tempos = c.args.tempo_map.now.tempos in
    let at = c.onset.ensures (record { channel = 0; key = 0; onset = 0; end = 0 }) in
    subst (AreSameBefore tempos c.args.division c.args.window c.args.before.now c.args.after.now c.break_up_to-place.result) (sym at)
    (edge_later tempos c.args.division c.args.window c.args.before.now c.args.after.now c.requires.before c.requires.after c.break_up_to-place.result c.args.same
    c.requires.same c.requires.within c.requires.within_after (omega (arith, c.break_up_to-place.ensures.within, c.saturating_sub.ensures)) (λ none. omega (arith, none, c.if-place-eq0.false)) c.break_up_to-place.ensures.break)
