use Rattle.std.proofs.Common.{◌≡◌, sym, arith}
use Rattle.std.specs.Prelude.{Some, slice_get}
use Rattle.std.proofs.lemmas.Option.{get_or_from_slice_get, slice_get_within}
use Rattle.edit_session.proofs.Edges.{edge_last}
use Rattle.edit_session.proofs.span.last_edge.Goals as goal

pub returns-in-Some : goal.returns-in-Some
returns-in-Some c =
    let after = c.args.after.now in
    let place = c.break_from-place.result in
    let n = c.in-Some.note in
    let at : slice_get after place ≡ Some n = sym c.in-Some.ensures in
    edge_last c.args.tempo_map.now.tempos c.args.division c.args.window c.args.before.now after c.requires.before c.requires.after place c.args.same n
    c.requires.same c.requires.within c.requires.within_after (omega (arith, c.break_from-place.ensures.from, c.saturating_sub.ensures, c.len.ensures.value))
    (slice_get_within after place n at) (sym (get_or_from_slice_get after place n n at)) c.break_from-place.ensures.break
