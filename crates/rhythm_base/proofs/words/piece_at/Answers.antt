use Rattle.std.proofs.Common.{arith, ◌∙◌, ◌≤◌, sym, ap, length, Some}
use Rattle.std.proofs.lemmas.Option.{slice_get_past}
use Rattle.rhythm_base.specs.Pieces.{pieces}
use Rattle.rhythm_base.proofs.PieceLemmas.{between, length-pieces}
use Rattle.rhythm_base.proofs.words.piece_at.Goals as goal

pub returns-then-at-ends : goal.returns-then-at-ends
returns-then-at-ends c =
    let past : length (pieces c.args.text.now 0 c.args.ends.now) ≤ c.args.at = omega (arith, length-pieces c.args.text.now 0 c.args.ends.now) in
    sym (slice_get_past (pieces c.args.text.now 0 c.args.ends.now) c.args.at past)

pub range-requires-2-clause-start_le_end : goal.range-requires-2-clause-start_le_end
range-requires-2-clause-start_le_end c = (between c.args.text.now c.args.ends.now c.args.at c.utf8.text c.requires (omega arith) (omega arith)).rises

pub range-requires-2-clause-start_boundary : goal.range-requires-2-clause-start_boundary
range-requires-2-clause-start_boundary c = λ _. (between c.args.text.now c.args.ends.now c.args.at c.utf8.text c.requires (omega arith) (omega arith)).starts

pub range-requires-2-clause-end_boundary : goal.range-requires-2-clause-end_boundary
range-requires-2-clause-end_boundary c = (between c.args.text.now c.args.ends.now c.args.at c.utf8.text c.requires (omega arith) (omega arith)).ends_there

pub returns : goal.returns
returns c =
    ap Some c.range-2.ensures.value
    ∙ sym (between c.args.text.now c.args.ends.now c.args.at c.utf8.text c.requires (omega arith) (omega arith)).piece
