use Rattle.std.proofs.Common.{◌++◌, ap, ◌∙◌}
use Rattle.std.specs.Prelude.{map}
use Rattle.std.proofs.lemmas.Result.{on_ok_weaker}
use Rattle.lily_writer.specs.Elements.{elements_text, rest_value}
use Rattle.lily_writer.proofs.WrittenPieces.{gap_written}
use Rattle.lily_writer.proofs.piece.write_gap.Goals as goal

pub returns : goal.returns
returns c =
    let bar = c.args.bar in
    let whole = c.args.whole in
    let piece = c.cut-piece.result in
    on_ok_weaker c.push_rests.result
    (λ h flats. gap_written c.args.resolution flats bar.from bar.to whole.from whole.to piece.from piece.to c.in_ok-values.values.items
    c.args.text.now.items c.push_rests.new.text.items
    c.cut-piece.ensures.from c.cut-piece.ensures.to c.if-piece.false c.in_ok-values.ensures.values
    (h flats ∙ ap (λ vs. c.args.text.now.items ++ elements_text flats (map rest_value vs)) c.deref.ensures.value))
    c.push_rests.ensures
