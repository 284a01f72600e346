use Rattle.std.proofs.Common.{◌≡◌, ◌++◌, ◌&&◌, ◌==◌, false, true, sym, ap, ◌∙◌, arith}
use Rattle.std.specs.Prelude.{max, min, nat_lt}
use Rattle.std.proofs.lemmas.Bool.Decides.{nat_tests}
use Rattle.std.proofs.lemmas.Result.{on_ok_weaker}
use Rattle.lily_writer.specs.Elements.{elements_text}
use Rattle.lily_writer.specs.Pieces.{notes, sounding}
use Rattle.lily_writer.proofs.WrittenPieces.{none_written, span_written}
use Rattle.lily_writer.proofs.piece.write_span.Goals as goal
use Rattle.lily_writer.proofs.piece.write_span.Goals.{then-begins, else-begins}

pub returns-then-piece : goal.returns-then-piece
returns-then-piece c =
    let bar = c.args.bar in
    let whole = c.extent_of-whole in
    none_written c.args.resolution c.args.flats bar.from bar.to c.cut-piece.result.from c.cut-piece.result.to
    (sounding c.args.resolution c.args.span.now) c.args.text.now.items
    (c.cut-piece.ensures.from ∙ ap (max bar.from) whole.ensures.from) (c.cut-piece.ensures.to ∙ ap (min bar.to) whole.ensures.to)
    c.if-piece.true

pub returns : goal.returns
returns c =
    let bar = c.args.bar in
    let piece = c.cut-piece.result in
    let whole = c.extent_of-whole in
    let x = c.args.span.now in
    let short : c.if-begins.push_notes ≡ (piece.from == whole.result.from) && x.short = elim c.if-begins.branch [
      | then-begins w ↦ let test : (piece.from == whole.result.from) ≡ true = grind (arith, nat_tests) in w.push_notes-is
          ∙ ap (λ b. b && x.short) (sym test)
      | else-begins w ↦ let test : (piece.from == whole.result.from) ≡ false = grind (arith, nat_tests) in w.push_notes-is ∙ test
          ∙ ap (λ b. b && x.short) (sym test)
    ] in
    on_ok_weaker c.push_notes.result (λ h.
    span_written c.args.resolution c.args.flats bar.from bar.to piece.from piece.to x (piece.from == whole.result.from)
    (nat_lt piece.to whole.result.to) c.in_ok-values.values.items
    c.args.text.now.items c.push_first_graces.new.text.items c.push_notes.new.text.items
    (c.cut-piece.ensures.from ∙ ap (max bar.from) whole.ensures.from) (c.cut-piece.ensures.to ∙ ap (min bar.to) whole.ensures.to)
    c.if-piece.false
    (ap (λ n. piece.from == n) whole.ensures.from) (ap (nat_lt piece.to) whole.ensures.to) c.in_ok-values.ensures.values
    c.in_ok-push_first_graces.ensures
    (h ∙ ap (λ b. c.push_first_graces.new.text.items ++ elements_text c.args.flats
    (notes x.keys b (nat_lt piece.to whole.result.to) c.deref.result.now)) short
    ∙ ap (λ vs. c.push_first_graces.new.text.items ++ elements_text c.args.flats
    (notes x.keys ((piece.from == whole.result.from) && x.short) (nat_lt piece.to whole.result.to) vs)) c.deref.ensures.value))
    c.push_notes.ensures
