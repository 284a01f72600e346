use Rattle.std.proofs.Common.{◌++◌, [], ◌∷◌, sym, ap, ◌∙◌, arith}
use Rattle.lily_writer.proofs.Names.{black_name, white_name}
use Rattle.lily_writer.proofs.pitch.push_name.Goals as goal
use Rattle.lily_writer.proofs.pitch.push_name.Goals.{then-flats, else-flats}

pub returns-in_ok-extend_from_slice : goal.returns-in_ok-extend_from_slice
returns-in_ok-extend_from_slice c =
    black_name c.args.flats c.args.key c.args.text.now.items c.push.new.self.items c.extend_from_slice.new.self.items c.requires
    (sym c.is_black.ensures ∙ c.if-is_black.true)
    (c.in_ok-push.ensures.items ∙ ap (λ n. c.args.text.now.items ++ n ∷ []) c.letter.ensures)
    (c.in_ok-extend_from_slice.ensures.items ∙ ap (λ t. c.push.new.self.items ++ t)
    (elim c.if-flats.branch [ then-flats w ↦ grind arith | else-flats w ↦ grind arith ]))

pub returns-else-is_black : goal.returns-else-is_black
returns-else-is_black c =
    white_name c.args.flats c.args.key c.args.text.now.items c.push.new.self.items c.requires (sym c.is_black.ensures ∙ c.if-is_black.false)
    (c.in_ok-push.ensures.items ∙ ap (λ n. c.args.text.now.items ++ n ∷ []) c.letter.ensures)
