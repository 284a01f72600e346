use Rattle.std.proofs.Common.{rules, tests, arith, refl, sym, ◌∙◌, ◌==◌, ◌+◌}
use Rattle.std.proofs.lemmas.Iterator.{YieldsList-from_slice}
use Rattle.std.proofs.lemmas.Iterator.Search.{position_from_yields_List}
use Rattle.std.proofs.lemmas.List.{take_rest}
use Rattle.std.proofs.lemmas.List.Splits.{slice_split_first}
use Rattle.rhythm_base.proofs.Positions.{position-found, position-missing, position-within, slice_split-missing}
use Rattle.kern_reader.proofs.piece.first_piece.Goals as goal

pub returns-in-Some-clause-pieces : goal.returns-in-Some-clause-pieces
returns-in-Some-clause-pieces c =
    let found = position_from_yields_List (λ b. b == c.args.byte) _ _ c.position.result c.position.ensures.ran
    (YieldsList-from_slice c.args.text.now c.iter.ensures.rest) (λ x b q k. search (rules, tests)) in
    let at = position-found (λ b. b == c.args.byte) c.args.text.now _ (sym found ∙ c.in-Some.is) in
    let within = position-within (λ b. b == c.args.byte) c.args.text.now _ (sym found ∙ c.in-Some.is) in
    slice_split_first (λ b. b == c.args.byte) c.args.text.now 0 (omega (arith, at, within))
    ∙ rw (at, take_rest c.args.text.now (c.in-Some.end + 1)) refl

pub returns-in-None-clause-pieces : goal.returns-in-None-clause-pieces
returns-in-None-clause-pieces c =
    let found = position_from_yields_List (λ b. b == c.args.byte) _ _ c.position.result c.position.ensures.ran
    (YieldsList-from_slice c.args.text.now c.iter.ensures.rest) (λ x b q k. search (rules, tests)) in
    slice_split-missing (λ b. b == c.args.byte) c.args.text.now (position-missing (λ b. b == c.args.byte) c.args.text.now (sym found ∙ c.in-None.is))
