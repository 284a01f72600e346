use Rattle.std.proofs.Common.{sym, ◌∙◌, arith}
use Rattle.notation.proofs.Windows.{window_ends, window_finds, window_passes, window_whole}
use Rattle.notation.proofs.names.place_of.Goals as goal

pub places-init : goal.places-init
places-init c = window_whole c.args.key c.lowest_place-lowest.result

pub places-preserved : goal.places-preserved
places-preserved c =
    window_passes c.args.key c.lowest_place-lowest.result c.places.place (omega (arith, c.places-test.true)) (sym c.says.ensures ∙ c.if-says.false) c.places.invariant

pub returns-then-says-clause-place : goal.returns-then-says-clause-place
returns-then-says-clause-place c =
    window_finds c.args.key c.lowest_place-lowest.result c.places.place c.args.sf c.lowest_place-lowest.ensures.place (omega (arith, c.places-test.true))
    (sym c.says.ensures ∙ c.if-says.true) c.places.invariant

pub returns-clause-place : goal.returns-clause-place
returns-clause-place c =
    window_ends c.args.key c.lowest_place-lowest.result c.places.place c.args.sf c.lowest_place-lowest.ensures.place (omega (arith, c.places-test.false))
    c.places.invariant
