use Rattle.performance_prepare.proofs.Handed.{handed_end}
use Rattle.performance_prepare.proofs.hands.push_hands.Goals as goal

pub returns : goal.returns
returns c =
    handed_end c.args.map.now.tempos c.args.division c.args.within c.args.left c.args.notes.now c.borders.handed.items _ c.args.borders.now
    c.borders.start c.borders.border-index c.borders-test.false c.borders.invariant.handed
