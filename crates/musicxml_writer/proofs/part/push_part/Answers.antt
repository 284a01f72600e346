use Rattle.std.proofs.Common.{◌≡◌, List, length, subst, sym, arith}
use Rattle.std.specs.Prelude.{All}
use Rattle.notation.specs.Notes.{Group}
use Rattle.musicxml_writer.proofs.FewActual.{IsFew, few_voice, groups_long}
use Rattle.musicxml_writer.proofs.FewSounds.{few_sounds}
use Rattle.musicxml_writer.proofs.part.push_part.Goals as goal

pub clef_of-requires : goal.clef_of-requires
clef_of-requires c =
    few_sounds c.args.resolution (length c.args.bars.now) c.args.sounds.now (omega (arith, c.count-units.ensures.is, c.count-units.ensures.few)) c.requires.few_bars c.requires.sounds.places

pub push_bars-requires-clause-same : goal.push_bars-requires-clause-same
push_bars-requires-clause-same c =
    subst (λ (gs : List (List Group)). length gs ≡ length c.args.bars.now) (sym c.deref.ensures.value)
    (groups_long c.args.resolution 0 c.args.bars.now c.args.sounds.now c.in_ok-groups.groups.items c.in_ok-groups.ensures)

pub push_bars-requires-clause-actual : goal.push_bars-requires-clause-actual
push_bars-requires-clause-actual c =
    subst (λ (gs : List (List Group)). All (All IsFew) gs) (sym c.deref.ensures.value)
    (few_voice c.args.resolution 0 c.args.bars.now c.args.sounds.now c.in_ok-groups.groups.items (omega (arith, c.count-units.ensures.is, c.count-units.ensures.few)) (omega (arith, c.count-units.ensures.is, c.count-units.ensures.some))
    c.in_ok-groups.ensures)
