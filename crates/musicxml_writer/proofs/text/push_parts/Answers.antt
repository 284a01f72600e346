use Rattle.std.proofs.Common.{◌≡◌, ◌+◌, ◌++◌, List, ◌∙◌, subst}
use Rattle.rhythm_base.specs.declared.sound.Sound.{Sound}
use Rattle.notation.specs.Bars.{AreVoiceGroups}
use Rattle.musicxml_writer.specs.Parts.{part_text}
use Rattle.musicxml_writer.proofs.PartsWritten.{all_parts, no_parts, one_part}
use Rattle.musicxml_writer.proofs.text.push_parts.Goals as goal

pub voices-init : goal.voices-init
voices-init c = no_parts c.args.resolution c.args.bars.now c.args.text.now.items

pub voices-preserved : goal.voices-preserved
voices-preserved c =
    let r = c.args.resolution in
    let bars = c.args.bars.now in
    let i = c.voices.index in
    let (groups, are, is) = c.in_ok-push_part.ensures in
    let own = subst (λ (s : List Sound). AreVoiceGroups r 0 bars s groups
    × (c.push_part.new.text.items ≡ c.voices.text.items ++ part_text r (i + 1) bars s groups))
    (c.as_slice.ensures ∙ c.in_ok-sounds.ensures) (are, is) in
    one_part r bars c.args.voices.now i c.index-voices-index.result groups c.args.text.now.items c.voices.text.items c.push_part.new.text.items c.voices-test.true
    c.index-voices-index.is c.voices.invariant own.0 own.1

pub returns : goal.returns
returns c =
    all_parts c.args.resolution c.args.bars.now c.args.voices.now c.voices.index c.args.text.now.items c.voices.text.items c.voices-test.false
    c.voices.invariant
