use Rattle.std.proofs.Common.{◌==◌, ◌++◌, get_or, length, sym, ap, ◌∙◌, subst, arith}
use Rattle.std.specs.Prelude.{true}
use Rattle.std.proofs.lemmas.List.Elements.{All-get_or}
use Rattle.std.proofs.lemmas.List.FromFn.{length-map-range_with_len}
use Rattle.derivation.specs.WellSounded.{AreWellSounded}
use Rattle.notation.specs.Bars.{AreVoiceGroups}
use Rattle.page_writer.specs.Graces.{most_graces}
use Rattle.page_writer.specs.Staves.{staff_lines, staves_lines}
use Rattle.score_words.specs.TextLines.{lines_text}
use Rattle.page_writer.proofs.BarsWritten.{groups_for_bars}
use Rattle.page_writer.proofs.BegunGraces.{few_sounds}
use Rattle.page_writer.proofs.StavesWritten.{staves_all, staves_next}
use Rattle.page_writer.proofs.page.write_staves.Goals as goal

pub write_staff-requires-clause-most : goal.write_staff-requires-clause-most
write_staff-requires-clause-most c =
    ap length (c.deref.ensures.value ∙ c.in_ok-most.ensures)
    ∙ length-map-range_with_len (most_graces c.args.voices.now) 0 (length c.args.bars.now)

pub write_staff-requires-clause-groups : goal.write_staff-requires-clause-groups
write_staff-requires-clause-groups c =
    ap length c.deref-in-voices.ensures.value
    ∙ groups_for_bars c.args.resolution 0 c.args.bars.now c.as_slice-sounds.result.now c.in_ok-groups.groups.items c.in_ok-groups.ensures

pub write_staff-requires-clause-sounds : goal.write_staff-requires-clause-sounds
write_staff-requires-clause-sounds c =
    let sounds = c.index-voices-number.result in
    let Are = AreWellSounded c.args.resolution (length c.args.bars.now) in
    let are : AreWellSounded c.args.resolution (length c.args.bars.now) sounds =
    subst Are (sym c.index-voices-number.is) (All-get_or Are c.args.voices.now c.voices.number sounds c.voices-test.true c.requires.voices) in
    let few = few_sounds c.args.resolution (length c.args.bars.now) sounds are (omega (arith, c.count-units.ensures.is, c.count-units.ensures.few)) c.requires.few_bars in
    let same = ap length (c.as_slice-sounds.ensures ∙ c.in_ok-made.ensures) in
    omega (arith, few, same)

pub voices-preserved : goal.voices-preserved
voices-preserved c =
    let number = c.voices.number in
    let sounds = c.index-voices-number.result in
    let groups = c.in_ok-groups.groups.items in
    let bars = c.args.bars.now in
    let channel = get_or c.args.channels.now number 0 in
    let own = c.as_slice-sounds.ensures ∙ c.in_ok-made.ensures in
    staves_next c.args.resolution bars c.in_ok-most.most.items c.args.channels.now c.args.voices.now number sounds groups c.args.text.now.items c.voices.text.items
    c.write_staff.new.text.items c.voices-test.true (omega (arith, c.voices-test.true, c.requires.channels)) c.index-voices-number.is
    (subst (λ s. AreVoiceGroups c.args.resolution 0 bars s groups) own c.in_ok-groups.ensures)
    (c.in_ok-write_staff.ensures ∙ (λ j. c.voices.text.items ++ lines_text
    (staff_lines (number == 0) bars (c.deref.ensures.value j) channel (own j) (c.deref-in-voices.ensures.value j))))
    c.voices.invariant

pub returns : goal.returns
returns c =
    let most = c.in_ok-most.most.items in
    let (written, each, is) = staves_all c.args.resolution c.args.bars.now most c.args.channels.now c.args.voices.now c.voices.number c.args.text.now.items
    c.voices.text.items (omega (arith, c.voices-test.false)) c.voices.invariant in (
      written,
      each,
      is ∙ ap (λ most. c.args.text.now.items ++ lines_text (staves_lines true c.args.bars.now most c.args.channels.now c.args.voices.now written))
          c.in_ok-most.ensures,
    )
