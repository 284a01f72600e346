use Rattle.std.proofs.Common.{subst, sym}
use Rattle.bar_cut.specs.Cuts.{AreBarsAndChords}
use Rattle.bar_cut.proofs.Performances.{can_be_cut}
use Rattle.edit_session.proofs.inputs.voice_inputs.Goals as goal

pub cut-requires-clause-voice : goal.cut-requires-clause-voice
cut-requires-clause-voice c =
    let are = can_be_cut c.args.grammar.now c.args.performance.now c.args.channel c.in_ok-chords.chords.items c.bars.ensures.formed c.in_ok-chords.ensures in
    subst (λ cs. AreBarsAndChords c.bars.result.now c.last.result cs) (sym c.as_slice.ensures.value)
    (subst (λ l. AreBarsAndChords c.bars.result.now l c.in_ok-chords.chords.items) (sym c.last.ensures)
    (subst (λ bs. AreBarsAndChords bs c.args.performance.now.last c.in_ok-chords.chords.items) (sym c.bars.ensures.value) are))
