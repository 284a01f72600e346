use Rattle.std.proofs.Common.{◌≡◌, ap, map, subst, sym, ◌∙◌}
use Rattle.std.proofs.lemmas.Result.{IfOk-weaker}
use Rattle.derivation.specs.Sounds.{derivation_sounds, plain_bars}
use Rattle.rhythm_base.specs.Leaves.{soundings}
use Rattle.tree_laws.specs.Voices.{IsVoice}
use Rattle.edit_session.proofs.LeastSounds.{least_sounds, tables_in, told_too, unpinned_told, unpinned_voice}
use Rattle.edit_session.proofs.score.least_sounds.Goals as goal
use Rattle.edit_session.proofs.score.least_sounds.Goals.{After-as_slice-2}

-- the bars that are handed over are those of the performance
bars_are : (c : After-as_slice-2) → plain_bars c.args.grammar.now c.last.result c.bars.result.now ≡ plain_bars c.args.grammar.now c.args.performance.now.last c.args.performance.now.bars
bars_are c = λ i. plain_bars c.args.grammar.now (c.last.ensures i) (c.bars.ensures.value i)

pub least_lists-requires-clause-tables : goal.least_lists-requires-clause-tables
least_lists-requires-clause-tables c = (c.args.grammar.now, tables_in c.args.grammar.now c.args.performance.now c.args.channel c.args.voice.now.tables c.requires.tables)

pub derivation_sounds-requires-clause-voice : goal.derivation_sounds-requires-clause-voice
derivation_sounds-requires-clause-voice c =
    subst (λ bs. IsVoice c.args.grammar.now bs (soundings c.as_slice-2.result.now)) (sym (bars_are c))
    (subst (λ cs. IsVoice c.args.grammar.now (plain_bars c.args.grammar.now c.args.performance.now.last c.args.performance.now.bars) (soundings cs)) (sym c.as_slice-2.ensures.value)
    (unpinned_voice c.args.grammar.now c.args.performance.now c.args.channel c.args.voice.now.tables c.requires.tables c.requires.readable c.bars.ensures.formed c.in_ok-chords.chords.items c.in_ok-chords.ensures))

pub derivation_sounds-requires-clause-fits : goal.derivation_sounds-requires-clause-fits
derivation_sounds-requires-clause-fits c =
    let g = c.args.grammar.now in
    let p = c.args.performance.now in
    let told = unpinned_told g p c.args.channel c.args.voice.now.tables c.requires.tables c.requires.readable c.bars.ensures.formed c.in_ok-chords.chords.items c.in_ok-chords.ensures
    (map (λ l. l.now) c.in_ok-lists.lists.items) c.in_ok-lists.ensures in
    (told.0, told_too g told.0 p.last _ p.bars _ c.in_ok-chords.chords.items _ _ _ c.last.ensures c.bars.ensures.value c.as_slice-2.ensures.value (ap (map (λ l. l.now)) c.as_slice.ensures.value) told.1)

pub returns : goal.returns
returns c =
    let g = c.args.grammar.now in
    let p = c.args.performance.now in
    IfOk-weaker c.derivation_sounds.result _ _ (λ v are. least_sounds g p c.args.channel c.args.voice.now.tables c.requires.tables c.requires.readable c.bars.ensures.formed c.in_ok-chords.chords.items c.in_ok-chords.ensures
    (map (λ l. l.now) c.in_ok-lists.lists.items) v c.requires.starts c.in_ok-lists.ensures
    (λ trees told. are trees (told_too g trees p.last _ p.bars _ c.in_ok-chords.chords.items _ _ _ c.last.ensures c.bars.ensures.value c.as_slice-2.ensures.value (ap (map (λ l. l.now)) c.as_slice.ensures.value) told)
    ∙ (λ i. derivation_sounds g (plain_bars g (c.last.ensures i) (c.bars.ensures.value i)) (c.as_slice-2.ensures.value i) trees))) c.derivation_sounds.ensures.sounds
