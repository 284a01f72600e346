use Rattle.std.proofs.Common.{rules, ◌≡◌, List, IfOk, subst, sym, ap, ◌∙◌}
use Rattle.std.specs.Prelude.{◌==◌, filter}
use Rattle.rhythm_base.specs.declared.note.Note.{Note}
use Rattle.rhythm_base.specs.Chords.{AreChords}
use Rattle.rhythm_base.specs.Voices.{notes_of_voice}
use Rattle.rhythm_base.specs.Lists.{AreInOrder}
use Rattle.rhythm_base.specs.Performance.{place_of_note}
use Rattle.voices.specs.Voice.{AreNotesOfVoice}
use Rattle.edit_session.proofs.VoiceNotes.{notes_are_voice}
use Rattle.edit_session.proofs.inputs.voice_chords.Goals as goal

pub notes_of_voice-requires : goal.notes_of_voice-requires
notes_of_voice-requires c = subst (AreInOrder place_of_note) (sym c.notes.ensures.value) c.notes.ensures.formed.notes_in_order

pub chords_of-requires : goal.chords_of-requires
chords_of-requires c =
    let lent : c.as_slice.result.now ≡ c.in_ok-notes.notes.items = search rules in
    let is = lent ∙ c.in_ok-notes.ensures ∙ ap (λ l. filter (λ n. n.channel == c.args.channel) l) c.notes.ensures.value in
    subst AreNotesOfVoice (sym is) (notes_are_voice c.args.performance.now c.args.channel c.notes.ensures.formed)

pub returns : goal.returns
returns c =
    let g = c.args.grammar.now in
    let p = c.args.performance.now in
    let own : List Note = notes_of_voice p c.args.channel in
    let lent : c.as_slice.result.now ≡ c.in_ok-notes.notes.items = search rules in
    let is : c.as_slice.result.now ≡ own = lent ∙ c.in_ok-notes.ensures ∙ ap (λ l. filter (λ n. n.channel == c.args.channel) l) c.notes.ensures.value in
    let window : c.grammar.inside.window ≡ g.window = search rules in
    subst (λ ts. IfOk c.chords_of.result (λ v. AreChords ts p.division g.window own v.items)) c.requires
    (subst (λ d. IfOk c.chords_of.result (λ v. AreChords c.args.tempo_map.now.tempos d g.window own v.items)) c.division-division.ensures.value
    (subst (λ w. IfOk c.chords_of.result (λ v. AreChords c.args.tempo_map.now.tempos c.division-division.result w own v.items)) window
    (subst (λ (ns : List Note). IfOk c.chords_of.result (λ v. AreChords c.args.tempo_map.now.tempos c.division-division.result c.grammar.inside.window ns v.items)) is c.chords_of.ensures)))
