use Rattle.std.proofs.Common.{rules, ℕ, Bool, List, ◌≡◌, ◌≤◌, length, map, subst, sym, ap, ◌∙◌}
use Rattle.std.specs.Prelude.{◌==◌, filter}
use Rattle.std.specs.List.{between}
use Rattle.bar_cut.specs.Cuts.{AreBarsAndChords, inputs}
use Rattle.rhythm_base.specs.declared.chord.Chord.{Chord}
use Rattle.rhythm_base.specs.declared.note.Note.{Note}
use Rattle.rhythm_base.specs.Chords.{AreChords}
use Rattle.rhythm_base.specs.Voices.{notes_of_voice}
use Rattle.voices.specs.Voice.{AreNotesOfVoice}
use Rattle.rhythm_base.proofs.ListParts.{filter_swap}
use Rattle.edit_session.specs.declared.span.Span.{Span}
use Rattle.edit_session.specs.ReachedCells.{AreOtherInputsWithin, place_pair}
use Rattle.edit_session.specs.Spans.{IsNoteSpan}
use Rattle.edit_session.proofs.LocalCells.{all_within}
use Rattle.edit_session.proofs.NoteParts.{between_of_voice, part_can_be_cut}
use Rattle.edit_session.proofs.SameSides.{is_early, is_late}
use Rattle.edit_session.proofs.VoiceNotes.{notes_are_voice}
use Rattle.edit_session.proofs.reached.voice_reached.Goals as goal

pub span_of-span-requires-clause-before : goal.span_of-span-requires-clause-before
span_of-span-requires-clause-before c =
    let is = c.of-earlier.ensures ∙ ap (λ (l : List Note). filter (λ n. n.channel == c.args.channel) l) c.notes.ensures.value in
    subst AreNotesOfVoice (sym is) (notes_are_voice c.args.known.before.now c.args.channel c.requires.formed)

pub span_of-span-requires-clause-after : goal.span_of-span-requires-clause-after
span_of-span-requires-clause-after c =
    let is = c.of-notes.ensures ∙ ap (λ (l : List Note). filter (λ n. n.channel == c.args.channel) l) c.notes-2.ensures.value in
    subst AreNotesOfVoice (sym is) (notes_are_voice c.args.after.now c.args.channel c.requires.formed_after)

pub chords_of-requires : goal.chords_of-requires
chords_of-requires c =
    let lent : c.as_slice.result.now ≡ c.in_ok-own.own.items = search rules in
    let is = c.of-notes.ensures ∙ ap (λ (l : List Note). filter (λ n. n.channel == c.args.channel) l) c.notes-2.ensures.value in
    subst AreNotesOfVoice (sym (lent ∙ c.in_ok-own.ensures))
    (between_of_voice c.of-notes.result c.span_of-span.result.first_note c.span_of-span.result.note_end c.span_of-span.ensures.part.within
    (subst AreNotesOfVoice (sym is) (notes_are_voice c.args.after.now c.args.channel c.requires.formed_after)))

pub other_inputs_within-requires-clause-chords : goal.other_inputs_within-requires-clause-chords
other_inputs_within-requires-clause-chords c =
    let g = c.args.grammar.now in
    let q = c.args.after.now in
    let own : List Note = notes_of_voice q c.args.channel in
    let first : ℕ = c.span_of-span.result.first_note in
    let end : ℕ = c.span_of-span.result.note_end in
    let cs : List Chord = c.in_ok-chords.chords.items in
    let is : c.of-notes.result ≡ own = c.of-notes.ensures ∙ ap (λ (l : List Note). filter (λ n. n.channel == c.args.channel) l) c.notes-2.ensures.value in
    let window : c.grammar.inside.window ≡ g.window = search rules in
    let lent : c.as_slice.result.now ≡ c.in_ok-own.own.items = search rules in
    let part : c.as_slice.result.now ≡ between first end c.of-notes.result = lent ∙ c.in_ok-own.ensures in
    let are : AreChords q.tempos q.division g.window (between first end own) cs =
    subst (λ ts. AreChords ts q.division g.window (between first end own) cs) c.requires.tempos
    (subst (λ d. AreChords c.args.tempo_map.now.tempos d g.window (between first end own) cs) c.division-division.ensures.value
    (subst (λ w. AreChords c.args.tempo_map.now.tempos c.division-division.result w (between first end own) cs) window
    (subst (λ (ns : List Note). AreChords c.args.tempo_map.now.tempos c.division-division.result c.grammar.inside.window (between first end ns) cs) is (subst (λ (ns : List Note). AreChords c.args.tempo_map.now.tempos c.division-division.result c.grammar.inside.window ns cs) part c.in_ok-chords.ensures)))) in
    let few : end ≤ length own = subst (λ (ns : List Note). end ≤ length ns) is c.span_of-span.ensures.part.within in
    subst (λ (l : List Chord). AreBarsAndChords q.bars q.last l) (sym c.as_slice-chords.ensures.value) (part_can_be_cut q c.args.channel g.window first end cs c.requires.formed_after few are)

pub returns : goal.returns
returns c =
    let g = c.args.grammar.now in
    let p = c.args.known.before.now in
    let q = c.args.after.now in
    let channel = c.args.channel in
    let earlier : List Note = notes_of_voice p channel in
    let own : List Note = notes_of_voice q channel in
    let span : Span = c.span_of-span.result in
    let first : ℕ = span.first_note in
    let end : ℕ = span.note_end in
    let cs : List Chord = c.in_ok-chords.chords.items in
    let earlier_is : c.of-earlier.result ≡ earlier = c.of-earlier.ensures ∙ ap (λ (l : List Note). filter (λ n. n.channel == channel) l) c.notes.ensures.value in
    let is : c.of-notes.result ≡ own = c.of-notes.ensures ∙ ap (λ (l : List Note). filter (λ n. n.channel == channel) l) c.notes-2.ensures.value in
    let window : c.grammar.inside.window ≡ g.window = search rules in
    let lent : c.as_slice.result.now ≡ c.in_ok-own.own.items = search rules in
    let part : c.as_slice.result.now ≡ between first end c.of-notes.result = lent ∙ c.in_ok-own.ensures in
    let are : AreChords q.tempos q.division g.window (between first end own) cs =
    subst (λ ts. AreChords ts q.division g.window (between first end own) cs) c.requires.tempos
    (subst (λ d. AreChords c.args.tempo_map.now.tempos d g.window (between first end own) cs) c.division-division.ensures.value
    (subst (λ w. AreChords c.args.tempo_map.now.tempos c.division-division.result w (between first end own) cs) window
    (subst (λ (ns : List Note). AreChords c.args.tempo_map.now.tempos c.division-division.result c.grammar.inside.window (between first end ns) cs) is (subst (λ (ns : List Note). AreChords c.args.tempo_map.now.tempos c.division-division.result c.grammar.inside.window ns cs) part c.in_ok-chords.ensures)))) in
    let low : ℕ = c.args.known.first_bar in
    let high : ℕ = c.args.known.bar_end in
    let spans : IsNoteSpan q.tempos q.division g.window earlier own q.bars q.last low high span =
    subst (λ ts. IsNoteSpan ts q.division g.window earlier own q.bars q.last low high span) c.requires.tempos
    (subst (λ w. IsNoteSpan c.args.tempo_map.now.tempos q.division w earlier own q.bars q.last low high span) window
    (subst (λ (ns : List Note). IsNoteSpan c.args.tempo_map.now.tempos q.division c.grammar.inside.window ns own q.bars q.last low high span) earlier_is
    (subst (λ (ns : List Note). IsNoteSpan c.args.tempo_map.now.tempos q.division c.grammar.inside.window c.of-earlier.result ns q.bars q.last low high span) is
    c.span_of-span.ensures))) in
    let within : AreOtherInputsWithin channel (inputs g q.pins channel q.last q.bars cs) c.args.tables.now span.first_bar span.bar_end (map place_pair c.in_ok-reached.reached.cells.items) c.in_ok-reached.reached.inputs.items =
    subst (λ (l : List Chord). AreOtherInputsWithin channel (inputs g q.pins channel q.last q.bars l) c.args.tables.now span.first_bar span.bar_end (map place_pair c.in_ok-reached.reached.cells.items) c.in_ok-reached.reached.inputs.items)
    c.as_slice-chords.ensures.value c.in_ok-reached.ensures in
    all_within g q channel c.requires.formed_after p span c.args.known.low c.args.known.high low high c.requires.known spans cs c.args.tables.now (map place_pair c.in_ok-reached.reached.cells.items) c.in_ok-reached.reached.inputs.items c.requires.tables are within

-- ---- the notes that are as before

pub span_of-span-requires-clause-early : goal.span_of-span-requires-clause-early
span_of-span-requires-clause-early c =
    let own : Note → Bool = λ n. n.channel == c.args.channel in
    let early : Note → Bool = is_early c.args.known.low in
    let earlier_is = c.of-earlier.ensures ∙ ap (λ (l : List Note). filter own l) c.notes.ensures.value in
    let is = c.of-notes.ensures ∙ ap (λ (l : List Note). filter own l) c.notes-2.ensures.value in
    ap (λ (l : List Note). filter early l) is ∙ filter_swap early own c.args.after.now.notes ∙ ap (λ (l : List Note). filter own l) c.requires.known.early
    ∙ sym (ap (λ (l : List Note). filter early l) earlier_is ∙ filter_swap early own c.args.known.before.now.notes)

pub span_of-span-requires-clause-late : goal.span_of-span-requires-clause-late
span_of-span-requires-clause-late c =
    let own : Note → Bool = λ n. n.channel == c.args.channel in
    let late : Note → Bool = is_late c.args.known.high in
    let earlier_is = c.of-earlier.ensures ∙ ap (λ (l : List Note). filter own l) c.notes.ensures.value in
    let is = c.of-notes.ensures ∙ ap (λ (l : List Note). filter own l) c.notes-2.ensures.value in
    ap (λ (l : List Note). filter late l) is ∙ filter_swap late own c.args.after.now.notes ∙ ap (λ (l : List Note). filter own l) c.requires.known.late
    ∙ sym (ap (λ (l : List Note). filter late l) earlier_is ∙ filter_swap late own c.args.known.before.now.notes)
