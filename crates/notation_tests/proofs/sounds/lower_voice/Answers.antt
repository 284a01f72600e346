use Rattle.std.proofs.Common.{rules, ◌≡◌, List, [], ◌∷◌, ap, ◌∙◌, refl}
use Rattle.rhythm_base.specs.declared.chord.Chord.{Chord}
use Rattle.rhythm_base.specs.declared.note.Bar.{Bar}
use Rattle.notation_tests.proofs.Pieces.{eighths, eighths_said, eighths_text, lower_chords, lower_lists, lower_sounded, lower_told, lower_trees, sounded_too, told_too, two_bars}
use Rattle.notation_tests.proofs.sounds.lower_voice.Goals as goal

pub sounds_of-requires-clause-fits : goal.sounds_of-requires-clause-fits
sounds_of-requires-clause-fits c =
    let bars : ◌≡◌ {A = List Bar} (c.bar.result ∷ c.bar-2.result ∷ []) two_bars = search rules in
    let chords : ◌≡◌ {A = List Chord} (c.chord.result ∷ []) lower_chords = search rules in
    (lower_trees, told_too eighths_text c.in_ok-grammar.grammar eighths _ two_bars 3840 _ lower_chords lower_trees c.in_ok-grammar.ensures.value eighths_said bars chords _ lower_lists refl lower_told)

pub spans_of-requires-clause-sounds : goal.spans_of-requires-clause-sounds
spans_of-requires-clause-sounds c =
    let bars : ◌≡◌ {A = List Bar} (c.bar.result ∷ c.bar-2.result ∷ []) two_bars = search rules in
    let chords : ◌≡◌ {A = List Chord} (c.chord.result ∷ []) lower_chords = search rules in
    let told = told_too eighths_text c.in_ok-grammar.grammar eighths _ two_bars 3840 _ lower_chords lower_trees c.in_ok-grammar.ensures.value eighths_said bars chords _ lower_lists refl lower_told in
    sounded_too eighths_text c.in_ok-grammar.grammar eighths _ two_bars 3840 _ lower_chords lower_trees c.in_ok-grammar.ensures.value eighths_said bars chords
    c.grammar.inside.resolution c.as_slice.result.now (ap (λ g. g.resolution) c.grammar.view_is) (c.as_slice.ensures.value ∙ c.in_ok-sounds.ensures.sounds lower_trees told) lower_sounded
