use Rattle.std.proofs.Common.{rules, ◌≡◌, List, [], ◌∷◌, ap, ◌∙◌, refl}
use Rattle.rhythm_base.specs.declared.chord.Chord.{Chord}
use Rattle.rhythm_base.specs.declared.note.Bar.{Bar}
use Rattle.notation_tests.proofs.Pieces.{eighths, eighths_said, eighths_text, sounded_too, told_too, two_bars, upper_chords, upper_lists, upper_sounded, upper_told, upper_trees}
use Rattle.notation_tests.proofs.sounds.upper_voice.Goals as goal

pub sounds_of-requires-clause-fits : goal.sounds_of-requires-clause-fits
sounds_of-requires-clause-fits c =
    let bars : ◌≡◌ {A = List Bar} (c.bar.result ∷ c.bar-2.result ∷ []) two_bars = search rules in
    let chords : ◌≡◌ {A = List Chord} (c.chord.result ∷ c.chord-2.result ∷ c.chord-3.result ∷ []) upper_chords = search rules in
    (upper_trees, told_too eighths_text c.in_ok-grammar.grammar eighths _ two_bars 3840 _ upper_chords upper_trees c.in_ok-grammar.ensures.value eighths_said bars chords _ upper_lists refl upper_told)

pub spans_of-requires-clause-sounds : goal.spans_of-requires-clause-sounds
spans_of-requires-clause-sounds c =
    let bars : ◌≡◌ {A = List Bar} (c.bar.result ∷ c.bar-2.result ∷ []) two_bars = search rules in
    let chords : ◌≡◌ {A = List Chord} (c.chord.result ∷ c.chord-2.result ∷ c.chord-3.result ∷ []) upper_chords = search rules in
    let told = told_too eighths_text c.in_ok-grammar.grammar eighths _ two_bars 3840 _ upper_chords upper_trees c.in_ok-grammar.ensures.value eighths_said bars chords _ upper_lists refl upper_told in
    sounded_too eighths_text c.in_ok-grammar.grammar eighths _ two_bars 3840 _ upper_chords upper_trees c.in_ok-grammar.ensures.value eighths_said bars chords
    c.grammar.inside.resolution c.as_slice.result.now (ap (λ g. g.resolution) c.grammar.view_is) (c.as_slice.ensures.value ∙ c.in_ok-sounds.ensures.sounds upper_trees told) upper_sounded
