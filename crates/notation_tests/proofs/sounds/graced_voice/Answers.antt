use Rattle.std.proofs.Common.{rules, ◌≡◌, List, [], ◌∷◌, ap, ◌∙◌, refl}
use Rattle.rhythm_base.specs.declared.chord.Chord.{Chord}
use Rattle.rhythm_base.specs.declared.note.Bar.{Bar}
use Rattle.notation_tests.proofs.Pieces.{graced_chords, graced_lists, graced_sounded, graced_told, graced_trees, one_bar, quarters, quarters_said, quarters_text, sounded_too, told_too}
use Rattle.notation_tests.proofs.sounds.graced_voice.Goals as goal

pub sounds_of-requires-clause-fits : goal.sounds_of-requires-clause-fits
sounds_of-requires-clause-fits c =
    let bars : ◌≡◌ {A = List Bar} (c.bar.result ∷ []) one_bar = search rules in
    let chords : ◌≡◌ {A = List Chord} (c.chord.result ∷ c.chord-2.result ∷ c.chord-3.result ∷ []) graced_chords = search rules in
    (graced_trees, told_too quarters_text c.in_ok-grammar.grammar quarters _ one_bar 1920 _ graced_chords graced_trees c.in_ok-grammar.ensures.value quarters_said bars chords _ graced_lists refl graced_told)

pub spans_of-requires-clause-sounds : goal.spans_of-requires-clause-sounds
spans_of-requires-clause-sounds c =
    let bars : ◌≡◌ {A = List Bar} (c.bar.result ∷ []) one_bar = search rules in
    let chords : ◌≡◌ {A = List Chord} (c.chord.result ∷ c.chord-2.result ∷ c.chord-3.result ∷ []) graced_chords = search rules in
    let told = told_too quarters_text c.in_ok-grammar.grammar quarters _ one_bar 1920 _ graced_chords graced_trees c.in_ok-grammar.ensures.value quarters_said bars chords _ graced_lists refl graced_told in
    sounded_too quarters_text c.in_ok-grammar.grammar quarters _ one_bar 1920 _ graced_chords graced_trees c.in_ok-grammar.ensures.value quarters_said bars chords
    c.grammar.inside.resolution c.as_slice.result.now (ap (λ g. g.resolution) c.grammar.view_is) (c.as_slice.ensures.value ∙ c.in_ok-sounds.ensures.sounds graced_trees told) graced_sounded
