use Rattle.std.proofs.Common.{rules, ◌≡◌, ◌∙◌, [], ◌∷◌}
use Rattle.text_tests.proofs.TwoVoices.{bars, key_marks, notes, tempos, two_formed}
use Rattle.text_tests.proofs.notes.two_voices.Goals as goal

pub make-requires : goal.make-requires
make-requires c =
    let tempos_are : c.in_ok-tempos.tempos.items ≡ tempos = search rules in
    let keys_are : c.in_ok-key_marks.key_marks.items ≡ key_marks = search rules in
    let bars_are : c.in_ok-bars.bars.items ≡ bars = search rules in
    let channels_are : c.in_ok-channels.channels.items ≡ 0 ∷ 3 ∷ [] = search rules in
    let notes_are : c.in_ok-notes.notes.items ≡ notes = search rules in
    let lent : c.as_slice.result.now ≡ c.in_ok-notes.notes.items = search rules in
    let listed_are : c.in_ok-listed.listed ≡ notes = c.in_ok-listed.ensures ∙ lent ∙ notes_are in
    let pins : c.new-2.result.items ≡ [] = search rules in
    rw (tempos_are, keys_are, bars_are, channels_are, listed_are, pins) two_formed
