use Rattle.std.proofs.Common.{rules, ◌≡◌, ◌∙◌, [], ◌∷◌}
use Rattle.file_tests.proofs.SmallPiece.{bars, notes, small_piece}
use Rattle.file_tests.proofs.generating.small.Goals as goal

pub make-requires : goal.make-requires
make-requires c =
    let tempos : c.new-2.result.items ≡ [] = search rules in
    let key_marks : c.new-3.result.items ≡ [] = search rules in
    let bars_are : c.in_ok-bars.bars.items ≡ bars = search rules in
    let channels_are : c.in_ok-channels.channels.items ≡ 0 ∷ 1 ∷ [] = search rules in
    let notes_are : c.in_ok-notes.notes.items ≡ notes = search rules in
    let lent : c.as_slice.result.now ≡ c.in_ok-notes.notes.items = search rules in
    let listed_are : c.in_ok-listed.listed ≡ notes = c.in_ok-listed.ensures ∙ lent ∙ notes_are in
    let pins : c.new-4.result.items ≡ [] = search rules in
    rw (tempos, key_marks, bars_are, channels_are, listed_are, pins) small_piece
