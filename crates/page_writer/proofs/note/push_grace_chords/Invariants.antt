use Rattle.std.proofs.Common.{◌≡◌, ◌++◌, map, take}
use Rattle.page_writer.specs.Groups.{grace_text}
use Rattle.page_writer.specs.Words.{words_text}
use Rattle.page_writer.proofs.note.push_grace_chords.Given as goal

abbrev pub invariant-chords : goal.invariant-chords
invariant-chords l = l.text.items ≡ l.initial.text.items ++ words_text (map (grace_text l.sf) (take l.keys-index l.chords))
