use Rattle.std.proofs.Common.{◌≡◌, ◌++◌, codes, take}
use Rattle.std.specs.List.{flat_map}
use Rattle.notes_writer.specs.Line.{record_word}
use Rattle.notes_writer.proofs.line.push_words.Given as goal

abbrev pub invariant-words : goal.invariant-words
invariant-words l = l.text.items ≡ l.initial.text.items ++ flat_map (λ w. codes " " ++ record_word w) (take l.word-index l.words)
