use Rattle.std.proofs.Common.{◌≡◌, map, take}
use Rattle.command_line.proofs.read.words_of.Given as goal

abbrev pub invariant-loop-word : goal.invariant-loop-word
invariant-loop-word l = l.words ≡ map (λ s. s.now) (take l.word-index l.list)
