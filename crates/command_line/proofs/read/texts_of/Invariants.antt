use Rattle.std.proofs.Common.{◌≡◌, map, take}
use Rattle.command_line.proofs.read.texts_of.Given as goal

abbrev pub invariant-loop-at : goal.invariant-loop-at
invariant-loop-at l = map (λ s. s.now) l.list.items ≡ take l.at l.words
