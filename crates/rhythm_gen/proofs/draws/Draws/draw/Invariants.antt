use Rattle.std.proofs.Common.{◌≡◌}
use Rattle.rhythm_gen.specs.Draws.{draw}
use Rattle.rhythm_gen.proofs.draws.Draws.draw.Given as goal

abbrev pub invariant-loop : goal.invariant-loop
invariant-loop l = record {
  last : l.draw ≡ draw l.initial.self l.counter;
  stream : l.self ≡ draw l.initial.self l.counter;
}
