use Rattle.std.proofs.Common.{◌≡◌, true, length, map, Ok, ◌++◌}
use Rattle.grammar_file.specs.Outcome.{◌>>=◌}
use Rattle.grammar_file.specs.Said.{are_parts, said_parts}
use Rattle.grammar_file.proofs.said.parts.Given as goal

-- the parts so far, with those of the rest, are those of the words
abbrev pub invariant-parts : goal.invariant-parts
invariant-parts l = record {
  form : are_parts (map (λ x. x.now) l.rest) ≡ true;
  same : (said_parts (map (λ x. x.now) l.rest) >>= λ others. Ok (map (λ x. (x.0, x.1.now)) l.parts.items ++ others))
      ≡ said_parts (map (λ x. x.now) l.words);
}

abbrev pub decreases-parts : goal.decreases-parts
decreases-parts l = length l.rest
