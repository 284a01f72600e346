use Rattle.std.proofs.Common.{◌≡◌}
use Rattle.std.specs.Option.{option_map}
use Rattle.std.specs.Prelude.{All}
use Rattle.kern_reader.specs.Text.{columns, pieces_in, text_left}
use Rattle.kern_reader.specs.Tokens.{IsWellToken, all_tokens}
use Rattle.kern_reader.proofs.TokenLemmas.{tokens_on}
use Rattle.kern_reader.proofs.tokens.tokens.Given as goal

abbrev pub invariant-columns : goal.invariant-columns
invariant-columns l = record {
  on : tokens_on l.tokens.items (pieces_in 9 (option_map (λ x. x.now) l.rest)) ≡ all_tokens (columns l.line);
  well : All IsWellToken l.tokens.items;
}

abbrev pub decreases-columns : goal.decreases-columns
decreases-columns l = text_left (option_map (λ x. x.now) l.rest)
