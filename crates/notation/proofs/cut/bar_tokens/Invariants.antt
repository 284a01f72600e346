use Rattle.std.proofs.Common.{◌≡◌, ◌++◌, length}
use Rattle.std.specs.Prelude.{All}
use Rattle.notation.specs.Runs.{IsInBar}
use Rattle.notation.specs.Tokens.{bar_tokens}
use Rattle.notation.proofs.cut.bar_tokens.Given as goal

abbrev pub invariant-values : goal.invariant-values
invariant-values l = record {
  in_bar : All (IsInBar l.resolution l.bar) l.later;
  tokens : l.list.items ++ bar_tokens l.resolution l.odd l.bar l.after l.later ≡ bar_tokens l.resolution l.odd l.bar l.after l.values;
}

abbrev pub decreases-values : goal.decreases-values
decreases-values l = length l.later
