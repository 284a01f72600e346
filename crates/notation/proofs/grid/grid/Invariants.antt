use Rattle.std.proofs.Common.{take}
use Rattle.notation.specs.Notes.{IsGrid}
use Rattle.notation.proofs.grid.grid.Given as goal

abbrev pub invariant-tokens : goal.invariant-tokens
invariant-tokens l = IsGrid l.fn.odd (take l.token-index l.tokens) l.grid
