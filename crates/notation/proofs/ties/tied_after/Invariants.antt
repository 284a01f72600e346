use Rattle.std.proofs.Common.{◌≡◌, ◌++◌, drop, map, take}
use Rattle.std.specs.Prelude.{◌&&◌, not}
use Rattle.notation.specs.Notes.{tied_ends}
use Rattle.notation.specs.Tokens.{Token, is_silent}
use Rattle.notation.proofs.ties.tied_after.Given as goal

abbrev pub invariant-tokens : goal.invariant-tokens
invariant-tokens l = tied_ends (l.token.goes && not (is_silent l.token)) l.more ≡ map (λ (t : Token). t.end) (take l.count l.more) ++ tied_ends l.goes
    (drop l.count l.more)
