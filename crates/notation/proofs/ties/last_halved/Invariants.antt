use Rattle.std.proofs.Common.{◌≡◌, ◌-◌, ◌/◌, map, take}
use Rattle.notation.specs.Places.{is_halved}
use Rattle.notation.specs.Rests.{last_number}
use Rattle.notation.specs.Tokens.{Token}
use Rattle.notation.proofs.ties.last_halved.Given as goal

abbrev pub invariant-tokens : goal.invariant-tokens
invariant-tokens l = l.last ≡ last_number (λ end. is_halved l.fn.by.whole ((end - l.start) / l.fn.by.grid)) (map (λ (t : Token). t.end) (take l.index l.tied))
