use Rattle.std.proofs.Common.{◌≡◌, map, take}
use Rattle.notation.specs.Rests.{last_number, may_stand}
use Rattle.notation.specs.Tokens.{Token}
use Rattle.notation.proofs.rests.last_standing.Given as goal

abbrev pub invariant-rests : goal.invariant-rests
invariant-rests l = l.last ≡ last_number (may_stand l.resolution l.bar l.start) (map (λ (t : Token). t.end) (take l.index l.later))
