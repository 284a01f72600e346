use Rattle.std.proofs.Common.{ℕ, Bool, ◌-◌, ◌/◌, take, arith}
use Rattle.std.proofs.lemmas.List.{length-map, length-take}
use Rattle.notation.specs.Places.{is_halved}
use Rattle.notation.specs.Tokens.{Token, ends}
use Rattle.notation.proofs.LastNumbers.{last_few}
use Rattle.notation.proofs.ties.ties_taken.Goals as goal

pub returns-clause-few : goal.returns-clause-few
returns-clause-few c =
    let tied = take c.tied_after.result c.args.more.now in
    let may : ℕ → Bool = λ end. is_halved c.args.by.whole ((end - c.token.inside.start) / c.args.by.grid) in
    let few = last_few may (ends tied) in
    omega (arith, few, c.last_halved.ensures, length-map tied (λ (t : Token). t.end), length-take c.tied_after.result c.args.more.now)
