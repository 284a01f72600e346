use Rattle.std.proofs.Common.{◌*◌, ◌<◌, ◌≤◌, sym, subst, arith}
use Rattle.std.specs.Prelude.{All, take}
use Rattle.std.proofs.lemmas.List.{length-map, length-take}
use Rattle.std.proofs.lemmas.List.Elements.{All-take}
use Rattle.notation.specs.Places.{whole_of}
use Rattle.notation.specs.Tokens.{Token, ends}
use Rattle.notation.specs.Rests.{may_stand}
use Rattle.notation.proofs.LastNumbers.{last_few}
use Rattle.notation.proofs.Standing.{later_ends}
use Rattle.notation.proofs.rests.rests_taken.Goals as goal

pub last_standing-requires : goal.last_standing-requires
last_standing-requires c =
    let t = c.args.token.now in
    let n = c.rests_before.result in
    let r = c.args.resolution in
    subst (λ (x : Token). All (λ (u : Token). (x.start < u.end) × (u.end ≤ 64 * whole_of r)) (take n c.args.more.now)) (sym c.token.view_is)
    (All-take (λ (u : Token). (t.start < u.end) × (u.end ≤ 64 * whole_of r)) n c.args.more.now (later_ends r t c.args.more.now c.requires))

pub returns-clause-few : goal.returns-clause-few
returns-clause-few c =
    let later = take c.rests_before.result c.args.more.now in
    let few = last_few (may_stand c.args.resolution c.args.bar.now c.token.inside.start) (ends later) in
    omega (arith, few, c.last_standing.ensures, length-map later (λ (t : Token). t.end), length-take c.rests_before.result c.args.more.now)
