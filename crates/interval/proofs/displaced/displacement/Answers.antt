use Rattle.std.proofs.Common.{rules, ◌≡◌, ◌≤◌, ◌*◌, ◌/◌, subst, sym}
use Rattle.rhythm_base.specs.Cost.{displacement_of}
use Rattle.interval.proofs.Bounds.{displacement_small}
use Rattle.rhythm_base.proofs.Beats.{some_beat}
use Rattle.interval.proofs.displaced.displacement.Goals as goal

pub returns-clause-small : goal.returns-clause-small
returns-clause-small c =
    let value : 3840 * c.from-3.result * c.abs_diff.result / (c.from-4.result * (c.from-5.result * c.args.length)) ≡ displacement_of c.args.num c.args.den c.args.length c.args.resolution c.args.q c.args.onset = search rules in
    let small = displacement_small c.args.num c.args.den c.args.length c.args.resolution c.args.q c.args.onset c.requires.signature.few (some_beat c.args.den c.requires.signature.power) c.requires.unit c.requires.onset in
    subst (λ n. n ≤ 245760) (sym value) small
