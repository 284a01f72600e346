use Rattle.std.proofs.Common.{◌+◌, ◌*◌, ◌≤◌, ◌<◌, arith}
use Rattle.bar_view.proofs.Points.{last-multiple, twice, twice-one}
use Rattle.bar_view.proofs.point.Point.half_before.Goals as goal

pub returns-then-self-length : goal.returns-then-self-length
returns-then-self-length c = λ at p half.
    let u = c.args.self.unit in
    let l = c.args.length in
    let all = twice u l in
    let low : 2 * c.args.self.rest < l = c.if-self-length.true in
    last-multiple l (2 * at) (2 * u) half (omega (arith, all, p.sum)) (omega (arith, all, low, p.sum))

pub returns-else-self-length : goal.returns-else-self-length
returns-else-self-length c = λ at p half.
    let u = c.args.self.unit in
    let l = c.args.length in
    let all = twice-one u l in
    let high : l ≤ 2 * c.args.self.rest = c.if-self-length.false in
    last-multiple l (2 * at) (2 * u + 1) half (omega (arith, all, high, p.sum)) (omega (arith, all, p.inside, p.sum))
