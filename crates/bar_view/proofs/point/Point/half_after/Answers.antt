use Rattle.std.proofs.Common.{◌≡◌, ◌+◌, ◌*◌, ◌≤◌, ◌<◌, arith}
use Rattle.bar_view.proofs.Points.{first-multiple, twice, twice-one, twice-two}
use Rattle.bar_view.proofs.point.Point.half_after.Goals as goal

pub returns-then-self-eq0 : goal.returns-then-self-eq0
returns-then-self-eq0 c = λ at p half.
    let u = c.args.self.unit in
    let l = c.args.length in
    let all = twice u l in
    let none : c.args.self.rest ≡ 0 = c.if-self-eq0.true in
    first-multiple l (2 * at) (2 * u) half (omega (arith, all, none, p.sum)) (omega (arith, all, none, p.sum, p.inside))

pub returns-then-self-length : goal.returns-then-self-length
returns-then-self-length c = λ at p half.
    let u = c.args.self.unit in
    let l = c.args.length in
    let all = twice-one u l in
    let low : 2 * c.args.self.rest ≤ l = c.if-self-length.true in
    first-multiple l (2 * at) (2 * u + 1) half (omega (arith, all, low, p.sum)) (let some = c.if-self-eq0.false in omega (arith, all, some, p.sum, p.inside))

pub returns-else-self-length : goal.returns-else-self-length
returns-else-self-length c = λ at p half.
    let u = c.args.self.unit in
    let l = c.args.length in
    let all = twice-two u l in
    let high : l < 2 * c.args.self.rest = c.if-self-length.false in
    first-multiple l (2 * at) (2 * u + 2) half (omega (arith, all, p.inside, p.sum)) (omega (arith, all, high, p.sum, p.inside))
