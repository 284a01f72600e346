use Rattle.std.proofs.Common.{arith, ◌≤◌, sym}
use Rattle.performance_prepare.specs.Groups.{first_onset}
use Rattle.performance_prepare.proofs.Grouped.{holds_later}
use Rattle.performance_prepare.proofs.groups.is_held.Goals as goal

pub returns-then-end-onset : goal.returns-then-end-onset
returns-then-end-onset c =
    let e = c.requires.first in
    let le = c.if-end-onset.true in
    let early : c.args.end ≤ first_onset c.args.group.now = omega (arith, e, le) in
    sym (holds_later c.args.map.now.tempos c.args.division c.args.end c.args.group.now c.args.key early)
