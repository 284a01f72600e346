use Rattle.std.proofs.Common.{◌≡◌, ◌*◌, ◌≤◌}
use Rattle.drill_run.proofs.Drills.{HasComeTo}
use Rattle.drill_run.proofs.Keeps.{HasEnough}
use Rattle.drill_run.proofs.drill.Drill.make_edits.Given as goal

-- where the drill stands, and that there is enough for the edits to come
abbrev pub invariant-edits : goal.invariant-edits
invariant-edits g l =
    (l.self.number ≡ l.initial.self.number)
    × (l.self.session.grammar ≡ l.initial.self.session.grammar)
    × HasComeTo l.initial.self.session.grammar l.initial.self.number l.initial.self.session.performance l.index l.self.session.performance l.self.accepted l.self.built l.initial.builds l.builds
    × HasEnough l.index l.self.session.performance
    × (l.self.accepted ≤ l.index)
    × (l.self.built ≤ 65536 * l.index)
    × (l.initial.products ≤ l.products)
