use Rattle.std.proofs.Common.{◌≡◌, ◌≤◌, take}
use Rattle.std.specs.Prelude.{All, reverse}
use Rattle.edit_session.specs.Prepared.{RisesBy}
use Rattle.barline_follow.specs.Builds.{AreReachedInTurn}
use Rattle.barline_follow.specs.Script.{IsOfBars, Leads}
use Rattle.barline_follow.specs.Trial.{LeadBack}
use Rattle.barline_follow.proofs.trial.make_all.Given as goal

abbrev pub invariant-edits : goal.invariant-edits
invariant-edits g l =
    (l.session.grammar ≡ l.initial.session.grammar)
    × (l.initial.session.room ≤ l.session.room)
    × LeadBack l.session.grammar l.session.room l.session.performance (reverse l.backs.items) l.initial.session.performance
    × Leads l.initial.session.grammar l.initial.session.performance (take l.edit-index l.script) l.session.performance
    × (l.initial.products ≤ l.products)
    × (All IsOfBars l.script → RisesBy l.initial.builds l.builds (AreReachedInTurn l.initial.session.grammar l.initial.session.performance (take l.edit-index l.script)))
