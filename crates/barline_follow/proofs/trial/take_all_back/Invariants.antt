use Rattle.std.proofs.Common.{◌≡◌, ◌≤◌, length}
use Rattle.std.specs.Prelude.{reverse}
use Rattle.rhythm_base.specs.Performance.{Performance}
use Rattle.barline_follow.specs.Trial.{LeadBack}
use Rattle.barline_follow.proofs.trial.take_all_back.Given as goal

abbrev pub invariant-backs : goal.invariant-backs
invariant-backs g l =
    (l.session.grammar ≡ l.initial.session.grammar)
    × (l.session.room ≡ l.initial.session.room)
    × ((start : Performance) → LeadBack l.initial.session.grammar l.initial.session.room l.initial.session.performance (reverse l.initial.backs.items) start
    → LeadBack l.session.grammar l.session.room l.session.performance (reverse l.backs.items) start)
    × (l.initial.products ≤ l.products)

abbrev pub decreases-backs : goal.decreases-backs
decreases-backs g l = length l.backs.items
