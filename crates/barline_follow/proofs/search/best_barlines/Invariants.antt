use Rattle.std.proofs.Common.{ℕ, ◌+◌, ◌≤◌, ◌-◌, ◌*◌, map, length}
use Rattle.std.specs.Prelude.{All, Option}
use Rattle.bar_pool.specs.Pool.{RisesWithin}
use Rattle.edit_session.specs.Prepared.{RisesBy}
use Rattle.barline_follow.specs.Barring.{Barring}
use Rattle.barline_follow.specs.Builds.{most_lists}
use Rattle.barline_follow.specs.Gathered.{barring_of}
use Rattle.barline_follow.specs.Rounds.{ComeTo, IsBest}
use Rattle.barline_follow.specs.Searched.{AreBuiltInRounds, AreBuiltInSearch}
use Rattle.barline_follow.specs.Courses.{IsCourse}
use Rattle.barline_follow.proofs.search.best_barlines.Given as goal

abbrev pub invariant-rounds : goal.invariant-rounds
invariant-rounds g l =
    All (IsCourse l.grammar l.performance l.voices.items l.number) l.front.items
    × ((last : Option Barring) → ComeTo l.grammar l.performance (2 * length l.performance.bars - l.number) l.number (map barring_of l.front.items) l.best last
    → IsBest l.grammar l.performance last)
    × (length l.front.items ≤ most_lists l.number)
    × RisesWithin l.initial.builds l.builds (l.number * (24 * 14 * length l.voices.items))
    × RisesBy l.initial.builds l.builds (λ n. (others : ℕ)
    → AreBuiltInRounds l.grammar l.performance (2 * length l.performance.bars - l.number) l.number (map barring_of l.front.items) l.best others
    → AreBuiltInSearch l.grammar l.performance (n + others))
