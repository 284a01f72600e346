use Rattle.std.proofs.Common.{map, take}
use Rattle.std.specs.Prelude.{All}
use Rattle.bar_pool.specs.Pool.{AreTablesOf}
use Rattle.edit_session.specs.Standing.{StandBy}
use Rattle.rhythm_base.specs.Grammar.{Grammar}
use Rattle.edit_session.proofs.standing.Standing.tables.Given as goal

abbrev pub invariant-inputs : goal.invariant-inputs
invariant-inputs l = (grammar : Grammar) → All (StandBy grammar) l.voices
    → AreTablesOf grammar (take l.number l.inputs) (map (λ t. t.now) l.found.items)
