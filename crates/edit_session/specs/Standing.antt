-- Of what the tables that stand are.
use Rattle.std.specs.Prelude.{All}
use Rattle.rhythm_base.specs.BarTables.{IsTable}
use Rattle.rhythm_base.specs.Grammar.{Grammar}
use Rattle.edit_session.specs.VoiceTables.{VoiceTables}

-- each table of the voice is one of the grammar
abbrev pub StandBy : Grammar → VoiceTables → Type 0
StandBy g voice = All (IsTable g) voice.tables
