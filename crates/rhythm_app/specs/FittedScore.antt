-- The score of a performance after one of its barlines is set to a tick.
use Rattle.std.specs.Prelude.{◌≡◌, ℕ, List, Result, Ok}
use Rattle.barline_fit.specs.declared.candidates.Candidate.{Candidate}
use Rattle.edit_session.specs.Session.{Session}
use Rattle.kern_writer.specs.PerformanceText.{IsWrittenScore}
use Rattle.edit_laws.specs.Edits.{edited}
use Rattle.rhythm_base.specs.Grammar.{Grammar}
use Rattle.rhythm_base.specs.Performance.{Performance}
use Rattle.rhythm_base.specs.declared.edit.Edit.TheVariants.{Barline}

-- what is written of the performance after the barline is set to the tick
abbrev pub IsFittedScore : Grammar → Performance → ℕ → ℕ → Result (List ℕ) ℕ → Type 0
IsFittedScore g p bar tick score = (next : Performance) × (edited p (Barline bar tick) ≡ Ok next) × IsWrittenScore g next score

-- what is written of the session with the barline there
abbrev pub IsScoreAt : Session → Candidate → Result (List ℕ) ℕ → Type 0
IsScoreAt s c score = IsFittedScore s.grammar s.performance c.bar c.tick score
