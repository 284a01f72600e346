-- What is told where ticks are tried for a barline of a session, and which tables are built for them.
use Rattle.std.specs.Prelude.{◌≡◌, ◌≢◌, ℕ, ◌∷◌, [], Option, Result, Err, IsOk}
use Rattle.barline_fit.specs.Builds.{AreReachedAt, AreWithinReach}
use Rattle.barline_fit.specs.Candidates.{ticks_of}
use Rattle.barline_fit.specs.Fitted.{IsAcceptedAt, IsFitFault, IsFitted, IsTriedAt}
use Rattle.barline_fit.specs.declared.candidates.Candidate.{Candidate}
use Rattle.barline_fit.specs.declared.candidates.Candidates.{Candidates}
use Rattle.barline_fit.specs.declared.fit_fault.FitFault.{FitFault}
use Rattle.barline_fit.specs.declared.fit_fault.FitFault.TheVariants.{Memory, NoBar}
use Rattle.barline_fit.specs.declared.fitted.Fitted.{Fitted}
use Rattle.edit_laws.specs.Edits.{edited}
use Rattle.edit_session.specs.Prepared.{RisesBy}
use Rattle.edit_session.specs.Session.{Session}
use Rattle.rhythm_base.specs.declared.edit.Edit.TheVariants.{Barline}

-- ---- one candidate

-- the barline of the session can be set there
abbrev pub CanBeSet : Session → Candidate → Type 0
CanBeSet s c = (cost : ℕ) × IsAcceptedAt s.grammar s.performance c.bar c.tick cost

-- the performance of the session does not refuse the barline there
abbrev pub IsAllowed : Session → Candidate → Type 0
IsAllowed s c = IsOk (edited s.performance (Barline c.bar c.tick))

-- what the performance of the session costs with the barline there, where it can be set
abbrev pub IsCostAt : Session → Candidate → Option ℕ → Type 0
IsCostAt s c cost = IsTriedAt s.grammar s.performance c.bar c.tick cost

-- a table is built for each cell that the barline reaches there
abbrev pub HasReached : Session → Candidate → ℕ → ℕ → Type 0
HasReached s c old new = RisesBy old new (AreReachedAt s.grammar s.performance c.bar (c.tick ∷ []))

-- and no more than these
abbrev pub HasReachedSome : Session → Candidate → ℕ → ℕ → Type 0
HasReachedSome s c old new = RisesBy old new (AreWithinReach s.grammar s.performance c.bar (c.tick ∷ []))

-- ---- all candidates

-- one of them is fitted
abbrev pub IsFittedAmong : Session → Candidates → Fitted → Type 0
IsFittedAmong s c x = IsFitted s.grammar s.performance c.bar (ticks_of c) x

-- why none is
abbrev pub IsFaultAmong : Session → Candidates → FitFault → Type 0
IsFaultAmong s c fault = IsFitFault s.grammar s.performance c.bar (ticks_of c) fault

-- how many tables are built: those of the cells that the barline reaches at all of them together, none where there is no such barline,
-- and no more than these where memory was wanting
pub record HasBuiltToFit (s : Session) (c : Candidates) (result : Result Fitted FitFault) (old new : ℕ) : Type 0 where
  pub all : result ≢ Err Memory → RisesBy old new (AreReachedAt s.grammar s.performance c.bar (ticks_of c))
  pub none : result ≡ Err (NoBar c.bar) → new ≡ old
  pub most : RisesBy old new (AreWithinReach s.grammar s.performance c.bar (ticks_of c))
