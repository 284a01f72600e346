-- What a history keeps: each step leads back, or on, from the performance beside it.
use Rattle.std.specs.Prelude.{ℕ, ◌+◌, ◌≤◌, ⊤, List, [], ◌∷◌, All, length}
use Rattle.edit_session.specs.Prepared.{Prepared, Suits}
use Rattle.edit_session.specs.Session.{Session}
use Rattle.rhythm_base.specs.Grammar.{Grammar}
use Rattle.rhythm_base.specs.Performance.{IsWellFormed, Performance}
use Rattle.rhythm_base.specs.Voices.{HasDerivation}
use Rattle.session_history.specs.declared.steps.TheConstants.{MOST_STEPS}

-- a performance on which a session can stand: it is well formed, and each of its voices has a derivation
unfoldable pub Lives : Grammar → Performance → Type 0
Lives g p = IsWellFormed p × All (HasDerivation g p) p.channels

-- a session with so much room can be put there
pub record CanBeHeld (g : Grammar) (room : ℕ) (p : Performance) : Type 0 where
  pub lives : Lives g p
  pub short : length p.bars ≤ room

-- the performance that the first of these ways back is gone from, where the last is gone from p
abbrev pub first_of : List Prepared → Performance → Performance
first_of [] p = p
first_of (x ∷ more) p = x.next

-- each way back suits the performance after it
abbrev pub LeadsBack : Grammar → List Prepared → Performance → Type 0
LeadsBack g [] p = ⊤
LeadsBack g (x ∷ more) p = Suits g (first_of more p) x × LeadsBack g more p

-- each way on suits the performance before it
abbrev pub LeadsOn : Grammar → Performance → List Prepared → Type 0
LeadsOn g p [] = ⊤
LeadsOn g p (x ∷ more) = Suits g p x × LeadsOn g x.next more

-- what is kept beside a session: the ways back, the way to the latest last, and the ways on, the way to the next first
pub record KeepsWays (session : Session) (back on : List Prepared) : Type 0 where
  pub few : length back + length on ≤ MOST_STEPS
  pub leads_back : LeadsBack session.grammar back session.performance
  pub leads_on : LeadsOn session.grammar session.performance on
  pub past : All (λ x. CanBeHeld session.grammar session.room x.next) back
  pub present : CanBeHeld session.grammar session.room session.performance
  pub future : All (λ x. CanBeHeld session.grammar session.room x.next) on
