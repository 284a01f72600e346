-- The trial of edits on a session, and the way back over those that were made.
use Rattle.std.specs.Prelude.{◌≡◌, ℕ, ◌≤◌, Bool, true, false, List, [], ◌∷◌, All, IsOk, Option, Some, None, length, reverse}
use Rattle.edit_laws.specs.Edits.{edited}
use Rattle.edit_session.specs.Prepared.{Prepared, RisesBy, Suits}
use Rattle.edit_session.specs.Session.{Session}
use Rattle.rhythm_base.specs.declared.edit.Edit.{Edit}
use Rattle.rhythm_base.specs.Grammar.{Grammar}
use Rattle.rhythm_base.specs.Performance.{IsWellFormed, Performance}
use Rattle.rhythm_base.specs.Voices.{HasDerivation, IsCostOf}
use Rattle.barline_follow.specs.Builds.{AreMostBuilt, AreReachedInTurn, AreWithinReachInTurn}
use Rattle.barline_follow.specs.Script.{Accepts, IsOfBars, Leads}
use Rattle.barline_follow.specs.Searched.{AreBuiltToFollow}

-- ---- the way back

-- one step back from p
pub record IsStepBack (g : Grammar) (p : Performance) (room : ℕ) (back : Prepared) : Type 0 where
  pub suits : Suits g p back
  pub formed : IsWellFormed back.next
  pub derivations : All (HasDerivation g back.next) back.next.channels
  pub room_back : length back.next.bars ≤ room

-- these steps, one after another, lead from p back to the start
abbrev pub LeadBack : Grammar → ℕ → Performance → List Prepared → Performance → Type 0
LeadBack g room p [] start = p ≡ start
LeadBack g room p (back ∷ backs) start = IsStepBack g p room back × LeadBack g room back.next backs start

-- the steps that were kept, the last one last, lead from where a session stands back to the start
abbrev pub KeptLeadBack : Session → List Prepared → Performance → Type 0
KeptLeadBack s backs start = LeadBack s.grammar s.room s.performance (reverse backs) start

-- ---- a session on which edits are tried

-- it is by the same grammar, and has no less room
pub record IsRoomier (old new : Session) : Type 0 where
  pub grammar : new.grammar ≡ old.grammar
  pub room : old.room ≤ new.room

-- and it stands where it stood
pub record IsBackAgain (old new : Session) : Type 0 where
  pub grammar : new.grammar ≡ old.grammar
  pub performance : new.performance ≡ old.performance
  pub room : old.room ≤ new.room

-- ---- one edit

-- the edit is accepted, and there is a step back; or it is refused, which says something of edits of bars alone
abbrev pub IsTriedEdit : Session → Edit → Session → Option Prepared → Type 0
IsTriedEdit old edit new (Some back) =
    Accepts old.grammar old.performance edit new.performance × IsStepBack old.grammar new.performance new.room back
    × (back.next ≡ old.performance)
IsTriedEdit old edit new None =
    (new.performance ≡ old.performance)
    × (IsOfBars edit → (next : Performance) → Accepts old.grammar old.performance edit next → ⊥)

-- memory is wanting, which comes only where the performance alone does not refuse the edit
abbrev pub IsUnmade : Session → Edit → Session → Type 0
IsUnmade old edit new = (new.performance ≡ old.performance) × IsOk (edited old.performance edit)

-- ---- several edits

-- all are accepted in turn; or one of them is refused
abbrev pub AreAllMade : Session → List Edit → Session → Bool → Type 0
AreAllMade old edits new true = Leads old.grammar old.performance edits new.performance
AreAllMade old edits new false = All IsOfBars edits → (after : Performance) → Leads old.grammar old.performance edits after → ⊥

-- what the performance costs after them, where all are accepted in turn; or nothing
abbrev pub IsCostAfter : Session → List Edit → Option ℕ → Type 0
IsCostAfter s edits (Some cost) = (after : Performance) × Leads s.grammar s.performance edits after × IsCostOf s.grammar after cost
IsCostAfter s edits None = All IsOfBars edits → (after : Performance) → Leads s.grammar s.performance edits after → ⊥

-- a table is built for each cell that edits of bars reach in turn
abbrev pub HasReachedInTurn : Session → List Edit → ℕ → ℕ → Type 0
HasReachedInTurn s edits old new =
    All IsOfBars edits → RisesBy old new (AreReachedInTurn s.grammar s.performance edits)

-- and no more than these
abbrev pub HasReachedSomeInTurn : Session → List Edit → ℕ → ℕ → Type 0
HasReachedSomeInTurn s edits old new =
    All IsOfBars edits → RisesBy old new (AreWithinReachInTurn s.grammar s.performance edits)

-- ---- barlines that follow the player

-- what is built to follow the player of a session
abbrev pub HasBuiltToFollow : Session → ℕ → ℕ → Type 0
HasBuiltToFollow s old new = RisesBy old new (AreBuiltToFollow s.grammar s.performance)

-- and no more than what is built at most
abbrev pub HasBuiltSomeToFollow : Session → ℕ → ℕ → Type 0
HasBuiltSomeToFollow s old new = RisesBy old new (λ n. (most : ℕ) → AreMostBuilt s.grammar s.performance most → n ≤ most)
