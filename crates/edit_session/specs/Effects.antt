-- What changes and edits do to a session, and how many tables an edit builds.
use Rattle.std.specs.Prelude.{◌≡◌, ◌≢◌, ℕ, ◌≤◌, List, All, IsOk, Result, Ok, Err, length}
use Rattle.edit_laws.specs.EditOutcomes.{IsOutcome, IsRefused, made}
use Rattle.edit_laws.specs.Edits.{edited}
use Rattle.edit_laws.specs.Reached.{AreReached, WouldReach}
use Rattle.edit_session.specs.Prepared.{Prepared, RisesBy, Suits}
use Rattle.edit_session.specs.Products.{AreProductsOf, AreProductsOfEdit}
use Rattle.edit_session.specs.Session.{Session}
use Rattle.edit_session.specs.declared.committed.Applied.{Applied}
use Rattle.edit_session.specs.declared.committed.Committed.{Committed}
use Rattle.edit_session.specs.declared.committed.Dead.{Dead}
use Rattle.rhythm_base.specs.Grammar.{Grammar}
use Rattle.rhythm_base.specs.Performance.{Performance}
use Rattle.rhythm_base.specs.Voices.{HasDerivation, IsCostOf, IsDeadVoice}
use Rattle.rhythm_base.specs.declared.edit.Edit.{Edit}
use Rattle.rhythm_base.specs.declared.edit_fault.EditFault.{EditFault}
use Rattle.rhythm_base.specs.declared.edit_fault.EditFault.TheVariants.{Memory}

-- each voice of the performance has a derivation
abbrev pub AllLive : Grammar → Performance → Type 0
AllLive g p = All (HasDerivation g p) p.channels

-- the way back from a session to what it was
pub record IsWayBack (old new : Session) (back : Prepared) : Type 0 where
  pub next : back.next ≡ old.performance
  pub suits : Suits new.grammar new.performance back
  pub room : length back.next.bars ≤ new.room

-- ---- a change that was made ready

-- the session stands on what was prepared, each voice of which has a derivation, and all else of it is as before; the cells that the
-- change reached, the cost afterwards, and the way back are told
pub record IsCommitted (old : Session) (x : Prepared) (new : Session) (c : Committed) : Type 0 where
  pub grammar : new.grammar ≡ old.grammar
  pub workers : new.workers ≡ old.workers
  pub room : new.room ≡ old.room
  pub performance : new.performance ≡ x.next
  pub derivations : AllLive old.grammar x.next
  pub built : c.applied.built ≡ length x.tables
  pub cost : IsCostOf old.grammar x.next c.applied.cost
  pub way_back : IsWayBack old new c.back

-- some voice of what was prepared would have no derivation: the first such one, and its dead bar
pub record IsGivenUp (old : Session) (x : Prepared) (d : Dead) : Type 0 where
  pub dead : IsDeadVoice old.grammar x.next d.channel d.bar
  pub lives : AllLive old.grammar x.next → ⊥

-- the products of so many changes of a session to another performance
abbrev pub HasMultiplied : ℕ → Session → Performance → ℕ → ℕ → Type 0
HasMultiplied changes s after old new = AreProductsOf changes s.grammar s.performance after old new

-- no more than the cells that a change of a session to another performance reaches
abbrev pub IsWithinReached : Session → Performance → ℕ → Type 0
IsWithinReached s after n = (cells : List (ℕ × ℕ)) → AreReached s.grammar s.performance after cells → n ≤ length cells

-- ---- an edit

-- the session has memory for the bars of the performance after the edit, where there is one
abbrev pub HasRoomFor : Session → Edit → Type 0
HasRoomFor s edit = (next : Performance) → edited s.performance edit ≡ Ok next → length next.bars ≤ s.room

-- a session by the same grammar and as many workers. It has taken memory for more bars only where it had not enough for those after
-- the edit
pub record IsStill (old : Session) (edit : Edit) (new : Session) : Type 0 where
  pub grammar : new.grammar ≡ old.grammar
  pub workers : new.workers ≡ old.workers
  pub room : old.room ≤ new.room
  pub enough : HasRoomFor old edit → new.room ≡ old.room

-- why an edit is not made ready: the performance refuses it, or, where it does not, there may not be enough memory
pub record IsUnprepared (p : Performance) (edit : Edit) (fault : EditFault) : Type 0 where
  pub refused : fault ≢ Memory → edited p edit ≡ Err fault
  pub memory : fault ≡ Memory → IsOk (edited p edit)

-- the edit is made: the session stands on the performance after it, each voice of which has a derivation
pub record IsApplied (old : Session) (edit : Edit) (new : Session) (a : Applied) : Type 0 where
  pub still : IsStill old edit new
  pub made : IsOutcome old.grammar old.performance edit (made a.built a.cost) new.performance
  pub derivations : AllLive new.grammar new.performance
  pub room : length new.performance.bars ≤ new.room

-- the edit is refused, and the session stands where it stood: the edit leads to no performance of which each voice has a derivation. There
-- may not be enough memory where the performance alone does not refuse it
pub record IsRejected (old : Session) (edit : Edit) (new : Session) (fault : EditFault) : Type 0 where
  pub still : IsStill old edit new
  pub performance : new.performance ≡ old.performance
  pub refused : fault ≢ Memory → IsRefused old.grammar old.performance edit fault
  pub never : fault ≢ Memory → (next : Performance) → edited old.performance edit ≡ Ok next → AllLive old.grammar next → ⊥
  pub memory : fault ≡ Memory → IsOk (edited old.performance edit)

-- how many tables are built for an edit that is refused: that of each cell that it would have reached, and no more than these where
-- memory was wanting
pub record AreBuiltInVain (g : Grammar) (p : Performance) (edit : Edit) (fault : EditFault) (n : ℕ) : Type 0 where
  pub most : (cells : List (ℕ × ℕ)) → WouldReach g p edit cells → n ≤ length cells
  pub all : fault ≢ Memory → (cells : List (ℕ × ℕ)) × WouldReach g p edit cells × (n ≡ length cells)

abbrev pub HasBuiltInVain : Session → Edit → ℕ → ℕ → EditFault → Type 0
HasBuiltInVain s edit old new fault = RisesBy old new (AreBuiltInVain s.grammar s.performance edit fault)

-- the products of an edit of a session, by what becomes of it
abbrev pub HasMultipliedFor : {A : Type 0} → Session → Edit → Result A EditFault → ℕ → ℕ → Type 0
HasMultipliedFor s edit result old new = AreProductsOfEdit s.grammar s.performance edit result old new
