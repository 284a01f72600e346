-- The edits of a drill so far, and one more.
use Rattle.std.proofs.Common.{◌≡◌, ℕ, ◌+◌, refl, sym, subst, arith}
use Rattle.std.proofs.Math.Numerals.{add-one}
use Rattle.rhythm_base.specs.Counter.{risen}
use Rattle.rhythm_base.specs.Grammar.{Grammar}
use Rattle.rhythm_base.specs.Performance.{Performance}
use Rattle.drill_run.specs.declared.drill.TheConstants.{DRILL_EDITS}
use Rattle.drill_run.specs.Drill.{Drilled, IsDrilledTo, IsDrillStep, undrilled}
use Rattle.drill_run.specs.Ends.{IsDrillBrokenOff}
use Rattle.drill_run.proofs.Tries.{standing}

-- a drill stands there after its first edits, and a counter rose from one number to another
abbrev pub HasComeTo : Grammar → ℕ → Performance → ℕ → Performance → ℕ → ℕ → ℕ → ℕ → Type 0
HasComeTo g number p e q accepted built start now = (besides : ℕ) × IsDrilledTo g number p e (standing q accepted built) besides × (now ≡ risen start (built + besides))

undrilled_to : (g : Grammar) (number : ℕ) (p : Performance) → IsDrilledTo g number p 0 (undrilled p) 0
unfolding IsDrilledTo
undrilled_to g number p = (refl, refl)

pub at_start : (g : Grammar) (number : ℕ) (p : Performance) (accepted built start : ℕ) → accepted ≡ 0 → built ≡ 0 → HasComeTo g number p 0 p accepted built start start
at_start g number p accepted built start none unbuilt =
    let is : standing p 0 0 ≡ standing p accepted built = λ i. standing p (sym none i) (sym unbuilt i) in
    (0, subst (λ (d : Drilled). IsDrilledTo g number p 0 d 0) is (undrilled_to g number p), omega (arith, unbuilt))

one_more : (g : Grammar) (number : ℕ) (p : Performance) (e : ℕ) (before last : Drilled) (some more : ℕ) → IsDrilledTo g number p e before some → IsDrillStep g number e before last more
    → IsDrilledTo g number p (e + 1) last (some + more)
unfolding IsDrilledTo
one_more g number p e before last some more drilled step = rw add-one (before, some, more, drilled, step, refl)

module _ (g h : Grammar) (number m : ℕ) (p q : Performance) (e accepted built start now : ℕ) (same : h ≡ g) (of_number : m ≡ number)
    (come : HasComeTo g number p e q accepted built start now) where
  pub went_on : (r : Performance) (accepted' built' later : ℕ)
      → ((reached besides : ℕ) × IsDrillStep h m e (standing q accepted built) (standing r accepted' built') besides × (built' ≡ built + reached) × (later ≡ risen now (reached + besides)))
      → HasComeTo g number p (e + 1) r accepted' built' start later
  went_on r accepted' built' later (reached, more, step, grown, rises) =
      let first : IsDrillStep g m e (standing q accepted built) (standing r accepted' built') more =
      subst (λ (x : Grammar). IsDrillStep x m e (standing q accepted built) (standing r accepted' built') more) same step in
      let own : IsDrillStep g number e (standing q accepted built) (standing r accepted' built') more =
      subst (λ (n : ℕ). IsDrillStep g n e (standing q accepted built) (standing r accepted' built') more) of_number first in
      let before = come.2 in
      (come.0 + more, one_more g number p e (standing q accepted built) (standing r accepted' built') come.0 more come.1 own, omega (arith, before, grown, rises))

-- there was not enough memory after the last edit
pub broke_off_at_end : (g : Grammar) (number : ℕ) (p q : Performance) (accepted built start now : ℕ) → HasComeTo g number p DRILL_EDITS q accepted built start now
    → IsDrillBrokenOff g number p start now
broke_off_at_end g number p q accepted built start now (besides, drilled, rises) = record {
  edits = DRILL_EDITS;
  few = omega arith;
  last = standing q accepted built;
  besides = besides;
  drilled = drilled;
  allowed = λ edit some is. absurd (omega (arith, some));
  more = 0;
  next = λ edit is cells would. omega arith;
  none = λ last. refl;
  rises = omega (arith, rises);
}
