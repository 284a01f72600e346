-- Where a barline can be set: to a tick in the range of edits, and only where the performance has such a barline.
use Rattle.std.proofs.Common.{◌≡◌, ℕ, ◌+◌, ◌<◌, ◌≤◌, ◌==◌, Bool, true, false, ◌||◌, length, refl, sym, ap, ◌∙◌, arith, None, Ok, Err}
use Rattle.std.specs.Prelude.{nat_lt, if◌then◌else◌}
use Rattle.std.proofs.lemmas.Bool.Decides.{nat_tests}
use Rattle.barline_fit.specs.Fitted.{HasBarline}
use Rattle.edit_laws.proofs.BarEdits.{length-with_barline}
use Rattle.edit_laws.proofs.Edited.{all_pass, made, not_false}
use Rattle.edit_session.specs.Effects.{HasRoomFor}
use Rattle.edit_session.specs.Session.{Session}
use Rattle.rhythm_base.specs.Barlines.{barline, barline_after}
use Rattle.rhythm_base.specs.EditRanges.{IsEditInRange}
use Rattle.edit_laws.specs.Edits.{edit_tests, edited, first_refusal, performance_after}
use Rattle.rhythm_base.specs.Performance.{IsWellFormed, Performance}
use Rattle.rhythm_base.specs.declared.edit.Edit.TheVariants.{Barline}
use Rattle.rhythm_base.specs.declared.edit_fault.EditFault.{EditFault}
use Rattle.rhythm_base.specs.declared.edit_fault.EditFault.TheVariants.{NoBar}
use Rattle.rhythm_base.specs.declared.limits.TheConstants.{LATEST_TICK}
use Rattle.rhythm_base.proofs.Booleans.{and_right}
use Rattle.performance_laws.proofs.PerformedVoices.{by_last}

-- a barline before the next one is not past the latest tick
early : (p : Performance) (bar tick : ℕ) → IsWellFormed p → nat_lt tick (barline_after p bar) ≡ true → tick ≤ LATEST_TICK
early p bar tick w h = at (nat_lt bar (length p.bars)) h
  where
    at : (b : Bool) → nat_lt tick (if b then barline p.bars p.last (bar + 1) else LATEST_TICK + 1) ≡ true → tick ≤ LATEST_TICK
    at true less =
        let before : tick < barline p.bars p.last (bar + 1) = grind (arith, nat_tests, less) in
        omega (arith, before, by_last p.division p.last p.bars (bar + 1) w.bars, w.last_barline)
    at false less = let before : tick < LATEST_TICK + 1 = grind (arith, nat_tests, less) in omega (arith, before)

module _ (p q : Performance) (bar tick : ℕ) (w : IsWellFormed p) (is : edited p (Barline bar tick) ≡ Ok q) where
  passes : first_refusal (edit_tests p (Barline bar tick)) ≡ None
  passes = (made (performance_after p (Barline bar tick)) q (first_refusal (edit_tests p (Barline bar tick))) is).0

  -- an edit that is made is in range
  pub set_in_range : IsEditInRange (Barline bar tick)
  set_in_range =
      let pass = all_pass (edit_tests p (Barline bar tick)) passes in
      let there : bar ≤ length p.bars = grind (arith, nat_tests, pass.0) in
      (omega (arith, there, w.few_bars), early p bar tick w (and_right _ _ (not_false _ pass.1.0)))

-- what is made has its barline
pub set_has_barline : (p q : Performance) (bar tick : ℕ) → edited p (Barline bar tick) ≡ Ok q → HasBarline p bar
set_has_barline p q bar tick is =
    let none = (made (performance_after p (Barline bar tick)) q (first_refusal (edit_tests p (Barline bar tick))) is).0 in
    let pass = all_pass (edit_tests p (Barline bar tick)) none in
    (grind (arith, nat_tests, pass.0), grind (arith, nat_tests, pass.0))

-- a barline that is not there is refused at every tick
pub refused_everywhere : (p : Performance) (bar : ℕ) → (HasBarline p bar → ⊥) → (tick : ℕ) → (fault : EditFault) × (edited p (Barline bar tick) ≡ Err fault)
refused_everywhere p bar absent tick = at ((bar == 0) || nat_lt (length p.bars) bar) refl
  where
    at : (b : Bool) → ((bar == 0) || nat_lt (length p.bars) bar) ≡ b → (fault : EditFault) × (edited p (Barline bar tick) ≡ Err fault)
    at true is = (NoBar bar, rw is refl)
    at false is = absurd (absent (grind (arith, nat_tests, is), grind (arith, nat_tests, is)))

-- a barline that is set adds no bar
pub set_keeps_bars : (p q : Performance) (bar tick : ℕ) → edited p (Barline bar tick) ≡ Ok q → length q.bars ≡ length p.bars
set_keeps_bars p q bar tick is =
    let same = (made (performance_after p (Barline bar tick)) q (first_refusal (edit_tests p (Barline bar tick))) is).1 in
    ap (λ (r : Performance). length r.bars) (sym same) ∙ length-with_barline bar tick p.bars

-- so a session that has memory for the bars has enough for it
pub room_enough : (s : Session) (bar tick : ℕ) → length s.performance.bars ≤ s.room → HasRoomFor s (Barline bar tick)
room_enough s bar tick room next is = (let same = set_keeps_bars s.performance next bar tick is in omega (arith, same, room))
