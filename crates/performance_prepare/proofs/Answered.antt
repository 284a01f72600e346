-- A call that answers what is meant.
use Rattle.std.proofs.Common.{◌≡◌, ◌≤◌, ℕ, ◌*◌, ◌/◌, ◌%◌, ltb, eqb, Bool, true, false, cond, refl, sym, ap, subst, ◌∙◌, arith}
use Rattle.std.specs.Prelude.{IfOk, Result, Ok, Err, Option, Some, List, [], ◌∷◌, min}
use Rattle.std.specs.List.{reduce}
use Rattle.std.proofs.lemmas.Bool.Decides.{nat_tests}
use Rattle.rhythm_base.specs.Lists.{least_of}
use Rattle.performance_load.specs.Loading.{greatest_end}
use Rattle.performance_load.specs.Take.{Take}
use Rattle.performance_prepare.specs.Outcome.{Answers}
use Rattle.performance_prepare.specs.Shift.{shifted_take, unless_late}
use Rattle.performance_prepare.specs.Upbeat.{is_whole, placed, placed_in, ticks_of, upbeat_shift}
use Rattle.performance_prepare.specs.Tempo.{fine_division, finer_shift, new_division, then_retimed, with_tempo}
use Rattle.rhythm_base.specs.Time.{tempo_at}
use Rattle.performance_prepare.specs.declared.options.Fraction.{Fraction}
use Rattle.performance_prepare.specs.declared.prepare_fault.PrepareFault.{PrepareFault}
use Rattle.performance_prepare.specs.declared.prepare_fault.PrepareFault.TheVariants.{NoNotes, TooManyVoices, WrongDivision, TooLate, BadUpbeat, Memory}

-- what is meant is an answer
pub meant_answers : (r : Result Take PrepareFault) → Answers r r
meant_answers (Ok t) = refl
meant_answers (Err NoNotes) = refl
meant_answers (Err (TooManyVoices count)) = refl
meant_answers (Err (WrongDivision division)) = refl
meant_answers (Err (TooLate tick)) = refl
meant_answers (Err (BadUpbeat num den)) = refl
meant_answers (Err Memory) = tt

-- an answer has what that which is meant has
pub answered : (P : Take → Type 0) (meant r : Result Take PrepareFault) → Answers meant r → IfOk meant P → IfOk r P
answered P meant (Ok u) is has = subst (λ (m : Result Take PrepareFault). IfOk m P) is has
answered P meant (Err fault) is has = tt

pub if_ok : (P : Take → Type 0) (m : Result Take PrepareFault) → ((u : Take) → m ≡ Ok u → P u) → IfOk m P
if_ok P (Ok u) each = each u refl
if_ok P (Err fault) each = tt

pub same_answers : (meant r : Result Take PrepareFault) → r ≡ meant → Answers meant r
same_answers meant r is = subst (λ m. Answers m r) is (meant_answers r)

-- what is not too late is the take itself
pub timely : (t u : Take) → Ok u ≡ unless_late t → u ≡ t
timely t u h = by (ltb 1000000000 (greatest_end t.notes)) h
  where
    by : (b : Bool) → Ok u ≡ cond b (Err (TooLate (greatest_end t.notes))) (Ok t) → u ≡ t
    by true h = absurd (cc)
    by false h = cc

-- and ends early
pub ends_early : (t u : Take) → Ok u ≡ unless_late t → greatest_end t.notes ≤ 1000000000
ends_early t u h = by (ltb 1000000000 (greatest_end t.notes)) refl h
  where
    by : (b : Bool) → ltb 1000000000 (greatest_end t.notes) ≡ b → Ok u ≡ cond b (Err (TooLate (greatest_end t.notes))) (Ok t)
        → greatest_end t.notes ≤ 1000000000
    by true is h = absurd (cc)
    by false is h = grind (arith, nat_tests)

-- ---- the upbeat

pub least_reduced : (xs : List ℕ) (n : ℕ) → Some n ≡ reduce min xs → n ≡ least_of xs
least_reduced [] n h = absurd (cc)
least_reduced (x ∷ xs) n h = cc

pub placed_answers : (bar : ℕ) (u : Fraction) (t : Take) (r : Result Take PrepareFault) → (4 * t.division * u.num) % u.den ≡ 0
    → (4 * t.division * u.num) / u.den ≤ bar
    → r ≡ unless_late (shifted_take (upbeat_shift bar ((4 * t.division * u.num) / u.den) t) t) → Answers (placed bar u t) r
placed_answers bar u t r whole fits is = same_answers (placed bar u t) r (is ∙ sym opened)
  where
    holds : is_whole t.division u ≡ true
    holds = grind (arith, nat_tests)

    below : ltb bar (ticks_of t.division u) ≡ false
    below = grind (arith, nat_tests)

    opened : placed bar u t ≡ unless_late (shifted_take (upbeat_shift bar (ticks_of t.division u) t) t)
    opened = rw (holds, below) refl

pub placed_in_answers : (o : Option ℕ) (bar : ℕ) (u : Fraction) (t : Take) (r : Result Take PrepareFault) → Some bar ≡ o
    → Answers (placed bar u t) r → Answers (placed_in o u t) r
placed_in_answers o bar u t r is h = subst (λ p. Answers (placed_in p u t) r) is h

-- ---- the tempo

pub tempo_answers : (q : ℕ) (t : Take) (r o : Result Take PrepareFault) → (new_division q t ≡ 0 → ⊥) → new_division q t ≤ 32767
    → o ≡ unless_late (shifted_take (finer_shift t) t)
    → Answers (then_retimed (new_division q t) (fine_division t) (tempo_at t.tempos 0) o) r → Answers (with_tempo q t) r
tempo_answers q t r o some few is h =
    subst (λ m. Answers m r) (ap (then_retimed (new_division q t) (fine_division t) (tempo_at t.tempos 0)) is ∙ sym opened) h
  where
    more : eqb (new_division q t) 0 ≡ false
    more = grind (arith, nat_tests)

    below : ltb 32767 (new_division q t) ≡ false
    below = grind (arith, nat_tests)

    opened : with_tempo q t ≡ then_retimed (new_division q t) (fine_division t) (tempo_at t.tempos 0)
        (unless_late (shifted_take (finer_shift t) t))
    opened = rw (more, below) refl
