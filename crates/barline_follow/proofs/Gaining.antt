-- An answer that says something gains.
use Rattle.std.proofs.Common.{◌≡◌, ◌⊎◌, inl, inr, ℕ, ◌+◌, ◌*◌, Bool, true, false, List, [], refl, ap, sym, ◌∙◌, subst, arith}
use Rattle.std.specs.Prelude.{Option, Some, None, nat_le}
use Rattle.std.proofs.lemmas.Bool.Decides.{nat_tests}
use Rattle.rhythm_base.specs.declared.edit.Edit.{Edit}
use Rattle.rhythm_base.specs.Grammar.{Grammar}
use Rattle.rhythm_base.specs.Performance.{IsWellFormed, Performance}
use Rattle.rhythm_base.specs.Voices.{IsCostOf}
use Rattle.barline_follow.specs.Answer.{chosen}
use Rattle.barline_follow.specs.Bars.{barlines_of}
use Rattle.barline_follow.specs.Barring.{Barring}
use Rattle.barline_follow.specs.Gain.{Gains}
use Rattle.barline_follow.specs.Laws.{AnswersGain}
use Rattle.barline_follow.specs.Rounds.{IsBest}
use Rattle.barline_follow.specs.Script.{Leads, script}
use Rattle.barline_follow.proofs.Answering.{chosen_best, chosen_old, no_script}
use Rattle.barline_follow.proofs.BarlinesSet.{barlines_set}
use Rattle.barline_follow.proofs.BestBounds.{best_short}

module _ (g : Grammar) (p q : Performance) (cost : ℕ) (edits : List Edit) (formed : IsWellFormed p) (none : p.pins ≡ []) (is_cost : IsCostOf g p cost) where
  abbrev Gained : Type 0
  Gained = (edits ≡ []) ⊎ ((best : Barring) × IsBest g p (Some best) × Gains g p best.prices edits)

  kept : (ticks : List ℕ) → ticks ≡ barlines_of p → edits ≡ script p ticks → Gained
  kept ticks is e = inl (e ∙ ap (script p) is ∙ no_script p)

  moved : (b : Barring) → IsBest g p (Some b) → nat_le (10 * (b.cost + b.prices)) (7 * cost) ≡ true → Leads g p (script p b.ticks) q
      → edits ≡ script p b.ticks → Gained
  moved b is_best worth leads e =
      let good = best_short g p (Some b) is_best in
      inr (
        b,
        is_best,
        record {
          after = q;
          leads = subst (λ (l : List Edit). Leads g p l q) (sym e) leads;
          cost = b.cost;
          cost_is = subst (λ (r : Performance). IsCostOf g r b.cost) (sym (barlines_set g p q b.ticks formed none good.some_bar leads)) good.is_whole.cost;
          before = cost;
          before_is = is_cost;
          gain = grind (arith, nat_tests, worth);
        },
      )

  by_best : (best : Option Barring) (ticks : List ℕ) → IsBest g p best → ticks ≡ chosen p cost best → Leads g p (script p ticks) q
      → edits ≡ script p ticks → Gained
  by_best None ticks is_best is leads e = kept ticks is e
  by_best (Some b) ticks is_best is leads e = by (nat_le (10 * (b.cost + b.prices)) (7 * cost)) refl
    where
      by : (t : Bool) → nat_le (10 * (b.cost + b.prices)) (7 * cost) ≡ t → Gained
      by false worth = kept ticks (is ∙ chosen_old p cost b worth) e
      by true worth =
          let same : ticks ≡ b.ticks = is ∙ chosen_best p cost b worth in
          moved b is_best worth (subst (λ (l : List ℕ). Leads g p (script p l) q) same leads) (e ∙ ap (script p) same)

pub answers_gain : AnswersGain
answers_gain g p edits formed none (ticks, (best, cost, is_best, is_cost, is), inl (q, leads, e)) =
    by_best g p q cost edits formed none is_cost best ticks is_best is leads e
answers_gain g p edits formed none (ticks, chosen, inr (never, e)) = inl e
