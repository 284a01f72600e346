-- A drill comes to one end.
use Rattle.std.proofs.Common.{◌≡◌, ℕ, zero, suc, ◌≤◌, List, length, sym, ap, ◌∙◌, subst, Result, Ok, Err}
use Rattle.kern_writer.proofs.OneWritten.{performance_texts_one}
use Rattle.rhythm_base.specs.Grammar.{Grammar}
use Rattle.rhythm_base.specs.Performance.{IsWellFormed, Performance}
use Rattle.rhythm_base.specs.Readable.{IsReadable}
use Rattle.performance_laws.proofs.OneVoices.{one_cost_of}
use Rattle.drill_run.specs.declared.drill.TheConstants.{DRILL_EDITS}
use Rattle.drill_run.specs.declared.figures.Figures.{Figures}
use Rattle.drill_run.specs.Drill.{Drilled, IsDrilledTo, IsDrillStep}
use Rattle.drill_run.specs.Ends.{IsDrillOf, IsSummarySaid}
use Rattle.drill_run.specs.Laws.{DrillsAreOne}
use Rattle.drill_run.specs.Summary.{AreFigures, summary_text}
use Rattle.drill_run.proofs.DrillSteps.{drilled_formed, one_step}

-- ---- the edits

module _ (g : Grammar) (number : ℕ) (p : Performance) (some : 1 ≤ g.resolution) (formed : IsWellFormed p) where
  pub one_drilled : (e : ℕ) (last last' : Drilled) (besides besides' : ℕ) → IsDrilledTo g number p e last besides → IsDrilledTo g number p e last' besides' → last ≡ last'
  unfolding IsDrilledTo
  one_drilled zero last last' besides besides' h k = h.0 ∙ sym k.0
  one_drilled (suc e) last last' besides besides' (before, m, n, first, step, sum) (before', m', n', first', step', sum') =
      let same = one_drilled e before before' m m' first first' in
      one_step g number e before last last' n n' some (drilled_formed g number p formed e before m first) step
      (subst (λ (d : Drilled). IsDrillStep g number e d last' n') (sym same) step')

-- ---- the end

module _ (g : Grammar) (last : Drilled) (readable : IsReadable g) (formed : IsWellFormed last.performance) where
  one_figures : (a b : Figures) → AreFigures g last a → AreFigures g last b → a ≡ b
  one_figures a b h k =
      let bars : a.bars ≡ b.bars = h.bars ∙ sym k.bars in
      let cells : a.cells ≡ b.cells = h.cells ∙ sym k.cells in
      let accepted : a.accepted ≡ b.accepted = h.accepted ∙ sym k.accepted in
      let built : a.built ≡ b.built = h.built ∙ sym k.built in
      let cost : a.cost ≡ b.cost = one_cost_of g last.performance a.cost b.cost h.cost k.cost in
      let score = performance_texts_one.text g last.performance h.score k.score readable formed h.is_score k.is_score in
      let bytes : a.bytes ≡ b.bytes = h.bytes ∙ ap length score ∙ sym k.bytes in
      λ i. record { bars = bars i; cells = cells i; accepted = accepted i; built = built i; cost = cost i; bytes = bytes i }

  one_said : (a b : Result (List ℕ) ℕ) → IsSummarySaid g last a → IsSummarySaid g last b → a ≡ b
  one_said (Ok a) (Ok b) (f, are, text) (f', are', text') =
      let same : a ≡ b = text ∙ ap summary_text (one_figures f f' are are') ∙ sym text' in
      ap (λ x. Ok x) same
  one_said (Ok a) (Err line) (f, are, text) long = absurd (performance_texts_one.either g last.performance are.score line readable formed (are.is_score, are.short) long)
  one_said (Err line) (Ok a) long (f, are, text) = absurd (performance_texts_one.either g last.performance are.score line readable formed (are.is_score, are.short) long)
  one_said (Err line) (Err line') long long' = ap (λ x. Err x) (performance_texts_one.too_long g last.performance line line' readable formed long long')

pub drills_one : DrillsAreOne
drills_one = record {
  standing = λ g number p edits last last' besides besides' readable formed h k.
      one_drilled g number p readable.ranges.some_unit formed edits last last' besides besides' h k;
  said = said;
}
  where
    said : (g : Grammar) (number : ℕ) (p : Performance) (a b : Result (List ℕ) ℕ) → IsReadable g → IsWellFormed p → IsDrillOf g number p a → IsDrillOf g number p b → a ≡ b
    said g number p a b readable formed (last, besides, to, end) (last', besides', to', end') =
        let same = one_drilled g number p readable.ranges.some_unit formed DRILL_EDITS last last' besides besides' to to' in
        one_said g last readable (drilled_formed g number p formed DRILL_EDITS last besides to) a b end
        (subst (λ (d : Drilled). IsSummarySaid g d b) (sym same) end')
