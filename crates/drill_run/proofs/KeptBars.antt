-- What the edits of a drill keep, one after another.
use Rattle.std.proofs.Common.{◌≡◌, ℕ, zero, suc, length, refl, ◌∙◌, subst, sym}
use Rattle.rhythm_base.specs.Grammar.{Grammar}
use Rattle.rhythm_base.specs.Performance.{IsWellFormed, Performance}
use Rattle.drill_run.specs.Drill.{Drilled, IsDrilledTo}
use Rattle.drill_run.specs.Laws.{DrillsKeepBars}
use Rattle.drill_run.proofs.DrillSteps.{drilled_formed}
use Rattle.drill_run.proofs.Keeps.{step_keeps}

record AreKept (p q : Performance) : Type 0 where
  pub voices : q.channels ≡ p.channels
  pub bars : length q.bars ≡ length p.bars
  pub last : q.last ≡ p.last

module _ (g : Grammar) (number : ℕ) (p : Performance) (formed : IsWellFormed p) where
  kept : (e : ℕ) (last : Drilled) (besides : ℕ) → IsDrilledTo g number p e last besides → AreKept p last.performance
  unfolding IsDrilledTo
  kept zero last besides h = subst (λ (d : Drilled). AreKept p d.performance) (sym h.0) (record { voices = refl; bars = refl; last = refl })
  kept (suc e) last besides (before, m, n, first, step, sum) =
      let old = kept e before m first in
      let one = step_keeps g number e before last n (drilled_formed g number p formed e before m first) step in
      record { voices = one.voices ∙ old.voices; bars = one.bars ∙ old.bars; last = one.last ∙ old.last }

pub drills_kept : DrillsKeepBars
drills_kept = record {
  formed = λ g number p edits last besides formed h. drilled_formed g number p formed edits last besides h;
  voices = λ g number p edits last besides formed h. (kept g number p formed edits last besides h).voices;
  bars = λ g number p edits last besides formed h. (kept g number p formed edits last besides h).bars;
  last_barline = λ g number p edits last besides formed h. (kept g number p formed edits last besides h).last;
}
