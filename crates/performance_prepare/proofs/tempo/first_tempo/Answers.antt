use Rattle.std.proofs.Common.{sym, ◌∙◌, subst}
use Rattle.performance_prepare.specs.Ranges.{IsMicros}
use Rattle.performance_prepare.proofs.InForce.{tempo_before, tempo_here}
use Rattle.performance_prepare.proofs.tempo.first_tempo.Goals as goal
use Rattle.performance_prepare.proofs.tempo.first_tempo.Goals.{then-tempo-eq0, else-tempo-eq0}

pub loop-tempo-preserved : goal.loop-tempo-preserved
loop-tempo-preserved c = elim c.if-tempo-eq0.branch [
  | then-tempo-eq0 w ↦ (
      let within = c.loop-tempo-test.true in
      let here = c.requires c.loop-tempo.tempo-index (record { tick = 0; micros = 0 }) within in
      record {
        value = w.found-is ∙ sym (tempo_here c.args.tempos.now c.loop-tempo.tempo-index (record {
          tick = 0;
          micros = 0;
        }) within w.if-tempo-eq0.true);
        range = subst IsMicros (sym w.found-is) (record { some = here.some; few = here.few });
      }
      )
  | else-tempo-eq0 w ↦ record {
    value = w.found-is ∙ c.loop-tempo.invariant.value
        ∙ sym (tempo_before c.args.tempos.now c.loop-tempo.tempo-index (record {
          tick = 0;
          micros = 0;
        }) c.loop-tempo-test.true w.if-tempo-eq0.false);
    range = subst IsMicros (sym w.found-is) c.loop-tempo.invariant.range;
  }
]
