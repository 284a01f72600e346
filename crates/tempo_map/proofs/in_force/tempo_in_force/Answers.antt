use Rattle.std.proofs.Common.{sym, ◌∙◌}
use Rattle.tempo_map.proofs.InForce.{force_up_to}
use Rattle.tempo_map.proofs.in_force.tempo_in_force.Goals as goal

pub returns : goal.returns
returns c = c.last.ensures.value ∙ sym (force_up_to (λ y. y.tick) c.args.tempos.now _ c.args.tick c.tempos_up_to.ensures)
