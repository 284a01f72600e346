use Rattle.performance_laws.proofs.OneVoices.{one_cost, one_cost_of, one_dead_voice, one_derivation_of}
use Rattle.performance_laws.proofs.laws.voices_have_one_answer.Goals as goal

pub returns : goal.returns
returns c = record {
  derivations = one_derivation_of;
  costs = one_cost;
  sums = one_cost_of;
  dead = λ g p channel bar channel' bar' some formed. one_dead_voice g p some formed channel bar channel' bar';
}
