use Rattle.table_laws.proofs.Performances.{all_or_dead, derivation_or_none, some_cost}
use Rattle.table_laws.proofs.laws.voices_have_answers.Goals as goal

pub returns : goal.returns
returns c = record {
  derivations = λ g p channel readable formed starts. derivation_or_none g p readable formed starts channel;
  dead = all_or_dead;
  costs = λ g p readable formed starts. some_cost g p readable formed starts p.channels;
}
