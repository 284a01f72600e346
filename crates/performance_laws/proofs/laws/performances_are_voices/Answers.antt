use Rattle.performance_laws.proofs.PerformedVoices.{performed_voice}
use Rattle.performance_laws.proofs.laws.performances_are_voices.Goals as goal

pub returns : goal.returns
returns c = λ g p channel cs some formed are. performed_voice g p channel cs formed are some
