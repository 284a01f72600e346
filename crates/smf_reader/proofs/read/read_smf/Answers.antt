use Rattle.std.proofs.Common.{◌<◌, refl, arith}
use Rattle.std.proofs.lemmas.List.Elements.{All-from_get_or}
use Rattle.smf_reader.specs.SmfFile.{smf}
use Rattle.smf_reader.proofs.ReadInRange.{in_range}
use Rattle.smf_reader.proofs.read.read_smf.Goals as goal

pub returns-clause-played : goal.returns-clause-played
unfolding smf
returns-clause-played c =
    in_range c.args.bytes.now (All-from_get_or (λ b. b < 256) c.args.bytes.now 0 (λ i within. omega (arith, c.type_inv.bytes i))) _
    (rw (← c.in_ok-header.ensures.value, c.in_ok-tracks.ensures) refl)
