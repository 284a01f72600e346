use Rattle.smf_reader.proofs.ReadToTheEnd.{is_read_to_its_end}
use Rattle.smf_reader.proofs.laws.tracks_are_read_to_their_ends.Goals as goal

pub returns : goal.returns
returns c = is_read_to_its_end
