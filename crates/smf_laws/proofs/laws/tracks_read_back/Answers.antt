use Rattle.smf_laws.proofs.Tracks.{tracks_read}
use Rattle.smf_laws.proofs.laws.tracks_read_back.Goals as goal

pub returns : goal.returns
returns c = tracks_read
