use Rattle.smf_reader.proofs.ReadToTheLastTrack.{is_read_to_its_last_track}
use Rattle.smf_reader.proofs.laws.files_are_read_to_their_last_tracks.Goals as goal

pub returns : goal.returns
returns c = is_read_to_its_last_track
