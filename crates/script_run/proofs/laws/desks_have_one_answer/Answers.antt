use Rattle.script_run.proofs.OneDesks.{desk_sound, one_desk}
use Rattle.script_run.proofs.laws.desks_have_one_answer.Goals as goal

pub returns : goal.returns
returns c = record { one = one_desk; sound = desk_sound }
