use Rattle.std.specs.Prelude.{◌<◌, take}
use Rattle.edit_session.specs.Inputs.{AreInputsOf}
use Rattle.rhythm_base.specs.Voices.{HasStarts}
use Rattle.edit_session.proofs.inputs.cell_inputs.Given as goal

abbrev pub invariant-voices : goal.invariant-voices
invariant-voices l = record {
  inputs : AreInputsOf l.grammar l.performance (take l.channel-index l.channel-items) l.inputs.items;
  starts : 0 < l.channel-index → HasStarts l.grammar l.performance.bars;
}
