use Rattle.std.proofs.Common.{refl}
use Rattle.rhythm_app.specs.Inputs.{shown_inputs}
use Rattle.rhythm_app.proofs.ReadInputs.{inputs_had}
use Rattle.rhythm_app.proofs.inputs.read_inputs.Goals as goal

pub returns : goal.returns
returns g c =
    let said = c.inputs_of.ensures in
    inputs_had (shown_inputs c.args.inputs) _ c.args.lent.now _ c.inputs_of.result c.lent.view_is refl said.files said.tests said.cause said.readable said.few_notes said.short said.end said.early said.strays
