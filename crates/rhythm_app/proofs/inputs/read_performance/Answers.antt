use Rattle.std.proofs.Common.{refl}
use Rattle.rhythm_app.proofs.ReadInputs.{performance_had}
use Rattle.rhythm_app.proofs.inputs.read_performance.Goals as goal

pub returns : goal.returns
returns g c =
    let said = c.performance_in.ensures in
    performance_had c.args.name.now _ c.args.lent.now _ c.performance_in.result c.lent.view_is refl said.files said.tests said.few_notes said.own said.end said.later said.strays
