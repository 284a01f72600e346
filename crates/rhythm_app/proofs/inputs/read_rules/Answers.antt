use Rattle.std.proofs.Common.{refl}
use Rattle.rhythm_app.proofs.ReadInputs.{rules_had}
use Rattle.rhythm_app.proofs.inputs.read_rules.Goals as goal

pub returns : goal.returns
returns g c =
    let said = c.grammar_of.ensures in
    rules_had c.args.name.now _ c.args.lent.now _ c.grammar_of.result c.lent.view_is refl said.files said.tests said.readable said.end said.later said.strays
