use Rattle.std.proofs.Common.{ℕ, List, arith, subst, Bor, Option}
use Rattle.rhythm_app.specs.Commands.{HaveNames, named, script_file}
use Rattle.rhythm_app.specs.Inputs.{shown_name}
use Rattle.rhythm_app.specs.declared.stop.Kind.TheVariants as kind
use Rattle.rhythm_app.proofs.files.script_of.Goals as goal

pub returns-in-Some-clause-strays : goal.returns-in-Some-clause-strays
returns-in-Some-clause-strays g c = λ files are names.
    let there = subst (λ (n : Option (Bor (List ℕ))). HaveNames files (script_file (shown_name n))) c.in-Some.is names in
    c.read_file.ensures.strays files are (there 0 (named kind.ScriptFile c.in-Some.name.now) (omega arith))
