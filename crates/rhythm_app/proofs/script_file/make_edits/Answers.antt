use Rattle.std.proofs.Common.{◌≡◌, ◌∙◌, ℕ, List, [], arith, subst, sym, Err}
use Rattle.edit_script.specs.ScriptLines.{script_lines}
use Rattle.rhythm_app.specs.Stages.{HasEdited, standing}
use Rattle.rhythm_app.specs.declared.stop.Stop.{Stop}
use Rattle.rhythm_app.proofs.Scripting.{AreMadeSoFar, all_made, counts_on, no_bytes, one_ended, one_made}
use Rattle.rhythm_app.proofs.script_file.make_edits.Goals as goal

pub returns-in-Err-clause-edited : goal.returns-in-Err-clause-edited
returns-in-Err-clause-edited g c =
    let s = c.args.session.now in
    let lines = script_lines c.args.script.now in
    let so_far = subst (AreMadeSoFar s c.lines.session c.args.lent.now.built c.lines.lent.built lines c.lines.number) c.first_line.ensures.line c.lines.invariant.made in
    let said = c.in-Err.ensures in
    λ from n is. subst (λ (e : Stop). HasEdited {T = Unit {0}} (standing s n) lines from c.make_line.new.lent.built c.make_line.new.session.performance (Err e)) (sym c.line_stop.ensures)
    (one_ended s c.lines.session c.args.lent.now.built c.lines.lent.built lines (script_lines c.first_line.result.1.now) c.lines.number c.first_line.result.0.now so_far c.make_line.new.lent.built
    (Unit {0}) c.make_line.new.session.performance c.in-Err.fault said.refused said.broken from n is)

pub lines-preserved : goal.lines-preserved
lines-preserved g c =
    let s = c.args.session.now in
    let lines = script_lines c.args.script.now in
    let so_far = subst (AreMadeSoFar s c.lines.session c.args.lent.now.built c.lines.lent.built lines c.lines.number) c.first_line.ensures.line c.lines.invariant.made in
    record {
      made = one_made s c.lines.session c.args.lent.now.built c.lines.lent.built lines (script_lines c.first_line.result.1.now) c.lines.number c.first_line.result.0.now so_far c.make_line.new.lent.built
          c.make_line.new.session c.make_line.ensures.grammar c.in_default.ensures.made;
      few = omega (arith, c.lines.invariant.few, c.first_line.ensures.shorter);
      grammar = c.make_line.ensures.grammar ∙ c.lines.invariant.grammar;
      counts = counts_on c.args.lent.now c.lines.lent c.make_line.new.lent c.lines.invariant.counts c.make_line.ensures.counts;
    }

pub returns-clause-edited : goal.returns-clause-edited
returns-clause-edited g c =
    let none : c.lines.rest.now ≡ [] = no_bytes c.lines.rest.now (sym c.lines-test.false ∙ c.is_empty.ensures) in
    let so_far = subst (λ (l : List ℕ). AreMadeSoFar c.args.session.now c.lines.session c.args.lent.now.built c.lines.lent.built (script_lines c.args.script.now) c.lines.number (script_lines l)) none c.lines.invariant.made in
    all_made {T = Unit {0}} c.args.session.now c.lines.session c.args.lent.now.built c.lines.lent.built (script_lines c.args.script.now) c.lines.number so_far tt
