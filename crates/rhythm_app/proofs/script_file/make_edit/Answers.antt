use Rattle.std.proofs.Common.{◌≡◌, ap, subst}
use Rattle.rhythm_app.proofs.Scripting.{edit_made}
use Rattle.rhythm_app.specs.Lent.{Lent}
use Rattle.rhythm_app.proofs.script_file.make_edit.Goals.{in-Ok, in-Err}
use Rattle.rhythm_app.proofs.script_file.make_edit.Goals as goal

pub returns-clause-made : goal.returns-clause-made
returns-clause-made g c =
    let same = ap (λ (l : Lent g.row.W-Script.Denot g.row.W-Out.Denot g.row.W-Err.Denot). l.built) c.lent.view_is in
    elim c.match-apply.branch [
      | in-Ok w ↦ rw w.result-is (edit_made _ _ _ _ _ _ _ same w.in-Ok.ensures.made w.in-Ok.ensures.builds)
      | in-Err w ↦ rw w.result-is tt
    ]
