use Rattle.std.proofs.Common.{◌↔◌, [], Bool, IsTrue, subst}
use Rattle.edit_script.specs.ScriptLines.{Are}
use Rattle.edit_script.proofs.WordLemmas.{done, turned}
use Rattle.edit_script.proofs.line_words.LineWords.is_done.Goals as goal

pub returns : goal.returns
returns c =
    let P : Bool → Type 0 = λ b. IsTrue b ↔ Are [] c.args.self.now in
    subst P (turned _ _ c.is_none.ensures) (done c.self.inside.rest c.args.self.now c.self.view_is)
