use Rattle.std.specs.Prelude.{◌≡◌, map, take}
use Rattle.edit_script.specs.ReplyText.{shown_by}
use Rattle.script_laws.specs.Script.{shown_alternative}
use Rattle.script_run.proofs.shown.all_shown.Given as goal

abbrev pub invariant-alternatives : goal.invariant-alternatives
invariant-alternatives l = map shown_by l.alts.items ≡ map shown_alternative (take l.alternative-index l.list)
