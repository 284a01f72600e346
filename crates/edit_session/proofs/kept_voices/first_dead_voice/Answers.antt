use Rattle.std.proofs.Common.{rules, ◌<◌, length, get_or, subst}
use Rattle.std.specs.Prelude.{All}
use Rattle.std.proofs.lemmas.List.Elements.{All-more}
use Rattle.std.proofs.lemmas.List.{take_all}
use Rattle.edit_session.specs.VoiceTables.{HasPath, VoiceTables}
use Rattle.edit_session.proofs.kept_voices.first_dead_voice.Goals as goal

pub voices-preserved : goal.voices-preserved
voices-preserved c =
    let v : VoiceTables = c.index-voices-number.result in
    let lt : c.voices.number < length c.args.voices.now = search rules in
    let path : HasPath v = search rules in
    let there : HasPath (get_or c.args.voices.now c.voices.number v) = subst HasPath c.index-voices-number.is path in
    All-more HasPath c.args.voices.now c.voices.number v lt c.voices.invariant there

pub returns-clause-none : goal.returns-clause-none
returns-clause-none c = λ _. subst (All HasPath) (take_all c.voices.number c.args.voices.now c.voices-test.false) c.voices.invariant
