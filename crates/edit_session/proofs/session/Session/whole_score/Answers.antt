use Rattle.std.proofs.Common.{subst, sym}
use Rattle.std.specs.Prelude.{All}
use Rattle.rhythm_base.specs.Lists.{Each}
use Rattle.edit_session.specs.Kept.{AreTablesOfVoice}
use Rattle.edit_session.specs.VoiceTables.{HasPath, VoiceTables}
use Rattle.edit_session.proofs.Voices.{all_paths, all_tables}
use Rattle.edit_session.proofs.WrittenScores.{can_write, few_written}
use Rattle.edit_session.proofs.session.Session.whole_score.Goals as goal

pub whole_score-requires-clause-tables : goal.whole_score-requires-clause-tables
whole_score-requires-clause-tables c =
    let kept = c.self.inside in
    subst (λ vs. Each (λ d (v : VoiceTables). AreTablesOfVoice kept.grammar kept.performance d v.tables) kept.performance.channels vs) (sym c.as_slice-voices.ensures.value)
    (all_tables kept.grammar kept.performance kept.room kept.performance.channels kept.voices.items c.self.invariant.each)

pub whole_score-requires-clause-paths : goal.whole_score-requires-clause-paths
whole_score-requires-clause-paths c =
    let kept = c.self.inside in
    subst (All HasPath) (sym c.as_slice-voices.ensures.value) (all_paths kept.grammar kept.performance kept.room kept.performance.channels kept.voices.items c.self.invariant.each)

pub returns-clause-writable : goal.returns-clause-writable
returns-clause-writable c = can_write c.self.inside.grammar c.self.inside.performance c.whole_score.result c.self.invariant.readable c.self.invariant.formed c.whole_score.ensures

pub returns-clause-few_bars : goal.returns-clause-few_bars
returns-clause-few_bars c = few_written c.self.inside.grammar c.self.inside.performance c.whole_score.result c.self.invariant.formed c.whole_score.ensures
