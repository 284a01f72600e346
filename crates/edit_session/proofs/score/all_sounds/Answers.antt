use Rattle.std.proofs.Common.{rules, ◌≡◌, ◌<◌, ◌≤◌, ◌+◌, ◌++◌, ◌∷◌, [], ℕ, List, length, get_or, take, subst, sym, ap, ◌∙◌, arith}
use Rattle.std.proofs.lemmas.List.{take_all}
use Rattle.bar_pool.proofs.EachLemmas.{Each-more}
use Rattle.derivation.specs.PerformanceScore.{AreLeastSounds}
use Rattle.rhythm_base.specs.Lists.{Each}
use Rattle.derivation.proofs.Pairs.{each_length}
use Rattle.edit_session.specs.Kept.{AreTablesOfVoice}
use Rattle.edit_session.specs.VoiceTables.{HasPath, VoiceTables}
use Rattle.edit_session.proofs.EachRuns.{Each-at}
use Rattle.edit_session.proofs.score.all_sounds.Goals as goal

pub bounds-channels-number : goal.bounds-channels-number
bounds-channels-number c =
    let long = each_length (λ d (v : VoiceTables). AreTablesOfVoice c.args.grammar.now c.args.performance.now d v.tables) c.args.performance.now.channels c.args.voices.now c.requires.tables in
    omega (arith, c.voices-test.true, long, ap length c.channels-channels.ensures)

pub least_sounds-requires-clause-tables : goal.least_sounds-requires-clause-tables
least_sounds-requires-clause-tables c =
    let g = c.args.grammar.now in
    let p = c.args.performance.now in
    let n : ℕ = c.voices.number in
    let v : VoiceTables = c.index-voices-number.result in
    let long = each_length (λ d (v : VoiceTables). AreTablesOfVoice g p d v.tables) p.channels c.args.voices.now c.requires.tables in
    let here = Each-at (λ d (v : VoiceTables). AreTablesOfVoice g p d v.tables) p.channels c.args.voices.now n 0 v (omega (arith, c.voices-test.true, long)) c.requires.tables in
    subst (λ d. AreTablesOfVoice g p d v.tables) (ap (λ (cs : List ℕ). get_or cs n 0) (sym c.channels-channels.ensures))
    (subst (λ (u : VoiceTables). AreTablesOfVoice g p (get_or p.channels n 0) u.tables) (sym c.index-voices-number.is) here)

pub least_sounds-requires-clause-path : goal.least_sounds-requires-clause-path
least_sounds-requires-clause-path c =
    subst HasPath (sym c.index-voices-number.is) (c.requires.paths c.voices.number c.index-voices-number.result c.voices-test.true)

pub voices-preserved : goal.voices-preserved
voices-preserved c =
    let g = c.args.grammar.now in
    let p = c.args.performance.now in
    let channels = c.channels-channels.result.now in
    let n : ℕ = c.voices.number in
    let long = each_length (λ d (v : VoiceTables). AreTablesOfVoice g p d v.tables) p.channels c.args.voices.now c.requires.tables in
    let lt : n < length channels = omega (arith, c.voices-test.true, long, ap length c.channels-channels.ensures) in
    let pushed : c.push.new.self.items ≡ c.voices.sounds.items ++ c.in_ok-least_sounds.field-0 ∷ [] = search rules in
    subst (λ l. Each (AreLeastSounds g p) (take (n + 1) channels) l) (sym pushed)
    (Each-more (AreLeastSounds g p) channels c.voices.sounds.items n 0 c.in_ok-least_sounds.field-0 lt c.voices.invariant c.in_ok-least_sounds.ensures)

pub returns : goal.returns
returns c =
    let g = c.args.grammar.now in
    let p = c.args.performance.now in
    let long = each_length (λ d (v : VoiceTables). AreTablesOfVoice g p d v.tables) p.channels c.args.voices.now c.requires.tables in
    let all : length c.channels-channels.result.now ≤ c.voices.number = omega (arith, c.voices-test.false, long, ap length c.channels-channels.ensures) in
    subst (λ cs. Each (AreLeastSounds g p) cs c.voices.sounds.items) (take_all c.voices.number c.channels-channels.result.now all ∙ c.channels-channels.ensures) c.voices.invariant
