use Rattle.std.proofs.Common.{◌≡◌, ◌<◌, ℕ, List, ap, arith, get_or, length, map, subst, sym, IfOk, Result, Ok, Err}
use Rattle.std.specs.Prelude.{slice_index}
use Rattle.edit_session.specs.Kept.{IsKeptVoice}
use Rattle.edit_session.specs.LeastTrees.{AreOfLeastPath}
use Rattle.edit_session.specs.RuleLists.{AreLeastLists}
use Rattle.edit_session.specs.Session.{Session}
use Rattle.edit_session.specs.VoiceTables.{VoiceTables}
use Rattle.edit_session.proofs.EachRuns.{Each-at, Each-length}
use Rattle.edit_session.proofs.LeastSounds.{least_lists, tables_in}
use Rattle.rhythm_base.specs.Grammar.{Grammar}
use Rattle.rhythm_base.specs.Lists.{Each}
use Rattle.rhythm_base.specs.Performance.{Performance}
use Rattle.edit_session.proofs.session.Session.rule_lists.Goals as goal

pub bounds-voices-voice : goal.bounds-voices-voice
bounds-voices-voice c =
    let kept = c.self.inside in
    let long = Each-length (IsKeptVoice kept.grammar kept.performance kept.room) kept.performance.channels kept.voices.items c.self.invariant.each in
    omega (arith, c.requires, long, ap length c.as_slice-voices.ensures.value, ap (λ (s : Session). length s.performance.channels) c.self.view_is)

-- what is kept of the voice
kept_at : (g : Grammar) (p : Performance) (room : ℕ) (voices seen : List VoiceTables) (n : ℕ) (v : VoiceTables) → Each (IsKeptVoice g p room) p.channels voices → n < length p.channels
    → seen ≡ voices → v ≡ get_or seen n v → IsKeptVoice g p room (get_or p.channels n 0) v
kept_at g p room voices seen n v each lt same is =
    subst (IsKeptVoice g p room (get_or p.channels n 0)) (sym is)
    (subst (λ (vs : List VoiceTables). IsKeptVoice g p room (get_or p.channels n 0) (get_or vs n v)) (sym same) (Each-at (IsKeptVoice g p room) p.channels voices n 0 v lt each))

pub least_lists-requires-clause-tables : goal.least_lists-requires-clause-tables
least_lists-requires-clause-tables c =
    let kept = c.self.inside in
    let lt : c.args.voice < length kept.performance.channels = omega (arith, c.requires, ap (λ (s : Session). length s.performance.channels) c.self.view_is) in
    let voice = kept_at kept.grammar kept.performance kept.room kept.voices.items c.as_slice-voices.result.now c.args.voice c.index-voices-voice.result c.self.invariant.each lt c.as_slice-voices.ensures.value c.index-voices-voice.is in
    (kept.grammar, tables_in kept.grammar kept.performance (get_or kept.performance.channels c.args.voice 0) c.index-voices-voice.result.tables voice.tables)

pub least_lists-requires-clause-path : goal.least_lists-requires-clause-path
least_lists-requires-clause-path c =
    let kept = c.self.inside in
    let lt : c.args.voice < length kept.performance.channels = omega (arith, c.requires, ap (λ (s : Session). length s.performance.channels) c.self.view_is) in
    (kept_at kept.grammar kept.performance kept.room kept.voices.items c.as_slice-voices.result.now c.args.voice c.index-voices-voice.result c.self.invariant.each lt c.as_slice-voices.ensures.value c.index-voices-voice.is).path

more : {T E : Type 0} {P Q : T → Type 0} (r : Result T E) → ((x : T) → P x → Q x) → IfOk r P → IfOk r Q
more (Ok x) f h = f x h
more (Err e) f h = tt

pub returns : goal.returns
returns c =
    let kept = c.self.inside in
    let lt : c.args.voice < length kept.performance.channels = omega (arith, c.requires, ap (λ (s : Session). length s.performance.channels) c.self.view_is) in
    let voice = kept_at kept.grammar kept.performance kept.room kept.voices.items c.as_slice-voices.result.now c.args.voice c.index-voices-voice.result c.self.invariant.each lt c.as_slice-voices.ensures.value c.index-voices-voice.is in
    let told = λ (lists : List (List ℕ)) (of : AreOfLeastPath c.index-voices-voice.result.tables lists).
    least_lists kept.grammar kept.performance (get_or kept.performance.channels c.args.voice 0) c.index-voices-voice.result.tables voice.tables c.self.invariant.readable c.self.invariant.formed
    voice.tables.chords voice.tables.are_chords c.self.invariant.starts lists of in
    more c.least_lists.result (λ v of. subst (λ (s : Session). AreLeastLists s.grammar s.performance (slice_index s.performance.channels c.args.voice) (map (λ l. l.now) v.items)) c.self.view_is (told (map (λ l. l.now) v.items) of))
    c.least_lists.ensures
