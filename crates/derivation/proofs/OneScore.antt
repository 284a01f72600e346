-- A performance and a grammar have one score, and it can be written.
use Rattle.rhythm_base.specs.declared.limits.TheConstants.{SLOWEST_TEMPO}
use Rattle.std.proofs.Common.{◌≡◌, ℕ, suc, ◌≤◌, ◌<◌, List, [], ◌∷◌, Option, Some, None, length, refl, sym, ap, ◌∙◌, subst, arith}
use Rattle.std.specs.Prelude.{All, IfSome}
use Rattle.std.proofs.lemmas.List.{length-map}
use Rattle.std.proofs.lemmas.List.Elements.{All-cons, All-filter, All-map, All-nil, All-weaker}
use Rattle.std.proofs.lemmas.Map.Keys.{sorted_from_strictly_increasing}
use Rattle.std.proofs.lemmas.Map.Views.{length-le_from_below}
use Rattle.rhythm_base.specs.declared.event.KeyMark.{KeyMark}
use Rattle.rhythm_base.specs.declared.event.Tempo.{Tempo}
use Rattle.rhythm_base.specs.declared.note.Bar.{Bar}
use Rattle.rhythm_base.specs.declared.pin.Pin.{Pin}
use Rattle.rhythm_base.specs.declared.sound.Sound.{Sound}
use Rattle.rhythm_base.specs.Grammar.{Grammar}
use Rattle.rhythm_base.specs.Least.{IsLeast}
use Rattle.rhythm_base.specs.Leaves.{soundings}
use Rattle.rhythm_base.specs.Lists.{Each}
use Rattle.rhythm_base.specs.Performance.{IsBarOf, IsKeyMark, IsTempo, IsWellFormed, Performance}
use Rattle.rhythm_base.specs.Readable.{IsReadable}
use Rattle.rhythm_base.specs.Time.{in_force, micros_or, sf_of}
use Rattle.rhythm_base.specs.Voices.{notes_of_voice, voice_bars, voice_bars_from}
use Rattle.performance_laws.proofs.PerformedVoices.{performed_voice}
use Rattle.performance_laws.proofs.OneChords.{one_chords}
use Rattle.tree_laws.proofs.OneDerivations.{one_least}
use Rattle.derivation.specs.Sounds.{derivation_sounds}
use Rattle.derivation.specs.WellSounded.{AreWellSounded}
use Rattle.derivation.proofs.AttachedChords.{last_holds}
use Rattle.derivation.proofs.ChordKeys.{chords_keys}
use Rattle.derivation.proofs.WellSounding.{well_sounded}
use Rattle.derivation.specs.Laws.{ScoresAreOne}
use Rattle.derivation.specs.PerformanceScore.{AreLeastSounds, IsScoreOf, score_bar}
use Rattle.derivation.specs.Score.{IsKeySignature, IsScore, IsScoreBar, Score}
use Rattle.derivation.proofs.Pairs.{each_length, each_one}

-- ---- one score

sounds_one : (g : Grammar) (p : Performance) (channel : ℕ) (xs ys : List Sound) → AreLeastSounds g p channel xs → AreLeastSounds g p channel ys → xs ≡ ys
sounds_one g p channel xs ys h k =
    let bars = voice_bars g p channel in
    let chords = one_chords p.tempos p.division g.window (notes_of_voice p channel) h.chords k.chords h.are_chords k.are_chords in
    let trees = one_least g bars (soundings k.chords) h.trees k.trees (subst (λ cs. IsLeast g bars (soundings cs) h.trees) chords h.least) k.least in
    h.are ∙ (λ i. derivation_sounds g bars (chords i) (trees i)) ∙ sym k.are

one_score : (g : Grammar) (p : Performance) (s t : Score) → IsReadable g → IsWellFormed p → IsScoreOf g p s → IsScoreOf g p t → s ≡ t
one_score g p s t readable formed h k =
    let units = h.resolution ∙ sym k.resolution in
    let bars = h.bars ∙ sym k.bars in
    let voices = each_one (AreLeastSounds g p) (λ c. c < 16) p.channels s.voices t.voices (λ c xs ys _. sounds_one g p c xs ys) formed.voices h.voices k.voices in
    λ i. record { resolution = units i; bars = bars i; voices = voices i }

-- ---- it can be written

force_holds : {X : Type 0} (P : X → Type 0) (tick : X → ℕ) (changes : List X) (t : ℕ) → All P changes → (x : X) → in_force tick changes t ≡ Some x → P x
force_holds P tick changes t all x is = last_holds P _ (All-filter _ P changes all) x is

tempo_ranges : (o : Option Tempo) → ((t : Tempo) → o ≡ Some t → IsTempo t) → (1 ≤ micros_or o) × (micros_or o ≤ SLOWEST_TEMPO)
tempo_ranges None h = (omega arith, omega arith)
tempo_ranges (Some t) h = let k = h t refl in (k.some, k.few)

key_ranges : (o : Option KeyMark) → ((k : KeyMark) → o ≡ Some k → IsKeyMark k) → IfSome (sf_of o) IsKeySignature
key_ranges None h = tt
key_ranges (Some k) h = let r = h k refl in record { low = r.low; high = r.high }

bar_written : (p : Performance) (b : Bar) → IsWellFormed p → IsBarOf p.division p.last b → IsScoreBar (score_bar p b)
bar_written p b formed h =
    let tempo = tempo_ranges (in_force (λ x. x.tick) p.tempos b.start) (force_holds IsTempo (λ x. x.tick) p.tempos b.start formed.tempos) in
    record {
      signature = h.signature;
      some_tempo = tempo.0;
      few_tempo = tempo.1;
      key = key_ranges (in_force (λ x. x.tick) p.key_marks b.start) (force_holds IsKeyMark (λ x. x.tick) p.key_marks b.start formed.key_marks);
    }

pub bars_length : (g : Grammar) (pins : List Pin) (channel last i : ℕ) (bars : List Bar) → length (voice_bars_from g pins channel last i bars) ≡ length bars
bars_length g pins channel last i [] = refl
bars_length g pins channel last i (b ∷ bars) = ap suc (bars_length g pins channel last (suc i) bars)

sounds_written : (g : Grammar) (p : Performance) (channel : ℕ) (sounds : List Sound) → IsReadable g → IsWellFormed p → AreLeastSounds g p channel sounds → AreWellSounded g.resolution (length p.bars) sounds
sounds_written g p channel sounds readable formed h =
    let bars = voice_bars g p channel in
    let voice = performed_voice g p channel h.chords formed h.are_chords readable.ranges.some_unit in
    let keys = chords_keys g p channel h.chords formed h.are_chords in
    let all = well_sounded g bars h.chords h.trees voice keys h.least.fits in
    subst (AreWellSounded g.resolution (length p.bars)) (sym h.are)
    (subst (λ n. AreWellSounded g.resolution n (derivation_sounds g bars h.chords h.trees)) (bars_length g p.pins channel p.last 0 p.bars) all)

voices_written : (g : Grammar) (p : Performance) (channels : List ℕ) (voices : List (List Sound)) → IsReadable g → IsWellFormed p → Each (AreLeastSounds g p) channels voices → All (AreWellSounded g.resolution (length p.bars)) voices
voices_written g p [] voices readable formed h = subst (All (AreWellSounded g.resolution (length p.bars))) (sym h) (All-nil (AreWellSounded g.resolution (length p.bars)))
voices_written g p (c ∷ channels) [] readable formed h = absurd h
voices_written g p (c ∷ channels) (sounds ∷ voices) readable formed h =
    All-cons (AreWellSounded g.resolution (length p.bars)) sounds voices (sounds_written g p c sounds readable formed h.0) (voices_written g p channels voices readable formed h.1)

written : (g : Grammar) (p : Performance) (s : Score) → IsReadable g → IsWellFormed p → IsScoreOf g p s → IsScore s
written g p s readable formed h =
    let count = each_length (AreLeastSounds g p) p.channels s.voices h.voices in
    let few = length-le_from_below 16 p.channels (sorted_from_strictly_increasing p.channels formed.voices_rise) formed.voices in
    let bars : length p.bars ≡ length s.bars = sym (ap length h.bars ∙ length-map p.bars (score_bar p)) in
    let voices = voices_written g p p.channels s.voices readable formed h.voices in
    record {
      some_unit = omega (arith, h.resolution, readable.ranges.some_unit);
      few_units = omega (arith, h.resolution, readable.ranges.few_units);
      bars = subst (All IsScoreBar) (sym h.bars) (All-map IsScoreBar (score_bar p) p.bars (All-weaker (IsBarOf p.division p.last) (λ b. IsScoreBar (score_bar p b)) (λ b k. bar_written p b formed k) p.bars formed.bars));
      some_voice = omega (arith, count, formed.some_voice);
      few_voices = omega (arith, count, few);
      voices = subst (λ r. All (AreWellSounded r (length s.bars)) s.voices) (sym h.resolution) (subst (λ n. All (AreWellSounded g.resolution n) s.voices) bars voices);
    }

pub scores_one : ScoresAreOne
scores_one = record { score = one_score; can_be_written = written }
