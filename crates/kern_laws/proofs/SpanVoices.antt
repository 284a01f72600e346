-- The spans of the columns of a score are those of its voices.
use Rattle.std.proofs.Common.{◌≡◌, ℕ, suc, ◌+◌, ◌*◌, ◌/◌, ◌<◌, ◌≤◌, List, [], ◌∷◌, ◌++◌, length, take, refl, sym, ap, ap₂, ◌∙◌, subst, arith}
use Rattle.kern_laws.proofs.PlaceSteps.{waiting_bar}
use Rattle.std.specs.Prelude.{All, sum, sum_by}
use Rattle.std.specs.List.{flat_map}
use Rattle.std.proofs.lemmas.List.Elements.{All-head, All-tail}
use Rattle.std.proofs.lemmas.List.Sums.{sum_by-cons}
use Rattle.rhythm_base.specs.declared.note.Bar.{Bar}
use Rattle.rhythm_base.specs.declared.sound.Sound.{Sound}
use Rattle.rhythm_base.specs.Lists.{Each}
use Rattle.durations.specs.Spans.{chord_runs, parts_of_unit}
use Rattle.derivation.proofs.FilledBars.{parts_at, place_next}
use Rattle.durations.specs.Value.{width}
use Rattle.derivation.specs.declared.score.ScoreBar.{ScoreBar}
use Rattle.derivation.specs.Score.{IsScoreBar}
use Rattle.voice_values.specs.Values.{VoiceValue}
use Rattle.kern_reader.specs.declared.token.Token.{Token}
use Rattle.kern_reader.specs.declared.token.Token.TheVariants as token
use Rattle.kern_reader.specs.Events.{bar_parts, bars, beginnings, tied_values}
use Rattle.kern_reader.proofs.SpineLemmas.{spine_next}
use Rattle.kern_laws.proofs.BarLines.{signature_of_bar}
use Rattle.kern_laws.proofs.BarVoice.{AreVoice}
use Rattle.kern_laws.proofs.SpanMatch.{IsMatch}
use Rattle.voice_events.proofs.BarUnits.{AreUnits}
use Rattle.voice_events.proofs.SpansFollow.{tied_length}
use Rattle.kern_laws.proofs.SpanRuns.{match_bar, tied_bar}
use Rattle.kern_laws.proofs.SpanTokens.{IsReached, values_read, voice_read}
use Rattle.kern_reader.proofs.EventLemmas.{tied_next}

sum_next : (all : List Bar) (n : ℕ) → n < length all → parts_at all n + sum_by parts_of_unit (take n all) ≡ sum_by parts_of_unit (take (suc n) all)
sum_next all n within =
    let next = place_next 1 all n 0 1 within in
    omega (arith, next)

-- ---- a voice

module _ (r : ℕ) (all : List Bar) (some : 1 ≤ r) (few : 64 * r ≤ 61440) where
  tied_voice : (n : ℕ) (sbars : List ScoreBar) (sounds : List Sound) (vss : List (List VoiceValue)) → All IsScoreBar sbars → AreUnits all n sbars → AreVoice r n sbars sounds vss
      → sum_by (width (64 * r)) (tied_values (voice_read sbars vss)) ≡ tied_length all sounds
  tied_voice n [] sounds vss right units (none, empty) = sym (ap (tied_length all) none)
  tied_voice n (bar ∷ sbars) sounds [] right units are = absurd are
  tied_voice n (bar ∷ sbars) sounds (vs ∷ vss) right (within, unit, units) (own, after, whole, is, rest) =
      let later = flat_map (λ vs. vs) vss in
      let more = voice_read sbars vss in
      let others = tied_voice (suc n) sbars after vss (All-tail IsScoreBar bar sbars right) units rest in
      let here = tied_bar r all n bar some few (All-head IsScoreBar bar sbars right) unit 0 0 0 own after vs later more is.stand is.sounded others in
      ap (sum_by (width (64 * r))) (tied_next (token.Bar (signature_of_bar bar)) (values_read vs later ++ more) refl)
      ∙ (omega (arith, here)) ∙ ap (tied_length all) (sym whole)

  match_voice : (n : ℕ) (sbars : List ScoreBar) (sounds : List Sound) (vss : List (List VoiceValue)) (before : List Token) → All IsScoreBar sbars → AreUnits all n sbars → AreVoice r n sbars sounds vss
      → sum (bars before) ≡ sum_by parts_of_unit (take n all) → Each (IsMatch (64 * r) r all) (beginnings before (voice_read sbars vss)) (chord_runs sounds)
  match_voice n [] sounds vss before right units (none, empty) total = ap chord_runs none
  match_voice n (bar ∷ sbars) sounds [] before right units are total = absurd are
  match_voice n (bar ∷ sbars) sounds (vs ∷ vss) before right (within, unit, units) (own, after, whole, is, rest) total =
      let later = flat_map (λ vs. vs) vss in
      let more = voice_read sbars vss in
      let t = token.Bar (signature_of_bar bar) in
      let well = All-tail IsScoreBar bar sbars right in
      let begun : IsReached (64 * r) (64 / bar.den) all n 0 (t ∷ before) = record {
        start = total;
        total = sum_by-cons (λ x. x) (bar_parts (signature_of_bar bar)) (bars before) ∙ ap₂ ◌+◌ (sym unit) total ∙ sum_next all n within;
        here = ap (λ s. s.place) (spine_next (64 * r) t before) ∙ nothing (64 / bar.den);
        waits = waiting_bar (signature_of_bar bar) before;
      } in
      subst (λ xs. Each (IsMatch (64 * r) r all) (beginnings (t ∷ before) (values_read vs later ++ more)) (chord_runs xs)) (sym whole)
      (match_bar r all n bar some few (All-head IsScoreBar bar sbars right) unit 0 0 0 own after vs later more (t ∷ before) is.stand (omega arith) is.sounded
      (tied_voice (suc n) sbars after vss well units rest)
      (λ x before reached. match_voice (suc n) sbars after vss before well units rest reached.total) begun)
    where
      nothing : (t : ℕ) → 0 ≡ t * 0
      nothing t = omega arith

  pub voice_matches : (sbars : List ScoreBar) (sounds : List Sound) (vss : List (List VoiceValue)) → All IsScoreBar sbars → AreUnits all 0 sbars → AreVoice r 0 sbars sounds vss
      → Each (IsMatch (64 * r) r all) (beginnings [] (voice_read sbars vss)) (chord_runs sounds)
  voice_matches sbars sounds vss right units are = match_voice 0 sbars sounds vss [] right units are refl
