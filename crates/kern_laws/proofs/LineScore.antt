-- The lines of a score that can be written stand.
use Rattle.std.proofs.Common.{◌≡◌, ℕ, ◌+◌, ◌*◌, ◌≤◌, List, [], ◌∷◌, ◌++◌, length, map, sym, ap, ◌∙◌, subst, arith, None}
use Rattle.std.proofs.lemmas.List.{length-map}
use Rattle.std.specs.Prelude.{All, slice_index_or}
use Rattle.std.proofs.lemmas.List.Elements.{All-head, All-tail}
use Rattle.rhythm_base.specs.declared.limits.TheConstants.{MOST_UNITS}
use Rattle.rhythm_base.specs.declared.sound.Sound.{Sound}
use Rattle.rhythm_base.specs.Lists.{Each}
use Rattle.derivation.specs.WellSounded.{AreWellSounded}
use Rattle.derivation.specs.declared.score.ScoreBar.{ScoreBar}
use Rattle.derivation.specs.Score.{IsScore, IsScoreBar, Score}
use Rattle.voice_values.specs.Values.{AreVoiceValues, VoiceValue}
use Rattle.kern_laws.specs.Lines.{KernLine}
use Rattle.kern_laws.proofs.ScoreLines.{AreScoreLines, ending_line, Heading, LastBarline, StandFrom, voice_said}
use Rattle.kern_laws.proofs.BarFits.{voice_fits}
use Rattle.kern_laws.proofs.BarLines.{FitsBars}
use Rattle.kern_laws.proofs.BarVoice.{AreVoice, are_voice}
use Rattle.kern_laws.proofs.LineEnds.{IsDone, score_walk}
use Rattle.kern_laws.proofs.LineLists.{Every}
use Rattle.kern_laws.proofs.LineWalk.{walk_stands}
use Rattle.kern_laws.proofs.TieValues.{voice_linked}
use Rattle.rhythm_base.proofs.PairedLists.{each_length}

pub few_parts : (r : ℕ) → r ≤ MOST_UNITS → 64 * r ≤ 61440
few_parts r few = let most : r ≤ 960 = few in omega (arith, most)

pub sounds_voice : (r : ℕ) (bars : List ScoreBar) (sounds : List Sound) (vss : List (List VoiceValue)) → 1 ≤ r → All IsScoreBar bars → AreWellSounded r (length bars) sounds
    → AreVoiceValues r 0 bars sounds vss → AreVoice r 0 bars sounds vss
sounds_voice r bars sounds vss some right well values = are_voice r (length bars) 0 bars sounds vss some (omega arith) right well.places values

one_fits : (r : ℕ) (bars : List ScoreBar) (sounds : List Sound) (vss : List (List VoiceValue)) → 1 ≤ r → r ≤ MOST_UNITS → All IsScoreBar bars → AreWellSounded r (length bars) sounds
    → AreVoiceValues r 0 bars sounds vss → FitsBars r 0 bars None (voice_said vss)
one_fits r bars sounds vss some few right well values =
    let voice = sounds_voice r bars sounds vss some right well values in
    voice_fits r 0 bars (voice_said vss) None sounds vss some (few_parts r few) right (λ k. let e : 0 + k ≡ k = omega arith in ap (λ i. slice_index_or (voice_said vss) i []) e) voice well.each
    (voice_linked r 0 bars None None sounds vss tt well.ties voice)

all_fit : (r : ℕ) (bars : List ScoreBar) (voices : List (List Sound)) (values : List (List (List VoiceValue))) → 1 ≤ r → r ≤ MOST_UNITS → All IsScoreBar bars
    → All (AreWellSounded r (length bars)) voices → Each (AreVoiceValues r 0 bars) voices values → Every (FitsBars r 0 bars None) (map voice_said values)
all_fit r bars [] values some few right well each = subst (λ vs. Every (FitsBars r 0 bars None) (map voice_said vs)) (sym each) tt
all_fit r bars (sounds ∷ voices) [] some few right well each = absurd each
all_fit r bars (sounds ∷ voices) (vss ∷ values) some few right well (own, rest) = (
  one_fits r bars sounds vss some few right (All-head (AreWellSounded r (length bars)) sounds voices well) own,
  all_fit r bars voices values some few right (All-tail (AreWellSounded r (length bars)) sounds voices well) rest,
)

-- all lines of a score that can be written stand, to its end
pub score_done : (s : Score) (lines : List KernLine) → IsScore s → (are : AreScoreLines s lines) → (after : List KernLine) × IsDone s.resolution s.bars (map voice_said are.values) lines after
score_done s lines is are =
    let width : length (map voice_said are.values) ≡ length s.voices = length-map are.values voice_said ∙ each_length (AreVoiceValues s.resolution 0 s.bars) s.voices are.values are.are_values in
    let few = few_parts s.resolution is.few_units in
    let some : 1 ≤ 64 * s.resolution = let h = is.some_unit in omega (arith, h) in
    let voiced : 1 ≤ length (map voice_said are.values) = let h = is.some_voice in omega (arith, width, h) in
    let same = are.are ∙ ap (λ n. Heading n ∷ (are.bars ++ LastBarline ∷ ending_line ∷ [])) (sym width) in
    score_walk s.resolution s.bars (map voice_said are.values) lines are.bars some few voiced is.bars
    (all_fit s.resolution s.bars s.voices are.values is.some_unit is.few_units is.bars is.voices are.are_values) are.are_bars same

pub lines_stand : (s : Score) (lines : List KernLine) → IsScore s → AreScoreLines s lines → StandFrom (length s.voices) [] lines
lines_stand s lines is are =
    let (after, done) = score_done s lines is are in
    let width : length (map voice_said are.values) ≡ length s.voices = length-map are.values voice_said ∙ each_length (AreVoiceValues s.resolution 0 s.bars) s.voices are.values are.are_values in
    subst (λ n. StandFrom n [] lines) width (walk_stands (length (map voice_said are.values)) [] lines after done.walk done.over)
