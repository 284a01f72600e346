-- A score has one text.
use Rattle.rhythm_base.specs.declared.limits.TheConstants.{LONGEST_SCORE}
use Rattle.std.proofs.Common.{◌≡◌, ℕ, suc, ◌-◌, ◌≤◌, ◌<◌, List, [], ◌∷◌, ◌++◌, Option, Some, length, map, take, sym, ap, ◌∙◌, subst, ◌⊎◌, inl, inr, arith}
use Rattle.std.specs.Prelude.{sum_by}
use Rattle.std.specs.List.{flat_map}
use Rattle.std.proofs.lemmas.Bool.{cases_lt}
use Rattle.std.proofs.lemmas.List.{take-take}
use Rattle.std.proofs.lemmas.List.Concat.{length-flat_map}
use Rattle.std.proofs.lemmas.List.Sums.{sum_by-take-le}
use Rattle.derivation.specs.WellSounded.{AreWellSounded}
use Rattle.derivation.specs.declared.score.ScoreBar.{ScoreBar}
use Rattle.kern_writer.specs.Changes.{changes}
use Rattle.kern_writer.specs.Laws.{TextsAreOne}
use Rattle.kern_writer.specs.Records.{AreBarRecords, AreBarsRecords, AreRecords, Record, alike, barline_record, head, records_at, tail, tokens_in_bar}
use Rattle.derivation.specs.Score.{IsScore, Score}
use Rattle.kern_writer.specs.Text.{IsScoreText, IsTooLong, record_text, records_text}
use Rattle.kern_writer.specs.Tokens.{Token, voice_tokens}
use Rattle.voice_values.specs.Values.{AreVoiceValues}
use Rattle.kern_writer.proofs.Merging.{places_one}
use Rattle.derivation.proofs.Pairs.{each_one}
use Rattle.kern_writer.proofs.VoiceTokens.{voice_values_one}

-- ---- records

bar_records_one : (before : Option ScoreBar) (bar : ScoreBar) (n : ℕ) (columns : List (List Token)) (rs ss : List Record) → AreBarRecords before bar n columns rs → AreBarRecords before bar n columns ss → rs ≡ ss
bar_records_one before bar n columns rs ss (places, are, is) (others, too, same) =
    is
    ∙ ap (λ ps. map (alike (length columns)) (changes before bar) ++ barline_record (length columns) n ∷ flat_map (records_at columns) ps) (places_one columns places others are too)
    ∙ sym same

bars_records_one : (voices : List (List (List Token))) (before : Option ScoreBar) (n : ℕ) (bars : List ScoreBar) (rs ss : List Record) → AreBarsRecords voices before n bars rs → AreBarsRecords voices before n bars ss → rs ≡ ss
bars_records_one voices before n [] rs ss h k = h ∙ sym k
bars_records_one voices before n (bar ∷ bars) rs ss (own, others, front, rest, is) (own', others', front', rest', is') =
    let one = bar_records_one before bar n (tokens_in_bar n voices) own own' front front' in
    let two = bars_records_one voices (Some bar) (suc n) bars others others' rest rest' in
    is ∙ (λ i. one i ++ two i) ∙ sym is'

pub records_one : (s : Score) (rs ss : List Record) → IsScore s → AreRecords s rs → AreRecords s ss → rs ≡ ss
records_one s rs ss score h k =
    let values : h.values ≡ k.values =
    each_one (AreVoiceValues s.resolution 0 s.bars) (AreWellSounded s.resolution (length s.bars)) s.voices h.values k.values
    (λ sounds vss uss _. voice_values_one s.resolution 0 s.bars sounds vss uss score.some_unit score.bars) score.voices h.are_values k.are_values in
    let bars = bars_records_one (map (voice_tokens s.bars) k.values) _ 0 s.bars h.bars k.bars (subst (λ vs. AreBarsRecords (map (voice_tokens s.bars) vs) _ 0 s.bars h.bars) values h.are_bars) k.are_bars in
    h.are ∙ ap (λ b. head (length s.voices) ∷ (b ++ tail (length s.voices))) bars ∙ sym k.are

-- ---- lengths

-- fewer records have no longer text
text_le : (rs : List Record) (m n : ℕ) → m ≤ n → length (records_text (take m rs)) ≤ length (records_text (take n rs))
text_le rs m n le =
    let f : Record → ℕ = λ r. length (record_text r) in
    let part = sum_by-take-le f (take n rs) m in
    let same : sum_by f (take m (take n rs)) ≡ sum_by f (take m rs) = ap (sum_by f) (take-take m n rs le) in
    omega (arith, part, same, length-flat_map record_text (take m rs), length-flat_map record_text (take n rs))

text_within : (rs : List Record) (n : ℕ) → length (records_text (take n rs)) ≤ length (records_text rs)
text_within rs n =
    let f : Record → ℕ = λ r. length (record_text r) in
    omega (arith, sum_by-take-le f rs n, length-flat_map record_text (take n rs), length-flat_map record_text rs)

-- ---- the laws

no_later : (s : Score) (a b : ℕ) → IsScore s → IsTooLong s a → IsTooLong s b → a < b → ⊥
no_later s a b score h k lt =
    let same = records_one s h.records k.records score h.are_records k.are_records in
    let past = subst (λ rs. LONGEST_SCORE < length (records_text (take a rs))) same h.past in
    let more = text_le k.records a (b - 1) (omega (arith, lt)) in
    omega (arith, past, more, k.before)

one_line : (s : Score) (a b : ℕ) → IsScore s → IsTooLong s a → IsTooLong s b → a ≡ b
one_line s a b score h k = go (cases_lt a b) (cases_lt b a)
  where
    go : (a < b) ⊎ (b ≤ a) → (b < a) ⊎ (a ≤ b) → a ≡ b
    go (inl lt) other = absurd (no_later s a b score h k lt)
    go (inr le) (inl lt) = absurd (no_later s b a score k h lt)
    go (inr le) (inr ge) = omega (arith, le, ge)

one_text : (s : Score) (a b : List ℕ) → IsScore s → IsScoreText s a → IsScoreText s b → a ≡ b
one_text s a b score (rs, are, text) (ss, too, other) = text ∙ ap records_text (records_one s rs ss score are too) ∙ sym other

one_way : (s : Score) (text : List ℕ) (line : ℕ) → IsScore s → IsScoreText s text → length text ≤ LONGEST_SCORE → IsTooLong s line → ⊥
one_way s text line score (rs, are, is) short h =
    let same = records_one s h.records rs score h.are_records are in
    let past = subst (λ rs. LONGEST_SCORE < length (records_text (take line rs))) same h.past in
    omega (arith, past, text_within rs line, ap length is, short)

pub texts_one : TextsAreOne
texts_one = record { text = one_text; too_long = one_line; either = one_way }
