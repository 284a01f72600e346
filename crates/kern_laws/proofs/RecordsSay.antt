-- What the records of a score say.
use Rattle.std.proofs.Common.{◌≡◌, ℕ, zero, suc, ◌≤◌, true, List, [], ◌∷◌, ◌++◌, length, map, refl, sym, ap, ◌∙◌, subst, arith}
use Rattle.std.specs.Prelude.{None}
use Rattle.std.specs.List.{list_all}
use Rattle.std.proofs.lemmas.Bool.{and_from}
use Rattle.std.proofs.lemmas.List.{length-map}
use Rattle.rhythm_base.specs.Lists.{Each}
use Rattle.kern_writer.specs.Records.{AreRecords, Record, head, tail}
use Rattle.derivation.specs.Score.{IsScore, Score}
use Rattle.kern_writer.specs.Tokens.{voice_tokens}
use Rattle.voice_values.specs.Values.{AreVoiceValues}
use Rattle.derivation.proofs.Pairs.{each_length}
use Rattle.kern_laws.specs.Lines.{KernLine}
use Rattle.kern_laws.proofs.ScoreLines.{AreScoreLines, ending_line, Heading, LastBarline, voice_said}
use Rattle.kern_laws.proofs.RecordsBars.{bars_say}
use Rattle.kern_laws.proofs.RecordsLines.{SaysInside, SaysLine}
use Rattle.kern_laws.proofs.RecordsVoices.{voices_say}
use Rattle.kern_laws.proofs.LinesOfRecords.{in_line}
use Rattle.kern_laws.proofs.WordsSay.{end_says, head_says, last_says}
use Rattle.rhythm_base.proofs.PairedLists.{each_append}

-- the records of a score are those of its bars with the head and the tail, and what they say is what the bars say with the rest
pub record SayScore (m : ℕ) (s : Score) (records : List Record) : Type 0 where
  pub count : length s.voices ≡ suc m
  pub few : suc m ≤ 16
  pub rows : List Record
  pub are_rows : records ≡ head (suc m) ∷ (rows ++ tail (suc m))
  pub bars : List KernLine
  pub are_bars : AreScoreLines s (Heading (length s.voices) ∷ (bars ++ LastBarline ∷ ending_line ∷ []))
  pub say : Each (SaysInside (suc m)) rows bars

score_says : (m : ℕ) (s : Score) (records : List Record) → length s.voices ≡ suc m → IsScore s → AreRecords s records → SayScore m s records
score_says m s records count well are =
    let tokens = map (voice_tokens s.bars) are.values in
    let saids = map voice_said are.values in
    let voices = voices_say s.resolution (length s.bars) s.bars s.voices are.values well.some_unit well.few_units well.bars well.voices are.are_values in
    let as_many : length tokens ≡ suc m = length-map are.values (voice_tokens s.bars) ∙ sym
    (each_length (AreVoiceValues s.resolution 0 s.bars) s.voices are.values are.are_values) ∙ count in
    let bars = bars_say m 0 None s.bars tokens saids are.bars well.bars voices as_many are.are_bars in
    record {
      count = count;
      few = let few = well.few_voices in omega (arith, count, few);
      rows = are.bars;
      are_rows = are.are ∙ ap (λ n. head n ∷ (are.bars ++ tail n)) count;
      bars = bars.0;
      are_bars = record { values = are.values; are_values = are.are_values; bars = bars.0; are_bars = bars.1; are = refl };
      say = bars.2;
    }

pub score_rows : (s : Score) (records : List Record) → IsScore s → AreRecords s records → (m : ℕ) × SayScore m s records
score_rows s records well are = at (length s.voices) refl well.some_voice
  where
    at : (n : ℕ) → length s.voices ≡ n → 1 ≤ n → (m : ℕ) × SayScore m s records
    at zero count some = absurd (omega (arith, some))
    at (suc m) count some = (m, score_says m s records count well are)

inside_lines : (n : ℕ) (rows : List Record) (lines : List KernLine) → Each (SaysInside n) rows lines → Each (SaysLine n) rows lines
inside_lines n [] lines h = h
inside_lines n (row ∷ rows) [] h = h
inside_lines n (row ∷ rows) (line ∷ lines) h = (h.0.says, inside_lines n rows lines h.1)

lines_say : (m : ℕ) (s : Score) (records : List Record) → SayScore m s records
    → (lines : List KernLine) × AreScoreLines s lines × Each (SaysLine (length s.voices)) records lines
lines_say m s records h =
    let inside = each_append (SaysLine (suc m)) h.rows (tail (suc m)) h.bars (LastBarline ∷ ending_line ∷ [])
    (inside_lines (suc m) h.rows h.bars h.say) (last_says m, (end_says m, refl)) in
    let all : Each (SaysLine (suc m)) (head (suc m) ∷ (h.rows ++ tail (suc m))) (Heading (suc m) ∷ (h.bars ++ LastBarline ∷ ending_line ∷ [])) =
    (head_says m, inside) in (
      Heading (length s.voices) ∷ (h.bars ++ LastBarline ∷ ending_line ∷ []),
      h.are_bars,
      subst (λ rs. Each (SaysLine (length s.voices)) rs (Heading (length s.voices) ∷ (h.bars ++ LastBarline ∷ ending_line ∷ []))) (sym h.are_rows)
          (subst (λ n. Each (SaysLine n) (head (suc m) ∷ (h.rows ++ tail (suc m))) (Heading n ∷ (h.bars ++ LastBarline ∷ ending_line ∷ []))) (sym h.count) all),
    )

rows_apart : (n : ℕ) (rows : List Record) (lines : List KernLine) → Each (SaysLine n) rows lines → list_all in_line rows ≡ true
rows_apart n [] lines h = refl
rows_apart n (row ∷ rows) [] h = absurd h
rows_apart n (row ∷ rows) (line ∷ lines) h = and_from (in_line row) (list_all in_line rows) h.0.apart (rows_apart n rows lines h.1)

-- no record has a newline
pub records_apart : (m : ℕ) (s : Score) (records : List Record) → SayScore m s records → list_all in_line records ≡ true
records_apart m s records h = let all = lines_say m s records h in rows_apart (length s.voices) records all.0 all.2

-- each record of a score says a line, and these are the lines of the score
pub records_say : (s : Score) (records : List Record) → IsScore s → AreRecords s records
    → (lines : List KernLine) × AreScoreLines s lines × Each (SaysLine (length s.voices)) records lines
records_say s records well are = let all = score_rows s records well are in lines_say all.0 s records all.1
