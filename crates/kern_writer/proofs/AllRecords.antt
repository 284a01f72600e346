-- The records of the bars of a score.
use Rattle.std.proofs.Common.{◌≡◌, ℕ, suc, ◌+◌, ◌*◌, ◌≤◌, List, [], ◌∷◌, ◌++◌, Option, Some, None, length, get_or, map, drop, refl, sym, ap, ◌∙◌, subst, arith}
use Rattle.std.specs.Prelude.{All, slice_index_or}
use Rattle.std.proofs.lemmas.List.{drop-drop, get_or-drop, length-map, map-id}
use Rattle.std.proofs.lemmas.List.Elements.{All-cons, All-head, All-nil, All-tail, All-weaker}
use Rattle.rhythm_base.specs.declared.sound.Sound.{Sound}
use Rattle.rhythm_base.specs.Lists.{Each}
use Rattle.derivation.specs.WellSounded.{AreWellSounded, StandInBars}
use Rattle.derivation.specs.declared.score.ScoreBar.{ScoreBar}
use Rattle.kern_writer.specs.Ahead.{AreTokensAhead}
use Rattle.derivation.specs.Ahead.{later_sounds, own_sounds}
use Rattle.voice_values.specs.Ahead.{begins_with_tie}
use Rattle.kern_writer.specs.Columns.{RiseFrom}
use Rattle.kern_writer.specs.Records.{AreBarRecords, AreBarsRecords, AreRecords, Record, head, tail, tokens_in_bar}
use Rattle.derivation.specs.Score.{IsScore, IsScoreBar, Score}
use Rattle.kern_writer.specs.Tokens.{Token, voice_tokens}
use Rattle.voice_values.specs.Values.{AreVoiceValues, VoiceValue}
use Rattle.kern_writer.proofs.BarTokens.{tokens_exist, tokens_rise}
use Rattle.kern_writer.proofs.Merging.{are_records, bar_records, data_exist}
use Rattle.derivation.proofs.Pairs.{each_length}
use Rattle.voice_values.proofs.TimedSounds.{some_whole}
use Rattle.kern_writer.proofs.VoiceTokens.{AreVoiceTokens, voice_values_are}

-- ---- the records of bars whose tokens stand at the front of the lists of each voice

abbrev first_bar : List (List Token) → List Token
first_bar tss = slice_index_or tss 0 []

abbrev pub ArePeeled : List (List (List Token)) → Option ScoreBar → ℕ → List ScoreBar → List Record → Type 0
ArePeeled voices before n [] records = records ≡ []
ArePeeled voices before n (bar ∷ bars) records =
    (own : List Record) × (others : List Record) × AreBarRecords before bar n (map first_bar voices) own × ArePeeled (map (drop 1) voices) (Some bar) (suc n) bars others × (records ≡ own ++ others)

firsts_are : (n : ℕ) (voices : List (List (List Token))) → map first_bar (map (drop n) voices) ≡ tokens_in_bar n voices
firsts_are n [] = refl
firsts_are n (tss ∷ voices) = let e : n + 0 ≡ n = omega arith in λ i. (get_or-drop n tss 0 [] ∙ ap (λ k. get_or tss k []) e) i ∷ firsts_are n voices i

rests_are : (n : ℕ) (voices : List (List (List Token))) → map (drop 1) (map (drop n) voices) ≡ map (drop (suc n)) voices
rests_are n [] = refl
rests_are n (tss ∷ voices) = let e : n + 1 ≡ suc n = omega arith in λ i. (drop-drop 1 n tss ∙ ap (λ k. drop k tss) e) i ∷ rests_are n voices i

peeled_are : (voices : List (List (List Token))) (before : Option ScoreBar) (n : ℕ) (bars : List ScoreBar) (records : List Record) → ArePeeled (map (drop n) voices) before n bars records → AreBarsRecords voices before n bars records
peeled_are voices before n [] records h = h
peeled_are voices before n (bar ∷ bars) records (own, others, front, rest, is) = (
  own,
  others,
  subst (λ ts. AreBarRecords before bar n ts own) (firsts_are n voices) front,
  peeled_are voices (Some bar) (suc n) bars others (subst (λ ts. ArePeeled ts (Some bar) (suc n) bars others) (rests_are n voices) rest),
  is,
)

-- ---- the records of the bars from number n on, where these sounds of each voice are ahead

pub record AreRecordsAhead (r : ℕ) (before : Option ScoreBar) (n : ℕ) (bars : List ScoreBar) (ahead : List (List Sound)) (records : List Record) : Type 0 where
  pub tokens : List (List (List Token))
  pub are_tokens : Each (AreVoiceTokens r n bars) ahead tokens
  pub are : ArePeeled tokens before n bars records

abbrev zipped : List (List Token) → List (List (List Token)) → List (List (List Token))
zipped [] tokens = []
zipped (ts ∷ columns) [] = []
zipped (ts ∷ columns) (tss ∷ tokens) = (ts ∷ tss) ∷ zipped columns tokens

zipped_are : (r : ℕ) (bar : ScoreBar) (n : ℕ) (bars : List ScoreBar) (ahead : List (List Sound)) (columns : List (List Token)) (tokens : List (List (List Token)))
    → Each (AreTokensAhead r bar n) ahead columns → Each (AreVoiceTokens r (suc n) bars) (map (later_sounds n) ahead) tokens → Each (AreVoiceTokens r n (bar ∷ bars)) ahead (zipped columns tokens)
zipped_are r bar n bars [] columns tokens h k = ap (λ cs. zipped cs tokens) h
zipped_are r bar n bars (a ∷ ahead) [] tokens h k = absurd h
zipped_are r bar n bars (a ∷ ahead) (ts ∷ columns) [] h k = absurd k
zipped_are r bar n bars (a ∷ ahead) (ts ∷ columns) (tss ∷ tokens) h k = ((h.0, k.0), zipped_are r bar n bars ahead columns tokens h.1 k.1)

zipped_firsts : (columns : List (List Token)) (tokens : List (List (List Token))) → length columns ≡ length tokens → map first_bar (zipped columns tokens) ≡ columns
zipped_firsts [] tokens same = refl
zipped_firsts (ts ∷ columns) [] same = absurd (omega (arith, same))
zipped_firsts (ts ∷ columns) (tss ∷ tokens) same = ap (λ cs. ts ∷ cs) (zipped_firsts columns tokens (omega (arith, same)))

zipped_rests : (columns : List (List Token)) (tokens : List (List (List Token))) → length columns ≡ length tokens → map (drop 1) (zipped columns tokens) ≡ tokens
zipped_rests [] [] same = refl
zipped_rests [] (tss ∷ tokens) same = absurd (omega (arith, same))
zipped_rests (ts ∷ columns) [] same = absurd (omega (arith, same))
zipped_rests (ts ∷ columns) (tss ∷ tokens) same = ap (λ us. tss ∷ us) (zipped_rests columns tokens (omega (arith, same)))

pub ahead_next :
    (r : ℕ) (before : Option ScoreBar) (n : ℕ) (bar : ScoreBar) (bars : List ScoreBar) (ahead : List (List Sound)) (columns : List (List Token)) (own others : List Record)
    → Each (AreTokensAhead r bar n) ahead columns → AreBarRecords before bar n columns own
    → AreRecordsAhead r (Some bar) (suc n) bars (map (later_sounds n) ahead) others → AreRecordsAhead r before n (bar ∷ bars) ahead (own ++ others)
ahead_next r before n bar bars ahead columns own others here records rest =
    let one = each_length (AreTokensAhead r bar n) ahead columns here in
    let two = each_length (AreVoiceTokens r (suc n) bars) (map (later_sounds n) ahead) rest.tokens rest.are_tokens in
    let same : length columns ≡ length rest.tokens = omega (arith, one, two, length-map ahead (later_sounds n)) in
    record {
      tokens = zipped columns rest.tokens;
      are_tokens = zipped_are r bar n bars ahead columns rest.tokens here rest.are_tokens;
      are = (
        own,
        others,
        subst (λ cs. AreBarRecords before bar n cs own) (sym (zipped_firsts columns rest.tokens same)) records,
        subst (λ us. ArePeeled us (Some bar) (suc n) bars others) (sym (zipped_rests columns rest.tokens same)) rest.are,
        refl,
      );
    }

none_each : (r n : ℕ) (ahead : List (List Sound)) → Each (AreVoiceTokens r n []) ahead (map (λ a. []) ahead)
none_each r n [] = refl
none_each r n (a ∷ ahead) = (refl, none_each r n ahead)

pub ahead_end : (r : ℕ) (before : Option ScoreBar) (n : ℕ) (ahead : List (List Sound)) → AreRecordsAhead r before n [] ahead []
ahead_end r before n ahead = record { tokens = map (λ a. []) ahead; are_tokens = none_each r n ahead; are = refl }

pub columns_rise : (r : ℕ) (bar : ScoreBar) (n : ℕ) (ahead : List (List Sound)) (columns : List (List Token)) → 1 ≤ r * bar.den → Each (AreTokensAhead r bar n) ahead columns → All (RiseFrom 0) columns
columns_rise r bar n [] columns some h = subst (All (RiseFrom 0)) (sym h) (All-nil (RiseFrom 0))
columns_rise r bar n (a ∷ ahead) [] some h = absurd h
columns_rise r bar n (a ∷ ahead) (ts ∷ columns) some h =
    All-cons (RiseFrom 0) ts columns (tokens_rise r bar (begins_with_tie (later_sounds n a)) (own_sounds n a) ts some h.0) (columns_rise r bar n ahead columns some h.1)

pub columns_exist : (r : ℕ) (bar : ScoreBar) (n : ℕ) (ahead : List (List Sound)) → 1 ≤ r * bar.den → (columns : List (List Token)) × Each (AreTokensAhead r bar n) ahead columns
columns_exist r bar n [] some = ([], refl)
columns_exist r bar n (a ∷ ahead) some =
    let one = tokens_exist r bar (begins_with_tie (later_sounds n a)) (own_sounds n a) some in
    let rest = columns_exist r bar n ahead some in
    (one.0 ∷ rest.0, (one.1, rest.1))

pub ahead_exist : (r : ℕ) (before : Option ScoreBar) (n : ℕ) (bars : List ScoreBar) (ahead : List (List Sound)) → 1 ≤ r → All IsScoreBar bars → (records : List Record) × AreRecordsAhead r before n bars ahead records
ahead_exist r before n [] ahead some all = ([], ahead_end r before n ahead)
ahead_exist r before n (bar ∷ bars) ahead some all =
    let whole = some_whole r bar some (All-head IsScoreBar bar bars all) in
    let columns = columns_exist r bar n ahead whole in
    let rows = data_exist columns.0 (columns_rise r bar n ahead columns.0 whole columns.1) in
    let rest = ahead_exist r (Some bar) (suc n) bars (map (later_sounds n) ahead) some (All-tail IsScoreBar bar bars all) in
    let own = bar_records before bar n columns.0 rows.0 in
    (own ++ rest.0, ahead_next r before n bar bars ahead columns.0 own rest.0 columns.1 (are_records before bar n columns.0 rows.0 rows.1) rest.1)

-- ---- these are the records of the values

values_each : (r : ℕ) (bars : List ScoreBar) (voices : List (List Sound)) (tokens : List (List (List Token))) → All IsScoreBar bars → All (StandInBars r (length bars) 0 0) voices
    → Each (AreVoiceTokens r 0 bars) voices tokens → (values : List (List (List VoiceValue))) × Each (AreVoiceValues r 0 bars) voices values × (tokens ≡ map (voice_tokens bars) values)
values_each r bars [] tokens all stand h = ([], refl, h)
values_each r bars (a ∷ voices) [] all stand h = absurd h
values_each r bars (a ∷ voices) (tss ∷ tokens) all stand h =
    let end : 0 + length bars ≡ length bars = omega arith in
    let one = voice_values_are r (length bars) 0 bars a tss end all (All-head (StandInBars r (length bars) 0 0) a voices stand) h.0 in
    let rest = values_each r bars voices tokens all (All-tail (StandInBars r (length bars) 0 0) a voices stand) h.1 in
    (one.0 ∷ rest.0, (one.1, rest.1), λ i. one.2 i ∷ rest.2 i)

pub ahead_are : (r : ℕ) (bars : List ScoreBar) (voices : List (List Sound)) (records : List Record) → All IsScoreBar bars → All (StandInBars r (length bars) 0 0) voices
    → AreRecordsAhead r None 0 bars voices records → (values : List (List (List VoiceValue))) × Each (AreVoiceValues r 0 bars) voices values × AreBarsRecords (map (voice_tokens bars) values) None 0 bars records
ahead_are r bars voices records all stand h =
    let values = values_each r bars voices h.tokens all stand h.are_tokens in
    let whole : map (drop 0) h.tokens ≡ h.tokens = map-id h.tokens in
    let are = peeled_are h.tokens None 0 bars records (subst (λ ts. ArePeeled ts None 0 bars records) (sym whole) h.are) in
    (values.0, values.1, subst (λ ts. AreBarsRecords ts None 0 bars records) values.2 are)

-- ---- all records of a score

pub score_records : (s : Score) (records : List Record) → (values : List (List (List VoiceValue))) → Each (AreVoiceValues s.resolution 0 s.bars) s.voices values
    → AreBarsRecords (map (voice_tokens s.bars) values) None 0 s.bars records → AreRecords s (head (length s.voices) ∷ (records ++ tail (length s.voices)))
score_records s records values are_values are = record { values = values; are_values = are_values; bars = records; are_bars = are; are = refl }

pub stand_each : (r bars : ℕ) (voices : List (List Sound)) → All (AreWellSounded r bars) voices → All (StandInBars r bars 0 0) voices
stand_each r bars voices h = All-weaker (AreWellSounded r bars) (StandInBars r bars 0 0) (λ s k. k.places) voices h

-- each score has records
pub bars_exist : (s : Score) → IsScore s → (values : List (List (List VoiceValue))) × (records : List Record) × Each (AreVoiceValues s.resolution 0 s.bars) s.voices values × AreBarsRecords (map (voice_tokens s.bars) values) None 0 s.bars records
bars_exist s h =
    let all = ahead_exist s.resolution None 0 s.bars s.voices h.some_unit h.bars in
    let are = ahead_are s.resolution s.bars s.voices all.0 h.bars (stand_each s.resolution (length s.bars) s.voices h.voices) all.1 in
    (are.0, all.0, are.1, are.2)
