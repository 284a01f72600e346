-- A whole score, computed by the definition: two tied half notes.
use Rattle.std.specs.Prelude.{ℕ, ◌^◌, true, List, [], ◌∷◌, ◌++◌, codes, map, refl, None}
use Rattle.std.proofs.Common.{inl, arith}
use Rattle.std.proofs.lemmas.Nat.Gcd.{IsGcd-from_mod, IsGcd-from_zero}
use Rattle.rhythm_base.specs.declared.sound.Sound.{Sound}
use Rattle.rhythm_base.specs.declared.sound.SoundKind.{SoundKind}
use Rattle.rhythm_base.specs.declared.sound.SoundKind.TheVariants.{Begin, Tie}
use Rattle.durations.specs.declared.joined.Written.{Written}
use Rattle.durations.specs.declared.value.Recip.TheVariants.{Of}
use Rattle.durations.specs.declared.value.Value.{Value}
use Rattle.durations.specs.Values.{AreValues}
use Rattle.std.specs.Fmt.{digits}
use Rattle.std.specs.Prelude.{All}
use Rattle.std.proofs.lemmas.List.Elements.{All-from_recursion}
use Rattle.kern_writer.specs.Columns.{AreDataRecords, RiseFrom, tokens_after}
use Rattle.kern_writer.proofs.Merging.{are_records, bar_records, data_next, data_none}
use Rattle.derivation.specs.declared.score.ScoreBar.{ScoreBar}
use Rattle.kern_writer.specs.Records.{Record, records_at, tokens_in_bar}
use Rattle.derivation.specs.Score.{Score}
use Rattle.kern_writer.specs.Text.{IsScoreText}
use Rattle.kern_writer.specs.Tokens.{Token, voice_tokens}
use Rattle.score_words.specs.Keys.{rising_keys}
use Rattle.voice_values.specs.Values.{AreBarValues, VoiceValue}

abbrev half : SoundKind → ℕ → Sound
half kind place = record { bar = 0; place = place; width = 1; kind = kind; keys = 2 ^ 60; graces = [] }

abbrev value : Value
value = record { recip = Of 2; dots = 0 }

abbrev bar : ScoreBar
bar = record { num = 4; den = 4; tempo = 500000; sf = None }

abbrev score : Score
score = record {
  resolution = 2;
  bars = bar ∷ [];
  voices = (half Begin 0 ∷ half Tie 1 ∷ []) ∷ [];
}

abbrev values : List VoiceValue
values = record { place = 0; value = value; sound = half Begin 0; first = true } ∷ record { place = 4; value = value; sound = half Tie 1; first = true } ∷ []

half_value : AreValues 4 8 (value ∷ [])
half_value = (1, 2, (4, IsGcd-from_mod 4 8 4 (IsGcd-from_mod 8 4 4 (IsGcd-from_zero 4 0 refl)), refl, refl), inl ((refl, refl), refl))

bar_values : AreBarValues 2 bar (half Begin 0 ∷ half Tie 1 ∷ []) values
bar_values =
    let first : Written = record { leaf = 0; from = 0; value = value } in
    let second : Written = record { leaf = 1; from = 4; value = value } in
    (first ∷ second ∷ [], (value ∷ [], second ∷ [], half_value, refl, (value ∷ [], [], half_value, refl, refl)), refl)

abbrev tokens : List (List (List Token))
tokens = map (voice_tokens score.bars) ((values ∷ []) ∷ [])

abbrev rows : List Record
rows = records_at (tokens_in_bar 0 tokens) 0 ++ (records_at (map (tokens_after 0) (tokens_in_bar 0 tokens)) 4 ++ [])

data_rows : AreDataRecords (tokens_in_bar 0 tokens) rows
data_rows =
    let both = tokens_in_bar 0 tokens in
    let after_first = map (tokens_after 0) both in
    let rise : All (RiseFrom 0) both = All-from_recursion (RiseFrom 0) both ((omega arith, (omega arith, tt)), tt) in
    let rise' : All (RiseFrom 0) after_first = All-from_recursion (RiseFrom 0) after_first ((omega arith, tt), tt) in
    data_next both 0 (records_at after_first 4 ++ []) refl rise (data_next after_first 4 [] refl rise' (data_none (map (tokens_after 4) after_first) refl))

text : IsScoreText score (codes "**kern\n*M4/4\n*MM120\n=1\n[2c\n2c]\n==\n*-\n")
unfolding digits rising_keys
text = (
  _,
  record {
    values = (values ∷ []) ∷ [];
    are_values = ((bar_values, refl), refl);
    bars = _;
    are_bars = (bar_records None bar 0 (tokens_in_bar 0 tokens) rows, [], are_records None bar 0 (tokens_in_bar 0 tokens) rows data_rows, refl, refl);
    are = refl;
  },
  refl,
)
