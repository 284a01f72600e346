-- The records of a score, first to last. A record is a line of the text: one column for each voice.
use Rattle.std.specs.Prelude.{◌≡◌, ◌↔◌, ℕ, ◌+◌, ◌-◌, ◌==◌, nat_lt, if◌then◌else◌, List, [], ◌∷◌, ◌++◌, codes, decimal, find, fold, length, map, max, replicate, Contains, IsSome, slice_index_or, Option, Some, None}
use Rattle.std.proofs.Common.{suc, zero}
use Rattle.std.specs.List.{flat_map}
use Rattle.std.specs.List.Sorted.{IsStrictlyIncreasing}
use Rattle.rhythm_base.specs.declared.sound.Sound.{Sound}
use Rattle.rhythm_base.specs.Lists.{Each}
use Rattle.derivation.specs.declared.score.ScoreBar.{ScoreBar}
use Rattle.kern_writer.specs.Changes.{changes}
use Rattle.derivation.specs.Score.{Score}
use Rattle.kern_writer.specs.Tokens.{Token, voice_tokens}
use Rattle.voice_values.specs.Values.{AreVoiceValues, VoiceValue}

-- the columns of a line
abbrev pub Record : Type 0
Record = List (List ℕ)

-- the same text in each of so many columns
abbrev pub alike : ℕ → List ℕ → Record
alike voices text = replicate voices text

-- ---- the data of a bar: the tokens of each voice in it

-- the token of a voice at a place, where it has one
abbrev pub token_at : ℕ → List Token → Option Token
token_at place tokens = find (λ t. t.place == place) tokens

abbrev pub main_column : Option Token → List ℕ
main_column None = codes "."
main_column (Some t) = t.main

abbrev pub main_record : ℕ → List (List Token) → Record
main_record place voices = map (λ tokens. main_column (token_at place tokens)) voices

abbrev pub grace_tokens : Option Token → List (List ℕ)
grace_tokens None = []
grace_tokens (Some t) = t.graces

-- how many grace records stand before the main record at a place: the greatest number of grace chords of a voice there
abbrev pub grace_records_at : ℕ → List (List Token) → ℕ
grace_records_at place voices = fold (λ n tokens. max n (length (grace_tokens (token_at place tokens)))) 0 voices

-- a voice with fewer grace chords has them in the last of these records: in the one with so many to come, itself among them
abbrev pub grace_column : ℕ → List (List ℕ) → List ℕ
grace_column left graces = if nat_lt (length graces) left then codes "." else slice_index_or graces (length graces - left) []

-- what the voice has in the grace record of a place with so many to come
abbrev pub grace_at : ℕ → ℕ → List Token → List ℕ
grace_at place left tokens = grace_column left (grace_tokens (token_at place tokens))

abbrev pub grace_record : ℕ → List (List Token) → ℕ → Record
grace_record place voices left = map (grace_at place left) voices

abbrev pub grace_records : ℕ → List (List Token) → ℕ → List Record
grace_records place voices zero = []
grace_records place voices (suc n) = grace_record place voices (suc n) ∷ grace_records place voices n

-- the records at a place: those of grace chords, and the main one
abbrev pub records_at : List (List Token) → ℕ → List Record
records_at voices place = grace_records place voices (grace_records_at place voices) ++ main_record place voices ∷ []

-- the places at which some voice has a token, rising
pub record ArePlaces (voices : List (List Token)) (places : List ℕ) : Type 0 where
  pub rise : IsStrictlyIncreasing places
  pub exactly : (place : ℕ) → Contains places place ↔ ((tokens : List Token) × Contains voices tokens × IsSome (token_at place tokens))

-- ---- bars

abbrev pub barline_record : ℕ → ℕ → Record
barline_record voices n = alike voices (codes "=" ++ decimal (n + 1))

-- the records of bar n: its changes since the bar before, its barline, and its data
abbrev pub AreBarRecords : Option ScoreBar → ScoreBar → ℕ → List (List Token) → List Record → Type 0
AreBarRecords before bar n voices records =
    (places : List ℕ) × ArePlaces voices places
    × (records ≡ map (alike (length voices)) (changes before bar) ++ barline_record (length voices) n ∷ flat_map (records_at voices) places)

-- the tokens of each voice in bar n
abbrev pub tokens_in_bar : ℕ → List (List (List Token)) → List (List Token)
tokens_in_bar n voices = map (λ bars. slice_index_or bars n []) voices

-- the records of the bars from number n on
abbrev pub AreBarsRecords : List (List (List Token)) → Option ScoreBar → ℕ → List ScoreBar → List Record → Type 0
AreBarsRecords voices before n [] records = records ≡ []
AreBarsRecords voices before n (bar ∷ bars) records =
    (own : List Record) × (others : List Record) × AreBarRecords before bar n (tokens_in_bar n voices) own
    × AreBarsRecords voices (Some bar) (suc n) bars others × (records ≡ own ++ others)

-- ---- the score

abbrev pub head : ℕ → Record
head voices = alike voices (codes "**kern")

abbrev pub tail : ℕ → List Record
tail voices = alike voices (codes "==") ∷ alike voices (codes "*-") ∷ []

-- the records of a score: the head, those of all bars, and the tail
pub record AreRecords (s : Score) (records : List Record) : Type 0 where
  pub values : List (List (List VoiceValue))
  pub are_values : Each (AreVoiceValues s.resolution 0 s.bars) s.voices values
  pub bars : List Record
  pub are_bars : AreBarsRecords (map (voice_tokens s.bars) values) None 0 s.bars bars
  pub are : records ≡ head (length s.voices) ∷ (bars ++ tail (length s.voices))

abbrev pub AreRecordsOf : ℕ → List ScoreBar → List (List Sound) → List Record → Type 0
AreRecordsOf resolution bars voices records = AreRecords (record { resolution = resolution; bars = bars; voices = voices }) records

-- the records of all bars
abbrev pub AreOfAllBars : ℕ → List ScoreBar → List (List Sound) → List Record → Type 0
AreOfAllBars resolution bars voices records =
    (values : List (List (List VoiceValue))) × Each (AreVoiceValues resolution 0 bars) voices values
    × AreBarsRecords (map (voice_tokens bars) values) None 0 bars records
