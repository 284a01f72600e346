-- What the records of a score say, line by line: the tokens of each voice at each place. It is said as the records are, with a token
-- in the place of each text.
use Rattle.std.specs.Prelude.{◌≡◌, ◌≢◌, ◌↔◌, ℕ, ◌-◌, ◌==◌, nat_lt, Bool, true, false, not, ◌&&◌, if◌then◌else◌, List, [], ◌∷◌, ◌++◌, codes, find, fold, length, map, max, replicate, Contains, IsSome, slice_index_or, Option, Some, None}
use Rattle.std.proofs.Common.{suc, zero}
use Rattle.std.specs.List.{flat_map, join_with_byte}
use Rattle.std.specs.List.Sorted.{IsStrictlyIncreasing}
use Rattle.rhythm_base.specs.Lists.{Each}
use Rattle.rhythm_base.specs.SoundKinds.{is_rest, is_short}
use Rattle.derivation.specs.declared.score.ScoreBar.{ScoreBar}
use Rattle.score_words.specs.Changes.{key_before}
use Rattle.kern_writer.specs.Changes.{key_change, signature_change, tempo_change}
use Rattle.derivation.specs.Score.{Score}
use Rattle.voice_values.specs.GoesOn.{goes_on, next_goes_on}
use Rattle.voice_values.specs.Values.{AreVoiceValues, VoiceValue}
use Rattle.kern_reader.specs.declared.token.TieMark.{TieMark}
use Rattle.kern_reader.specs.declared.token.TieMark.TheVariants.{Absent, GoesOn, Ends}
use Rattle.kern_reader.specs.declared.token.Token.{Token}
use Rattle.kern_reader.specs.declared.token.Token.TheVariants as token
use Rattle.kern_reader.specs.declared.token.Writing.{Writing}
use Rattle.text_words.specs.declared.time_signature.TimeSignature.{TimeSignature}
use Rattle.kern_reader.specs.Columns.{announced, columns_of, current_bar, grid_of, spines_of, stage_after, stage_of}
use Rattle.kern_reader.specs.Faults.{first_fault, is_head_stage, said_tests}
use Rattle.kern_laws.specs.Lines.{KernLine, type_of}
use Rattle.kern_reader.specs.Lines.{barline_said, data_line, interpretation, line_of, signature_line}

-- ---- what the reader's lines are called here, each by what says it

abbrev pub Heading : ℕ → KernLine
Heading n = line_of (join_with_byte 9 (replicate n (codes "**kern")))

abbrev pub Signature : TimeSignature → KernLine
Signature signature = signature_line (Some signature)

abbrev pub Other : KernLine
Other = interpretation [] []

abbrev pub ending_line : KernLine
ending_line = line_of (codes "*-")

abbrev pub Barline : KernLine
Barline = barline_said (codes "=") []

abbrev pub LastBarline : KernLine
LastBarline = barline_said (codes "==") []

abbrev pub Data : List Token → KernLine
Data tokens = data_line (Some tokens)

-- how far a text has come: nowhere, past its head, past its last barline, and past its end
abbrev pub Stage : Type 0
Stage = type_of (stage_of [])

abbrev pub Head : Stage
Head = stage_of []

abbrev pub Body : Stage
Body = stage_after Other

abbrev pub Last : Stage
Last = stage_after LastBarline

abbrev pub Over : Stage
Over = stage_after ending_line

-- ---- tokens

-- the mark of a value that goes on with a tie or not, after which one follows that goes on or not
abbrev pub tie_mark : Bool → Bool → TieMark
tie_mark false next = Absent
tie_mark true true = GoesOn
tie_mark true false = Ends

abbrev pub writing_of : VoiceValue → Bool → Writing
writing_of v next = record {
  value = v.value;
  opens = not (goes_on v) && next;
  tie = tie_mark (goes_on v) next;
  short = is_short v.sound.kind && v.first;
}

abbrev pub value_token : VoiceValue → Bool → Token
value_token v next = if is_rest v.sound.kind then token.Rest v.value else token.Chord (writing_of v next) v.sound.keys

-- what a voice says at the place of a value: the keys of its grace chords, and its value
pub record Said : Type 0 where
  pub place : ℕ
  pub graces : List ℕ
  pub main : Token

abbrev pub said_graces : VoiceValue → List ℕ
said_graces v = if v.first then v.sound.graces else []

abbrev pub said : VoiceValue → Bool → Said
said v next = record { place = v.place; graces = said_graces v; main = value_token v next }

-- in a bar, after which the values `later` follow in later bars
abbrev pub bar_said : List VoiceValue → List VoiceValue → List Said
bar_said [] later = []
bar_said (v ∷ vs) later = said v (next_goes_on (vs ++ later)) ∷ bar_said vs later

-- what a voice says, a list for each bar
abbrev pub voice_said : List (List VoiceValue) → List (List Said)
voice_said [] = []
voice_said (vs ∷ vss) = bar_said vs (flat_map (λ vs. vs) vss) ∷ voice_said vss

-- ---- the data of a bar: what each voice says in it

abbrev pub said_at : ℕ → List Said → Option Said
said_at place saids = find (λ x. x.place == place) saids

abbrev pub main_or_null : Option Said → Token
main_or_null None = token.Null
main_or_null (Some x) = x.main

abbrev pub main_line : ℕ → List (List Said) → KernLine
main_line place voices = Data (map (λ saids. main_or_null (said_at place saids)) voices)

abbrev pub graces_or_none : Option Said → List ℕ
graces_or_none None = []
graces_or_none (Some x) = x.graces

-- how many grace lines stand before the main line at a place
abbrev pub grace_lines_at : ℕ → List (List Said) → ℕ
grace_lines_at place voices = fold (λ n saids. max n (length (graces_or_none (said_at place saids)))) 0 voices

abbrev pub grace_or_null : ℕ → List ℕ → Token
grace_or_null left graces = if nat_lt (length graces) left then token.Null else token.Grace (slice_index_or graces (length graces - left) 0)

abbrev pub grace_line : ℕ → List (List Said) → ℕ → KernLine
grace_line place voices left = Data (map (λ saids. grace_or_null left (graces_or_none (said_at place saids))) voices)

abbrev pub grace_lines : ℕ → List (List Said) → ℕ → List KernLine
grace_lines place voices zero = []
grace_lines place voices (suc n) = grace_line place voices (suc n) ∷ grace_lines place voices n

-- the lines at a place: those of grace chords, and the main one
abbrev pub lines_at : List (List Said) → ℕ → List KernLine
lines_at voices place = grace_lines place voices (grace_lines_at place voices) ++ main_line place voices ∷ []

-- the places at which some voice says something, rising
pub record AreSaidPlaces (voices : List (List Said)) (places : List ℕ) : Type 0 where
  pub rise : IsStrictlyIncreasing places
  pub exactly : (place : ℕ) → Contains places place ↔ ((saids : List Said) × Contains voices saids × IsSome (said_at place saids))

-- ---- bars

-- keys and tempos say nothing that is read
abbrev pub change_lines : Option ScoreBar → ScoreBar → List KernLine
change_lines before bar =
    map (λ _. Other) (key_change (key_before before) bar.sf)
    ++ map (λ _. Signature (record { num = bar.num; den = bar.den })) (signature_change before bar)
    ++ map (λ _. Other) (tempo_change before bar)

abbrev pub AreBarLines : Option ScoreBar → ScoreBar → List (List Said) → List KernLine → Type 0
AreBarLines before bar voices lines =
    (places : List ℕ) × AreSaidPlaces voices places × (lines ≡ change_lines before bar ++ Barline ∷ flat_map (lines_at voices) places)

-- what each voice says in bar n
abbrev pub said_in_bar : ℕ → List (List (List Said)) → List (List Said)
said_in_bar n voices = map (λ bars. slice_index_or bars n []) voices

-- the lines of the bars from number n on
abbrev pub AreBarsLines : List (List (List Said)) → Option ScoreBar → ℕ → List ScoreBar → List KernLine → Type 0
AreBarsLines voices before n [] lines = lines ≡ []
AreBarsLines voices before n (bar ∷ bars) lines =
    (own : List KernLine) × (others : List KernLine) × AreBarLines before bar (said_in_bar n voices) own
    × AreBarsLines voices (Some bar) (suc n) bars others × (lines ≡ own ++ others)

-- ---- the score

-- the lines of a score: the head, those of all bars, the last barline, and the end
pub record AreScoreLines (s : Score) (lines : List KernLine) : Type 0 where
  pub values : List (List (List VoiceValue))
  pub are_values : Each (AreVoiceValues s.resolution 0 s.bars) s.voices values
  pub bars : List KernLine
  pub are_bars : AreBarsLines (map voice_said values) None 0 s.bars bars
  pub are : lines ≡ Heading (length s.voices) ∷ (bars ++ LastBarline ∷ ending_line ∷ [])

-- ---- lines in which the reader finds no fault

-- the head stands first, the end after the last barline and nowhere before it, and nothing after the end
pub record HasTurn (at : Stage) (line : KernLine) : Type 0 where
  pub head : at ≡ Head → (n : ℕ) × (line ≡ Heading n)
  pub body : at ≡ Body → line ≢ ending_line
  pub last : at ≡ Last → line ≡ ending_line
  pub over : at ≢ Over

-- After those before them, last first, no line has a fault of what it says, up to the end of all spines; and after the head
-- there are n spines
abbrev pub StandFrom : ℕ → List KernLine → List KernLine → Type 0
StandFrom n before [] = stage_of before ≡ Over
StandFrom n before (line ∷ lines) =
    HasTurn (stage_of before) line × (is_head_stage (stage_of before) ≡ false → length (columns_of before) ≡ n)
    × (first_fault (said_tests (stage_of before) (grid_of before) (current_bar before) (announced before) (spines_of before) line) ≡ None)
    × StandFrom n (line ∷ before) lines
