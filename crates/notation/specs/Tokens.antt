-- The tokens of a bar of a voice: the values of its **kern column, but that dots which were joined over the end of a tuplet are parted again.
use Rattle.std.specs.Prelude.{ℕ, ◌+◌, ◌-◌, ◌*◌, ◌/◌, ◌==◌, Bool, true, false, ◌&&◌, if◌then◌else◌, List, [], ◌∷◌, ◌++◌, filter, map, not}
use Rattle.std.proofs.Common.{suc, zero}
use Rattle.rhythm_base.specs.SoundKinds.{is_short}
use Rattle.durations.specs.declared.value.Value.{Value}
use Rattle.durations.specs.Value.{width}
use Rattle.derivation.specs.declared.score.ScoreBar.{ScoreBar}
use Rattle.voice_values.specs.GoesOn.{next_in_column}
use Rattle.voice_values.specs.GoesOn.{goes_on}
use Rattle.voice_values.specs.Values.{VoiceValue}
use Rattle.notation.specs.Places.{is_plain, whole_of}

-- A token: where it starts and ends, in parts from the start of its bar; its keys, of a rest none; the grace chords before it; whether it is marked
-- short; and whether a tie comes to it, and one goes on from it
pub record Token : Type 0 where
  pub start : ℕ
  pub end : ℕ
  pub keys : ℕ
  pub graces : List (ℕ)
  pub short : Bool
  pub comes : Bool
  pub goes : Bool

abbrev pub is_silent : Token → Bool
is_silent t = t.keys == 0

abbrev pub token_length : Token → ℕ
token_length t = t.end - t.start

-- where tokens end
abbrev pub ends : List Token → List ℕ
ends ts = map (λ (t : Token). t.end) ts

-- it has keys, and is tied to what follows
abbrev pub may_go_on : Token → Bool
may_go_on t = t.goes && not (is_silent t)

-- ---- a value as a token

abbrev pub value_start : ScoreBar → VoiceValue → ℕ
value_start bar v = v.place * (64 / bar.den)

abbrev pub value_graces : VoiceValue → List ℕ
value_graces v = if v.first then v.sound.graces else []

-- the token of a value, after which one follows that goes on, or none that does
abbrev pub value_token : ℕ → ScoreBar → Bool → VoiceValue → Token
value_token resolution bar next v = record {
  start = value_start bar v;
  end = value_start bar v + width (whole_of resolution) v.value;
  keys = v.sound.keys;
  graces = value_graces v;
  short = is_short v.sound.kind && v.first;
  comes = goes_on v;
  goes = next;
}

-- ---- cut dots

-- a value with dots is a part, a half of it, and, with two dots, a quarter of it: where these end, but for the last
abbrev pub part_ends : ℕ → ℕ → ℕ → List ℕ
part_ends zero start part = []
part_ends (suc dots) start part = (start + part) ∷ part_ends dots (start + part) (part / 2)

-- the length of the first part
abbrev pub first_part : ℕ → Value → ℕ
first_part resolution v = width (whole_of resolution) (record v { dots = 0 })

-- Where a token is cut: at the plain places where its parts end, unless it starts and ends at plain places. What is cut there begins in
-- one tuplet and ends in another
abbrev pub cuts : ℕ → ℕ → Value → Token → List ℕ
cuts resolution odd v t =
    if is_plain odd t.start && is_plain odd t.end then []
    else filter (is_plain odd) (part_ends v.dots t.start (first_part resolution v))

-- how many dots may be cut off: none where the token starts and ends at plain places
abbrev pub loose_dots : ℕ → Value → Token → ℕ
loose_dots odd v t = if is_plain odd t.start && is_plain odd t.end then 0 else v.dots

-- a token that is cut at these places, with ties over the cuts
abbrev pub cut_token : List ℕ → Token → List Token
cut_token [] t = t ∷ []
cut_token (place ∷ places) t =
    record t { end = place; goes = true } ∷ cut_token places (record t { start = place; graces = []; short = false; comes = true })

-- the tokens that are cut of one that was written as this value
abbrev pub cut_parts : ℕ → ℕ → Value → Token → List Token
cut_parts resolution odd v t = cut_token (cuts resolution odd v t) t

abbrev pub value_tokens : ℕ → ℕ → ScoreBar → Bool → VoiceValue → List Token
value_tokens resolution odd bar next v = cut_parts resolution odd v.value (value_token resolution bar next v)

-- the tokens of the values of a bar, after which one follows in the next bar that goes on, or none that does
abbrev pub bar_tokens : ℕ → ℕ → ScoreBar → Bool → List VoiceValue → List Token
bar_tokens resolution odd bar after [] = []
bar_tokens resolution odd bar after (v ∷ vs) =
    value_tokens resolution odd bar (next_in_column after vs) v ++ bar_tokens resolution odd bar after vs
