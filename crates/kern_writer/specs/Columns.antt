-- A column of a bar: the tokens of one voice that are still to be written, by rising place.
use Rattle.std.specs.Prelude.{◌≡◌, ℕ, ◌≤◌, nat_lt, min, Bool, List, [], ◌∷◌, filter, fold, map, Option, Some, None, ⊤}
use Rattle.std.proofs.Common.{suc}
use Rattle.std.specs.List.{flat_map}
use Rattle.rhythm_base.specs.declared.sound.Sound.{Sound}
use Rattle.derivation.specs.declared.score.ScoreBar.{ScoreBar}
use Rattle.kern_writer.specs.Records.{ArePlaces, Record, records_at}
use Rattle.score_words.specs.Changes.{has_flats}
use Rattle.kern_writer.specs.Tokens.{Token, token}
use Rattle.voice_values.specs.GoesOn.{next_in_column}
use Rattle.voice_values.specs.Values.{AreBarValues, VoiceValue}

-- ---- the tokens of a bar, after whose values one follows that goes on, or none that does

abbrev pub column_tokens : Bool → Bool → List VoiceValue → List Token
column_tokens flats after [] = []
column_tokens flats after (v ∷ vs) = token flats v (next_in_column after vs) ∷ column_tokens flats after vs

-- the tokens of the sounds of a bar
abbrev pub AreTokens : ℕ → ScoreBar → Bool → List Sound → List Token → Type 0
AreTokens resolution bar after sounds tokens =
    (vs : List VoiceValue) × AreBarValues resolution bar sounds vs × (tokens ≡ column_tokens (has_flats bar.sf) after vs)

-- ---- places

-- places rise, from this place or a later one on
abbrev pub RiseFrom : ℕ → List Token → Type 0
RiseFrom place [] = ⊤
RiseFrom place (t ∷ ts) = (place ≤ t.place) × RiseFrom (suc t.place) ts

-- the tokens after a place
abbrev pub tokens_after : ℕ → List Token → List Token
tokens_after place tokens = filter (λ t. nat_lt place t.place) tokens

abbrev pub first_place : List Token → Option ℕ
first_place [] = None
first_place (t ∷ ts) = Some t.place

abbrev pub earlier_place : Option ℕ → Option ℕ → Option ℕ
earlier_place None place = place
earlier_place (Some p) None = Some p
earlier_place (Some p) (Some q) = Some (min p q)

-- the first place at which some column has a token
abbrev pub next_place : List (List Token) → Option ℕ
next_place columns = fold earlier_place None (map first_place columns)

-- ---- records

-- the records of all that is still to be written
abbrev pub AreDataRecords : List (List Token) → List Record → Type 0
AreDataRecords columns records = (places : List ℕ) × ArePlaces columns places × (records ≡ flat_map (records_at columns) places)
