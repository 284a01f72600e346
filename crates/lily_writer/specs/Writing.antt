-- What it is to write the pieces of a bar, and what of a voice is still to be written.
use Rattle.std.specs.Prelude.{◌≡◌, ℕ, ◌^◌, ◌<◌, ◌≤◌, All, Bool, IfOk, List, [], ◌∷◌, ◌++◌, None, OnOk, Result, Vec, map, ⊤}
use Rattle.std.specs.List.{flat_map}
use Rattle.rhythm_base.specs.declared.limits.TheConstants.{MOST_UNITS}
use Rattle.rhythm_base.specs.declared.span.Span.{Span}
use Rattle.rhythm_base.specs.Lists.{Each}
use Rattle.durations.specs.declared.value.Value.{Value}
use Rattle.derivation.specs.declared.score.ScoreBar.{ScoreBar}
use Rattle.score_words.specs.TextLines.{lines_text}
use Rattle.score_words.specs.Writing.{Writes}
use Rattle.voice_events.specs.Parts.{end_parts, score_parts}
use Rattle.voice_events.specs.VoiceEvents.{FollowFrom, IsVoiceSpan}
use Rattle.lily_writer.specs.declared.extent.Extent.{Extent}
use Rattle.lily_writer.specs.Elements.{Element, elements_text, rest_value}
use Rattle.lily_writer.specs.Pieces.{AreElements, Piece, Stretch, bar_gap, bar_pieces, sounding, stretches}
use Rattle.lily_writer.specs.Staves.{AreBarsOfStaff, AreStaffLines}

-- the elements of these pieces are written after a text
abbrev pub WritesPieces : ℕ → Bool → List Piece → List ℕ → List ℕ → Type 0
WritesPieces resolution flats pieces before after =
    (own : List (List Element)) × Each (AreElements resolution) pieces own
    × (after ≡ before ++ elements_text flats (flat_map (λ es. es) own))

-- the spans of a voice that have not ended, the place where the one before them has, and the last barline
pub record Ahead : Type 0 where
  pub spans : List Span
  pub at : ℕ
  pub end : ℕ

abbrev pub stretches_ahead : ℕ → Ahead → List Stretch
stretches_ahead resolution a = stretches resolution a.at a.end a.spans

pub record IsAhead (resolution : ℕ) (a : Ahead) : Type 0 where
  pub some_unit : 1 ≤ resolution
  pub few_units : resolution ≤ MOST_UNITS
  pub each : All (IsVoiceSpan resolution) a.spans
  pub follow : FollowFrom resolution a.end a.at a.spans
  pub small : a.end < 2 ^ 60

-- what was ahead in the bars from a place on is still ahead there
abbrev pub StandsAhead : ℕ → ℕ → Ahead → Ahead → Type 0
StandsAhead resolution to before after =
    (from' to' : ℕ) → to ≤ from'
    → bar_pieces from' to' (stretches_ahead resolution after) ≡ bar_pieces from' to' (stretches_ahead resolution before)

-- the first of the spans ends after a place
abbrev pub EndsAfter : ℕ → ℕ → List Span → Type 0
EndsAfter resolution to [] = ⊤
EndsAfter resolution to (x ∷ spans) = to < end_parts resolution x

-- what ends in the bar from one place to another is written after a text, and passed
pub record HasPassed (resolution from to : ℕ) (flats : Bool) (before after : Ahead) (text new : List ℕ) : Type 0 where
  pub pieces : List Piece
  pub written : WritesPieces resolution flats pieces text new
  pub others : pieces ++ bar_pieces from to (stretches_ahead resolution after) ≡ bar_pieces from to (stretches_ahead resolution before)
  pub later : StandsAhead resolution to before after
  pub ahead : IsAhead resolution after

-- all of the bar is written, and what ends in it passed
pub record HasWrittenBar (resolution from to : ℕ) (flats : Bool) (before after : Ahead) (text new : List ℕ) : Type 0 where
  pub written : WritesPieces resolution flats (bar_pieces from to (stretches_ahead resolution before)) text new
  pub later : StandsAhead resolution to before after
  pub ahead : IsAhead resolution after

-- ---- what a function writes after a text, unless there was not enough memory

-- elements
abbrev pub WritesElements : {A X E : Type 0} → Bool → List Element → Vec ℕ A → Result X E → Vec ℕ A → Type 0
WritesElements flats elements before result after = Writes (elements_text flats elements) before result after

-- values of a rest, which are the same with flats and with sharps
abbrev pub WritesRests : {A X E : Type 0} → List Value → Vec ℕ A → Result X E → Vec ℕ A → Type 0
WritesRests values before result after =
    OnOk result ((flats : Bool) → after.items ≡ before.items ++ elements_text flats (map rest_value values))

-- what of a gap is in a bar
abbrev pub WritesGap : {A X E : Type 0} → ℕ → Extent → Extent → Vec ℕ A → Result X E → Vec ℕ A → Type 0
WritesGap resolution bar gap before result after =
    OnOk result ((flats : Bool) → WritesPieces resolution flats (bar_pieces bar.from bar.to (bar_gap gap.from gap.to ∷ [])) before.items after.items)

-- what of a span is in a bar
abbrev pub WritesSpan : {A X E : Type 0} → ℕ → Bool → Extent → Span → Vec ℕ A → Result X E → Vec ℕ A → Type 0
WritesSpan resolution flats bar span before result after =
    OnOk result (WritesPieces resolution flats (bar_pieces bar.from bar.to (sounding resolution span ∷ [])) before.items after.items)

-- what ends in a bar, which is passed
abbrev pub PassesEnded : {A E : Type 0} → ℕ → Bool → Extent → Ahead → Vec ℕ A → Result Ahead E → Vec ℕ A → Type 0
PassesEnded resolution flats bar ahead before result after =
    IfOk result (λ a. HasPassed resolution bar.from bar.to flats ahead a before.items after.items)

-- what of that which is ahead is in a bar
abbrev pub WritesFront : {A X E : Type 0} → ℕ → Bool → Extent → Ahead → Vec ℕ A → Result X E → Vec ℕ A → Type 0
WritesFront resolution flats bar ahead before result after =
    OnOk result (WritesPieces resolution flats (bar_pieces bar.from bar.to (stretches_ahead resolution ahead)) before.items after.items)

-- all of a bar, and what ends in it is passed
abbrev pub WritesBar : {A E : Type 0} → ℕ → Bool → Extent → Ahead → Vec ℕ A → Result Ahead E → Vec ℕ A → Type 0
WritesBar resolution flats bar ahead before result after =
    IfOk result (λ a. HasWrittenBar resolution bar.from bar.to flats ahead a before.items after.items)

-- the lines of all bars of a staff
abbrev pub WritesBars : {A X E : Type 0} → ℕ → Bool → List ScoreBar → List Span → Vec ℕ A → Result X E → Vec ℕ A → Type 0
WritesBars resolution first bars spans before result after =
    OnOk result ((lines : List (List ℕ))
    × AreBarsOfStaff resolution first (stretches resolution 0 (score_parts resolution bars) spans) None 0 bars lines
    × (after.items ≡ before.items ++ lines_text lines))

-- a staff
abbrev pub WritesStaff : {A X E : Type 0} → ℕ → Bool → List ScoreBar → List Span → Vec ℕ A → Result X E → Vec ℕ A → Type 0
WritesStaff resolution first bars spans before result after =
    OnOk result ((lines : List (List ℕ)) × AreStaffLines resolution bars first spans lines × (after.items ≡ before.items ++ lines_text lines))
