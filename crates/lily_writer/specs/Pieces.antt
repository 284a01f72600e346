-- The spans of a voice and the gaps between them, cut at the barlines. Places count in parts of a whole note, of which there are
-- 64 for each unit of a bar.
use Rattle.std.specs.Prelude.{◌≡◌, ℕ, ◌-◌, ◌*◌, ◌==◌, ◌&&◌, Bool, true, false, nat_lt, List, [], ◌∷◌, ◌++◌, filter, map, max, min, Option, Some, None}
use Rattle.rhythm_base.specs.declared.span.Span.{Span}
use Rattle.durations.specs.declared.value.Value.{Value}
use Rattle.durations.specs.Values.{AreValues}
use Rattle.voice_events.specs.Parts.{end_parts, start_parts}
use Rattle.lily_writer.specs.Elements.{Element, grace_group, note_value, rest_value}

-- ---- stretches

-- a voice from one place to another: over a span, or over a gap
pub record Stretch : Type 0 where
  pub from : ℕ
  pub to : ℕ
  pub span : Option Span

abbrev pub bar_gap : ℕ → ℕ → Stretch
bar_gap from to = record { from = from; to = to; span = None }

abbrev pub sounding : ℕ → Span → Stretch
sounding resolution x = record { from = start_parts resolution x; to = end_parts resolution x; span = Some x }

-- those of a voice from a place on: the spans, a gap before each, and one after the last. A gap may be of no length
abbrev pub stretches : ℕ → ℕ → ℕ → List Span → List Stretch
stretches resolution from end [] = bar_gap from end ∷ []
stretches resolution from end (x ∷ spans) =
    bar_gap from (start_parts resolution x) ∷ sounding resolution x ∷ stretches resolution (end_parts resolution x) end spans

-- ---- pieces

-- what of a stretch is in a bar
pub record Piece : Type 0 where
  pub from : ℕ
  pub to : ℕ
  pub whole : Stretch

abbrev pub cut : ℕ → ℕ → Stretch → Piece
cut from to s = record { from = max from s.from; to = min to s.to; whole = s }

abbrev pub has_length : Piece → Bool
has_length p = nat_lt p.from p.to

-- the pieces in the bar from one place to another
abbrev pub bar_pieces : ℕ → ℕ → List Stretch → List Piece
bar_pieces from to ss = filter has_length (map (cut from to) ss)

-- ---- the elements of a piece, by its values

abbrev pub piece_begins : Piece → Bool
piece_begins p = p.from == p.whole.from

-- the span goes on after the bar
abbrev pub piece_goes_on : Piece → Bool
piece_goes_on p = nat_lt p.to p.whole.to

abbrev pub grace_elements : List ℕ → List Element
grace_elements [] = []
grace_elements (chord ∷ chords) = grace_group (chord ∷ chords) ∷ []

-- the values of a chord, after which it goes on or not: each is tied but the last of those that end it
abbrev pub tied_before : Bool → List Value → Bool
tied_before goes [] = goes
tied_before goes (v ∷ vs) = true

abbrev pub notes : ℕ → Bool → Bool → List Value → List Element
notes keys short goes [] = []
notes keys short goes (v ∷ vs) = note_value keys v short (tied_before goes vs) ∷ notes keys false goes vs

abbrev pub first_graces : Bool → Span → List Element
first_graces true x = grace_elements x.graces
first_graces false x = []

abbrev pub elements_of : Option Span → Bool → Bool → List Value → List Element
elements_of None first goes values = map rest_value values
elements_of (Some x) first goes values = first_graces first x ++ notes x.keys (first && x.short) goes values

-- the elements of a piece, by the values of its length
abbrev pub AreElements : ℕ → Piece → List Element → Type 0
AreElements resolution p es =
    (values : List Value) × AreValues (p.to - p.from) (64 * resolution) values
    × (es ≡ elements_of p.whole.span (piece_begins p) (piece_goes_on p) values)
