-- The staff of a voice: its lines, bar after bar.
use Rattle.std.specs.Prelude.{◌≡◌, ℕ, ◌+◌, ◌==◌, Bool, List, [], ◌∷◌, ◌++◌, codes, filter, map, Option, Some, None}
use Rattle.std.specs.List.{flat_map}
use Rattle.rhythm_base.specs.declared.span.Span.{Span}
use Rattle.rhythm_base.specs.Lists.{Each}
use Rattle.derivation.specs.declared.score.ScoreBar.{ScoreBar}
use Rattle.voice_events.specs.declared.event.KernEvent.{KernEvent}
use Rattle.score_words.specs.Changes.{has_flats}
use Rattle.voice_events.specs.Parts.{score_bar_parts, score_parts}
use Rattle.score_words.specs.LilyChanges.{lily_changes}
use Rattle.lily_writer.specs.Elements.{Element, elements_text}
use Rattle.lily_writer.specs.Pieces.{AreElements, Stretch, bar_pieces, stretches}

-- the elements, and the barline
abbrev pub staff_bar : Bool → List Element → List ℕ
staff_bar flats elements = elements_text flats elements ++ codes "|"

-- the elements of the pieces in the bar from one place to another
abbrev pub AreBarElements : ℕ → ℕ → ℕ → List Stretch → List Element → Type 0
AreBarElements resolution from to ss elements =
    (own : List (List Element)) × Each (AreElements resolution) (bar_pieces from to ss) own × (elements ≡ flat_map (λ es. es) own)

-- the lines of the bars, the first of which begins at a place and stands after another bar or none; tempos are said or not
abbrev pub AreBarsOfStaff : ℕ → Bool → List Stretch → Option ScoreBar → ℕ → List ScoreBar → List (List ℕ) → Type 0
AreBarsOfStaff resolution first ss before from [] lines = lines ≡ []
AreBarsOfStaff resolution first ss before from (bar ∷ bars) lines =
    (elements : List Element) × (others : List (List ℕ)) × AreBarElements resolution from (from + score_bar_parts resolution bar) ss elements
    × AreBarsOfStaff resolution first ss (Some bar) (from + score_bar_parts resolution bar) bars others
    × (lines ≡ lily_changes first before bar ++ staff_bar (has_flats bar.sf) elements ∷ others)

abbrev pub spans_of : List KernEvent → List Span
spans_of events = map (λ e. e.span) events

-- those of a spine
abbrev pub voice_spans : ℕ → List KernEvent → List Span
voice_spans spine events = spans_of (filter (λ e. e.spine == spine) events)

-- the lines of the staff of a voice, by its spans
abbrev pub AreStaffLines : ℕ → List ScoreBar → Bool → List Span → List (List ℕ) → Type 0
AreStaffLines resolution bars first spans lines =
    (own : List (List ℕ)) × AreBarsOfStaff resolution first (stretches resolution 0 (score_parts resolution bars) spans) None 0 bars own
    × (lines ≡ codes "\\new Staff {" ∷ (own ++ codes "}" ∷ []))
