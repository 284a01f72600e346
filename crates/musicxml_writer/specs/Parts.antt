-- The part of a voice: its bars, each with what is said before it, and its notes.
use Rattle.std.specs.Prelude.{◌≡◌, ℕ, ◌+◌, ◌==◌, Bool, List, [], ◌∷◌, ◌++◌, codes, decimal, OnOk, Option, Some, None, Result, Vec}
use Rattle.rhythm_base.specs.declared.sound.Sound.{Sound}
use Rattle.derivation.specs.declared.score.ScoreBar.{ScoreBar}
use Rattle.notation.specs.Bars.{AreVoiceGroups}
use Rattle.notation.specs.Clefs.{clef_of}
use Rattle.notation.specs.Notes.{Group, is_empty}
use Rattle.musicxml_writer.specs.declared.part.Part.{Part}
use Rattle.musicxml_writer.specs.declared.part.PlacedBar.{PlacedBar}
use Rattle.musicxml_writer.specs.Attributes.{attributes_line, tempo_line}
use Rattle.musicxml_writer.specs.Bars.{bar_notes}
use Rattle.musicxml_writer.specs.Elements.{closing, element, line, opening_with, text_if}

unfoldable pub final_barline : List ℕ
final_barline = line (
    opening_with (codes "barline") (codes "location") (codes "right")
    ++ element (codes "bar-style") (codes "light-heavy")
    ++ closing (codes "barline")
    )

-- what opens a bar
abbrev pub measure_start : ℕ → List ℕ
measure_start number = opening_with (codes "measure") (codes "number") (decimal number)

-- a bar by its number, after another one or none, with its groups
unfoldable pub bar_text : Part → Option ScoreBar → ScoreBar → ℕ → Bool → List Group → List ℕ
bar_text part before bar number last groups =
    line (measure_start number)
    ++ attributes_line part before bar
    ++ tempo_line part before bar
    ++ bar_notes part.resolution bar groups
    ++ text_if last final_barline
    ++ line (closing (codes "measure"))

-- the bar at its place in a part
abbrev pub placed_text : Part → PlacedBar → List Group → List ℕ
placed_text part placed groups = bar_text part placed.before placed.bar placed.number placed.is_last groups

-- the bars from a number on up to the last one, each with its groups
abbrev pub bars_text : Part → Option ScoreBar → ℕ → List ScoreBar → List (List Group) → List ℕ
bars_text part before number [] all = []
bars_text part before number (bar ∷ bars) [] = []
bars_text part before number (bar ∷ bars) (groups ∷ all) =
    bar_text part before bar number (is_empty bars) groups ++ bars_text part (Some bar) (number + 1) bars all

-- parts are named by their numbers, from 1
abbrev pub part_name : ℕ → List ℕ
part_name number = codes "P" ++ decimal number

-- what opens a part
abbrev pub part_start : ℕ → List ℕ
part_start number = opening_with (codes "part") (codes "id") (part_name number)

unfoldable pub part_text : ℕ → ℕ → List ScoreBar → List Sound → List (List Group) → List ℕ
part_text resolution number bars sounds all =
    line (part_start number)
    ++ bars_text (record { resolution = resolution; clef = clef_of sounds; is_first = number == 1 }) None 1 bars all
    ++ line (closing (codes "part"))

-- the part of a voice, by its groups, stands after a text, unless there was not enough memory
abbrev pub WritesPart : {A X E : Type 0} → ℕ → ℕ → List ScoreBar → List Sound → Vec ℕ A → Result X E → Vec ℕ A → Type 0
WritesPart resolution number bars sounds before result after =
    OnOk result ((groups : List (List Group)) × AreVoiceGroups resolution 0 bars sounds groups
    × (after.items ≡ before.items ++ part_text resolution number bars sounds groups))
