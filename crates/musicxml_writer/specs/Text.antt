-- The MusicXML text of a score: the list of its parts, and the parts, one for each voice.
use Rattle.std.specs.Prelude.{◌≡◌, ℕ, ◌+◌, List, [], ◌∷◌, ◌++◌, codes, decimal, OnOk, Result, Vec}
use Rattle.rhythm_base.specs.declared.sound.Sound.{Sound}
use Rattle.rhythm_base.specs.Lists.{Each}
use Rattle.derivation.specs.Score.{Score}
use Rattle.derivation.specs.declared.score.ScoreBar.{ScoreBar}
use Rattle.notation.specs.Bars.{AreVoiceGroups}
use Rattle.notation.specs.Notes.{Group}
use Rattle.musicxml_writer.specs.Elements.{closing, element, line, opening, opening_with}
use Rattle.musicxml_writer.specs.Parts.{part_name, part_text}

unfoldable pub head : List ℕ
head =
    line (codes "<?xml version=\"1.0\" encoding=\"UTF-8\"?>")
    ++ line (codes "<!DOCTYPE score-partwise PUBLIC \"-//Recordare//DTD MusicXML 4.0 Partwise//EN\" \"http://www.musicxml.org/dtds/partwise.dtd\">")
    ++ line (codes "<score-partwise version=\"4.0\">")

-- ---- the list of parts

-- a part is named by its channel, from 0
abbrev pub channel_name : ℕ → List ℕ
channel_name channel = codes "Channel " ++ decimal channel

-- a part has one instrument
abbrev pub instrument_name : ℕ → List ℕ
instrument_name number = part_name number ++ codes "-I1"

-- what opens an element of it
abbrev pub instrument_start : List ℕ → ℕ → List ℕ
instrument_start name number = opening_with name (codes "id") (instrument_name number)

-- which has the name of its channel
unfoldable pub named_instrument : ℕ → ℕ → List ℕ
named_instrument number channel =
    opening_with (codes "score-instrument") (codes "id") (instrument_name number)
    ++ element (codes "instrument-name") (channel_name channel)
    ++ closing (codes "score-instrument")

-- and plays on it: there channels are counted from 1
unfoldable pub played_instrument : ℕ → ℕ → List ℕ
played_instrument number channel =
    opening_with (codes "midi-instrument") (codes "id") (instrument_name number)
    ++ element (codes "midi-channel") (decimal (channel + 1))
    ++ closing (codes "midi-instrument")

unfoldable pub listed_part : ℕ → ℕ → List ℕ
listed_part number channel = line (
    opening_with (codes "score-part") (codes "id") (part_name number)
    ++ element (codes "part-name") (channel_name channel)
    ++ named_instrument number channel
    ++ played_instrument number channel
    ++ closing (codes "score-part")
    )

-- the parts of these channels, from a number on
abbrev pub listed_parts : ℕ → List ℕ → List ℕ
listed_parts number [] = []
listed_parts number (channel ∷ channels) = listed_part number channel ++ listed_parts (number + 1) channels

unfoldable pub part_list : List ℕ → List ℕ
part_list channels = line (opening (codes "part-list")) ++ listed_parts 1 channels ++ line (closing (codes "part-list"))

-- ---- the parts

-- those of these voices, from a number on, by their groups
abbrev pub parts_text : ℕ → List ScoreBar → ℕ → List (List Sound) → List (List (List Group)) → List ℕ
parts_text resolution bars number [] written = []
parts_text resolution bars number (sounds ∷ voices) [] = []
parts_text resolution bars number (sounds ∷ voices) (all ∷ written) =
    part_text resolution number bars sounds all ++ parts_text resolution bars (number + 1) voices written

-- they stand after a text, unless there was not enough memory
abbrev pub WritesParts : {A X E : Type 0} → ℕ → List ScoreBar → List (List Sound) → Vec ℕ A → Result X E → Vec ℕ A → Type 0
WritesParts resolution bars voices before result after =
    OnOk result ((written : List (List (List Group))) × Each (AreVoiceGroups resolution 0 bars) voices written
    × (after.items ≡ before.items ++ parts_text resolution bars 1 voices written))

-- ---- the whole

unfoldable pub score_text : Score → List ℕ → List (List (List Group)) → List ℕ
score_text s channels written =
    head
    ++ part_list channels
    ++ parts_text s.resolution s.bars 1 s.voices written
    ++ line (closing (codes "score-partwise"))

-- the text of a score, whose voices are on these channels
abbrev pub IsMusicXml : Score → List ℕ → List ℕ → Type 0
IsMusicXml s channels text =
    (written : List (List (List Group))) × Each (AreVoiceGroups s.resolution 0 s.bars) s.voices written × (text ≡ score_text s channels written)
