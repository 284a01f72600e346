-- The words of a text: it is cut after each tag. A word is the tag, and the content before it.
use Rattle.std.specs.Prelude.{ℕ, Bool, ◌==◌, ◌&&◌, ◌||◌, not, if◌then◌else◌, List, [], ◌∷◌, ◌++◌, codes, drop}
use Rattle.std.specs.List.{list_any}
use Rattle.std.specs.Str.{bytes_eq}
use Rattle.text_words.specs.Lines.{begins_with}
use Rattle.lily_writer.specs.Words.{front}
use Rattle.notation.specs.Notes.{is_empty}

-- what stands between two tags, and within the angles of the second
pub record XmlWord : Type 0 where
  pub content : List ℕ
  pub tag : List ℕ

-- where a text is cut: after some content, or within a tag after some of it
pub data Cut : Type 0 where
  in_content : List ℕ → Cut
  in_tag : List ℕ → List ℕ → Cut

-- newlines before a tag are dropped
abbrev pub cut_content : List ℕ → ℕ → Cut
cut_content content b =
    if b == 60 then in_tag content []
    else if (b == 10) && is_empty content then in_content []
    else in_content (content ++ b ∷ [])

-- what is left at the end of a text is no tag
abbrev pub last_words : Cut → List XmlWord
last_words (in_content []) = []
last_words (in_content (c ∷ content)) = record { content = c ∷ content; tag = [] } ∷ []
last_words (in_tag content tag) = record { content = content; tag = [] } ∷ []

abbrev pub words_from : List ℕ → Cut → List XmlWord
words_from [] cut = last_words cut
words_from (b ∷ text) (in_content content) = words_from text (cut_content content b)
words_from (b ∷ text) (in_tag content tag) =
    if b == 62 then record { content = content; tag = tag } ∷ words_from text (in_content [])
    else words_from text (in_tag content (tag ++ b ∷ []))

abbrev pub xml_words : List ℕ → List XmlWord
xml_words text = words_from text (in_content [])

-- ---- names

-- the name of a tag ends at a space, or where an empty element ends
abbrev pub is_name_byte : ℕ → Bool
is_name_byte b = not ((b == 32) || (b == 47))

abbrev pub tag_name : List ℕ → List ℕ
tag_name tag = front is_name_byte (if begins_with 47 tag then drop 1 tag else tag)

abbrev pub is_one_of : List (List ℕ) → List ℕ → Bool
is_one_of names name = list_any (bytes_eq name) names

-- a tag that closes an element of one of these names
abbrev pub closes_one : List (List ℕ) → List ℕ → Bool
closes_one names tag = begins_with 47 tag && is_one_of names (drop 1 tag)

-- the elements of a part that hold a text
unfoldable pub part_values : List (List ℕ)
part_values =
    codes "divisions" ∷ codes "fifths" ∷ codes "beats" ∷ codes "beat-type" ∷ codes "sign" ∷ codes "line" ∷ codes "clef-octave-change"
    ∷ codes "beat-unit" ∷ codes "per-minute" ∷ codes "step" ∷ codes "alter" ∷ codes "octave" ∷ codes "duration" ∷ codes "type"
    ∷ codes "actual-notes" ∷ codes "normal-notes" ∷ codes "bar-style" ∷ []

-- those of it that say nothing by themselves
unfoldable pub part_marks : List (List ℕ)
part_marks =
    codes "attributes" ∷ codes "key" ∷ codes "time" ∷ codes "clef" ∷ codes "direction" ∷ codes "direction-type" ∷ codes "metronome"
    ∷ codes "sound" ∷ codes "pitch" ∷ codes "time-modification" ∷ codes "notations" ∷ codes "tied" ∷ codes "tuplet"
    ∷ codes "articulations" ∷ codes "barline" ∷ []

-- the elements outside of parts that hold a text, and the others
unfoldable pub head_values : List (List ℕ)
head_values = codes "part-name" ∷ codes "instrument-name" ∷ codes "midi-channel" ∷ []

unfoldable pub head_marks : List (List ℕ)
head_marks =
    codes "?xml" ∷ codes "!DOCTYPE" ∷ codes "score-partwise" ∷ codes "part-list" ∷ codes "score-part" ∷ codes "score-instrument"
    ∷ codes "midi-instrument" ∷ []

-- a word of one of these elements
abbrev pub is_word_of : List (List ℕ) → List (List ℕ) → XmlWord → Bool
is_word_of values marks w =
    closes_one values w.tag || (is_empty w.content && (is_one_of values (tag_name w.tag) || is_one_of marks (tag_name w.tag)))
