-- The spans that a text says, by its words; nothing where it is no text of this kind. What the head, the list of
-- parts, clefs, keys and tempos say is not read.
use Rattle.std.specs.Prelude.{ℕ, ◌*◌, Bool, ◌&&◌, nat_eq, if◌then◌else◌, List, [], ◌∷◌, codes, map, Option, Some, None}
use Rattle.std.specs.List.{starts_with}
use Rattle.std.specs.Option.{option_map}
use Rattle.std.specs.Str.{bytes_eq}
use Rattle.rhythm_base.specs.declared.span.Span.{Span}
use Rattle.text_words.specs.Steps.{◌>>=◌}
use Rattle.lily_writer.specs.Fractions.{frac}
use Rattle.notation.specs.Notes.{is_empty}
use Rattle.notation_laws.specs.Hearing.{HeardSpan, ended_spans, is_none}
use Rattle.xml_laws.specs.Hearing.{HeardPart, hear_xml_word, unheard_part}
use Rattle.xml_laws.specs.Words.{XmlWord, head_marks, head_values, is_word_of, xml_words}

-- what is read of a part: its spans, and how long its measures are, in parts of a quarter
pub record ReadPart : Type 0 where
  pub spans : List Span
  pub lengths : List ℕ

-- in whole notes, by the parts of one
abbrev pub span_of : ℕ → HeardSpan ℕ → Span
span_of whole x =
    record { start = frac x.start whole; len = frac x.len whole; keys = x.keys; graces = x.graces; short = x.short }

-- where the parts of a quarter were not said, nothing was heard
abbrev pub spans_of : Option ℕ → List (HeardSpan ℕ) → List Span
spans_of None spans = []
spans_of (Some quarter) spans = map (span_of (4 * quarter)) spans

-- a part ends with a measure, and no span goes on
abbrev pub ended_part : HeardPart → Option ReadPart
ended_part h =
    if is_none h.note && is_none h.chord
    then option_map (λ spans. record { spans = spans_of h.divisions spans; lengths = h.lengths }) (ended_spans h.heard)
    else None

abbrev pub begins_part : XmlWord → Bool
begins_part w = starts_with nat_eq w.tag (codes "part ") && is_empty w.content

abbrev pub ends_part : XmlWord → Bool
ends_part w = bytes_eq w.tag (codes "/part") && is_empty w.content

-- the parts of these words; of one that has begun so much is known
abbrev pub read_parts : Option HeardPart → List XmlWord → Option (List ReadPart)
read_parts None [] = Some []
read_parts (Some h) [] = None
read_parts None (w ∷ ws) =
    if begins_part w then read_parts (Some unheard_part) ws
    else if is_word_of head_values head_marks w then read_parts None ws
    else None
read_parts (Some h) (w ∷ ws) =
    if ends_part w then (ended_part h >>= λ part. option_map (λ parts. part ∷ parts) (read_parts None ws))
    else (hear_xml_word h w >>= λ next. read_parts (Some next) ws)

unfoldable pub text_parts : List ℕ → Option (List ReadPart)
text_parts text = read_parts None (xml_words text)

-- the spans of each part of a text
abbrev pub musicxml_events : List ℕ → Option (List (List Span))
musicxml_events text = option_map (map (λ part. part.spans)) (text_parts text)

-- and how long its measures are, in parts of a quarter
abbrev pub measure_lengths : List ℕ → Option (List (List ℕ))
measure_lengths text = option_map (map (λ part. part.lengths)) (text_parts text)
