-- What is known of a part after some of its words, in parts of a quarter, and how each word adds to it.
use Rattle.std.specs.Prelude.{◌≡◌, ℕ, suc, ◌+◌, ◌-◌, ◌*◌, Bool, true, false, ◌==◌, ◌&&◌, ◌||◌, nat_eq, if◌then◌else◌, List, [], ◌∷◌, ◌++◌, codes, drop, Option, Some, None}
use Rattle.std.specs.List.{starts_with}
use Rattle.std.specs.Option.{option_map}
use Rattle.std.specs.Str.{bytes_eq}
use Rattle.text_words.specs.Steps.{◌>>=◌}
use Rattle.lily_writer.specs.Hearing.{heard_rise, key_set}
use Rattle.notation.specs.Notes.{is_empty}
use Rattle.notation_laws.specs.Hearing.{HeardVoice, hear, hear_grace, is_none, unheard}
use Rattle.xml_laws.specs.Notes.{xml_number, ReadNote, blank_note, ReadChord, read_stretch, chord_of, with_key}
use Rattle.xml_laws.specs.Pitches.{xml_key}
use Rattle.xml_laws.specs.Words.{XmlWord, closes_one, is_one_of, part_marks, part_values, tag_name}

-- What is known: how many parts a quarter has, where it was said; the signature that was said last; what was heard up to
-- the last chord; this chord, to which further notes may be added; the note that has begun; the place of the last barline;
-- and the lengths of the measures before it
pub record HeardPart : Type 0 where
  pub divisions : Option ℕ
  pub beats : Option ℕ
  pub beat_type : Option ℕ
  pub heard : HeardVoice ℕ
  pub chord : Option ReadChord
  pub note : Option ReadNote
  pub began : ℕ
  pub lengths : List ℕ

-- nothing yet, where a part begins
abbrev pub unheard_part : HeardPart
unheard_part = record {
  divisions = None;
  beats = None;
  beat_type = None;
  heard = unheard 0;
  chord = None;
  note = None;
  began = 0;
  lengths = [];
}

-- ---- chords

-- its keys rise
abbrev pub hear_read_chord : HeardVoice ℕ → ReadChord → Option (HeardVoice ℕ)
hear_read_chord v c =
    if heard_rise c.keys then (if c.grace then hear_grace v (key_set c.keys) else hear ◌+◌ v (read_stretch c)) else None

-- the last chord is whole
abbrev pub heard_with : HeardVoice ℕ → Option ReadChord → Option (HeardVoice ℕ)
heard_with v None = Some v
heard_with v (Some c) = hear_read_chord v c

-- ---- notes

abbrev pub begin_note : HeardPart → Option HeardPart
begin_note h = if is_none h.note then Some (record h { note = Some blank_note }) else None

abbrev pub within_note : HeardPart → (ReadNote → ReadNote) → Option HeardPart
within_note h change = option_map (λ n. record h { note = Some (change n) }) h.note

-- a note has one pitch or is a rest
abbrev pub hear_keys : HeardPart → ReadNote → List ℕ → Option HeardPart
hear_keys h n keys = if is_none n.keys then Some (record h { note = Some (record n { keys = Some keys }) }) else None

abbrev pub end_pitch : HeardPart → Option HeardPart
end_pitch h = h.note >>= λ n. xml_key n.step n.alter n.octave >>= λ key. hear_keys h n (key ∷ [])

abbrev pub hear_rest_tag : HeardPart → Bool → Option HeardPart
hear_rest_tag h whole = h.note >>= λ n. hear_keys h (record n { whole = whole }) []

abbrev pub add_note : HeardPart → Bool → ReadChord → Option HeardPart
add_note h true m = h.chord >>= λ c. option_map (λ c. record h { chord = Some c; note = None }) (with_key c m)
add_note h false m = option_map (λ v. record h { heard = v; chord = Some m; note = None }) (heard_with h.heard h.chord)

abbrev pub end_note : HeardPart → Option HeardPart
end_note h = h.note >>= λ n. chord_of h.divisions n >>= λ m. add_note h n.further m

-- ---- measures

-- a length is that of so many beats, each 1/beat_type of a whole note
abbrev pub IsOfBeats : ℕ → ℕ → ℕ → ℕ → Type 0
IsOfBeats quarter beats beat_type len = len * beat_type ≡ 4 * quarter * beats

abbrev pub is_of_beats : Option ℕ → Option ℕ → Option ℕ → ℕ → Bool
is_of_beats (Some quarter) (Some beats) (Some beat_type) len = len * beat_type == 4 * quarter * beats
is_of_beats _ _ _ len = false

-- a measure is as long as its signature says, a chord ends in it, and no grace chord waits over a barline
abbrev pub bar_ends : HeardPart → HeardVoice ℕ → Option HeardPart
bar_ends h v =
    if is_none h.note && (is_empty v.graces && is_of_beats h.divisions h.beats h.beat_type (v.at - h.began))
    then Some (record h { heard = v; chord = None; began = v.at; lengths = h.lengths ++ (v.at - h.began) ∷ [] })
    else None

abbrev pub end_measure : HeardPart → Option HeardPart
end_measure h = heard_with h.heard h.chord >>= bar_ends h

-- ---- words

-- the parts of a quarter are said once, and before any duration
abbrev pub hear_divisions : HeardPart → List ℕ → Option HeardPart
hear_divisions h text =
    if is_none h.divisions then option_map (λ n. record h { divisions = Some n }) (xml_number text) else None

abbrev pub with_number : HeardPart → List ℕ → (ℕ → ReadNote → ReadNote) → Option HeardPart
with_number h text change = xml_number text >>= λ m. within_note h (change m)

abbrev pub hear_duration : HeardPart → List ℕ → Option HeardPart
hear_duration h text =
    h.divisions >>= λ quarter. with_number h text (λ len n. record n { duration = Some len })

unfoldable pub hear_value : HeardPart → List ℕ → List ℕ → Option HeardPart
hear_value h text name =
    if bytes_eq name (codes "divisions") then hear_divisions h text
    else if bytes_eq name (codes "beats") then option_map (λ m. record h { beats = Some m }) (xml_number text)
    else if bytes_eq name (codes "beat-type") then option_map (λ m. record h { beat_type = Some m }) (xml_number text)
    else if bytes_eq name (codes "duration") then hear_duration h text
    else if bytes_eq name (codes "step") then within_note h (λ n. record n { step = text })
    else if bytes_eq name (codes "alter") then within_note h (λ n. record n { alter = text })
    else if bytes_eq name (codes "octave") then within_note h (λ n. record n { octave = text })
    else if bytes_eq name (codes "type") then within_note h (λ n. record n { kind = text })
    else if bytes_eq name (codes "actual-notes") then with_number h text (λ m n. record n { actual = m })
    else if bytes_eq name (codes "normal-notes") then with_number h text (λ m n. record n { normal = m })
    else Some h

unfoldable pub hear_tag : HeardPart → List ℕ → Option HeardPart
hear_tag h tag =
    if bytes_eq tag (codes "note") then begin_note h
    else if bytes_eq tag (codes "/note") then end_note h
    else if bytes_eq tag (codes "/pitch") then end_pitch h
    else if bytes_eq tag (codes "rest/") then hear_rest_tag h false
    else if bytes_eq tag (codes "rest measure=\"yes\"/") then hear_rest_tag h true
    else if bytes_eq tag (codes "dot/") then within_note h (λ n. record n { dots = suc n.dots })
    else if bytes_eq tag (codes "chord/") then within_note h (λ n. record n { further = true })
    else if bytes_eq tag (codes "grace slash=\"yes\"/") then within_note h (λ n. record n { grace = true })
    else if bytes_eq tag (codes "tie type=\"stop\"/") then within_note h (λ n. record n { comes = true })
    else if bytes_eq tag (codes "tie type=\"start\"/") then within_note h (λ n. record n { goes = true })
    else if bytes_eq tag (codes "staccato/") then within_note h (λ n. record n { short = true })
    else if starts_with nat_eq tag (codes "measure ") then Some h
    else if bytes_eq tag (codes "/measure") then end_measure h
    else if is_one_of part_values (tag_name tag) || is_one_of part_marks (tag_name tag) then Some h
    else None

-- content stands before a tag that closes a text alone
unfoldable pub hear_xml_word : HeardPart → XmlWord → Option HeardPart
hear_xml_word h w =
    if closes_one part_values w.tag then hear_value h w.content (drop 1 w.tag)
    else if is_empty w.content then hear_tag h w.tag
    else None
