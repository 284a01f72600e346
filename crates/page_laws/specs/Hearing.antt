-- What is known of a staff after some of its words, in whole notes, and how each word adds to it.
use Rattle.std.specs.Prelude.{ℕ, Bool, true, false, ◌&&◌, not, if◌then◌else◌, List, [], ◌∷◌, ◌++◌, Option, Some, None}
use Rattle.rhythm_base.specs.declared.span.Frac.{Frac}
use Rattle.text_words.specs.Steps.{◌>>=◌}
use Rattle.lily_writer.specs.Fractions.{frac_plus, frac_times, nothing}
use Rattle.lily_writer.specs.Hearing.{heard_rise, is_grace_value, key_set}
use Rattle.lily_writer.specs.Words.{WordEnding}
use Rattle.notation.specs.Notes.{is_empty}
use Rattle.notation_laws.specs.Hearing.{HeardVoice, Stretch, hear, hear_grace, is_none, unheard}
use Rattle.page_laws.specs.Words.{PageWord, bar_word, closing_word, first_key, graces_word, last_key, middle_key, opening_word, ratio_word, rest_word, silent_word, single_key, tuplet_word}

-- where words stand: among notes, after `\tuplet`, after its numbers, after `\slashedGrace`, or within the braces
-- after that
pub data PageSide : Type 0 where
  among_notes : PageSide
  at_ratio : PageSide
  at_bracket : Frac → PageSide
  at_graces : PageSide
  among_graces : PageSide

-- what was heard; how long notes are under the bracket that has begun; where the next word stands; and the keys since
-- an opening angle
pub record HeardStaff : Type 0 where
  pub heard : HeardVoice Frac
  pub ratio : Option Frac
  pub side : PageSide
  pub keys : List ℕ

-- nothing yet, where a staff begins
abbrev pub unheard_staff : HeardStaff
unheard_staff = record { heard = unheard nothing; ratio = None; side = among_notes; keys = [] }

abbrev pub is_among : PageSide → Bool
is_among among_notes = true
is_among _ = false

-- among notes, and no angle has opened
abbrev pub is_free : HeardStaff → Bool
is_free h = is_among h.side && is_empty h.keys

-- no bracket has begun either
abbrev pub is_unbracketed : HeardStaff → Bool
is_unbracketed h = is_free h && is_none h.ratio

abbrev pub with_voice : HeardStaff → HeardVoice Frac → HeardStaff
with_voice h heard = record h { heard = heard; keys = [] }

-- under a bracket, or under none
abbrev pub under_bracket : Option Frac → Frac → Frac
under_bracket None len = len
under_bracket (Some ratio) len = frac_times len ratio

-- ---- notes

-- what is read of a note of these keys: that a tie comes to it is not written, and is so where one goes on
abbrev pub page_stretch : HeardStaff → ℕ → Bool → WordEnding → Stretch Frac
page_stretch h keys comes e =
    record { len = under_bracket h.ratio e.len; keys = keys; short = e.short; comes = comes; goes = e.tied }

abbrev pub hear_page_note : HeardStaff → ℕ → Bool → WordEnding → Option HeardStaff
hear_page_note h keys comes e =
    hear frac_plus h.heard (page_stretch h keys comes e) >>= λ heard. Some (with_voice h heard)

-- a grace chord is an eighth without a mark
abbrev pub hear_grace_chord : HeardStaff → ℕ → WordEnding → Option HeardStaff
hear_grace_chord h keys e =
    if is_grace_value e then (hear_grace h.heard keys >>= λ heard. Some (with_voice h heard)) else None

-- the keys of a note, or of a grace chord
abbrev pub hear_keys : PageSide → HeardStaff → ℕ → WordEnding → Option HeardStaff
hear_keys among_notes h keys e = hear_page_note h keys (not (is_none h.heard.going)) e
hear_keys among_graces h keys e = hear_grace_chord h keys e
hear_keys _ h keys e = None

-- keys with a value, by rising key
abbrev pub hear_page_chord : HeardStaff → List ℕ → WordEnding → Option HeardStaff
hear_page_chord h keys e = if heard_rise keys then hear_keys h.side h (key_set keys) e else None

-- ---- brackets and grace chords

-- brackets stand beside one another, and grace chords in their braces
abbrev pub hear_opening : PageSide → HeardStaff → Option HeardStaff
hear_opening (at_bracket ratio) h = Some (record h { ratio = Some ratio; side = among_notes })
hear_opening at_graces h = Some (record h { side = among_graces })
hear_opening _ h = None

abbrev pub hear_closing : PageSide → HeardStaff → Option HeardStaff
hear_closing among_graces h = Some (record h { side = among_notes })
hear_closing among_notes h = if is_none h.ratio then None else Some (record h { ratio = None })
hear_closing _ h = None

abbrev pub hear_ratio : PageSide → HeardStaff → Frac → Option HeardStaff
hear_ratio at_ratio h ratio = Some (record h { side = at_bracket ratio })
hear_ratio _ h ratio = None

-- a silent grace note is no chord
abbrev pub hear_silent : PageSide → HeardStaff → Option HeardStaff
hear_silent among_graces h = Some h
hear_silent _ h = None

-- a rest of a whole bar has no value
abbrev pub bar_ending : Frac → WordEnding
bar_ending len = record { len = len; short = false; tied = false }

-- ---- words

unfoldable pub hear_page_word : HeardStaff → PageWord → Option HeardStaff
hear_page_word h tuplet_word = if is_unbracketed h then Some (record h { side = at_ratio }) else None
hear_page_word h (ratio_word ratio) = hear_ratio h.side h ratio
hear_page_word h graces_word = if is_free h then Some (record h { side = at_graces }) else None
hear_page_word h opening_word = hear_opening h.side h
hear_page_word h closing_word = if is_empty h.keys then hear_closing h.side h else None
hear_page_word h silent_word = if is_empty h.keys then hear_silent h.side h else None
hear_page_word h (bar_word len) = if is_unbracketed h then hear_page_note h 0 false (bar_ending len) else None
hear_page_word h (rest_word e) = if is_free h then hear_page_note h 0 false e else None
hear_page_word h (single_key key e) = if is_empty h.keys then hear_page_chord h (key ∷ []) e else None
hear_page_word h (first_key key) = if is_empty h.keys then Some (record h { keys = key ∷ [] }) else None
hear_page_word h (middle_key key) = if is_empty h.keys then None else Some (record h { keys = h.keys ++ key ∷ [] })
hear_page_word h (last_key key e) = if is_empty h.keys then None else hear_page_chord h (h.keys ++ key ∷ []) e
