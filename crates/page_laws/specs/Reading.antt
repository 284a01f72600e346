-- The spans that a page says, by its lines and their words; nothing where it is no text of this kind. What heads,
-- clefs, keys and tempos say is not read.
use Rattle.std.specs.Prelude.{ℕ, Bool, ◌==◌, ◌&&◌, false, nat_eq, if◌then◌else◌, List, [], ◌∷◌, codes, drop, map, Option, Some, None}
use Rattle.std.specs.List.{starts_with}
use Rattle.std.specs.Option.{option_map}
use Rattle.rhythm_base.specs.declared.span.Frac.{Frac}
use Rattle.rhythm_base.specs.declared.span.Span.{Span}
use Rattle.text_words.specs.Lines.{text_lines}
use Rattle.text_words.specs.Steps.{◌>>=◌}
use Rattle.lily_writer.specs.Fractions.{frac_plus, same_frac}
use Rattle.lily_writer.specs.Pitches.{words}
use Rattle.lily_writer.specs.Reading.{bar_fraction, words_of_bar}
use Rattle.notation.specs.Notes.{is_empty}
use Rattle.notation_laws.specs.Hearing.{HeardSpan, ended_spans}
use Rattle.page_laws.specs.Hearing.{HeardStaff, hear_page_word, is_unbracketed, unheard_staff}
use Rattle.page_laws.specs.Words.{page_word}

-- ---- bars

abbrev pub hear_page_words : HeardStaff → List (List ℕ) → Option HeardStaff
hear_page_words h [] = Some h
hear_page_words h (text ∷ more) = page_word text >>= λ word. hear_page_word h word >>= λ next. hear_page_words next more

-- after a bar: its notes are as long as its signature says, and nothing but a tie goes on over the barline
abbrev pub after_page_bar : Frac → HeardStaff → HeardStaff → Option HeardStaff
after_page_bar signature before h =
    if is_unbracketed h && (is_empty h.heard.graces && same_frac h.heard.at (frac_plus before.heard.at signature))
    then Some h
    else None

unfoldable pub hear_page_bar : Frac → HeardStaff → List ℕ → Option HeardStaff
hear_page_bar signature h line = do
  ws ← words_of_bar (words line)
  next ← hear_page_words h ws
  after_page_bar signature h next

-- ---- staves

-- what is known after some lines of a staff: the signature that was said last, and what was heard
pub record PageStaff : Type 0 where
  pub signature : Option Frac
  pub heard : HeardStaff

abbrev pub blank_staff : PageStaff
blank_staff = record { signature = None; heard = unheard_staff }

-- the last byte of a line
abbrev pub ends_in : ℕ → List ℕ → Bool
ends_in byte [] = false
ends_in byte (b ∷ []) = b == byte
ends_in byte (b ∷ c ∷ text) = ends_in byte (c ∷ text)

-- a bar of this signature
abbrev pub hear_bar_of : PageStaff → List ℕ → Frac → Option PageStaff
hear_bar_of staff line signature =
    option_map (λ heard. record staff { heard = heard }) (hear_page_bar signature staff.heard line)

-- a line of a staff is a signature, or a bar where it ends with a barline; else it changes nothing
unfoldable pub hear_page_line : PageStaff → List ℕ → Option PageStaff
hear_page_line staff line =
    if starts_with nat_eq line (codes "\\time ")
    then option_map (λ signature. record staff { signature = Some signature }) (bar_fraction (drop 6 line))
    else if ends_in 124 line then (staff.signature >>= hear_bar_of staff line)
    else Some staff

abbrev pub span_of : HeardSpan Frac → Span
span_of x = record { start = x.start; len = x.len; keys = x.keys; graces = x.graces; short = x.short }

-- the spans of a staff that ends: none of them goes on
abbrev pub page_staff_spans : PageStaff → Option (List Span)
page_staff_spans staff = option_map (map span_of) (ended_spans staff.heard.heard)

-- ---- the page

abbrev pub begins_staff : List ℕ → Bool
begins_staff line = starts_with nat_eq line (codes "\\new Staff ")

-- the spans of the staves of these lines; of one that has begun so much is known
abbrev pub spans_of_lines : Option PageStaff → List (List ℕ) → Option (List (List Span))
spans_of_lines None [] = Some []
spans_of_lines (Some staff) [] = option_map (λ spans. spans ∷ []) (page_staff_spans staff)
spans_of_lines None (line ∷ lines) = spans_of_lines (if begins_staff line then Some blank_staff else None) lines
spans_of_lines (Some staff) (line ∷ lines) =
    if begins_staff line
    then (page_staff_spans staff >>= λ spans. option_map (λ others. spans ∷ others) (spans_of_lines (Some blank_staff) lines))
    else (hear_page_line staff line >>= λ next. spans_of_lines (Some next) lines)

-- the spans of each staff of a page
unfoldable pub page_events : List ℕ → Option (List (List Span))
page_events text = spans_of_lines None (text_lines text)
