-- The events that a LilyPond text says, by its lines and their words; nothing where it is no text of this kind. What keys and
-- tempos say is not read.
use Rattle.std.specs.Prelude.{ℕ, suc, Bool, ◌==◌, ◌&&◌, ◌||◌, false, nat_eq, if◌then◌else◌, List, [], ◌∷◌, ◌++◌, codes, drop, map, Option, Some, None}
use Rattle.std.specs.List.{slice_split, starts_with}
use Rattle.std.specs.Option.{option_map}
use Rattle.std.specs.Str.{bytes_eq}
use Rattle.rhythm_base.specs.declared.span.Frac.{Frac}
use Rattle.rhythm_base.specs.declared.span.Span.{Span}
use Rattle.voice_events.specs.declared.event.KernEvent.{KernEvent}
use Rattle.voice_events.specs.Events.{span_event}
use Rattle.text_words.specs.TimeSignatures.{signature_of_numbers}
use Rattle.text_words.specs.Lines.{text_lines}
use Rattle.text_words.specs.Steps.{◌>>=◌}
use Rattle.lily_writer.specs.Fractions.{frac, frac_plus, same_frac}
use Rattle.lily_writer.specs.Hearing.{HeardVoice, hear_words, is_between, is_none, unheard}
use Rattle.lily_writer.specs.Pitches.{words}

-- ---- bars

-- the words before the barline, which is the last one
abbrev pub words_of_bar : List (List ℕ) → Option (List (List ℕ))
words_of_bar [] = None
words_of_bar (word ∷ []) = if bytes_eq word (codes "|") then Some [] else None
words_of_bar (word ∷ next ∷ more) = option_map (λ ws. word ∷ ws) (words_of_bar (next ∷ more))

-- after a bar: its values are as long as its signature says, and nothing but a tie goes on over the barline
abbrev pub after_bar : Frac → HeardVoice → HeardVoice → Option HeardVoice
after_bar signature before h = if is_between h && same_frac h.at (frac_plus before.at signature) then Some h else None

unfoldable pub hear_bar : Frac → HeardVoice → List ℕ → Option HeardVoice
hear_bar signature h line = do
  ws ← words_of_bar (words line)
  next ← hear_words h ws
  after_bar signature h next

-- ---- staves

-- what is known after some lines of a staff: the signature that was said last, and what was heard
pub record Staff : Type 0 where
  pub signature : Option Frac
  pub heard : HeardVoice

abbrev pub new_staff : Staff
new_staff = record { signature = None; heard = unheard }

abbrev pub with_heard : Staff → HeardVoice → Staff
with_heard staff h = record { signature = staff.signature; heard = h }

abbrev pub bar_fraction : List ℕ → Option Frac
bar_fraction text = option_map (λ s. frac s.num s.den) (signature_of_numbers (slice_split (λ b. b == 47) text))

abbrev pub with_signature : Staff → Frac → Staff
with_signature staff signature = record { signature = Some signature; heard = staff.heard }

-- a line of a staff: a key, a tempo, a signature or a bar
unfoldable pub hear_line : Staff → List ℕ → Option Staff
hear_line staff line =
    if starts_with nat_eq line (codes "\\key ") || starts_with nat_eq line (codes "\\tempo ") then Some staff
    else if starts_with nat_eq line (codes "\\time ") then option_map (with_signature staff) (bar_fraction (drop 6 line))
    else (staff.signature >>= λ signature. option_map (with_heard staff) (hear_bar signature staff.heard line))

-- the spans of a staff that ends: none of them goes on
abbrev pub staff_spans : Staff → Option (List Span)
staff_spans staff = if is_none staff.heard.going then Some staff.heard.spans else None

-- ---- the score

abbrev pub is_tail : List (List ℕ) → Bool
is_tail (first ∷ second ∷ []) = bytes_eq first (codes ">>") && bytes_eq second (codes "}")
is_tail _ = false

-- the events of the lines after the head, the staves in which are numbered from this one on; of one that has begun so much is known
abbrev pub events_of_lines : ℕ → Option Staff → List (List ℕ) → Option (List KernEvent)
events_of_lines spine current [] = None
events_of_lines spine None (line ∷ lines) =
    if bytes_eq line (codes "\\new Staff {") then events_of_lines spine (Some new_staff) lines
    else if is_tail (line ∷ lines) then Some []
    else None
events_of_lines spine (Some staff) (line ∷ lines) =
    if bytes_eq line (codes "}")
    then (staff_spans staff >>= λ spans. option_map (λ others. map (span_event spine) spans ++ others) (events_of_lines (suc spine) None lines))
    else (hear_line staff line >>= λ next. events_of_lines spine (Some next) lines)

abbrev pub after_head : List (List ℕ) → Option (List (List ℕ))
after_head (first ∷ second ∷ third ∷ lines) =
    if bytes_eq first (codes "\\version \"2.24.0\"") && (bytes_eq second (codes "\\score {") && bytes_eq third (codes "<<"))
    then Some lines
    else None
after_head _ = None

unfoldable pub lily_events : List ℕ → Option (List KernEvent)
lily_events text = after_head (text_lines text) >>= events_of_lines 1 None
