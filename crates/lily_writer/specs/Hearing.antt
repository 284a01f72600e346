-- What is known of a staff after some of its words, and how each word adds to it.
use Rattle.std.specs.Prelude.{ℕ, ◌^◌, Bool, true, false, ◌==◌, ◌&&◌, ◌||◌, not, nat_lt, if◌then◌else◌, List, [], ◌∷◌, ◌++◌, fold, map, sum, Option, Some, None}
use Rattle.rhythm_base.specs.declared.span.Frac.{Frac}
use Rattle.rhythm_base.specs.declared.span.Span.{Span}
use Rattle.text_words.specs.Steps.{◌>>=◌}
use Rattle.lily_writer.specs.Fractions.{frac, nothing, frac_plus, same_frac}
use Rattle.lily_writer.specs.Words.{WordEnding, Word, closing_word, first_key, grace_word, last_key, middle_key, opening_word, rest_word, single_key, word_of}

-- in a bar, after `\grace`, or within its braces
pub data Side : Type 0 where
  outside : Side
  at_brace : Side
  within : Side

-- the spans that have ended; the place from the beginning of the score; the span that goes on by a tie; the side of the braces;
-- the grace chords since the last note; and the keys since an opening angle
pub record HeardVoice : Type 0 where
  pub spans : List Span
  pub at : Frac
  pub going : Option Span
  pub side : Side
  pub graces : List ℕ
  pub keys : List ℕ

abbrev pub unheard : HeardVoice
unheard = record { spans = []; at = nothing; going = None; side = outside; graces = []; keys = [] }

abbrev pub is_none : {X : Type 0} → Option X → Bool
is_none None = true
is_none (Some x) = false

abbrev pub is_empty : List ℕ → Bool
is_empty [] = true
is_empty (n ∷ ns) = false

-- outside of braces and angles, and no grace chord waits for its note
abbrev pub is_outside : Side → Bool
is_outside outside = true
is_outside at_brace = false
is_outside within = false

abbrev pub is_between : HeardVoice → Bool
is_between h = is_outside h.side && (is_empty h.graces && is_empty h.keys)

-- ---- chords

abbrev pub heard_rise : List ℕ → Bool
heard_rise [] = true
heard_rise (k ∷ []) = true
heard_rise (k ∷ j ∷ keys) = nat_lt k j && heard_rise (j ∷ keys)

-- the number whose bits are the keys
abbrev pub key_set : List ℕ → ℕ
key_set keys = sum (map (λ k. 2 ^ k) keys)

-- the span of a chord with the value that was read: the one that goes on, longer by that value, where the keys are the same; else a
-- new one
abbrev pub span_with : HeardVoice → Option Span → ℕ → WordEnding → Option Span
span_with h None keys e = Some (record { start = h.at; len = e.len; keys = keys; graces = h.graces; short = e.short })
span_with h (Some x) keys e =
    if (x.keys == keys) && (is_empty h.graces && not e.short) then Some (record x { len = frac_plus x.len e.len }) else None

-- a span that is tied goes on, and another one has ended
abbrev pub with_span : HeardVoice → WordEnding → Span → HeardVoice
with_span h e x =
    if e.tied
    then record h { at = frac_plus h.at e.len; going = Some x; graces = []; keys = [] }
    else record h { spans = h.spans ++ x ∷ []; at = frac_plus h.at e.len; going = None; graces = []; keys = [] }

abbrev pub hear_note : HeardVoice → ℕ → WordEnding → Option HeardVoice
hear_note h keys e = span_with h h.going keys e >>= λ x. Some (with_span h e x)

-- a grace chord is an eighth without a mark, and no note is tied to what follows it
abbrev pub is_grace_value : WordEnding → Bool
is_grace_value e = same_frac e.len (frac 1 8) && not (e.short || e.tied)

abbrev pub hear_grace : HeardVoice → ℕ → WordEnding → Option HeardVoice
hear_grace h keys e = if is_grace_value e then Some (record h { graces = h.graces ++ keys ∷ []; keys = [] }) else None

abbrev pub hear_on_side : Side → HeardVoice → ℕ → WordEnding → Option HeardVoice
hear_on_side outside h keys e = hear_note h keys e
hear_on_side at_brace h keys e = None
hear_on_side within h keys e = hear_grace h keys e

-- keys with a value, by rising key
abbrev pub hear_chord : HeardVoice → List ℕ → WordEnding → Option HeardVoice
hear_chord h keys e = if heard_rise keys then hear_on_side h.side h (key_set keys) e else None

-- ---- words

abbrev pub hear_side : Side → Word → Option Side
hear_side outside grace_word = Some at_brace
hear_side at_brace opening_word = Some within
hear_side within closing_word = Some outside
hear_side _ _ = None

-- a word of braces: they begin where nothing else is, and hold some grace chord
abbrev pub hear_brace : HeardVoice → Word → Option HeardVoice
hear_brace h word = hear_side h.side word >>= λ side. Some (record h { side = side })

unfoldable pub hear : HeardVoice → Word → Option HeardVoice
hear h grace_word = if is_between h && is_none h.going then hear_brace h grace_word else None
hear h opening_word = hear_brace h opening_word
hear h closing_word = if is_empty h.graces || not (is_empty h.keys) then None else hear_brace h closing_word
hear h (rest_word len) = if is_between h && is_none h.going then Some (record h { at = frac_plus h.at len }) else None
hear h (single_key key e) = if is_empty h.keys then hear_chord h (key ∷ []) e else None
hear h (first_key key) = if is_empty h.keys then Some (record h { keys = key ∷ [] }) else None
hear h (middle_key key) = if is_empty h.keys then None else Some (record h { keys = h.keys ++ key ∷ [] })
hear h (last_key key e) = if is_empty h.keys then None else hear_chord h (h.keys ++ key ∷ []) e

abbrev pub hear_word : Option HeardVoice → List ℕ → Option HeardVoice
hear_word heard text = do
  h ← heard
  word ← word_of text
  hear h word

-- after these words
abbrev pub hear_words : HeardVoice → List (List ℕ) → Option HeardVoice
hear_words h texts = fold hear_word (Some h) texts
