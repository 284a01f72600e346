-- What is heard of a voice, note after note. Places and lengths are in a kind of number that can be added: in parts
-- of a whole note, or in whole notes.
use Rattle.std.specs.Prelude.{ℕ, Bool, true, false, ◌==◌, ◌&&◌, ◌||◌, not, if◌then◌else◌, List, [], ◌∷◌, ◌++◌, Option, Some, None}
use Rattle.text_words.specs.Steps.{◌>>=◌}
use Rattle.notation.specs.Notes.{is_empty}

-- A note, a chord or a rest as it is read: how long it is; its keys, of a rest none; whether it is marked short; and
-- whether a tie comes to it, and one goes on from it
pub record Stretch (L : Type 0) : Type 0 where
  pub len : L
  pub keys : ℕ
  pub short : Bool
  pub comes : Bool
  pub goes : Bool

-- A chord that was heard: its start, from the beginning of the voice; how long it is over all its ties; its keys, the
-- grace chords before it, and whether it is marked short
pub record HeardSpan (L : Type 0) : Type 0 where
  pub start : L
  pub len : L
  pub keys : ℕ
  pub graces : List ℕ
  pub short : Bool

-- What is known after some notes: the spans that have ended; the place that was reached; the span that goes on by a
-- tie; and the grace chords that wait for their note
pub record HeardVoice (L : Type 0) : Type 0 where
  pub spans : List (HeardSpan L)
  pub at : L
  pub going : Option (HeardSpan L)
  pub graces : List ℕ

-- nothing yet, where a voice begins
abbrev pub unheard : {L : Type 0} → L → HeardVoice L
unheard start = record { spans = []; at = start; going = None; graces = [] }

abbrev pub is_none : {X : Type 0} → Option X → Bool
is_none None = true
is_none (Some x) = false

-- no span goes on, and no grace chord waits
abbrev pub is_still : {L : Type 0} → HeardVoice L → Bool
is_still h = is_none h.going && is_empty h.graces

-- ---- grace chords: none stands within a tie

abbrev pub hear_grace : {L : Type 0} → HeardVoice L → ℕ → Option (HeardVoice L)
hear_grace h keys = if is_none h.going then Some (record h { graces = h.graces ++ keys ∷ [] }) else None

abbrev pub hear_graces : {L : Type 0} → HeardVoice L → List ℕ → Option (HeardVoice L)
hear_graces h [] = Some h
hear_graces h (keys ∷ more) = hear_grace h keys >>= λ next. hear_graces next more

-- ---- notes

-- a rest has no mark and no tie, and stands neither within a tie nor after a grace chord
abbrev pub is_bare : {L : Type 0} → Stretch L → Bool
is_bare n = not (n.short || (n.comes || n.goes))

-- a span that is tied goes on, and another one has ended
abbrev pub with_span : {L : Type 0} → HeardVoice L → L → Bool → HeardSpan L → HeardVoice L
with_span h at goes x =
    if goes then record h { at = at; going = Some x; graces = [] }
    else record h { spans = h.spans ++ x ∷ []; at = at; going = None; graces = [] }

module _ {L : Type 0} (plus : L → L → L) where
  abbrev pub hear_rest : HeardVoice L → Stretch L → Option (HeardVoice L)
  hear_rest h n = if is_still h && is_bare n then Some (record h { at = plus h.at n.len }) else None

  -- a chord to which no tie comes begins a span, where none goes on; else it is the chord that goes on, without a
  -- mark, and makes it longer
  abbrev pub span_with : HeardVoice L → Option (HeardSpan L) → Stretch L → Option (HeardSpan L)
  span_with h None n =
      if n.comes then None
      else Some (record { start = h.at; len = n.len; keys = n.keys; graces = h.graces; short = n.short })
  span_with h (Some x) n =
      if n.comes && ((x.keys == n.keys) && not n.short) then Some (record x { len = plus x.len n.len }) else None

  abbrev pub hear_chord : HeardVoice L → Stretch L → Option (HeardVoice L)
  hear_chord h n = span_with h h.going n >>= λ x. Some (with_span h (plus h.at n.len) n.goes x)

  abbrev pub hear : HeardVoice L → Stretch L → Option (HeardVoice L)
  hear h n = if n.keys == 0 then hear_rest h n else hear_chord h n

-- the spans of a voice that ends
abbrev pub ended_spans : {L : Type 0} → HeardVoice L → Option (List (HeardSpan L))
ended_spans h = if is_still h then Some h.spans else None
