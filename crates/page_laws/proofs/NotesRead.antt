-- The words of notes are heard as the notes.
use Rattle.std.proofs.Common.{◌≡◌, ℕ, zero, suc, ◌+◌, ◌*◌, ◌≤◌, ◌==◌, Bool, true, false, not, List, [], ◌∷◌, ◌++◌, replicate, Option, Some, None, refl, sym, ap, ◌∙◌, arith, append_assoc}
use Rattle.std.specs.Prelude.{ℤ, All, IfSome, codes, if◌then◌else◌, nat_lt}
use Rattle.std.specs.Fmt.{digits}
use Rattle.std.specs.Option.{option_map}
use Rattle.std.proofs.lemmas.Bool.Decides.{nat_tests}
use Rattle.std.proofs.lemmas.List.Elements.{All-head, All-tail}
use Rattle.rhythm_base.specs.declared.span.Frac.{Frac}
use Rattle.durations.specs.Value.{parts, value_grid}
use Rattle.durations.proofs.Wide.{some_product}
use Rattle.derivation.specs.Score.{IsKeySignature}
use Rattle.derivation.specs.WellSounded.{AreKeys}
use Rattle.text_words.specs.Divisors.{gcd}
use Rattle.text_words.specs.Steps.{◌>>=◌}
use Rattle.text_words.specs.Numbers.{number_of}
use Rattle.lily_writer.specs.Fractions.{frac, frac_plus}
use Rattle.lily_writer.specs.Words.{WordEnding, scale_of}
use Rattle.lily_laws.proofs.Fractions.{same_value, times_parts}
use Rattle.notation.specs.declared.note.Ratio.{Ratio}
use Rattle.notation.specs.Notes.{Group, Note, is_empty}
use Rattle.notation_laws.specs.Hearing.{HeardVoice, Stretch, hear, hear_grace, hear_graces, is_none}
use Rattle.notation_laws.specs.NotesHeard.{hear_notes, note_stretch}
use Rattle.notation_laws.specs.Written.{IsWrittenGroup, IsWrittenNote}
use Rattle.notation_laws.proofs.Says.{heard_first}
use Rattle.page_laws.specs.Hearing.{HeardStaff, among_graces, among_notes, at_graces, hear_page_word, under_bracket, with_voice}
use Rattle.page_laws.specs.Reading.{hear_page_words}
use Rattle.page_laws.specs.Words.{closing_word, graces_word, opening_word, page_base, page_ending, page_word, rest_word, silent_word}
use Rattle.page_laws.proofs.InWholes.{chord_comes, grace_in, hear_in, in_wholes, none_in, rest_bare, span_in, stretch_in}
use Rattle.page_laws.proofs.NoteWords.{braced, grace_chords, graces_list, note_list, notes_list, own_list}
use Rattle.page_laws.proofs.PageChords.{chord_heard, hear_last, hear_more, hear_one, page_chord_words}
use Rattle.page_laws.proofs.PageValues.{ending, ending_begins, ending_read, ending_text, grid_some, value_frac}

-- how long notes of a ratio are shown
abbrev pub shown_ratio : Ratio → Option Frac
shown_ratio ratio = if nat_lt 1 ratio.actual then Some (frac ratio.normal ratio.actual) else None

module _ (r : ℕ) (some : 1 ≤ 64 * r) (sf : Option ℤ) (key : IfSome sf IsKeySignature) where
  abbrev Wholes : HeardVoice ℕ → HeardVoice Frac
  Wholes h = in_wholes (64 * r) some h

  -- what is known among the notes of a bar
  abbrev pub at_notes : Option Frac → HeardVoice ℕ → HeardStaff
  at_notes ratio h = record { heard = Wholes h; ratio = ratio; side = among_notes; keys = [] }

  -- ---- the length of a note

  note_len : (g : Group) (n : Note) → IsWrittenGroup r g → IsWrittenNote r g.ratio n → under_bracket (shown_ratio g.ratio) (value_frac n.value)
      ≡ frac n.duration (64 * r)
  note_len g n group is = go (nat_lt 1 g.ratio.actual) refl
    where
      grid : ℕ
      grid = value_grid n.value

      some_grid : 1 ≤ grid
      some_grid = grid_some n.value is.value

      turned : (p w m : ℕ) → p * m * w ≡ p * (w * m)
      turned p w m = grind arith

      go : (b : Bool) → nat_lt 1 g.ratio.actual ≡ b
          → under_bracket (if b then Some (frac g.ratio.normal g.ratio.actual) else None) (value_frac n.value) ≡ frac n.duration (64 * r)
      go true e =
          let whole = some_product grid g.ratio.actual some_grid group.some_actual in
          times_parts (parts n.value) grid g.ratio.normal g.ratio.actual some_grid group.some_actual
          ∙ same_value (parts n.value * g.ratio.normal) (grid * g.ratio.actual) n.duration (64 * r) whole some
          (turned (parts n.value) (64 * r) g.ratio.normal ∙ sym is.long)
      go false e =
          let few : g.ratio.actual ≤ 1 = grind (arith, nat_tests, e) in
          let actual : g.ratio.actual ≡ 1 = let h = group.some_actual in omega (arith, few, h) in
          let normal : g.ratio.normal ≡ 1 = let h = group.some_normal in let k = group.few_normal in omega (arith, actual, h, k) in
          let one : n.duration * (grid * 1) ≡ parts n.value * (64 * r * 1) =
          ap (λ a. n.duration * (grid * a)) (sym actual) ∙ is.long ∙ ap (λ m. parts n.value * (64 * r * m)) normal in
          let left : (d g : ℕ) → d * (g * 1) ≡ d * g = λ d g. grind arith in
          let right : (p w : ℕ) → p * (w * 1) ≡ p * w = λ p w. grind arith in
          same_value (parts n.value) grid n.duration (64 * r) some_grid some
          (sym (right (parts n.value) (64 * r)) ∙ sym one ∙ left n.duration grid)

  -- ---- a note

  pub heard_as : (ratio : Option Frac) (h next : HeardVoice ℕ) (n : Stretch ℕ) (s : Stretch Frac) → s ≡ stretch_in (64 * r) some n
      → hear ◌+◌ h n ≡ Some next
      → (hear frac_plus (Wholes h) s >>= λ heard. Some (with_voice (at_notes ratio h) heard)) ≡ Some (at_notes ratio next)
  heard_as ratio h next n s same e =
      ap (λ o. o >>= λ heard. Some (with_voice (at_notes ratio h) heard))
      (ap (hear frac_plus (Wholes h)) same ∙ hear_in (64 * r) some h n ∙ ap (option_map (in_wholes (64 * r) some)) e)

  rest_is : (text : List ℕ) (e : WordEnding) → page_ending text ≡ Some e → page_word (114 ∷ text) ≡ Some (rest_word e)
  unfolding page_word
  rest_is text e is = ap (option_map (λ e. rest_word e)) is

  rest_word_heard : (ratio : Option Frac) (h : HeardVoice ℕ) (e : WordEnding) → hear_page_word (at_notes ratio h) (rest_word e)
      ≡ (hear frac_plus (Wholes h)
      (record { len = under_bracket ratio e.len; keys = 0; short = e.short; comes = false; goes = e.tied }) >>= λ heard. Some
      (with_voice (at_notes ratio h) heard))
  unfolding hear_page_word
  rest_word_heard ratio h e = refl

  note_read : (g : Group) (n : Note) (h next : HeardVoice ℕ) → IsWrittenGroup r g → IsWrittenNote r g.ratio n
      → hear ◌+◌ h (note_stretch n) ≡ Some next
      → hear_page_words (at_notes (shown_ratio g.ratio) h) (note_list sf n) ≡ Some (at_notes (shown_ratio g.ratio) next)
  note_read g n h next group is heard = go (n.keys == 0) refl
    where
      ratio : Option Frac
      ratio = shown_ratio g.ratio

      len : under_bracket ratio (value_frac n.value) ≡ frac n.duration (64 * r)
      len = note_len g n group is

      rest : (n.keys == 0) ≡ true → hear_page_words (at_notes ratio h) ((114 ∷ ending_text n.value false false) ∷ [])
          ≡ Some (at_notes ratio next)
      rest silent =
          let (short, comes, goes) = rest_bare h next (note_stretch n) heard silent in
          let none : 0 ≡ n.keys = grind (arith, nat_tests, silent) in
          let e = ending n.value false false in
          hear_last (at_notes ratio h) (114 ∷ ending_text n.value false false) (rest_word e)
          (rest_is (ending_text n.value false false) e (ending_read n.value false false is.value))
          ∙ rest_word_heard ratio h e
          ∙ heard_as ratio h next (note_stretch n)
          (record { len = under_bracket ratio (value_frac n.value); keys = 0; short = false; comes = false; goes = false })
          (λ i. record { len = len i; keys = none i; short = sym short i; comes = sym comes i; goes = sym goes i }) heard

      chord : (n.keys == 0) ≡ false → hear_page_words (at_notes ratio h) (page_chord_words sf n.keys (ending_text n.value n.short n.goes))
          ≡ Some (at_notes ratio next)
      chord sounds =
          let e = ending n.value n.short n.goes in
          let comes : not (is_none (option_map (span_in (64 * r) some) h.going)) ≡ n.comes =
          ap not (none_in (64 * r) some h.going) ∙ sym (chord_comes h next (note_stretch n) heard sounds) in
          chord_heard sf (at_notes ratio h) n.keys (ending_text n.value n.short n.goes) e key refl (is.keys sounds)
          (ending_begins n.value n.short n.goes is.value) (ending_read n.value n.short n.goes is.value)
          ∙ heard_as ratio h next (note_stretch n)
          (record {
            len = under_bracket ratio (value_frac n.value);
            keys = n.keys;
            short = n.short;
            comes = not
                (is_none (option_map (span_in (64 * r) some) h.going));
            goes = n.goes;
          })
          (λ i. record { len = len i; keys = n.keys; short = n.short; comes = comes i; goes = n.goes }) heard

      go : (b : Bool) → (n.keys == 0) ≡ b
          → hear_page_words (at_notes ratio h)
          (if b then (114 ∷ ending_text n.value false false) ∷ [] else page_chord_words sf n.keys
          (ending_text n.value n.short n.goes))
          ≡ Some (at_notes ratio next)
      go true e = rest e
      go false e = chord e

  -- ---- grace chords

  abbrev in_braces : Option Frac → HeardVoice ℕ → HeardStaff
  in_braces ratio h = record { heard = Wholes h; ratio = ratio; side = among_graces; keys = [] }

  eighth : WordEnding
  eighth = record { len = record { num = 1; den = 8 }; short = false; tied = false }

  eighth_read : page_ending (codes "8") ≡ Some eighth
  unfolding page_ending page_base number_of scale_of gcd digits eighth lib.Count.ones
  eighth_read = refl

  braces : (page_word (codes "\\slashedGrace") ≡ Some graces_word) × (page_word (codes "{") ≡ Some opening_word)
      × (page_word (codes "}") ≡ Some closing_word) × (page_word (codes "s8") ≡ Some silent_word)
  unfolding page_word
  braces = (refl, refl, refl, refl)

  before_braces : (ratio : Option Frac) (h : HeardVoice ℕ) → hear_page_word (at_notes ratio h) graces_word
      ≡ Some (record (at_notes ratio h) { side = at_graces })
  unfolding hear_page_word
  before_braces ratio h = refl

  braces_open : (ratio : Option Frac) (h : HeardVoice ℕ) → hear_page_word (record (at_notes ratio h) { side = at_graces }) opening_word
      ≡ Some (in_braces ratio h)
  unfolding hear_page_word
  braces_open ratio h = refl

  braces_close : (ratio : Option Frac) (h : HeardVoice ℕ) → hear_page_word (in_braces ratio h) closing_word ≡ Some (at_notes ratio h)
  unfolding hear_page_word
  braces_close ratio h = refl

  silent_heard : (ratio : Option Frac) (h : HeardVoice ℕ) → hear_page_word (in_braces ratio h) silent_word ≡ Some (in_braces ratio h)
  unfolding hear_page_word
  silent_heard ratio h = refl

  silence_heard : (ratio : Option Frac) (h : HeardVoice ℕ) (silent : ℕ) (more : List (List ℕ))
      → hear_page_words (in_braces ratio h) (replicate silent (codes "s8") ++ more) ≡ hear_page_words (in_braces ratio h) more
  silence_heard ratio h zero more = refl
  silence_heard ratio h (suc silent) more =
      hear_one (in_braces ratio h) (in_braces ratio h) (codes "s8") silent_word (replicate silent (codes "s8") ++ more) braces.3
      (silent_heard ratio h)
      ∙ silence_heard ratio h silent more

  grace_read : (ratio : Option Frac) (h next : HeardVoice ℕ) (keys : ℕ) → AreKeys keys → hear_grace h keys ≡ Some next
      → hear_page_words (in_braces ratio h) (page_chord_words sf keys (codes "8")) ≡ Some (in_braces ratio next)
  unfolding eighth gcd
  grace_read ratio h next keys are heard =
      chord_heard sf (in_braces ratio h) keys (codes "8") eighth key refl are refl eighth_read
      ∙ ap (λ o. o >>= λ heard. Some (with_voice (in_braces ratio h) heard))
      (grace_in (64 * r) some h keys ∙ ap (option_map (in_wholes (64 * r) some)) heard)

  chords_read : (ratio : Option Frac) (h next : HeardVoice ℕ) (graces : List ℕ) (more : List (List ℕ)) → All AreKeys graces
      → hear_graces h graces ≡ Some next
      → hear_page_words (in_braces ratio h) (grace_chords sf graces ++ more) ≡ hear_page_words (in_braces ratio next) more
  chords_read ratio h next [] more are heard = let same : h ≡ next = cc in ap (λ h. hear_page_words (in_braces ratio h) more) same
  chords_read ratio h next (keys ∷ graces) more are heard =
      let (mid, one, rest) = heard_first (hear_grace h keys) (λ mid. hear_graces mid graces) next heard in
      let own = page_chord_words sf keys (codes "8") in
      ap (hear_page_words (in_braces ratio h)) (append_assoc own (grace_chords sf graces) more)
      ∙ hear_more (in_braces ratio h) (in_braces ratio mid) own (grace_chords sf graces ++ more)
      (grace_read ratio h mid keys (All-head AreKeys keys graces are) one)
      ∙ chords_read ratio mid next graces more (All-tail AreKeys keys graces are) rest

  pub graces_read : (ratio : Option Frac) (h next : HeardVoice ℕ) (silent : ℕ) (graces : List ℕ) → All AreKeys graces
      → hear_graces h graces ≡ Some next
      → hear_page_words (at_notes ratio h) (graces_list sf silent graces) ≡ Some (at_notes ratio next)
  graces_read ratio h next silent graces are heard =
      let closing : List (List ℕ) = codes "}" ∷ [] in
      hear_one (at_notes ratio h) (record (at_notes ratio h) { side = at_graces }) (codes "\\slashedGrace") graces_word
      (codes "{" ∷ braced sf silent graces)
      braces.0 (before_braces ratio h)
      ∙ hear_one (record (at_notes ratio h) { side = at_graces }) (in_braces ratio h) (codes "{") opening_word
      (braced sf silent graces) braces.1 (braces_open ratio h)
      ∙ silence_heard ratio h silent (grace_chords sf graces ++ closing)
      ∙ chords_read ratio h next graces closing are heard
      ∙ hear_last (in_braces ratio next) (codes "}") closing_word braces.2 ∙ braces_close ratio next

  -- ---- notes in a row

  -- what is heard of notes where the grace chords of the first have been heard or not
  abbrev pub hear_from : Bool → HeardVoice ℕ → List Note → Option (HeardVoice ℕ)
  hear_from written h [] = Some h
  hear_from written h (n ∷ notes) =
      ((if written then Some h else hear_graces h n.graces) >>= λ graced. hear ◌+◌ graced (note_stretch n))
      >>= λ next. hear_notes next notes

  own_read : (ratio : Option Frac) (written : Bool) (n : Note) (h next : HeardVoice ℕ) → All AreKeys n.graces
      → (if written then Some h else hear_graces h n.graces) ≡ Some next
      → hear_page_words (at_notes ratio h) (own_list sf written n) ≡ Some (at_notes ratio next)
  own_read ratio true n h next are heard = let same : h ≡ next = cc in ap (λ h. Some (at_notes ratio h)) same
  own_read ratio false n h next are heard = go n.graces are heard
    where
      go : (graces : List ℕ) → All AreKeys graces → hear_graces h graces ≡ Some next
          → hear_page_words (at_notes ratio h) (if is_empty graces then [] else graces_list sf 0 graces) ≡ Some (at_notes ratio next)
      go [] are heard = let same : h ≡ next = cc in ap (λ h. Some (at_notes ratio h)) same
      go (g ∷ graces) are heard = graces_read ratio h next 0 (g ∷ graces) are heard

  same_from : (h : HeardVoice ℕ) (notes : List Note) → hear_from false h notes ≡ hear_notes h notes
  same_from h [] = refl
  same_from h (n ∷ notes) = refl

  pub notes_read : (g : Group) (written : Bool) (notes : List Note) (h next : HeardVoice ℕ) → IsWrittenGroup r g
      → All (IsWrittenNote r g.ratio) notes
      → hear_from written h notes ≡ Some next
      → hear_page_words (at_notes (shown_ratio g.ratio) h) (notes_list sf written notes) ≡ Some (at_notes (shown_ratio g.ratio) next)
  notes_read g written [] h next group all heard = let same : h ≡ next = cc in ap (λ h. Some (at_notes (shown_ratio g.ratio) h)) same
  notes_read g written (n ∷ notes) h next group all heard =
      let ratio = shown_ratio g.ratio in
      let is = All-head (IsWrittenNote r g.ratio) n notes all in
      let (after, one, rest) = heard_first
      ((if written then Some h else hear_graces h n.graces) >>= λ graced. hear ◌+◌ graced (note_stretch n))
      (λ next. hear_notes next notes) next heard in
      let (graced, own, note) = heard_first (if written then Some h else hear_graces h n.graces)
      (λ graced. hear ◌+◌ graced (note_stretch n)) after one in
      hear_more (at_notes ratio h) (at_notes ratio graced) (own_list sf written n) (note_list sf n ++ notes_list sf false notes)
      (own_read ratio written n h graced is.graces own)
      ∙ hear_more (at_notes ratio graced) (at_notes ratio after) (note_list sf n) (notes_list sf false notes)
      (note_read g n graced after group is note)
      ∙ notes_read g false notes after next group (All-tail (IsWrittenNote r g.ratio) n notes all) (same_from after notes ∙ rest)
