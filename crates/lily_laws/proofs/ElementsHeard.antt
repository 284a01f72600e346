-- What is heard of an element.
use Rattle.std.proofs.Common.{◌≡◌, ℕ, ◌==◌, Bool, true, false, List, [], ◌∷◌, ◌++◌, map, refl, sym, ap, ◌∙◌, subst, arith, append_assoc, append-nil, Some, None}
use Rattle.std.specs.Prelude.{All, codes, if◌then◌else◌}
use Rattle.std.proofs.lemmas.Bool.Decides.{nat_tests}
use Rattle.std.proofs.lemmas.List.Elements.{All-head, All-tail}
use Rattle.rhythm_base.specs.declared.span.Frac.{Frac}
use Rattle.rhythm_base.specs.declared.span.Span.{Span}
use Rattle.durations.specs.declared.value.Value.{Value}
use Rattle.durations.specs.Value.{parts, value_grid}
use Rattle.derivation.specs.WellSounded.{AreKeys}
use Rattle.score_words.specs.Keys.{rising_keys}
use Rattle.text_words.specs.Steps.{◌>>=◌}
use Rattle.text_words.specs.Values.{IsWellValue}
use Rattle.text_words.specs.Numbers.{number_of}
use Rattle.text_words.specs.Divisors.{gcd}
use Rattle.score_words.proofs.SetKeys.{KeysRise, keys_rise}
use Rattle.lily_writer.specs.Elements.{grace_group, note_value, rest_value}
use Rattle.lily_writer.specs.Fractions.{frac, frac_plus, frac_times}
use Rattle.lily_writer.specs.Hearing.{HeardVoice, at_brace, hear, hear_chord, hear_on_side, hear_words, is_empty, is_grace_value, key_set, outside, heard_rise, within}
use Rattle.lily_writer.specs.Pitches.{lily_pitch}
use Rattle.lily_writer.specs.Words.{WordEnding, base_of, closing_word, word_ending, grace_word, opening_word, word_rest, rest_word, scale_of, word_of}
use Rattle.lily_laws.proofs.ChordsHeard.{hear_last, hear_more, hear_next, pitches_heard}
use Rattle.lily_laws.proofs.ElementWords.{chord_words, element_words, group_words, pitch_words, some_key}
use Rattle.lily_laws.proofs.KeySums.{keys_sum, keys_up}
use Rattle.lily_laws.proofs.ValueTexts.{begins_value, ending, ending_begins, ending_read, ending_text}

abbrev pub value_frac : Value → Frac
value_frac v = frac (parts v) (value_grid v)

-- ---- where a voice is between two elements: at rest, after grace chords, or within a tie

abbrev pub graced : List Span → Frac → List ℕ → HeardVoice
graced done at graces = record { spans = done; at = at; going = None; side = outside; graces = graces; keys = [] }

abbrev pub resting : List Span → Frac → HeardVoice
resting done at = graced done at []

abbrev pub holding : List Span → Frac → Span → HeardVoice
holding done at x = record { spans = done; at = at; going = Some x; side = outside; graces = []; keys = [] }

-- after a value of a span that is tied to the next one or not
abbrev pub sounded : Bool → List Span → Frac → Span → HeardVoice
sounded true done at x = holding done at x
sounded false done at x = resting (done ++ x ∷ []) at

-- ---- chords

chord_heard : (flats : Bool) (h : HeardVoice) (keys : ℕ) (text : List ℕ) (e : WordEnding) → is_empty h.keys ≡ true → AreKeys keys
    → begins_value text ≡ true → word_ending text ≡ Some e
    → hear_words h (chord_words flats keys text) ≡ hear_on_side h.side h keys e
chord_heard flats h keys text e none are begins is =
    go (some_key keys are)
  where
    go : (k : ℕ) × (ks : List ℕ) × (rising_keys keys ≡ k ∷ ks) → hear_words h (chord_words flats keys text) ≡ hear_on_side h.side h keys e
    go (k, ks, all) =
        let up : heard_rise (rising_keys keys) ≡ true = keys_up 0 (rising_keys keys) (keys_rise keys) in
        let set : key_set (rising_keys keys) ≡ keys = keys_sum keys are.1 in
        ap (λ list. hear_words h (pitch_words (map (lily_pitch flats) list) text)) all
        ∙ pitches_heard flats h k ks text e none (subst (KeysRise 0) all (keys_rise keys)) begins is
        ∙ ap (λ list. hear_chord h list e) (sym all)
        ∙ ap (λ b. if b then hear_on_side h.side h (key_set (rising_keys keys)) e else None) up ∙ ap (λ n. hear_on_side h.side h n e) set

-- ---- rests

rest_is : (v : Value) → IsWellValue v → word_of (114 ∷ ending_text v false false) ≡ Some (rest_word (value_frac v))
unfolding word_of
rest_is v well = ap (λ o. o >>= word_rest) (ending_read v false false well)

rest_rests : (done : List Span) (at len : Frac) → hear (resting done at) (rest_word len) ≡ Some (resting done (frac_plus at len))
unfolding hear
rest_rests done at len = refl

pub rest_heard : (flats : Bool) (v : Value) (done : List Span) (at : Frac) → IsWellValue v
    → hear_words (resting done at) (element_words flats (rest_value v)) ≡ Some (resting done (frac_plus at (value_frac v)))
rest_heard flats v done at well =
    hear_last (resting done at) (114 ∷ ending_text v false false) (rest_word (value_frac v)) (rest_is v well)
    ∙ rest_rests done at (value_frac v)

-- ---- grace chords

eighth : WordEnding
eighth = record { len = frac_times (frac_times (frac 1 8) (frac 1 1)) (frac 1 1); short = false; tied = false }

eighth_read : word_ending (codes "8") ≡ Some eighth
unfolding word_ending base_of scale_of number_of eighth
eighth_read = refl

eighth_is : is_grace_value eighth ≡ true
unfolding eighth gcd
eighth_is = refl

abbrev inside : List Span → Frac → List ℕ → HeardVoice
inside done at graces = record { spans = done; at = at; going = None; side = within; graces = graces; keys = [] }

grace_heard : (flats : Bool) (keys : ℕ) (done : List Span) (at : Frac) (graces : List ℕ) → AreKeys keys
    → hear_words (inside done at graces) (chord_words flats keys (codes "8")) ≡ Some (inside done at (graces ++ keys ∷ []))
grace_heard flats keys done at graces are =
    chord_heard flats (inside done at graces) keys (codes "8") eighth refl are refl eighth_read
    ∙ ap (λ b. if b then Some (inside done at (graces ++ keys ∷ [])) else None) eighth_is

graces_heard : (flats : Bool) (chords : List ℕ) (done : List Span) (at : Frac) (graces : List ℕ) → All AreKeys chords
    → hear_words (inside done at graces) (group_words flats chords) ≡ Some (inside done at (graces ++ chords))
graces_heard flats [] done at graces are = ap (λ gs. Some (inside done at gs)) (sym (append-nil graces))
graces_heard flats (keys ∷ chords) done at graces are =
    hear_more (inside done at graces) (inside done at (graces ++ keys ∷ [])) (chord_words flats keys (codes "8")) (group_words flats chords)
    (grace_heard flats keys done at graces (All-head AreKeys keys chords are))
    ∙ graces_heard flats chords done at (graces ++ keys ∷ []) (All-tail AreKeys keys chords are)
    ∙ ap (λ gs. Some (inside done at gs)) (append_assoc graces (keys ∷ []) chords)

brace_words : (word_of (codes "\\grace") ≡ Some grace_word) × (word_of (codes "{") ≡ Some opening_word)
    × (word_of (codes "}") ≡ Some closing_word)
unfolding word_of
brace_words = (refl, refl, refl)

before_braces : (done : List Span) (at : Frac) → hear (resting done at) grace_word ≡ Some (record (resting done at) { side = at_brace })
unfolding hear
before_braces done at = refl

braces_open : (done : List Span) (at : Frac) → hear (record (resting done at) { side = at_brace }) opening_word ≡ Some (inside done at [])
unfolding hear
braces_open done at = refl

braces_close : (done : List Span) (at : Frac) (keys : ℕ) (chords : List ℕ)
    → hear (inside done at (keys ∷ chords)) closing_word ≡ Some (graced done at (keys ∷ chords))
unfolding hear
braces_close done at keys chords = refl

pub group_heard : (flats : Bool) (keys : ℕ) (chords : List ℕ) (done : List Span) (at : Frac) → All AreKeys (keys ∷ chords)
    → hear_words (resting done at) (element_words flats (grace_group (keys ∷ chords))) ≡ Some (graced done at (keys ∷ chords))
group_heard flats keys chords done at are =
    let all = group_words flats (keys ∷ chords) in
    let end : List (List ℕ) = codes "}" ∷ [] in
    hear_next (resting done at) (record (resting done at) { side = at_brace }) (codes "\\grace") grace_word
    (codes "{" ∷ (all ++ end)) brace_words.0 (before_braces done at)
    ∙ hear_next (record (resting done at) { side = at_brace }) (inside done at []) (codes "{") opening_word (all ++ end) brace_words.1
    (braces_open done at)
    ∙ hear_more (inside done at []) (inside done at (keys ∷ chords)) all end (graces_heard flats (keys ∷ chords) done at [] are)
    ∙ hear_last (inside done at (keys ∷ chords)) (codes "}") closing_word brace_words.2 ∙ braces_close done at keys chords

-- ---- values of a span: the first one ..

pub first_heard : (flats : Bool) (keys : ℕ) (v : Value) (short tied : Bool) (done : List Span) (at : Frac) (graces : List ℕ) → AreKeys keys
    → IsWellValue v
    → hear_words (graced done at graces) (element_words flats (note_value keys v short tied))
    ≡ Some (sounded tied done (frac_plus at (value_frac v)) (record {
      start = at;
      len = value_frac v;
      keys = keys;
      graces = graces;
      short =
          short;
    }))
first_heard flats keys v short tied done at graces are well =
    chord_heard flats (graced done at graces) keys (ending_text v short tied) (ending v short tied) refl are
    (ending_begins v short tied well) (ending_read v short tied well) ∙ go tied
  where
    go : (tied : Bool) → hear_on_side outside (graced done at graces) keys (ending v short tied)
        ≡ Some (sounded tied done (frac_plus at (value_frac v)) (record {
          start = at;
          len = value_frac v;
          keys = keys;
          graces = graces;
          short =
              short;
        }))
    go true = refl
    go false = refl

-- .. and those that it is tied to
pub next_heard : (flats : Bool) (v : Value) (tied : Bool) (done : List Span) (at : Frac) (x : Span) → AreKeys x.keys → IsWellValue v
    → hear_words (holding done at x) (element_words flats (note_value x.keys v false tied))
    ≡ Some (sounded tied done (frac_plus at (value_frac v)) (record x { len = frac_plus x.len (value_frac v) }))
next_heard flats v tied done at x are well =
    chord_heard flats (holding done at x) x.keys (ending_text v false tied) (ending v false tied) refl are
    (ending_begins v false tied well) (ending_read v false tied well) ∙ go tied
  where
    same : (n : ℕ) → (n == n) ≡ true
    same n = grind (arith, nat_tests)

    go : (tied : Bool) → hear_on_side outside (holding done at x) x.keys (ending v false tied)
        ≡ Some (sounded tied done (frac_plus at (value_frac v)) (record x { len = frac_plus x.len (value_frac v) }))
    go true = rw (same x.keys) refl
    go false = rw (same x.keys) refl
