-- The words of a chord are heard as its keys with what stands after them.
use Rattle.std.proofs.Common.{◌≡◌, ℕ, suc, ◌<◌, ◌==◌, ◌&&◌, Bool, true, false, not, List, [], ◌∷◌, ◌++◌, map, fold, refl, sym, ap, ◌∙◌, arith, append_assoc, append-nil, Option, Some, None}
use Rattle.std.specs.Prelude.{if◌then◌else◌}
use Rattle.std.specs.List.{list_all, prefix_len}
use Rattle.std.specs.Option.{option_map}
use Rattle.std.proofs.lemmas.Bool.{and_parts, false≢true}
use Rattle.std.proofs.lemmas.Bool.Decides.{nat_tests}
use Rattle.std.proofs.lemmas.List.Sums.{fold-append}
use Rattle.rhythm_base.specs.declared.span.Span.{Span}
use Rattle.text_words.specs.Steps.{◌>>=◌}
use Rattle.text_words.proofs.TextRuns.{run_dropped, run_taken}
use Rattle.score_words.proofs.SetKeys.{KeysRise}
use Rattle.lily_writer.specs.Hearing.{HeardVoice, Side, at_brace, hear, outside, span_with, with_span, within, hear_chord, hear_on_side, hear_word, hear_words, is_empty, key_set, heard_rise}
use Rattle.lily_writer.specs.Pitches.{lily_pitch}
use Rattle.lily_writer.specs.Words.{WordEnding, Word, after_front, word_ending, first_key, front, is_letter, is_lily_pitch_byte, word_key, last_key, middle_key, pitched_word, single_key, word_of, word_of_key}
use Rattle.lily_laws.proofs.ElementWords.{first_words, later_words, pitch_bytes}
use Rattle.lily_laws.proofs.Pitches.{is_pitch, pitch_is, pitch_read}
use Rattle.lily_laws.proofs.ValueTexts.{begins_value}

-- ---- words that begin with a pitch

pitched : (p rest : List ℕ) (k : ℕ) → list_all is_lily_pitch_byte p ≡ true → word_key p ≡ Some k → prefix_len is_lily_pitch_byte rest ≡ 0
    → pitched_word (p ++ rest) ≡ word_of_key k rest
unfolding pitched_word
pitched p rest k bytes is ends =
    let first : front is_lily_pitch_byte (p ++ rest) ≡ p = run_taken is_lily_pitch_byte p rest bytes ends in
    let second : after_front is_lily_pitch_byte (p ++ rest) ≡ rest = run_dropped is_lily_pitch_byte p rest bytes ends in
    rw (first, is, second) refl

by_letter : (b : ℕ) (bs : List ℕ) → is_letter b ≡ true → not (b == 114) ≡ true → word_of (b ∷ bs) ≡ pitched_word (b ∷ bs)
unfolding word_of
by_letter b bs letter other =
    let no_slash : (b == 92) ≡ false = grind (arith, nat_tests) in
    let no_opening : (b == 123) ≡ false = grind (arith, nat_tests) in
    let no_closing : (b == 125) ≡ false = grind (arith, nat_tests) in
    let no_rest : (b == 114) ≡ false = grind (arith, nat_tests) in
    let no_angle : (b == 60) ≡ false = grind (arith, nat_tests) in
    rw (no_slash, no_opening, no_closing, no_rest, no_angle) refl

by_pitch : (p rest : List ℕ) → is_pitch p ≡ true → word_of (p ++ rest) ≡ pitched_word (p ++ rest)
by_pitch [] rest h = absurd (false≢true h)
by_pitch (b ∷ bs) rest h =
    let parts = and_parts (is_letter b && not (b == 114)) (list_all is_lily_pitch_byte (b ∷ bs)) h in
    let first = and_parts (is_letter b) (not (b == 114)) parts.0 in
    by_letter b (bs ++ rest) first.0 first.1

pitch_word : (flats : Bool) (k : ℕ) (rest : List ℕ) → k < 128 → prefix_len is_lily_pitch_byte rest ≡ 0
    → word_of (lily_pitch flats k ++ rest) ≡ word_of_key k rest
pitch_word flats k rest few ends =
    let is = pitch_is flats k few in
    by_pitch (lily_pitch flats k) rest is ∙ pitched (lily_pitch flats k) rest k (pitch_bytes (lily_pitch flats k) is) (pitch_read flats k few) ends

-- ---- the words of a chord

pub value_ends : (text : List ℕ) → begins_value text ≡ true → prefix_len is_lily_pitch_byte text ≡ 0
value_ends [] h = refl
value_ends (b ∷ bs) h = let other : is_lily_pitch_byte b ≡ false = grind (arith, nat_tests) in rw other refl

value_follows : (k : ℕ) (text : List ℕ) → begins_value text ≡ true → word_of_key k text ≡ option_map (λ e. single_key k e) (word_ending text)
value_follows k [] h = absurd (false≢true h)
value_follows k (b ∷ bs) h = let other : (b == 62) ≡ false = grind (arith, nat_tests) in rw other refl

single_word : (flats : Bool) (k : ℕ) (text : List ℕ) (e : WordEnding) → k < 128 → begins_value text ≡ true → word_ending text ≡ Some e
    → word_of (lily_pitch flats k ++ text) ≡ Some (single_key k e)
single_word flats k text e few begins is =
    pitch_word flats k text few (value_ends text begins) ∙ value_follows k text begins ∙ ap (option_map (λ e. single_key k e)) is

last_word : (flats : Bool) (k : ℕ) (text : List ℕ) (e : WordEnding) → k < 128 → word_ending text ≡ Some e
    → word_of (lily_pitch flats k ++ 62 ∷ text) ≡ Some (last_key k e)
last_word flats k text e few is = pitch_word flats k (62 ∷ text) few refl ∙ ap (option_map (λ e. last_key k e)) is

middle_word : (flats : Bool) (k : ℕ) → k < 128 → word_of (lily_pitch flats k) ≡ Some (middle_key k)
middle_word flats k few = ap word_of (sym (append-nil (lily_pitch flats k))) ∙ pitch_word flats k [] few refl

first_word : (flats : Bool) (k : ℕ) → k < 128 → word_of (60 ∷ lily_pitch flats k) ≡ Some (first_key k)
unfolding word_of
first_word flats k few = ap (option_map (λ key. first_key key)) (pitch_read flats k few)

-- ---- words are heard one after another

pub hear_next : (h next : HeardVoice) (text : List ℕ) (w : Word) (more : List (List ℕ)) → word_of text ≡ Some w → hear h w ≡ Some next
    → hear_words h (text ∷ more) ≡ hear_words next more
hear_next h next text w more is heard = ap (λ o. fold hear_word o more) (ap (λ o. o >>= λ w. hear h w) is ∙ heard)

pub hear_last : (h : HeardVoice) (text : List ℕ) (w : Word) → word_of text ≡ Some w → hear_words h (text ∷ []) ≡ hear h w
hear_last h text w is = ap (λ o. o >>= λ w. hear h w) is

pub hear_more : (h next : HeardVoice) (ws more : List (List ℕ)) → hear_words h ws ≡ Some next → hear_words h (ws ++ more) ≡ hear_words next more
hear_more h next ws more heard = fold-append hear_word (Some h) ws more ∙ ap (λ o. fold hear_word o more) heard

-- with other keys since an opening angle
abbrev with_keys : HeardVoice → List ℕ → HeardVoice
with_keys h keys = record h { keys = keys }

-- what is heard of a chord does not depend on them
keys_gone : (h : HeardVoice) (xs ks : List ℕ) (e : WordEnding) → hear_chord (with_keys h xs) ks e ≡ hear_chord h ks e
keys_gone h xs ks e = ap (λ o. if heard_rise ks then o else None) (on_side h.side)
  where
    tied : (x : Span) → with_span (with_keys h xs) e x ≡ with_span h e x
    tied x = go e.tied
      where
        go : (b : Bool) → with_span (with_keys h xs) (record e { tied = b }) x ≡ with_span h (record e { tied = b }) x
        go true = refl
        go false = refl

    found : (o : Option Span) → (o >>= λ x. Some (with_span (with_keys h xs) e x)) ≡ (o >>= λ x. Some (with_span h e x))
    found None = refl
    found (Some x) = ap Some (tied x)

    begun : (o : Option Span) → span_with (with_keys h xs) o (key_set ks) e ≡ span_with h o (key_set ks) e
    begun None = refl
    begun (Some x) = refl

    on_side : (side : Side) → hear_on_side side (with_keys h xs) (key_set ks) e ≡ hear_on_side side h (key_set ks) e
    on_side outside = found (span_with (with_keys h xs) h.going (key_set ks) e)
        ∙ ap (λ o. o >>= λ x. Some (with_span h e x)) (begun h.going)
    on_side at_brace = refl
    on_side within = refl

is_some : (k : ℕ) (ks : List ℕ) → is_empty (ks ++ k ∷ []) ≡ false
is_some k [] = refl
is_some k (j ∷ ks) = refl

hear_middle : (h : HeardVoice) (seen : List ℕ) (k : ℕ) → is_empty seen ≡ false
    → hear (with_keys h seen) (middle_key k) ≡ Some (with_keys h (seen ++ k ∷ []))
unfolding hear
hear_middle h seen k some = rw some refl

hear_end : (h : HeardVoice) (seen : List ℕ) (k : ℕ) (e : WordEnding) → is_empty seen ≡ false
    → hear (with_keys h seen) (last_key k e) ≡ hear_chord h (seen ++ k ∷ []) e
unfolding hear
hear_end h seen k e some = rw some (keys_gone h seen (seen ++ k ∷ []) e)

later_heard : (flats : Bool) (h : HeardVoice) (seen : List ℕ) (low k : ℕ) (ks : List ℕ) (text : List ℕ) (e : WordEnding) → is_empty seen ≡ false
    → KeysRise low (k ∷ ks) → word_ending text ≡ Some e
    → hear_words (with_keys h seen) (later_words (lily_pitch flats k) (map (lily_pitch flats) ks) text) ≡ hear_chord h (seen ++ k ∷ ks) e
later_heard flats h seen low k [] text e some (above, few, up) is =
    hear_last (with_keys h seen) (lily_pitch flats k ++ 62 ∷ text) (last_key k e) (last_word flats k text e few is) ∙ hear_end h seen k e some
later_heard flats h seen low k (j ∷ ks) text e some (above, few, up) is =
    hear_next (with_keys h seen) (with_keys h (seen ++ k ∷ [])) (lily_pitch flats k) (middle_key k)
    (later_words (lily_pitch flats j) (map (lily_pitch flats) ks) text)
    (middle_word flats k few) (hear_middle h seen k some)
    ∙ later_heard flats h (seen ++ k ∷ []) (suc k) j ks text e (is_some k seen) up is
    ∙ ap (λ keys. hear_chord h keys e) (append_assoc seen (k ∷ []) (j ∷ ks))

hear_first : (h : HeardVoice) (k : ℕ) → is_empty h.keys ≡ true → hear h (first_key k) ≡ Some (with_keys h (k ∷ []))
unfolding hear
hear_first h k none = rw none refl

hear_single : (h : HeardVoice) (k : ℕ) (e : WordEnding) → is_empty h.keys ≡ true → hear h (single_key k e) ≡ hear_chord h (k ∷ []) e
unfolding hear
hear_single h k e none = rw none refl

pub pitches_heard : (flats : Bool) (h : HeardVoice) (k : ℕ) (ks : List ℕ) (text : List ℕ) (e : WordEnding) → is_empty h.keys ≡ true
    → KeysRise 0 (k ∷ ks) → begins_value text ≡ true → word_ending text ≡ Some e
    → hear_words h (first_words (lily_pitch flats k) (map (lily_pitch flats) ks) text) ≡ hear_chord h (k ∷ ks) e
pitches_heard flats h k [] text e none (above, few, up) begins is =
    hear_last h (lily_pitch flats k ++ text) (single_key k e) (single_word flats k text e few begins is) ∙ hear_single h k e none
pitches_heard flats h k (j ∷ ks) text e none (above, few, up) begins is =
    hear_next h (with_keys h (k ∷ [])) (60 ∷ lily_pitch flats k) (first_key k) (later_words (lily_pitch flats j) (map (lily_pitch flats) ks) text)
    (first_word flats k few) (hear_first h k none)
    ∙ later_heard flats h (k ∷ []) (suc k) j ks text e refl up is
