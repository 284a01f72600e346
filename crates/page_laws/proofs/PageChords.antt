-- The words of a chord are heard as its keys with what stands after them.
use Rattle.std.proofs.Common.{◌≡◌, ℕ, suc, ◌<◌, ◌==◌, ◌&&◌, true, false, List, [], ◌∷◌, ◌++◌, map, refl, sym, ap, ◌∙◌, subst, arith, append_assoc, append-nil, Option, Some, None}
use Rattle.std.specs.Prelude.{ℤ, IfSome, if◌then◌else◌, nat_le}
use Rattle.std.specs.Char.{is_ascii_digit}
use Rattle.std.specs.List.{list_all, prefix_len}
use Rattle.std.specs.Option.{option_map}
use Rattle.std.proofs.lemmas.Bool.{and_parts, false≢true}
use Rattle.std.proofs.lemmas.Bool.Decides.{nat_tests}
use Rattle.derivation.specs.Score.{IsKeySignature}
use Rattle.derivation.specs.WellSounded.{AreKeys}
use Rattle.score_words.specs.Keys.{rising_keys}
use Rattle.score_words.proofs.SetKeys.{KeysRise, keys_rise}
use Rattle.text_words.specs.Steps.{◌>>=◌}
use Rattle.text_words.proofs.TextRuns.{run_dropped, run_taken}
use Rattle.lily_writer.specs.Hearing.{heard_rise, key_set}
use Rattle.lily_writer.specs.Words.{WordEnding, after_front, front, is_lily_pitch_byte}
use Rattle.lily_laws.proofs.ElementWords.{first_words, later_words, pitch_words, some_key}
use Rattle.lily_laws.proofs.KeySums.{keys_sum, keys_up}
use Rattle.lily_laws.proofs.ValueTexts.{begins_value}
use Rattle.notation.specs.Notes.{is_empty}
use Rattle.page_writer.specs.Pitches.{page_pitch}
use Rattle.page_laws.specs.Hearing.{HeardStaff, PageSide, among_graces, among_notes, at_bracket, at_graces, at_ratio, hear_page_chord, hear_keys, hear_page_word}
use Rattle.page_laws.specs.Reading.{hear_page_words}
use Rattle.page_laws.specs.Words.{PageWord, first_key, last_key, middle_key, page_ending, page_key, page_word, page_pitched_word, single_key, page_word_of_key}
use Rattle.page_laws.proofs.PagePitches.{is_page_pitch, pitch_is, pitch_read}
use Rattle.lily_laws.proofs.ChordsHeard.{value_ends}

-- ---- words are heard one after another

pub hear_one : (h next : HeardStaff) (text : List ℕ) (w : PageWord) (more : List (List ℕ)) → page_word text ≡ Some w → hear_page_word h w
    ≡ Some next
    → hear_page_words h (text ∷ more) ≡ hear_page_words next more
hear_one h next text w more is heard =
    ap (λ o. o >>= λ w. hear_page_word h w >>= λ next. hear_page_words next more) is
    ∙ ap (λ o. o >>= λ next. hear_page_words next more) heard

pub hear_more : (h next : HeardStaff) (ws more : List (List ℕ)) → hear_page_words h ws ≡ Some next
    → hear_page_words h (ws ++ more) ≡ hear_page_words next more
hear_more h next [] more heard = ap (λ o. o >>= λ h. hear_page_words h more) heard
hear_more h next (w ∷ ws) more heard = word (page_word w) heard (λ n e. hear_more n next ws more e)
  where
    Rest : Type 0
    Rest = (n : HeardStaff) → hear_page_words n ws ≡ Some next → hear_page_words n (ws ++ more) ≡ hear_page_words next more

    further : (o : Option HeardStaff) → (o >>= λ n. hear_page_words n ws) ≡ Some next → Rest
        → (o >>= λ n. hear_page_words n (ws ++ more)) ≡ hear_page_words next more
    further None e rest = absurd (cc)
    further (Some n) e rest = rest n e

    word : (o : Option PageWord) → (o >>= λ w. hear_page_word h w >>= λ n. hear_page_words n ws) ≡ Some next → Rest
        → (o >>= λ w. hear_page_word h w >>= λ n. hear_page_words n (ws ++ more)) ≡ hear_page_words next more
    word None e rest = absurd (cc)
    word (Some w) e rest = further (hear_page_word h w) e rest

some_next : {X : Type 0} (o : Option X) → (o >>= λ x. Some x) ≡ o
some_next None = refl
some_next (Some x) = refl

pub hear_last : (h : HeardStaff) (text : List ℕ) (w : PageWord) → page_word text ≡ Some w → hear_page_words h (text ∷ [])
    ≡ hear_page_word h w
hear_last h text w is = ap (λ o. o >>= λ w. hear_page_word h w >>= λ next. hear_page_words next []) is ∙ some_next (hear_page_word h w)

-- ---- words that begin with a pitch

pub pitch_bytes : (p : List ℕ) → is_page_pitch p ≡ true → list_all is_lily_pitch_byte p ≡ true
pitch_bytes [] h = refl
pitch_bytes (b ∷ bs) h = (and_parts (nat_le 97 b && nat_le b 103) (list_all is_lily_pitch_byte (b ∷ bs)) h).1

pitched : (p rest : List ℕ) (k : ℕ) → list_all is_lily_pitch_byte p ≡ true → page_key p ≡ Some k → prefix_len is_lily_pitch_byte rest ≡ 0
    → page_pitched_word (p ++ rest) ≡ page_word_of_key k rest
unfolding page_pitched_word
pitched p rest k bytes is ends =
    let first : front is_lily_pitch_byte (p ++ rest) ≡ p = run_taken is_lily_pitch_byte p rest bytes ends in
    let second : after_front is_lily_pitch_byte (p ++ rest) ≡ rest = run_dropped is_lily_pitch_byte p rest bytes ends in
    rw (first, is, second) refl

by_letter : (b : ℕ) (bs : List ℕ) → (nat_le 97 b && nat_le b 103) ≡ true → page_word (b ∷ bs) ≡ page_pitched_word (b ∷ bs)
unfolding page_word
by_letter b bs letter =
    let no_slash : (b == 92) ≡ false = grind (arith, nat_tests, letter) in
    let no_opening : (b == 123) ≡ false = grind (arith, nat_tests, letter) in
    let no_closing : (b == 125) ≡ false = grind (arith, nat_tests, letter) in
    let no_silent : (b == 115) ≡ false = grind (arith, nat_tests, letter) in
    let no_bar : (82 == b) ≡ false = grind (arith, nat_tests, letter) in
    let no_rest : (b == 114) ≡ false = grind (arith, nat_tests, letter) in
    let no_angle : (b == 60) ≡ false = grind (arith, nat_tests, letter) in
    let no_digit : is_ascii_digit b ≡ false = grind (arith, nat_tests, letter) in
    rw (no_slash, no_opening, no_closing, no_silent, no_bar, no_rest, no_angle, no_digit) refl

by_pitch : (p rest : List ℕ) → is_page_pitch p ≡ true → page_word (p ++ rest) ≡ page_pitched_word (p ++ rest)
by_pitch [] rest h = absurd (false≢true h)
by_pitch (b ∷ bs) rest h = by_letter b (bs ++ rest) (and_parts (nat_le 97 b && nat_le b 103) (list_all is_lily_pitch_byte (b ∷ bs)) h).0

pitch_word : (sf : Option ℤ) (k : ℕ) (rest : List ℕ) → IfSome sf IsKeySignature → k < 128 → prefix_len is_lily_pitch_byte rest ≡ 0
    → page_word (page_pitch sf k ++ rest) ≡ page_word_of_key k rest
pitch_word sf k rest key few ends =
    let is = pitch_is sf k key few in
    by_pitch (page_pitch sf k) rest is ∙ pitched (page_pitch sf k) rest k (pitch_bytes (page_pitch sf k) is) (pitch_read sf k key few) ends

-- ---- the words of a chord

value_follows : (k : ℕ) (text : List ℕ) → begins_value text ≡ true → page_word_of_key k text
    ≡ option_map (λ e. single_key k e) (page_ending text)
value_follows k [] h = absurd (false≢true h)
value_follows k (b ∷ bs) h = let other : (b == 62) ≡ false = grind (arith, nat_tests) in rw other refl

module _ (sf : Option ℤ) (key : IfSome sf IsKeySignature) where
  single_word : (k : ℕ) (text : List ℕ) (e : WordEnding) → k < 128 → begins_value text ≡ true → page_ending text ≡ Some e
      → page_word (page_pitch sf k ++ text) ≡ Some (single_key k e)
  single_word k text e few begins is =
      pitch_word sf k text key few (value_ends text begins) ∙ value_follows k text begins ∙ ap (option_map (λ e. single_key k e)) is

  last_word : (k : ℕ) (text : List ℕ) (e : WordEnding) → k < 128 → page_ending text ≡ Some e
      → page_word (page_pitch sf k ++ 62 ∷ text) ≡ Some (last_key k e)
  last_word k text e few is = pitch_word sf k (62 ∷ text) key few refl ∙ ap (option_map (λ e. last_key k e)) is

  middle_word : (k : ℕ) → k < 128 → page_word (page_pitch sf k) ≡ Some (middle_key k)
  middle_word k few = ap page_word (sym (append-nil (page_pitch sf k))) ∙ pitch_word sf k [] key few refl

  first_word : (k : ℕ) → k < 128 → page_word (60 ∷ page_pitch sf k) ≡ Some (first_key k)
  unfolding page_word
  first_word k few = ap (option_map (λ key. first_key key)) (pitch_read sf k key few)

  -- with other keys since an opening angle
  abbrev with_keys : HeardStaff → List ℕ → HeardStaff
  with_keys h keys = record h { keys = keys }

  -- what is heard of a chord does not depend on them
  keys_gone : (h : HeardStaff) (xs ks : List ℕ) (e : WordEnding) → hear_page_chord (with_keys h xs) ks e ≡ hear_page_chord h ks e
  keys_gone h xs ks e = ap (λ o. if heard_rise ks then o else None) (on_side h.side)
    where
      on_side : (side : PageSide) → hear_keys side (with_keys h xs) (key_set ks) e ≡ hear_keys side h (key_set ks) e
      on_side among_notes = refl
      on_side at_ratio = refl
      on_side (at_bracket ratio) = refl
      on_side at_graces = refl
      on_side among_graces = refl

  is_some : (k : ℕ) (ks : List ℕ) → is_empty (ks ++ k ∷ []) ≡ false
  is_some k [] = refl
  is_some k (j ∷ ks) = refl

  hear_middle : (h : HeardStaff) (seen : List ℕ) (k : ℕ) → is_empty seen ≡ false
      → hear_page_word (with_keys h seen) (middle_key k) ≡ Some (with_keys h (seen ++ k ∷ []))
  unfolding hear_page_word
  hear_middle h seen k some = rw some refl

  hear_end : (h : HeardStaff) (seen : List ℕ) (k : ℕ) (e : WordEnding) → is_empty seen ≡ false
      → hear_page_word (with_keys h seen) (last_key k e) ≡ hear_page_chord h (seen ++ k ∷ []) e
  unfolding hear_page_word
  hear_end h seen k e some = rw some (keys_gone h seen (seen ++ k ∷ []) e)

  later_heard : (h : HeardStaff) (seen : List ℕ) (low k : ℕ) (ks : List ℕ) (text : List ℕ) (e : WordEnding) → is_empty seen ≡ false
      → KeysRise low (k ∷ ks) → page_ending text ≡ Some e
      → hear_page_words (with_keys h seen) (later_words (page_pitch sf k) (map (page_pitch sf) ks) text) ≡ hear_page_chord h (seen ++ k ∷ ks) e
  later_heard h seen low k [] text e some (above, few, up) is =
      hear_last (with_keys h seen) (page_pitch sf k ++ 62 ∷ text) (last_key k e) (last_word k text e few is) ∙ hear_end h seen k e some
  later_heard h seen low k (j ∷ ks) text e some (above, few, up) is =
      hear_one (with_keys h seen) (with_keys h (seen ++ k ∷ [])) (page_pitch sf k) (middle_key k)
      (later_words (page_pitch sf j) (map (page_pitch sf) ks) text)
      (middle_word k few) (hear_middle h seen k some)
      ∙ later_heard h (seen ++ k ∷ []) (suc k) j ks text e (is_some k seen) up is
      ∙ ap (λ keys. hear_page_chord h keys e) (append_assoc seen (k ∷ []) (j ∷ ks))

  hear_first : (h : HeardStaff) (k : ℕ) → is_empty h.keys ≡ true → hear_page_word h (first_key k) ≡ Some (with_keys h (k ∷ []))
  unfolding hear_page_word
  hear_first h k none = rw none refl

  hear_single : (h : HeardStaff) (k : ℕ) (e : WordEnding) → is_empty h.keys ≡ true → hear_page_word h (single_key k e)
      ≡ hear_page_chord h (k ∷ []) e
  unfolding hear_page_word
  hear_single h k e none = rw none refl

  pitches_heard : (h : HeardStaff) (k : ℕ) (ks : List ℕ) (text : List ℕ) (e : WordEnding) → is_empty h.keys ≡ true
      → KeysRise 0 (k ∷ ks) → begins_value text ≡ true → page_ending text ≡ Some e
      → hear_page_words h (first_words (page_pitch sf k) (map (page_pitch sf) ks) text) ≡ hear_page_chord h (k ∷ ks) e
  pitches_heard h k [] text e none (above, few, up) begins is =
      hear_last h (page_pitch sf k ++ text) (single_key k e) (single_word k text e few begins is) ∙ hear_single h k e none
  pitches_heard h k (j ∷ ks) text e none (above, few, up) begins is =
      hear_one h (with_keys h (k ∷ [])) (60 ∷ page_pitch sf k) (first_key k) (later_words (page_pitch sf j) (map (page_pitch sf) ks) text)
      (first_word k few) (hear_first h k none)
      ∙ later_heard h (k ∷ []) (suc k) j ks text e refl up is

-- the words of a chord with what stands after its pitches
abbrev pub page_chord_words : Option ℤ → ℕ → List ℕ → List (List ℕ)
page_chord_words sf keys ending = pitch_words (map (page_pitch sf) (rising_keys keys)) ending

pub chord_heard : (sf : Option ℤ) (h : HeardStaff) (keys : ℕ) (text : List ℕ) (e : WordEnding) → IfSome sf IsKeySignature
    → is_empty h.keys ≡ true
    → AreKeys keys → begins_value text ≡ true → page_ending text ≡ Some e
    → hear_page_words h (page_chord_words sf keys text) ≡ hear_keys h.side h keys e
chord_heard sf h keys text e key none are begins is = go (some_key keys are)
  where
    go : (k : ℕ) × (ks : List ℕ) × (rising_keys keys ≡ k ∷ ks) → hear_page_words h (page_chord_words sf keys text)
        ≡ hear_keys h.side h keys e
    go (k, ks, all) =
        let up : heard_rise (rising_keys keys) ≡ true = keys_up 0 (rising_keys keys) (keys_rise keys) in
        let set : key_set (rising_keys keys) ≡ keys = keys_sum keys are.1 in
        ap (λ list. hear_page_words h (pitch_words (map (page_pitch sf) list) text)) all
        ∙ pitches_heard sf key h k ks text e none (subst (KeysRise 0) all (keys_rise keys)) begins is
        ∙ ap (λ list. hear_page_chord h list e) (sym all)
        ∙ ap (λ b. if b then hear_keys h.side h (key_set (rising_keys keys)) e else None) up ∙ ap (λ n. hear_keys h.side h n e) set
