-- The words of a bar: what stands between its spaces.
use Rattle.std.proofs.Common.{◌≡◌, ℕ, suc, ◌<◌, ◌==◌, ◌||◌, Bool, true, false, List, [], ◌∷◌, ◌++◌, map, replicate, refl, sym, ap, ap₂, ◌∙◌, arith, append_assoc, append-nil, Option}
use Rattle.std.specs.Prelude.{ℤ, All, IfSome, codes, decimal, if◌then◌else◌, nat_lt}
use Rattle.std.specs.Char.{is_ascii_digit}
use Rattle.std.specs.List.{flat_map, list_all}
use Rattle.std.proofs.lemmas.Bool.{and_from}
use Rattle.std.proofs.lemmas.Bool.Decides.{nat_tests}
use Rattle.std.proofs.lemmas.List.Elements.{All-head, All-tail}
use Rattle.derivation.specs.declared.score.ScoreBar.{ScoreBar}
use Rattle.derivation.specs.Score.{IsKeySignature, IsScoreBar}
use Rattle.derivation.specs.WellSounded.{AreKeys}
use Rattle.score_words.specs.Keys.{rising_keys}
use Rattle.score_words.proofs.SetKeys.{KeysRise, keys_rise}
use Rattle.text_words.proofs.TextTests.{all_alike, all_append, all_weaker, decimal_digits, digit_graphic, is_graphic}
use Rattle.lily_writer.specs.Pitches as lily
use Rattle.lily_writer.specs.Words.{is_lily_pitch_byte}
use Rattle.lily_laws.proofs.ElementWords.{later_words, pitch_byte_graphic, pitch_words, pitches_spaced, some_key, spaced}
use Rattle.notation.specs.declared.note.Ratio.{Ratio}
use Rattle.notation.specs.Notes.{Group, Note, is_empty}
use Rattle.notation_laws.specs.Written.{IsWrittenGroup, IsWrittenNote}
use Rattle.page_writer.specs.Bars.{bar_words, first_graces, rest_word, sounding_words}
use Rattle.page_writer.specs.Groups.{bracket_word, chord_word, grace_text, graces_word, group_words, groups_words, note_word, note_words, notes_words, own_graces, short_text, silent_graces_text, tie_text}
use Rattle.page_writer.specs.Pitches.{page_chord, page_pitch, pitches_text}
use Rattle.page_writer.specs.Values.{page_value}
use Rattle.page_writer.specs.Words.{words_text}
use Rattle.page_writer.proofs.Lines.{words_append}
use Rattle.page_laws.proofs.PageChords.{page_chord_words, pitch_bytes}
use Rattle.page_laws.proofs.PagePitches.{pitch_is}
use Rattle.page_laws.proofs.PageValues.{ending_graphic, ending_text, marks}

-- ---- chords

same_pitches : (p : List ℕ) (ps : List (List ℕ)) → pitches_text (p ∷ ps) ≡ lily.pitches_text (p ∷ ps)
same_pitches p [] = refl
same_pitches p (q ∷ ps) = refl

chord_spaced : (sf : Option ℤ) (keys : ℕ) (ending : List ℕ) → AreKeys keys
    → page_chord sf keys ++ ending ++ 32 ∷ [] ≡ spaced (page_chord_words sf keys ending)
chord_spaced sf keys ending is =
    let (k, ks, all) = some_key keys is in
    ap (λ list. pitches_text (map (page_pitch sf) list) ++ ending ++ 32 ∷ []) all
    ∙ ap (λ text. text ++ ending ++ 32 ∷ []) (same_pitches (page_pitch sf k) (map (page_pitch sf) ks))
    ∙ pitches_spaced (page_pitch sf k) (map (page_pitch sf) ks) ending
    ∙ sym (ap (λ list. spaced (pitch_words (map (page_pitch sf) list) ending)) all)

-- ---- grace chords

abbrev pub grace_chords : Option ℤ → List ℕ → List (List ℕ)
grace_chords sf graces = flat_map (λ keys. page_chord_words sf keys (codes "8")) graces

-- those within the braces
abbrev pub braced : Option ℤ → ℕ → List ℕ → List (List ℕ)
braced sf silent graces = replicate silent (codes "s8") ++ (grace_chords sf graces ++ codes "}" ∷ [])

abbrev pub graces_list : Option ℤ → ℕ → List ℕ → List (List ℕ)
graces_list sf silent graces = codes "\\slashedGrace" ∷ codes "{" ∷ braced sf silent graces

chords_spaced : (sf : Option ℤ) (graces : List ℕ) → All AreKeys graces → words_text (map (grace_text sf) graces)
    ≡ spaced (grace_chords sf graces)
chords_spaced sf [] are = refl
chords_spaced sf (keys ∷ graces) are =
    ap₂ ◌++◌ (chord_spaced sf keys (codes "8") (All-head AreKeys keys graces are))
    (chords_spaced sf graces (All-tail AreKeys keys graces are))
    ∙ sym (words_append (page_chord_words sf keys (codes "8")) (grace_chords sf graces))

graces_spaced : (sf : Option ℤ) (silent : ℕ) (graces : List ℕ) → All AreKeys graces
    → graces_word sf silent graces ++ 32 ∷ [] ≡ spaced (graces_list sf silent graces)
graces_spaced sf silent graces are =
    let opening : List ℕ = codes "\\slashedGrace { " in
    let closing : List ℕ = codes "}" in
    let silence = silent_graces_text silent in
    let chords = spaced (grace_chords sf graces) in
    ap (λ text. opening ++ silence ++ text ++ closing ++ 32 ∷ []) (chords_spaced sf graces are)
    ∙ append_assoc (opening ++ silence ++ chords) closing (32 ∷ [])
    ∙ append_assoc (opening ++ silence) chords (closing ++ 32 ∷ [])
    ∙ append_assoc opening silence (chords ++ (closing ++ 32 ∷ []))
    ∙ ap (λ text. opening ++ (silence ++ text)) (sym (words_append (grace_chords sf graces) (closing ∷ [])))
    ∙ ap (λ text. opening ++ text) (sym (words_append (replicate silent (codes "s8")) (grace_chords sf graces ++ closing ∷ [])))

-- ---- notes

abbrev pub note_list : Option ℤ → Note → List (List ℕ)
note_list sf n =
    if n.keys == 0 then (114 ∷ ending_text n.value false false) ∷ [] else page_chord_words sf n.keys (ending_text n.value n.short n.goes)

abbrev pub own_list : Option ℤ → Bool → Note → List (List ℕ)
own_list sf written n = if written || is_empty n.graces then [] else graces_list sf 0 n.graces

abbrev pub notes_list : Option ℤ → Bool → List Note → List (List ℕ)
notes_list sf written [] = []
notes_list sf written (n ∷ notes) = own_list sf written n ++ (note_list sf n ++ notes_list sf false notes)

module _ (resolution : ℕ) (sf : Option ℤ) (key : IfSome sf IsKeySignature) where
  note_spaced : (ratio : Ratio) (n : Note) → IsWrittenNote resolution ratio n → note_word sf n ++ 32 ∷ [] ≡ spaced (note_list sf n)
  note_spaced ratio n is = go (n.keys == 0) refl
    where
      rest : codes "r" ++ page_value n.value ++ 32 ∷ [] ≡ spaced ((114 ∷ ending_text n.value false false) ∷ [])
      rest =
          ap (λ xs. 114 ∷ (xs ++ 32 ∷ [])) (sym (append-nil (page_value n.value)))
          ∙ sym (append-nil (114 ∷ (ending_text n.value false false ++ 32 ∷ [])))

      chord : (n.keys == 0) ≡ false → chord_word sf n ++ 32 ∷ [] ≡ spaced (page_chord_words sf n.keys (ending_text n.value n.short n.goes))
      chord sounds =
          ap (λ xs. xs ++ 32 ∷ [])
          (append_assoc (page_chord sf n.keys ++ page_value n.value) (short_text n.short) (tie_text n.goes)
          ∙ append_assoc (page_chord sf n.keys) (page_value n.value) (marks n.short n.goes))
          ∙ chord_spaced sf n.keys (ending_text n.value n.short n.goes) (is.keys sounds)

      go : (b : Bool) → (n.keys == 0) ≡ b → (if b then codes "r" ++ page_value n.value else chord_word sf n) ++ 32 ∷ []
          ≡ spaced (if b then (114 ∷ ending_text n.value false false) ∷ [] else page_chord_words sf n.keys
          (ending_text n.value n.short n.goes))
      go true e = rest
      go false e = chord e

  own_spaced : (written : Bool) (n : Note) → All AreKeys n.graces → words_text (own_graces sf written n) ≡ spaced (own_list sf written n)
  own_spaced written n are = go (written || is_empty n.graces)
    where
      go : (b : Bool) → words_text (if b then [] else graces_word sf 0 n.graces ∷ []) ≡ spaced (if b then [] else graces_list sf 0 n.graces)
      go true = refl
      go false = append-nil (graces_word sf 0 n.graces ++ 32 ∷ []) ∙ graces_spaced sf 0 n.graces are

  notes_spaced : (ratio : Ratio) (written : Bool) (notes : List Note) → All (IsWrittenNote resolution ratio) notes
      → words_text (notes_words sf written notes) ≡ spaced (notes_list sf written notes)
  notes_spaced ratio written [] all = refl
  notes_spaced ratio written (n ∷ notes) all =
      let is = All-head (IsWrittenNote resolution ratio) n notes all in
      let rest = notes_spaced ratio false notes (All-tail (IsWrittenNote resolution ratio) n notes all) in
      words_append (note_words sf written n) (notes_words sf false notes)
      ∙ ap (λ text. text ++ words_text (notes_words sf false notes)) (words_append (own_graces sf written n) (note_word sf n ∷ []))
      ∙ ap₂ (λ a b. a ++ b)
      (ap₂ (λ a b. a ++ b) (own_spaced written n is.graces) (append-nil (note_word sf n ++ 32 ∷ []) ∙ note_spaced ratio n is)) rest
      ∙ append_assoc (spaced (own_list sf written n)) (spaced (note_list sf n)) (spaced (notes_list sf false notes))
      ∙ ap (λ text. spaced (own_list sf written n) ++ text) (sym (words_append (note_list sf n) (notes_list sf false notes)))
      ∙ sym (words_append (own_list sf written n) (note_list sf n ++ notes_list sf false notes))

-- ---- groups, and bars

abbrev pub ratio_text : Ratio → List ℕ
ratio_text r = decimal r.actual ++ 47 ∷ decimal r.normal

abbrev pub group_list : Option ℤ → Bool → Group → List (List ℕ)
group_list sf written g =
    if nat_lt 1 g.ratio.actual
    then codes "\\tuplet" ∷ ratio_text g.ratio ∷ codes "{" ∷ (notes_list sf written g.notes ++ codes "}" ∷ [])
    else notes_list sf written g.notes

abbrev pub groups_list : Option ℤ → Bool → List Group → List (List ℕ)
groups_list sf written [] = []
groups_list sf written (g ∷ groups) = group_list sf written g ++ groups_list sf false groups

abbrev pub sounding_list : ScoreBar → Bool → List Group → List (List ℕ)
sounding_list bar written [] = rest_word bar ∷ []
sounding_list bar written (g ∷ groups) = groups_list bar.sf written (g ∷ groups)

abbrev pub bar_list : ScoreBar → ℕ → List Group → List (List ℕ)
bar_list bar silent groups =
    if silent == 0 then sounding_list bar false groups
    else graces_list bar.sf silent (first_graces groups) ++ sounding_list bar true groups

module _ (resolution : ℕ) (sf : Option ℤ) (key : IfSome sf IsKeySignature) where
  group_spaced : (written : Bool) (g : Group) → IsWrittenGroup resolution g → words_text (group_words sf written g)
      ≡ spaced (group_list sf written g)
  group_spaced written g is = go (nat_lt 1 g.ratio.actual)
    where
      notes : words_text (notes_words sf written g.notes) ≡ spaced (notes_list sf written g.notes)
      notes = notes_spaced resolution sf key g.ratio written g.notes is.notes

      closing : List (List ℕ)
      closing = codes "}" ∷ []

      opening : bracket_word g.ratio ++ 32 ∷ [] ≡ spaced (codes "\\tuplet" ∷ ratio_text g.ratio ∷ codes "{" ∷ [])
      opening =
          let actual = decimal g.ratio.actual in
          let normal = decimal g.ratio.normal in
          let front : List ℕ = codes "\\tuplet " in
          let back : List ℕ = codes " { " in
          let text : front ++ actual ++ codes "/" ++ normal ++ back ≡ front ++ (ratio_text g.ratio ++ back) =
          append_assoc (front ++ actual ++ codes "/") normal back ∙ append_assoc (front ++ actual) (codes "/") (normal ++ back)
          ∙ append_assoc front actual (codes "/" ++ (normal ++ back))
          ∙ ap (λ xs. front ++ xs) (sym (append_assoc actual (codes "/" ++ normal) back)) in
          append_assoc (front ++ actual ++ codes "/" ++ normal) (codes " {") (32 ∷ []) ∙ text
          ∙ ap (λ xs. front ++ xs) (sym (append_assoc (ratio_text g.ratio) (32 ∷ []) (codes "{ ")))

      go : (b : Bool) → words_text
          (if b then bracket_word g.ratio ∷ (notes_words sf written g.notes ++ closing) else notes_words sf written g.notes)
          ≡ spaced (if b then codes "\\tuplet" ∷ ratio_text g.ratio ∷ codes "{" ∷
          (notes_list sf written g.notes ++ closing) else notes_list sf written g.notes)
      go false = notes
      go true =
          ap₂ (λ a b. a ++ b) opening (words_append (notes_words sf written g.notes) closing ∙ ap (λ text. text ++ words_text closing) notes
          ∙ sym (words_append (notes_list sf written g.notes) closing))
          ∙ sym (words_append (codes "\\tuplet" ∷ ratio_text g.ratio ∷ codes "{" ∷ []) (notes_list sf written g.notes ++ closing))

  groups_spaced : (written : Bool) (groups : List Group) → All (IsWrittenGroup resolution) groups
      → words_text (groups_words sf written groups) ≡ spaced (groups_list sf written groups)
  groups_spaced written [] all = refl
  groups_spaced written (g ∷ groups) all =
      words_append (group_words sf written g) (groups_words sf false groups)
      ∙ ap₂ (λ a b. a ++ b) (group_spaced written g (All-head (IsWrittenGroup resolution) g groups all))
      (groups_spaced false groups (All-tail (IsWrittenGroup resolution) g groups all))
      ∙ sym (words_append (group_list sf written g) (groups_list sf false groups))

-- the grace chords of the first note have keys
pub first_are : (resolution : ℕ) (groups : List Group) → All (IsWrittenGroup resolution) groups → All AreKeys (first_graces groups)
first_are resolution [] all = λ k d lt. absurd (omega arith)
first_are resolution (g ∷ groups) all = go g.notes (All-head (IsWrittenGroup resolution) g groups all).notes
  where
    go : (notes : List Note) → All (IsWrittenNote resolution g.ratio) notes
        → All AreKeys (first_graces (record { ratio = g.ratio; notes = notes } ∷ groups))
    go [] own = λ k d lt. absurd (omega arith)
    go (n ∷ notes) own = (All-head (IsWrittenNote resolution g.ratio) n notes own).graces

pub bar_spaced : (resolution : ℕ) (bar : ScoreBar) (silent : ℕ) (groups : List Group) → IsScoreBar bar
    → All (IsWrittenGroup resolution) groups
    → words_text (bar_words bar silent groups) ≡ spaced (bar_list bar silent groups)
bar_spaced resolution bar silent groups right all = go (silent == 0)
  where
    sounding : (written : Bool) (groups : List Group) → All (IsWrittenGroup resolution) groups
        → words_text (sounding_words bar written groups) ≡ spaced (sounding_list bar written groups)
    sounding written [] all = refl
    sounding written (g ∷ groups) all = groups_spaced resolution bar.sf right.key written (g ∷ groups) all

    go : (b : Bool) → words_text
        (if b then sounding_words bar false groups else graces_word bar.sf silent (first_graces groups) ∷ sounding_words bar true groups)
        ≡ spaced (if b then sounding_list bar false groups else graces_list bar.sf silent
        (first_graces groups) ++ sounding_list bar true groups)
    go true = sounding false groups all
    go false =
        ap₂ (λ a b. a ++ b) (graces_spaced bar.sf silent (first_graces groups) (first_are resolution groups all)) (sounding true groups all)
        ∙ sym (words_append (graces_list bar.sf silent (first_graces groups)) (sounding_list bar true groups))

-- ---- bytes of words are printed

abbrev pub are_graphic : List (List ℕ) → Bool
are_graphic ws = list_all (list_all is_graphic) ws

decimal_graphic : (n : ℕ) → list_all is_graphic (decimal n) ≡ true
decimal_graphic n = all_weaker is_ascii_digit is_graphic (decimal n) digit_graphic (decimal_digits n)

module _ (sf : Option ℤ) (key : IfSome sf IsKeySignature) where
  pitch_graphic : (k : ℕ) → k < 128 → list_all is_graphic (page_pitch sf k) ≡ true
  pitch_graphic k within =
      all_weaker is_lily_pitch_byte is_graphic (page_pitch sf k) pitch_byte_graphic
      (pitch_bytes (page_pitch sf k) (pitch_is sf k key within))

  later_graphic : (low k : ℕ) (ks : List ℕ) (ending : List ℕ) → KeysRise low (k ∷ ks) → list_all is_graphic ending ≡ true
      → are_graphic (later_words (page_pitch sf k) (map (page_pitch sf) ks) ending) ≡ true
  later_graphic low k [] ending (above, within, rise) all =
      and_from _ true (all_append is_graphic (page_pitch sf k) (62 ∷ ending) (pitch_graphic k within) all) refl
  later_graphic low k (j ∷ ks) ending (above, within, rise) all =
      and_from _ _ (pitch_graphic k within) (later_graphic (suc k) j ks ending rise all)

  chord_graphic : (ks : List ℕ) (ending : List ℕ) → KeysRise 0 ks → list_all is_graphic ending ≡ true
      → are_graphic (pitch_words (map (page_pitch sf) ks) ending) ≡ true
  chord_graphic [] ending rise all = refl
  chord_graphic (k ∷ []) ending (above, within, rise) all =
      and_from _ true (all_append is_graphic (page_pitch sf k) ending (pitch_graphic k within) all) refl
  chord_graphic (k ∷ j ∷ ks) ending (above, within, rise) all =
      and_from _ _ (pitch_graphic k within) (later_graphic (suc k) j ks ending rise all)

  chords_graphic : (graces : List ℕ) → are_graphic (grace_chords sf graces) ≡ true
  chords_graphic [] = refl
  chords_graphic (keys ∷ graces) =
      all_append (list_all is_graphic) (page_chord_words sf keys (codes "8")) (grace_chords sf graces)
      (chord_graphic (rising_keys keys) (codes "8") (keys_rise keys) refl) (chords_graphic graces)

  graces_graphic : (silent : ℕ) (graces : List ℕ) → are_graphic (graces_list sf silent graces) ≡ true
  graces_graphic silent graces =
      all_append (list_all is_graphic) (replicate silent (codes "s8")) (grace_chords sf graces ++ codes "}" ∷ [])
      (all_alike (list_all is_graphic) silent (codes "s8") refl)
      (all_append (list_all is_graphic) (grace_chords sf graces) (codes "}" ∷ []) (chords_graphic graces) refl)

  note_graphic : (resolution : ℕ) (ratio : Ratio) (n : Note) → IsWrittenNote resolution ratio n → are_graphic (note_list sf n) ≡ true
  note_graphic resolution ratio n is = go (n.keys == 0)
    where
      go : (b : Bool) → are_graphic
          (if b then (114 ∷ ending_text n.value false false) ∷ [] else page_chord_words sf n.keys (ending_text n.value n.short n.goes))
          ≡ true
      go true = and_from _ true (ending_graphic n.value false false is.value) refl
      go false = chord_graphic (rising_keys n.keys) (ending_text n.value n.short n.goes) (keys_rise n.keys)
          (ending_graphic n.value n.short n.goes is.value)

  own_graphic : (written : Bool) (n : Note) → are_graphic (own_list sf written n) ≡ true
  own_graphic written n = go (written || is_empty n.graces)
    where
      go : (b : Bool) → are_graphic (if b then [] else graces_list sf 0 n.graces) ≡ true
      go true = refl
      go false = graces_graphic 0 n.graces

  notes_graphic : (resolution : ℕ) (ratio : Ratio) (written : Bool) (notes : List Note) → All (IsWrittenNote resolution ratio) notes
      → are_graphic (notes_list sf written notes) ≡ true
  notes_graphic resolution ratio written [] all = refl
  notes_graphic resolution ratio written (n ∷ notes) all =
      all_append (list_all is_graphic) (own_list sf written n) (note_list sf n ++ notes_list sf false notes) (own_graphic written n)
      (all_append (list_all is_graphic) (note_list sf n) (notes_list sf false notes)
      (note_graphic resolution ratio n (All-head (IsWrittenNote resolution ratio) n notes all))
      (notes_graphic resolution ratio false notes (All-tail (IsWrittenNote resolution ratio) n notes all)))

  group_graphic : (resolution : ℕ) (written : Bool) (g : Group) → IsWrittenGroup resolution g → are_graphic (group_list sf written g) ≡ true
  group_graphic resolution written g is = go (nat_lt 1 g.ratio.actual)
    where
      notes : are_graphic (notes_list sf written g.notes) ≡ true
      notes = notes_graphic resolution g.ratio written g.notes is.notes

      ratio : list_all is_graphic (ratio_text g.ratio) ≡ true
      ratio = all_append is_graphic (decimal g.ratio.actual) (47 ∷ decimal g.ratio.normal) (decimal_graphic g.ratio.actual)
          (decimal_graphic g.ratio.normal)

      go : (b : Bool) → are_graphic
          (if b then codes "\\tuplet" ∷ ratio_text g.ratio ∷ codes "{" ∷
          (notes_list sf written g.notes ++ codes "}" ∷ []) else notes_list sf written g.notes) ≡ true
      go false = notes
      go true = and_from _ _ ratio (all_append (list_all is_graphic) (notes_list sf written g.notes) (codes "}" ∷ []) notes refl)

  groups_graphic : (resolution : ℕ) (written : Bool) (groups : List Group) → All (IsWrittenGroup resolution) groups
      → are_graphic (groups_list sf written groups) ≡ true
  groups_graphic resolution written [] all = refl
  groups_graphic resolution written (g ∷ groups) all =
      all_append (list_all is_graphic) (group_list sf written g) (groups_list sf false groups)
      (group_graphic resolution written g (All-head (IsWrittenGroup resolution) g groups all))
      (groups_graphic resolution false groups (All-tail (IsWrittenGroup resolution) g groups all))

pub bar_graphic : (resolution : ℕ) (bar : ScoreBar) (silent : ℕ) (groups : List Group) → IsScoreBar bar
    → All (IsWrittenGroup resolution) groups
    → are_graphic (bar_list bar silent groups) ≡ true
bar_graphic resolution bar silent groups right all = go (silent == 0)
  where
    rest : list_all is_graphic (rest_word bar) ≡ true
    rest =
        all_append is_graphic (codes "R1*" ++ decimal bar.num ++ codes "/") (decimal bar.den)
        (all_append is_graphic (codes "R1*" ++ decimal bar.num) (codes "/")
        (all_append is_graphic (codes "R1*") (decimal bar.num) refl (decimal_graphic bar.num)) refl) (decimal_graphic bar.den)

    sounding : (written : Bool) (groups : List Group) → All (IsWrittenGroup resolution) groups
        → are_graphic (sounding_list bar written groups) ≡ true
    sounding written [] all = and_from _ true rest refl
    sounding written (g ∷ groups) all = groups_graphic bar.sf right.key resolution written (g ∷ groups) all

    go : (b : Bool) → are_graphic
        (if b then sounding_list bar false groups else graces_list bar.sf silent (first_graces groups) ++ sounding_list bar true groups)
        ≡ true
    go true = sounding false groups all
    go false =
        all_append (list_all is_graphic) (graces_list bar.sf silent (first_graces groups)) (sounding_list bar true groups)
        (graces_graphic bar.sf right.key silent (first_graces groups)) (sounding true groups all)
