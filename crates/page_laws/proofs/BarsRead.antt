-- The words of a bar are heard as its groups.
use Rattle.std.proofs.Common.{◌≡◌, ℕ, zero, suc, ◌+◌, ◌*◌, ◌/◌, ◌≤◌, ◌==◌, Bool, true, false, List, [], ◌∷◌, ◌++◌, Option, Some, None, refl, sym, ap, ◌∙◌, arith, append_assoc}
use Rattle.std.specs.Prelude.{ℤ, All, IfSome, codes, decimal, if◌then◌else◌, nat_lt}
use Rattle.std.specs.Char.{is_ascii_digit}
use Rattle.std.specs.List.{list_all, slice_split}
use Rattle.std.specs.Option.{option_map}
use Rattle.std.proofs.lemmas.Bool.{and_from, and_parts}
use Rattle.std.proofs.lemmas.Bool.Decides.{nat_tests}
use Rattle.std.proofs.lemmas.List.Elements.{All-head, All-tail}
use Rattle.rhythm_base.specs.declared.span.Frac.{Frac}
use Rattle.rhythm_base.specs.Signatures.{is_den}
use Rattle.derivation.specs.declared.score.ScoreBar.{ScoreBar}
use Rattle.derivation.specs.Score.{IsKeySignature, IsScoreBar}
use Rattle.voice_events.proofs.ScoreBars.{parts_finer}
use Rattle.voice_events.specs.Parts.{score_bar_parts}
use Rattle.text_words.specs.declared.time_signature.TimeSignature.{TimeSignature}
use Rattle.text_words.specs.TimeSignatures.{signature_of_numbers, signature_of_parts}
use Rattle.text_words.specs.Steps.{◌>>=◌}
use Rattle.text_words.specs.Numbers.{number_of}
use Rattle.text_words.proofs.TextNumbers.{number_back}
use Rattle.text_words.proofs.TextSplits.{split_first, split_last}
use Rattle.text_words.proofs.TextTests.{decimal_digits, slash_free}
use Rattle.lily_writer.specs.Fractions.{frac, frac_plus, same_frac}
use Rattle.lily_writer.specs.Pitches.{words}
use Rattle.lily_writer.specs.Reading.{bar_fraction, words_of_bar}
use Rattle.lily_laws.proofs.BarWords.{den_some, signature}
use Rattle.lily_laws.proofs.ElementWords.{spaced, words_split}
use Rattle.lily_laws.proofs.Fractions.{plus_parts, same_value}
use Rattle.lily_laws.proofs.WrittenParts.{part_range}
use Rattle.notation.specs.declared.note.Ratio.{Ratio}
use Rattle.notation.specs.Notes.{Group, Note, is_empty}
use Rattle.notation_laws.specs.Hearing.{HeardVoice, hear, hear_graces}
use Rattle.notation_laws.specs.NotesHeard.{group_notes, hear_bar, hear_note, hear_notes, note_stretch, rest_stretch}
use Rattle.notation_laws.specs.Written.{IsWrittenGroup}
use Rattle.notation_laws.proofs.Says.{heard_first}
use Rattle.page_writer.specs.Bars.{bar_line, first_graces}
use Rattle.page_writer.specs.Bars as written
use Rattle.page_laws.specs.Hearing.{HeardStaff, at_bracket, at_ratio, hear_page_word, with_voice}
use Rattle.page_laws.specs.Reading.{after_page_bar, hear_page_bar, hear_page_words}
use Rattle.page_laws.specs.Words.{bar_word, closing_word, opening_word, page_word, bracket_ratio, ratio_word, tuplet_word}
use Rattle.page_laws.proofs.InWholes.{in_wholes}
use Rattle.page_laws.proofs.NoteWords.{bar_graphic, bar_list, bar_spaced, first_are, graces_list, group_list, groups_list, notes_list, ratio_text, sounding_list}
use Rattle.page_laws.proofs.NotesRead.{at_notes, graces_read, hear_from, heard_as, notes_read}
use Rattle.page_laws.proofs.PageChords.{hear_last, hear_more, hear_one}
use Rattle.lily_laws.proofs.StavesRead.{numbers_read}

-- ---- numbers

ratio_numbers : (ratio : Ratio) → 1 ≤ ratio.actual → ratio.actual ≤ 960 → 1 ≤ ratio.normal → ratio.normal ≤ 960
    → bracket_ratio (slice_split (λ b. b == 47) (ratio_text ratio)) ≡ Some (frac ratio.normal ratio.actual)
ratio_numbers ratio some few other most =
    ap bracket_ratio (split_first 47 (decimal ratio.actual) (decimal ratio.normal) (slash_free ratio.actual)
    ∙ ap (λ pieces. decimal ratio.actual ∷ pieces) (split_last 47 (decimal ratio.normal) (slash_free ratio.normal)))
    ∙ rw (number_back 960 ratio.actual some few (omega arith), number_back 960 ratio.normal other most (omega arith)) refl

-- what begins with a digit is the numbers of a bracket
by_digit : (b : ℕ) (bs : List ℕ) → is_ascii_digit b ≡ true
    → page_word (b ∷ bs) ≡ option_map (λ ratio. ratio_word ratio) (bracket_ratio (slice_split (λ b. b == 47) (b ∷ bs)))
unfolding page_word
by_digit b bs digit =
    let no_slash : (b == 92) ≡ false = grind (arith, nat_tests, digit) in
    let no_opening : (b == 123) ≡ false = grind (arith, nat_tests, digit) in
    let no_closing : (b == 125) ≡ false = grind (arith, nat_tests, digit) in
    let no_silent : (b == 115) ≡ false = grind (arith, nat_tests, digit) in
    let no_bar : (82 == b) ≡ false = grind (arith, nat_tests, digit) in
    let no_rest : (b == 114) ≡ false = grind (arith, nat_tests, digit) in
    let no_angle : (b == 60) ≡ false = grind (arith, nat_tests, digit) in
    rw (no_slash, no_opening, no_closing, no_silent, no_bar, no_rest, no_angle, digit) refl

no_number : number_of 960 [] ≡ None
unfolding number_of
no_number = refl

ratio_read : (ratio : Ratio) → 1 ≤ ratio.actual → ratio.actual ≤ 960 → 1 ≤ ratio.normal → ratio.normal ≤ 960
    → page_word (ratio_text ratio) ≡ Some (ratio_word (frac ratio.normal ratio.actual))
ratio_read ratio some few other most =
    first (decimal ratio.actual) (decimal_digits ratio.actual) (47 ∷ decimal ratio.normal)
    (λ empty. clash (sym no_number ∙ ap (number_of 960) (sym empty) ∙ number_back 960 ratio.actual some few (omega arith)))
    ∙ ap (option_map (λ ratio. ratio_word ratio)) (ratio_numbers ratio some few other most)
  where
    clash : None ≡ Some ratio.actual → ⊥
    clash e = cc

    first : (ds : List ℕ) → list_all is_ascii_digit ds ≡ true → (more : List ℕ) → (ds ≡ [] → ⊥)
        → page_word (ds ++ more) ≡ option_map (λ ratio. ratio_word ratio) (bracket_ratio (slice_split (λ b. b == 47) (ds ++ more)))
    first [] digits more empty = absurd (empty refl)
    first (d ∷ ds) digits more empty = by_digit d (ds ++ more) (and_parts (is_ascii_digit d) (list_all is_ascii_digit ds) digits).0

-- ---- the length of a bar

signature_parts : (r : ℕ) (bar : ScoreBar) → 1 ≤ 64 * r → IsScoreBar bar → signature bar ≡ frac (score_bar_parts r bar) (64 * r)
signature_parts r bar some is =
    let whole = parts_finer 1 bar.den is.signature.power in
    same_value bar.num bar.den (score_bar_parts r bar) (64 * r) (den_some bar.den whole) some
    (ring bar.num r (64 / bar.den) bar.den (one bar.den (64 / bar.den) ∙ whole))
  where
    one : (d k : ℕ) → k * d ≡ 1 * d * k
    one d k = grind arith

    ring : (n r k d : ℕ) → k * d ≡ 64 * 1 → n * (64 * r) ≡ r * (n * k) * d
    ring n r k d e =
        let plain : n * (64 * r) ≡ r * n * 64 = grind arith in
        let turned : r * (n * k) * d ≡ r * n * (k * d) = grind arith in
        plain ∙ ap (λ x. r * n * x) (sym (e ∙ omega arith)) ∙ sym turned

-- ---- brackets

brackets : (page_word (codes "\\tuplet") ≡ Some tuplet_word) × (page_word (codes "{") ≡ Some opening_word)
    × (page_word (codes "}") ≡ Some closing_word)
unfolding page_word
brackets = (refl, refl, refl)

rest_of_bar : (bar : ScoreBar) (text : List ℕ) (f : Frac) → bar_fraction text ≡ Some f → page_word (codes "R1*" ++ text) ≡ Some (bar_word f)
unfolding page_word
rest_of_bar bar text f is = ap (option_map (λ len. bar_word len)) is

module _ (r : ℕ) (some : 1 ≤ 64 * r) where
  module _ (sf : Option ℤ) (key : IfSome sf IsKeySignature) where
    abbrev among : Option Frac → HeardVoice ℕ → HeardStaff
    among ratio h = at_notes r some sf key ratio h

    tuplet_heard : (h : HeardVoice ℕ) → hear_page_word (among None h) tuplet_word ≡ Some (record (among None h) { side = at_ratio })
    unfolding hear_page_word
    tuplet_heard h = refl

    ratio_heard : (h : HeardVoice ℕ) (f : Frac) → hear_page_word (record (among None h) { side = at_ratio }) (ratio_word f)
        ≡ Some (record (among None h) { side = at_bracket f })
    unfolding hear_page_word
    ratio_heard h f = refl

    bracket_heard : (h : HeardVoice ℕ) (f : Frac) → hear_page_word (record (among None h) { side = at_bracket f }) opening_word
        ≡ Some (among (Some f) h)
    unfolding hear_page_word
    bracket_heard h f = refl

    close_heard : (h : HeardVoice ℕ) (f : Frac) → hear_page_word (among (Some f) h) closing_word ≡ Some (among None h)
    unfolding hear_page_word
    close_heard h f = refl

    group_read : (written : Bool) (g : Group) (h next : HeardVoice ℕ) → IsWrittenGroup r g → hear_from r some sf key written h g.notes
        ≡ Some next
        → hear_page_words (among None h) (group_list sf written g) ≡ Some (among None next)
    group_read written g h next is heard = go (nat_lt 1 g.ratio.actual)
        (notes_read r some sf key g written g.notes h next is is.notes heard)
      where
        f : Frac
        f = frac g.ratio.normal g.ratio.actual

        notes : List (List ℕ)
        notes = notes_list sf written g.notes

        closing : List (List ℕ)
        closing = codes "}" ∷ []

        few : g.ratio.actual ≤ 960
        few = is.few_actual

        most : g.ratio.normal ≤ 960
        most = let h = is.few_normal in omega (arith, h, few)

        go : (b : Bool)
            → hear_page_words (among (if b then Some f else None) h) notes ≡ Some (among (if b then Some f else None) next)
            → hear_page_words (among None h) (if b then codes "\\tuplet" ∷ ratio_text g.ratio ∷ codes "{" ∷ (notes ++ closing) else notes)
            ≡ Some (among None next)
        go false own = own
        go true own =
            hear_one (among None h) (record (among None h) { side = at_ratio }) (codes "\\tuplet") tuplet_word
            (ratio_text g.ratio ∷ codes "{" ∷ (notes ++ closing))
            brackets.0 (tuplet_heard h)
            ∙ hear_one (record (among None h) { side = at_ratio }) (record (among None h) { side = at_bracket f }) (ratio_text g.ratio)
            (ratio_word f)
            (codes "{" ∷ (notes ++ closing)) (ratio_read g.ratio is.some_actual few is.some_normal most) (ratio_heard h f)
            ∙ hear_one (record (among None h) { side = at_bracket f }) (among (Some f) h) (codes "{") opening_word
            (notes ++ closing) brackets.1 (bracket_heard h f)
            ∙ hear_more (among (Some f) h) (among (Some f) next) notes closing own
            ∙ hear_last (among (Some f) next) (codes "}") closing_word brackets.2 ∙ close_heard next f

    -- ---- notes of several groups

    notes_append : (h : HeardVoice ℕ) (xs ys : List Note) → hear_notes h (xs ++ ys) ≡ (hear_notes h xs >>= λ next. hear_notes next ys)
    notes_append h [] ys = refl
    notes_append h (n ∷ xs) ys = go (hear_note h n) (λ next. notes_append next xs ys)
      where
        go : (o : Option (HeardVoice ℕ))
            → ((next : HeardVoice ℕ) → hear_notes next (xs ++ ys) ≡ (hear_notes next xs >>= λ next. hear_notes next ys))
            → (o >>= λ next. hear_notes next (xs ++ ys)) ≡ ((o >>= λ next. hear_notes next xs) >>= λ next. hear_notes next ys)
        go None rest = refl
        go (Some next) rest = rest next

    from_start : (h : HeardVoice ℕ) (notes : List Note) → hear_from r some sf key false h notes ≡ hear_notes h notes
    from_start h [] = refl
    from_start h (n ∷ notes) = refl

    groups_read : (groups : List Group) (h next : HeardVoice ℕ) → All (IsWrittenGroup r) groups → hear_notes h (group_notes groups)
        ≡ Some next
        → hear_page_words (among None h) (groups_list sf false groups) ≡ Some (among None next)
    groups_read [] h next all heard = let same : h ≡ next = cc in ap (λ h. Some (among None h)) same
    groups_read (g ∷ groups) h next all heard =
        let (mid, one, rest) = heard_first (hear_notes h g.notes) (λ mid. hear_notes mid (group_notes groups)) next
        (sym (notes_append h g.notes (group_notes groups)) ∙ heard) in
        hear_more (among None h) (among None mid) (group_list sf false g) (groups_list sf false groups)
        (group_read false g h mid (All-head (IsWrittenGroup r) g groups all) (from_start h g.notes ∙ one))
        ∙ groups_read groups mid next (All-tail (IsWrittenGroup r) g groups all) rest

    -- where the grace chords of the first note stand before all
    record IsBegun (g : Group) (h mid : HeardVoice ℕ) : Type 0 where
      graced : HeardVoice ℕ
      graces : hear_graces h (first_graces (g ∷ [])) ≡ Some graced
      notes : hear_from r some sf key true graced g.notes ≡ Some mid

    begun : (ratio : Ratio) (notes : List Note) (h mid : HeardVoice ℕ) → hear_notes h notes ≡ Some mid
        → IsBegun (record { ratio = ratio; notes = notes }) h mid
    begun ratio [] h mid heard = record { graced = h; graces = refl; notes = heard }
    begun ratio (n ∷ notes) h mid heard =
        let (next, one, rest) = heard_first (hear_note h n) (λ next. hear_notes next notes) mid heard in
        let (graced, own, note) = heard_first (hear_graces h n.graces) (λ graced. hear ◌+◌ graced (note_stretch n)) next one in
        record { graced = graced; graces = own; notes = ap (λ o. o >>= λ next. hear_notes next notes) note ∙ rest }

    silent_read : (silent : ℕ) (g : Group) (groups : List Group) (h next : HeardVoice ℕ) → All (IsWrittenGroup r) (g ∷ groups)
        → hear_notes h (group_notes (g ∷ groups)) ≡ Some next
        → hear_page_words (among None h) (graces_list sf silent (first_graces (g ∷ groups)) ++ groups_list sf true (g ∷ groups))
        ≡ Some (among None next)
    silent_read silent g groups h next all heard =
        let (mid, one, rest) = heard_first (hear_notes h g.notes) (λ mid. hear_notes mid (group_notes groups)) next
        (sym (notes_append h g.notes (group_notes groups)) ∙ heard) in
        let is = begun g.ratio g.notes h mid one in
        hear_more (among None h) (among None is.graced) (graces_list sf silent (first_graces (g ∷ groups)))
        (groups_list sf true (g ∷ groups))
        (graces_read r some sf key None h is.graced silent (first_graces (g ∷ groups)) (first_are r (g ∷ groups) all) is.graces)
        ∙ hear_more (among None is.graced) (among None mid) (group_list sf true g) (groups_list sf false groups)
        (group_read true g is.graced mid (All-head (IsWrittenGroup r) g groups all) is.notes)
        ∙ groups_read groups mid next (All-tail (IsWrittenGroup r) g groups all) rest

-- ---- a bar

module _ (r : ℕ) (some : 1 ≤ 64 * r) (bar : ScoreBar) (right : IsScoreBar bar) where
  abbrev at_bar : HeardVoice ℕ → HeardStaff
  at_bar h = at_notes r some bar.sf right.key None h

  bar_word_heard : (h : HeardVoice ℕ) (f : Frac) → hear_page_word (at_bar h) (bar_word f)
      ≡ (hear frac_plus (in_wholes (64 * r) some h)
      (record { len = f; keys = 0; short = false; comes = false; goes = false }) >>= λ heard. Some (with_voice (at_bar h) heard))
  unfolding hear_page_word
  bar_word_heard h f = refl

  rest_read : (h next : HeardVoice ℕ) → hear_bar r bar h [] ≡ Some next → hear_page_words (at_bar h) (written.rest_word bar ∷ [])
      ≡ Some (at_bar next)
  rest_read h next heard =
      let front : List ℕ = codes "R1*" in
      let text : written.rest_word bar ≡ front ++ (decimal bar.num ++ codes "/" ++ decimal bar.den) =
      append_assoc (front ++ decimal bar.num) (codes "/") (decimal bar.den)
      ∙ append_assoc front (decimal bar.num) (codes "/" ++ decimal bar.den)
      ∙ ap (λ xs. front ++ xs) (sym (append_assoc (decimal bar.num) (codes "/") (decimal bar.den))) in
      let len = signature_parts r bar some right in
      hear_last (at_bar h) (written.rest_word bar) (bar_word (signature bar))
      (ap page_word text ∙ rest_of_bar bar (decimal bar.num ++ codes "/" ++ decimal bar.den) (signature bar)
      (numbers_read bar.num bar.den right.signature.some right.signature.few right.signature.power))
      ∙ bar_word_heard h (signature bar)
      ∙ heard_as r some bar.sf right.key None h next (rest_stretch (score_bar_parts r bar))
      (record { len = signature bar; keys = 0; short = false; comes = false; goes = false })
      (λ i. record { len = len i; keys = 0; short = false; comes = false; goes = false }) heard

  sounding_read : (groups : List Group) (h next : HeardVoice ℕ) → All (IsWrittenGroup r) groups → hear_bar r bar h groups ≡ Some next
      → hear_page_words (at_bar h) (sounding_list bar false groups) ≡ Some (at_bar next)
  sounding_read [] h next all heard = rest_read h next heard
  sounding_read (g ∷ groups) h next all heard = groups_read r some bar.sf right.key (g ∷ groups) h next all heard

  begun_read : (silent : ℕ) (groups : List Group) (h next : HeardVoice ℕ) → All (IsWrittenGroup r) groups → hear_bar r bar h groups
      ≡ Some next
      → hear_page_words (at_bar h) (graces_list bar.sf silent (first_graces groups) ++ sounding_list bar true groups) ≡ Some (at_bar next)
  begun_read silent [] h next all heard =
      hear_more (at_bar h) (at_bar h) (graces_list bar.sf silent []) (written.rest_word bar ∷ [])
      (graces_read r some bar.sf right.key None h h silent [] (λ k d lt. absurd (omega arith)) refl)
      ∙ rest_read h next heard
  begun_read silent (g ∷ groups) h next all heard = silent_read r some bar.sf right.key silent g groups h next all heard

  words_read : (silent : ℕ) (groups : List Group) (h next : HeardVoice ℕ) → All (IsWrittenGroup r) groups → hear_bar r bar h groups
      ≡ Some next
      → hear_page_words (at_bar h) (bar_list bar silent groups) ≡ Some (at_bar next)
  words_read silent groups h next all heard = go (silent == 0)
    where
      go : (b : Bool)
          → hear_page_words (at_bar h)
          (if b then sounding_list bar false groups else graces_list bar.sf silent
          (first_graces groups) ++ sounding_list bar true groups)
          ≡ Some (at_bar next)
      go true = sounding_read groups h next all heard
      go false = begun_read silent groups h next all heard

  -- ---- and its line

  line_words : (ws : List (List ℕ)) → words_of_bar (ws ++ codes "|" ∷ []) ≡ Some ws
  line_words [] = refl
  line_words (w ∷ []) = refl
  line_words (w ∷ v ∷ ws) = ap (option_map (λ list. w ∷ list)) (line_words (v ∷ ws))

  pub bar_text : (silent : ℕ) (groups : List Group) → All (IsWrittenGroup r) groups → bar_line bar silent groups
      ≡ spaced (bar_list bar silent groups) ++ codes "|"
  bar_text silent groups all = ap (λ text. text ++ codes "|") (bar_spaced r bar silent groups right all)

  words_are : (silent : ℕ) (groups : List Group) → All (IsWrittenGroup r) groups → words_of_bar (words (bar_line bar silent groups))
      ≡ Some (bar_list bar silent groups)
  words_are silent groups all =
      let ws = bar_list bar silent groups in
      ap (λ text. words_of_bar (words text)) (bar_text silent groups all)
      ∙ ap words_of_bar (words_split ws (codes "|") (bar_graphic r bar silent groups right all) refl) ∙ line_words ws

  same_frac_self : (f : Frac) → same_frac f f ≡ true
  same_frac_self f = and_from (f.num == f.num) (f.den == f.den) (same f.num) (same f.den)
    where
      same : (n : ℕ) → (n == n) ≡ true
      same n = grind (arith, nat_tests)

  pub bar_read : (silent : ℕ) (groups : List Group) (h next : HeardVoice ℕ) → All (IsWrittenGroup r) groups → hear_bar r bar h groups
      ≡ Some next
      → next.at ≡ h.at + score_bar_parts r bar → next.graces ≡ []
      → hear_page_bar (signature bar) (at_bar h) (bar_line bar silent groups) ≡ Some (at_bar next)
  unfolding hear_page_bar
  bar_read silent groups h next all heard full bare =
      ap (λ o. o >>= λ ws. hear_page_words (at_bar h) ws >>= λ next. after_page_bar (signature bar) (at_bar h) next)
      (words_are silent groups all)
      ∙ ap (λ o. o >>= λ next. after_page_bar (signature bar) (at_bar h) next) (words_read silent groups h next all heard)
      ∙ ap (λ b. if b then Some (at_bar next) else None)
      (and_from (is_empty next.graces) (same_frac (frac next.at (64 * r)) (frac_plus (frac h.at (64 * r)) (signature bar)))
      (ap is_empty bare) exact)
    where
      there : frac_plus (frac h.at (64 * r)) (signature bar) ≡ frac next.at (64 * r)
      there =
          ap (frac_plus (frac h.at (64 * r))) (signature_parts r bar some right) ∙ plus_parts h.at (score_bar_parts r bar) (64 * r) some
          ∙ ap (λ n. frac n (64 * r)) (sym full)

      exact : same_frac (frac next.at (64 * r)) (frac_plus (frac h.at (64 * r)) (signature bar)) ≡ true
      exact = ap (same_frac (frac next.at (64 * r))) there ∙ same_frac_self (frac next.at (64 * r))
