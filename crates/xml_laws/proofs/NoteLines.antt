-- The lines of the keys of a chord, of a grace chord, and of a rest, are read as that chord.
use Rattle.std.proofs.Common.{◌≡◌, ℕ, ◌<◌, ◌==◌, ◌&&◌, Bool, true, false, not, List, [], ◌∷◌, ◌++◌, Option, Some, None, refl, sym, ap, ◌∙◌, subst, arith, append_assoc, append-nil, suc}
use Rattle.std.specs.Prelude.{ℤ, IfSome, codes, decimal, if◌then◌else◌, position}
use Rattle.std.specs.Str.{bytes_eq}
use Rattle.std.specs.Option.{option_map}
use Rattle.std.proofs.lemmas.Bool.Decides.{nat_tests}
use Rattle.derivation.specs.Score.{IsKeySignature}
use Rattle.derivation.specs.WellSounded.{AreKeys}
use Rattle.score_words.specs.Keys.{rising_keys}
use Rattle.score_words.proofs.SetKeys.{KeysRise, keys_rise}
use Rattle.text_words.specs.Steps.{◌>>=◌}
use Rattle.text_words.specs.Marks.{same_bool}
use Rattle.lily_laws.proofs.ElementWords.{some_key}
use Rattle.notation.specs.declared.note.Ratio.{Ratio}
use Rattle.notation.specs.Names.{pitch_name}
use Rattle.notation.specs.Notes.{Note}
use Rattle.notation_laws.specs.Hearing.{HeardVoice}
use Rattle.musicxml_writer.specs.Bars.{set}
use Rattle.musicxml_writer.specs.Elements.{attribute_start, closing, element, empty_element, empty_with, opening}
use Rattle.musicxml_writer.specs.Notes.{chord_mark, chord_text, grace_text, key_marks, key_text, keys_text, notations, rest_text, tie_ends, bracket_ends}
use Rattle.musicxml_writer.specs.Pitches.{key_pitch}
use Rattle.musicxml_writer.specs.Values.{type_text, value_text}
use Rattle.xml_laws.specs.Hearing.{HeardPart, add_note, hear_tag, hear_xml_word, heard_with}
use Rattle.xml_laws.specs.Notes.{ReadChord, ReadNote, blank_note, chord_of, is_of_value, kinds, long_chord, with_key, xml_number}
use Rattle.xml_laws.specs.Reading.{read_parts}
use Rattle.xml_laws.specs.Words.{part_marks, part_values, xml_words}
use Rattle.xml_laws.proofs.NoteParts.{duration_read, mark_read, marks_read, noted, pitch_read, pitched, rest_marks_read, ties_read}
use Rattle.xml_laws.proofs.ValueTexts.{type_read, value_read}
use Rattle.xml_laws.proofs.ValuesRead.{IsShown, valued}
use Rattle.xml_laws.proofs.ReadTexts.{Reads, reads_both, reads_element, reads_line, reads_none}

-- ---- tests

same_number : (n : ℕ) → (n == n) ≡ true
same_number n = grind (arith, nat_tests)

bool_same : (b : Bool) → same_bool b b ≡ true
bool_same true = refl
bool_same false = refl

-- ---- keys of a chord, one after another

module _ (h : HeardPart) where
  -- what is known between two notes: what was heard up to the last chord, and this chord
  abbrev pub known : HeardVoice ℕ → Option ReadChord → HeardPart
  known v c = record h { heard = v; chord = c; note = None }

  module _ (one : Bool → ℕ → List ℕ) (chord : List ℕ → ReadChord) where
    abbrev ReadsFirst : Type 0
    ReadsFirst = (v w : HeardVoice ℕ) (c : Option ReadChord) (k : ℕ) → k < 128 → heard_with v c ≡ Some w
        → Reads (known v c) (one true k) (known w (Some (chord (k ∷ []))))

    abbrev ReadsFurther : Type 0
    ReadsFurther = (w : HeardVoice ℕ) (j : ℕ) (js : List ℕ) (k : ℕ) → k < 128
        → Reads (known w (Some (chord (j ∷ js)))) (one false k) (known w (Some (chord (j ∷ (js ++ k ∷ [])))))

    further_keys : ReadsFurther → (low : ℕ) (ks : List ℕ) (w : HeardVoice ℕ) (j : ℕ) (js : List ℕ) → KeysRise low ks
        → Reads (known w (Some (chord (j ∷ js)))) (keys_text one false ks) (known w (Some (chord (j ∷ (js ++ ks)))))
    further_keys further low [] w j js up = subst
        (λ ks. Reads (known w (Some (chord (j ∷ js)))) [] (known w (Some (chord (j ∷ ks))))) (sym (append-nil js))
        (reads_none (known w (Some (chord (j ∷ js)))))
    further_keys further low (k ∷ ks) w j js (above, few, up) =
        subst (λ all. Reads (known w (Some (chord (j ∷ js)))) (one false k ++ keys_text one false ks) (known w (Some (chord (j ∷ all)))))
        (append_assoc js (k ∷ []) ks)
        (reads_both (known w (Some (chord (j ∷ js)))) (known w (Some (chord (j ∷ (js ++ k ∷ [])))))
        (known w (Some (chord (j ∷ ((js ++ k ∷ []) ++ ks)))))
        (one false k) (keys_text one false ks) (further w j js k few) (further_keys further (suc k) ks w j (js ++ k ∷ []) up))

    pub chord_lines : ReadsFirst → ReadsFurther → (v w : HeardVoice ℕ) (c : Option ReadChord) (keys : ℕ) → AreKeys keys
        → heard_with v c ≡ Some w
        → Reads (known v c) (chord_text one keys) (known w (Some (chord (rising_keys keys))))
    chord_lines first further v w c keys are heard =
        let (k, ks, all) = some_key keys are in
        let (above, few, up) = subst (KeysRise 0) all (keys_rise keys) in
        subst (λ list. Reads (known v c) (keys_text one true list) (known w (Some (chord list)))) (sym all)
        (reads_both (known v c) (known w (Some (chord (k ∷ [])))) (known w (Some (chord (k ∷ ks)))) (one true k) (keys_text one false ks)
        (first v w c k few heard) (further_keys further (suc k) ks w k [] up))

-- ---- the lines of a key

pub note_opens : (h : HeardPart) (v : HeardVoice ℕ) (c : Option ReadChord)
    → Reads (known h v c) (opening (codes "note")) (noted (known h v c) blank_note)
unfolding opening hear_xml_word hear_tag part_values part_marks
note_opens h v c more = refl

-- a note alone ends the chord before it
pub note_ends : (h : HeardPart) (v w : HeardVoice ℕ) (c : Option ReadChord) (n : ReadNote) (m : ReadChord) → chord_of h.divisions n ≡ Some m
    → heard_with v c ≡ Some w
    → Reads (noted (known h v c) (record n { further = false })) (closing (codes "note")) (known h w (Some m))
unfolding closing hear_xml_word hear_tag part_values part_marks
note_ends h v w c n m is heard more =
    let at : HeardPart = noted (known h v c) (record n { further = false }) in
    ap (λ o. (o >>= λ m. add_note at false m) >>= λ next. read_parts (Some next) (xml_words more)) is
    ∙ ap (λ o. option_map (λ v. record at { heard = v; chord = Some m; note = None }) o
    >>= λ next. read_parts (Some next) (xml_words more)) heard

-- a further one is added to it
further_ends : (h : HeardPart) (w : HeardVoice ℕ) (c whole : ReadChord) (n : ReadNote) (m : ReadChord) → chord_of h.divisions n ≡ Some m
    → with_key c m ≡ Some whole
    → Reads (noted (known h w (Some c)) (record n { further = true })) (closing (codes "note")) (known h w (Some whole))
unfolding closing hear_xml_word hear_tag part_values part_marks
further_ends h w c whole n m is joined more =
    let at : HeardPart = noted (known h w (Some c)) (record n { further = true }) in
    ap (λ o. (o >>= λ m. add_note at true m) >>= λ next. read_parts (Some next) (xml_words more)) is
    ∙ ap (λ o. option_map (λ c. record at { chord = Some c; note = None }) o >>= λ next. read_parts (Some next) (xml_words more)) joined

module _ (h : HeardPart) (sf : Option ℤ) (key : IfSome sf IsKeySignature) where
  -- ---- grace chords

  abbrev pub grace_of : List ℕ → ReadChord
  grace_of keys = record { grace = true; keys = keys; len = 0; short = false; comes = false; goes = false }

  slash_read : (p : HeardPart) (n : ReadNote)
      → Reads (noted p n) (empty_with (codes "grace") (codes "slash") (codes "yes")) (noted p (record n { grace = true }))
  unfolding empty_with attribute_start hear_xml_word hear_tag part_values part_marks
  slash_read p n more = refl

  abbrev graced_note : Bool → ℕ → ReadNote
  graced_note lowest k =
      record (pitched (record blank_note { grace = true; further = not lowest }) (pitch_name sf k) k) { kind = codes "eighth" }

  grace_content : (ratio : Ratio) (first last : Bool) (p next : HeardPart) (q : HeardPart) (lowest : Bool) (k : ℕ) → k < 128
      → Reads p (opening (codes "note")) (noted q blank_note)
      → Reads (noted q (graced_note lowest k)) (closing (codes "note")) next
      → Reads p (grace_text (set sf ratio first last) lowest k) next
  unfolding grace_text
  grace_content ratio first last p next q lowest k within opens closes =
      let begun = noted q blank_note in
      let graced = noted q (record blank_note { grace = true }) in
      let marked = noted q (record blank_note { grace = true; further = not lowest }) in
      let named = noted q (pitched (record blank_note { grace = true; further = not lowest }) (pitch_name sf k) k) in
      let whole = noted q (graced_note lowest k) in
      let one = empty_with (codes "grace") (codes "slash") (codes "yes") in
      let two = chord_mark lowest in
      let three = key_pitch sf k in
      let four = element (codes "type") (codes "eighth") in
      reads_line p next (element (codes "note") (one ++ two ++ three ++ four))
      (reads_element p begun whole next (codes "note") (one ++ two ++ three ++ four) opens
      (reads_both begun named whole (one ++ two ++ three) four
      (reads_both begun marked named (one ++ two) three
      (reads_both begun graced marked one two (slash_read q blank_note) (mark_read q (record blank_note { grace = true }) lowest))
      (pitch_read q (record blank_note { grace = true; further = not lowest }) sf k key within))
      (type_read q (pitched (record blank_note { grace = true; further = not lowest }) (pitch_name sf k) k) (codes "eighth") refl)) closes)

  pub first_grace : (ratio : Ratio) (first last : Bool) → ReadsFirst h (grace_text (set sf ratio first last)) grace_of
  first_grace ratio first last v w c k within heard =
      grace_content ratio first last (known h v c) (known h w (Some (grace_of (k ∷ [])))) (known h v c) true k within (note_opens h v c)
      (note_ends h v w c (graced_note true k) (grace_of (k ∷ [])) refl heard)

  pub further_grace : (ratio : Ratio) (first last : Bool) → ReadsFurther h (grace_text (set sf ratio first last)) grace_of
  further_grace ratio first last w j js k within =
      grace_content ratio first last (known h w (Some (grace_of (j ∷ js)))) (known h w (Some (grace_of (j ∷ (js ++ k ∷ [])))))
      (known h w (Some (grace_of (j ∷ js)))) false k within (note_opens h w (Some (grace_of (j ∷ js))))
      (further_ends h w (grace_of (j ∷ js)) (grace_of (j ∷ (js ++ k ∷ []))) (graced_note false k) (grace_of (k ∷ [])) refl refl)

  -- ---- chords

  module _ (quarter : ℕ) (said : h.divisions ≡ Some quarter) (ratio : Ratio) (first last : Bool) (n : Note)
      (number : xml_number (decimal n.duration) ≡ Some n.duration) (shown : IsShown ratio n.value)
      (fits : (m : ReadNote) → is_of_value quarter (valued m ratio n.value) n.duration
      (position (bytes_eq (type_text n.value.recip)) kinds) ≡ true) where
    abbrev pub long_of : List ℕ → ReadChord
    long_of keys = record { grace = false; keys = keys; len = n.duration; short = n.short; comes = n.comes; goes = n.goes }

    abbrev long_note : Bool → ℕ → ReadNote
    long_note lowest k = record (valued (record (pitched (record blank_note { further = not lowest }) (pitch_name sf k) k) {
      duration = Some n.duration;
      comes = n.comes;
      goes = n.goes;
    }) ratio n.value) { short = lowest && n.short }

    -- the chord of one key
    key_chord : (lowest : Bool) (k : ℕ) → chord_of h.divisions (long_note lowest k)
        ≡ Some (record (long_of (k ∷ [])) { short = lowest && n.short })
    key_chord lowest k =
        let m = long_note lowest k in
        ap (λ o. o >>= λ quarter. long_chord quarter m (k ∷ []) n.duration) said
        ∙ ap (λ b. if b then Some (record (long_of (k ∷ [])) { short = lowest && n.short }) else None) (fits m)

    key_content : (v : HeardVoice ℕ) (c : Option ReadChord) (next : HeardPart) (lowest : Bool) (k : ℕ) → k < 128
        → Reads (noted (known h v c) (long_note lowest k)) (closing (codes "note")) next
        → Reads (known h v c) (key_text (set sf ratio first last) n lowest k) next
    unfolding key_text
    key_content v c next lowest k within closes =
        let p = known h v c in
        let s = set sf ratio first last in
        let begun = noted p blank_note in
        let n1 : ReadNote = record blank_note { further = not lowest } in
        let n2 : ReadNote = pitched n1 (pitch_name sf k) k in
        let n3 : ReadNote = record n2 { duration = Some n.duration } in
        let n4 : ReadNote = record n3 { comes = n.comes; goes = n.goes } in
        let n5 : ReadNote = valued n4 ratio n.value in
        let whole = noted p (long_note lowest k) in
        let one = chord_mark lowest in
        let two = key_pitch sf k in
        let three = element (codes "duration") (decimal n.duration) in
        let four = tie_ends (codes "tie") n in
        let five = value_text ratio n.value in
        let six = notations (key_marks s.bracket n lowest) in
        reads_line p next (element (codes "note") (one ++ two ++ three ++ four ++ five ++ six))
        (reads_element p begun whole next (codes "note") (one ++ two ++ three ++ four ++ five ++ six) (note_opens h v c)
        (reads_both begun (noted p n5) whole (one ++ two ++ three ++ four ++ five) six
        (reads_both begun (noted p n4) (noted p n5) (one ++ two ++ three ++ four) five
        (reads_both begun (noted p n3) (noted p n4) (one ++ two ++ three) four
        (reads_both begun (noted p n2) (noted p n3) (one ++ two) three
        (reads_both begun (noted p n1) (noted p n2) one two (mark_read p blank_note lowest) (pitch_read p n1 sf k key within))
        (duration_read p n2 quarter n.duration said number))
        (ties_read p n3 n))
        (value_read p n4 ratio n.value shown))
        (marks_read p n5 s.bracket.starts s.bracket.stops n lowest)) closes)

    pub first_key : ReadsFirst h (key_text (set sf ratio first last) n) long_of
    first_key v w c k within heard =
        key_content v c (known h w (Some (long_of (k ∷ [])))) true k within
        (note_ends h v w c (long_note true k) (long_of (k ∷ [])) (key_chord true k) heard)

    joined : (j : ℕ) (js : List ℕ) (k : ℕ) → with_key (long_of (j ∷ js)) (record (long_of (k ∷ [])) { short = false })
        ≡ Some (long_of (j ∷ (js ++ k ∷ [])))
    joined j js k = rw (same_number n.duration, bool_same n.comes, bool_same n.goes) refl

    pub further_key : ReadsFurther h (key_text (set sf ratio first last) n) long_of
    further_key w j js k within =
        key_content w (Some (long_of (j ∷ js))) (known h w (Some (long_of (j ∷ (js ++ k ∷ []))))) false k within
        (further_ends h w (long_of (j ∷ js)) (long_of (j ∷ (js ++ k ∷ []))) (long_note false k)
        (record (long_of (k ∷ [])) { short = false })
        (key_chord false k)
        (joined j js k))

    -- ---- rests

    rest_tag : (p : HeardPart) (m : ReadNote) → Reads (noted p (record m { whole = false; keys = None })) (empty_element (codes "rest"))
        (noted p (record m { whole = false; keys = Some [] }))
    unfolding empty_element hear_xml_word hear_tag part_values part_marks
    rest_tag p m more = refl

    abbrev pub rest_of : ReadChord
    rest_of = record { grace = false; keys = []; len = n.duration; short = false; comes = false; goes = false }

    rest_chord : chord_of h.divisions (valued (record blank_note { keys = Some []; duration = Some n.duration }) ratio n.value)
        ≡ Some rest_of
    rest_chord =
        let m = valued (record blank_note { keys = Some []; duration = Some n.duration }) ratio n.value in
        ap (λ o. o >>= λ quarter. long_chord quarter m [] n.duration) said ∙ ap (λ b. if b then Some rest_of else None) (fits m)

    pub rest_read : (v w : HeardVoice ℕ) (c : Option ReadChord) → heard_with v c ≡ Some w
        → Reads (known h v c) (rest_text (set sf ratio first last) n) (known h w (Some rest_of))
    unfolding rest_text
    rest_read v w c heard =
        let p = known h v c in
        let s = set sf ratio first last in
        let n1 : ReadNote = record blank_note { keys = Some [] } in
        let n2 : ReadNote = record n1 { duration = Some n.duration } in
        let n3 : ReadNote = valued n2 ratio n.value in
        let begun = noted p blank_note in
        let whole = noted p n3 in
        let one = empty_element (codes "rest") in
        let two = element (codes "duration") (decimal n.duration) in
        let three = value_text ratio n.value in
        let four = notations (bracket_ends s.bracket) in
        reads_line p (known h w (Some rest_of)) (element (codes "note") (one ++ two ++ three ++ four))
        (reads_element p begun whole (known h w (Some rest_of)) (codes "note") (one ++ two ++ three ++ four) (note_opens h v c)
        (reads_both begun whole whole (one ++ two ++ three) four
        (reads_both begun (noted p n2) whole (one ++ two) three
        (reads_both begun (noted p n1) (noted p n2) one two (rest_tag p blank_note) (duration_read p n1 quarter n.duration said number))
        (value_read p n2 ratio n.value shown))
        (rest_marks_read whole s.bracket.starts s.bracket.stops))
        (note_ends h v w c n3 rest_of rest_chord heard))
