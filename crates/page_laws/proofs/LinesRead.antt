-- The lines of a staff: what each of them changes, and that none is taken for another.
use Rattle.std.proofs.Common.{◌≡◌, ℕ, ◌*◌, ◌≤◌, ◌==◌, ◌&&◌, ◌||◌, Bool, true, false, not, List, [], ◌∷◌, ◌++◌, map, Option, Some, None, refl, sym, ap, ap₂, ◌∙◌, subst, ◌⊎◌, inl, inr, arith, append_assoc}
use Rattle.std.specs.Prelude.{ℤ, All, IfSome, codes, decimal, if◌then◌else◌, nat_eq, nat_le, nat_lt, ⊤}
use Rattle.std.specs.Char.{is_ascii_digit}
use Rattle.std.specs.List.{list_all, starts_with}
use Rattle.std.specs.Option.{option_map}
use Rattle.std.proofs.lemmas.Bool.{and_from, and_parts, false≢true}
use Rattle.std.proofs.lemmas.Bool.Decides.{nat_tests}
use Rattle.derivation.specs.declared.score.ScoreBar.{ScoreBar}
use Rattle.derivation.specs.Score.{IsKeySignature, IsScoreBar}
use Rattle.score_words.specs.Changes.{key_before, quarters_of_minute, same_key, same_signature, same_tempo}
use Rattle.score_words.specs.Keys.{rising_keys}
use Rattle.score_words.proofs.SetKeys.{KeysRise, keys_rise}
use Rattle.text_words.proofs.TextTests.{all_append, all_weaker, decimal_digits, digit_graphic, graphic_prints, lacks, printing_no_newline}
use Rattle.lily_writer.specs.Fractions.{frac}
use Rattle.lily_laws.proofs.BarWords.{signature}
use Rattle.lily_laws.proofs.ElementWords.{pitch_words, spaced, spaced_in_line}
use Rattle.lily_laws.proofs.PageLines.{are_lines, changes_lines, number_free}
use Rattle.notation.specs.declared.clef.Clef.{Clef}
use Rattle.notation.specs.declared.clef.Clef.TheVariants.{BassBelow, Bass, Treble, TrebleAbove}
use Rattle.notation.specs.Notes.{Group, Note, is_empty}
use Rattle.notation_laws.specs.Written.{IsWrittenGroup}
use Rattle.page_writer.specs.Bars.{bar_line, first_graces}
use Rattle.score_words.specs.LilyChanges.{lily_key_lines, lily_key, key_name, lily_changes, lily_tempo_lines, lily_tempo, time_change, time_line}
use Rattle.page_writer.specs.Pitches.{page_pitch}
use Rattle.page_writer.specs.Staves.{clef_line, staff_head}
use Rattle.page_laws.specs.Hearing.{HeardStaff}
use Rattle.page_laws.specs.Reading.{PageStaff, begins_staff, ends_in, hear_page_bar, hear_page_line, spans_of_lines}
use Rattle.text_words.specs.Steps.{◌>>=◌}
use Rattle.rhythm_base.specs.declared.span.Frac.{Frac}
use Rattle.page_laws.proofs.BarsRead.{bar_text}
use Rattle.page_laws.proofs.NoteWords.{bar_graphic, bar_list, graces_list, group_list, groups_list, note_list, notes_list, own_list, ratio_text, sounding_list}
use Rattle.page_laws.proofs.PageChords.{page_chord_words}
use Rattle.page_laws.proofs.PagePitches.{is_page_pitch, pitch_is}
use Rattle.page_laws.proofs.PageValues.{ending_text}
use Rattle.lily_laws.proofs.StavesRead.{numbers_read}

-- ---- how lines end

end_is : (byte : ℕ) (text : List ℕ) (x : ℕ) (end : List ℕ) → ends_in byte (text ++ x ∷ end) ≡ ends_in byte (x ∷ end)
end_is byte [] x end = refl
end_is byte (b ∷ []) x end = refl
end_is byte (b ∷ c ∷ text) x end = end_is byte (c ∷ text) x end

digits_end : (x : ℕ) (ds : List ℕ) → (x == 124) ≡ false → list_all is_ascii_digit ds ≡ true → ends_in 124 (x ∷ ds) ≡ false
digits_end x [] other digits = other
digits_end x (d ∷ ds) other digits =
    let (first, rest) = and_parts (is_ascii_digit d) (list_all is_ascii_digit ds) digits in
    digits_end d ds (grind (arith, nat_tests, first)) rest

-- ---- how bars begin: with no backslash, or with one of two words

IsStart : List (List ℕ) → Type 0
IsStart [] = ⊤
IsStart ([] ∷ ws) = ⊥
IsStart ((b ∷ w) ∷ ws) = ((b == 92) ≡ false) ⊎ (((b ∷ w) ≡ codes "\\slashedGrace") ⊎ ((b ∷ w) ≡ codes "\\tuplet"))

starts_both : (xs ys : List (List ℕ)) → IsStart xs → IsStart ys → IsStart (xs ++ ys)
unfolding IsStart
starts_both [] ys h k = k
starts_both ([] ∷ ws) ys h k = absurd h
starts_both ((b ∷ w) ∷ ws) ys h k = h

module _ (sf : Option ℤ) (key : IfSome sf IsKeySignature) where
  pitch_starts : (p rest : List ℕ) (ws : List (List ℕ)) → is_page_pitch p ≡ true → IsStart ((p ++ rest) ∷ ws)
  unfolding IsStart
  pitch_starts [] rest ws h = absurd (false≢true h)
  pitch_starts (b ∷ bs) rest ws h =
      let letter = (and_parts (nat_le 97 b && nat_le b 103) _ h).0 in
      inl (grind (arith, nat_tests, letter))

  chord_starts : (ks : List ℕ) (ending : List ℕ) → KeysRise 0 ks → IsStart (pitch_words (map (page_pitch sf) ks) ending)
  unfolding IsStart
  chord_starts [] ending up = tt
  chord_starts (k ∷ []) ending (above, few, up) = pitch_starts (page_pitch sf k) ending [] (pitch_is sf k key few)
  chord_starts (k ∷ j ∷ ks) ending up = inl refl

  graces_start : (silent : ℕ) (graces : List ℕ) → IsStart (graces_list sf silent graces)
  unfolding IsStart
  graces_start silent graces = inr (inl refl)

  note_starts : (n : Note) → IsStart (note_list sf n)
  unfolding IsStart
  note_starts n = go (n.keys == 0)
    where
      go : (b : Bool) → IsStart
          (if b then (114 ∷ ending_text n.value false false) ∷ [] else page_chord_words sf n.keys (ending_text n.value n.short n.goes))
      go true = inl refl
      go false = chord_starts (rising_keys n.keys) (ending_text n.value n.short n.goes) (keys_rise n.keys)

  own_starts : (written : Bool) (n : Note) → IsStart (own_list sf written n)
  unfolding IsStart
  own_starts written n = go (written || is_empty n.graces)
    where
      go : (b : Bool) → IsStart (if b then [] else graces_list sf 0 n.graces)
      go true = tt
      go false = graces_start 0 n.graces

  notes_start : (written : Bool) (notes : List Note) → IsStart (notes_list sf written notes)
  unfolding IsStart
  notes_start written [] = tt
  notes_start written (n ∷ notes) =
      starts_both (own_list sf written n) (note_list sf n ++ notes_list sf false notes) (own_starts written n)
      (starts_both (note_list sf n) (notes_list sf false notes) (note_starts n) (notes_start false notes))

  group_starts : (written : Bool) (g : Group) → IsStart (group_list sf written g)
  unfolding IsStart
  group_starts written g = go (nat_lt 1 g.ratio.actual)
    where
      go : (b : Bool) → IsStart
          (if b then codes "\\tuplet" ∷ ratio_text g.ratio ∷ codes "{" ∷
          (notes_list sf written g.notes ++ codes "}" ∷ []) else notes_list sf written g.notes)
      go true = inr (inr refl)
      go false = notes_start written g.notes

  groups_start : (written : Bool) (groups : List Group) → IsStart (groups_list sf written groups)
  unfolding IsStart
  groups_start written [] = tt
  groups_start written (g ∷ groups) = starts_both (group_list sf written g) (groups_list sf false groups) (group_starts written g)
      (groups_start false groups)

bar_starts : (bar : ScoreBar) (silent : ℕ) (groups : List Group) → IsScoreBar bar → IsStart (bar_list bar silent groups)
unfolding IsStart
bar_starts bar silent groups right = go (silent == 0)
  where
    sounding : (written : Bool) (groups : List Group) → IsStart (sounding_list bar written groups)
    sounding written [] = inl refl
    sounding written (g ∷ groups) = groups_start bar.sf right.key written (g ∷ groups)

    go : (b : Bool) → IsStart
        (if b then sounding_list bar false groups else graces_list bar.sf silent (first_graces groups) ++ sounding_list bar true groups)
    go true = sounding false groups
    go false = starts_both (graces_list bar.sf silent (first_graces groups)) (sounding_list bar true groups)
        (graces_start bar.sf right.key silent (first_graces groups)) (sounding true groups)

-- so a bar is no other line
record IsBarText (line : List ℕ) : Type 0 where
  time : starts_with nat_eq line (codes "\\time ") ≡ false
  staff : begins_staff line ≡ false
  end : ends_in 124 line ≡ true

words_bar : (ws : List (List ℕ)) → IsStart ws → IsBarText (spaced ws ++ codes "|")
unfolding IsStart
words_bar [] h = record { time = refl; staff = refl; end = refl }
words_bar ([] ∷ ws) h = absurd h
words_bar ((b ∷ w) ∷ ws) h = go h
  where
    text : List ℕ
    text = (w ++ 32 ∷ []) ++ spaced ws ++ codes "|"

    last : (w : List ℕ) → ends_in 124 ((w ++ 32 ∷ []) ++ spaced ws ++ codes "|") ≡ true
    last w = end_is 124 ((w ++ 32 ∷ []) ++ spaced ws) 124 []

    go : ((b == 92) ≡ false) ⊎ (((b ∷ w) ≡ codes "\\slashedGrace") ⊎ ((b ∷ w) ≡ codes "\\tuplet"))
        → IsBarText (spaced ((b ∷ w) ∷ ws) ++ codes "|")
    go (inl plain) =
        let other : (92 == b) ≡ false = grind (arith, nat_tests, plain) in
        record { time = rw other (refl {a = false}); staff = rw other (refl {a = false}); end = last (b ∷ w) }
    go (inr (inl same)) =
        subst (λ v. IsBarText ((v ++ 32 ∷ []) ++ spaced ws ++ codes "|")) (sym same)
        (record { time = refl {a = false}; staff = refl {a = false}; end = last (codes "\\slashedGrace") })
    go (inr (inr same)) =
        subst (λ v. IsBarText ((v ++ 32 ∷ []) ++ spaced ws ++ codes "|")) (sym same)
        (record { time = refl {a = false}; staff = refl {a = false}; end = last (codes "\\tuplet") })

-- ---- what lines say

-- a line that begins no staff, and after which so much is known of its staff
pub record IsLine (staff : PageStaff) (line : List ℕ) (next : PageStaff) : Type 0 where
  pub begins : begins_staff line ≡ false
  pub heard : hear_page_line staff line ≡ Some next

pub line_more : (staff next : PageStaff) (line : List ℕ) (lines : List (List ℕ)) → IsLine staff line next
    → spans_of_lines (Some staff) (line ∷ lines) ≡ spans_of_lines (Some next) lines
line_more staff next line lines is = rw is.begins (ap (λ o. o >>= λ next. spans_of_lines (Some next) lines) is.heard)

-- one that changes nothing
other_line : (staff : PageStaff) (line : List ℕ) → starts_with nat_eq line (codes "\\time ") ≡ false → ends_in 124 line ≡ false
    → hear_page_line staff line ≡ Some staff
unfolding hear_page_line
other_line staff line time end = rw (time, end) refl

bar_heard : (staff : PageStaff) (s : Frac) (line : List ℕ) (next : HeardStaff) → IsBarText line → staff.signature ≡ Some s
    → hear_page_bar s staff.heard line ≡ Some next
    → hear_page_line staff line ≡ Some (record staff { heard = next })
unfolding hear_page_line
bar_heard staff s line next is said heard = rw (is.time, is.end, said, heard) refl

pub bar_said : (r : ℕ) (some : 1 ≤ 64 * r) (bar : ScoreBar) (silent : ℕ) (groups : List Group) (staff : PageStaff) (next : HeardStaff)
    → IsScoreBar bar
    → All (IsWrittenGroup r) groups → staff.signature ≡ Some (signature bar)
    → hear_page_bar (signature bar) staff.heard (bar_line bar silent groups) ≡ Some next
    → IsLine staff (bar_line bar silent groups) (record staff { heard = next })
bar_said r some bar silent groups staff next right all said heard =
    let is : IsBarText (bar_line bar silent groups) =
    subst IsBarText (sym (bar_text r some bar right silent groups all))
    (words_bar (bar_list bar silent groups) (bar_starts bar silent groups right)) in
    record { begins = is.staff; heard = bar_heard staff (signature bar) (bar_line bar silent groups) next is said heard }

-- ---- changes

key_said : (staff : PageStaff) (sf : ℤ) → IsLine staff (lily_key sf) staff
key_said staff sf = record {
  begins = refl;
  heard = other_line staff (lily_key sf) refl (end_is 124 (codes "\\key " ++ key_name sf) 32 (codes "\\major"));
}

tempo_said : (staff : PageStaff) (bar : ScoreBar) → IsLine staff (lily_tempo bar) staff
tempo_said staff bar =
    let ds = decimal (quarters_of_minute bar.tempo) in
    record {
      begins = refl;
      heard = other_line staff (lily_tempo bar) refl
          (end_is 124 (codes "\\tempo 4 =") 32 ds ∙ digits_end 32 ds refl (decimal_digits (quarters_of_minute bar.tempo)));
    }

time_said : (staff : PageStaff) (bar : ScoreBar) → IsScoreBar bar
    → IsLine staff (time_line bar) (record staff { signature = Some (signature bar) })
unfolding hear_page_line
time_said staff bar right = record {
  begins = refl;
  heard = ap (option_map (λ s. record staff { signature = Some s }))
      (numbers_read bar.num bar.den right.signature.some right.signature.few right.signature.power);
}

-- the signature of the bar before, where there was one, is the one that was said last
pub IsSaid : Option ScoreBar → PageStaff → Type 0
IsSaid None staff = ⊤
IsSaid (Some before) staff = staff.signature ≡ Some (signature before)

pub none_said : (staff : PageStaff) → IsSaid None staff
unfolding IsSaid
none_said staff = tt

pub some_said : (bar : ScoreBar) (staff : PageStaff) → staff.signature ≡ Some (signature bar) → IsSaid (Some bar) staff
unfolding IsSaid
some_said bar staff is = is

same_is : (before : Option ScoreBar) (bar : ScoreBar) (staff : PageStaff) → same_signature before bar ≡ true → IsSaid before staff
    → staff.signature ≡ Some (signature bar)
unfolding IsSaid
same_is None bar staff same said = absurd (false≢true same)
same_is (Some before) bar staff same said =
    let (num, den) = and_parts (before.num == bar.num) (before.den == bar.den) same in
    let one : before.num ≡ bar.num = grind (arith, nat_tests, num) in
    let two : before.den ≡ bar.den = grind (arith, nat_tests, den) in
    said ∙ ap₂ (λ a b. Some (frac a b)) one two

pub changes_said : (first : Bool) (before : Option ScoreBar) (bar : ScoreBar) (staff : PageStaff) (lines : List (List ℕ)) → IsScoreBar bar
    → IsSaid before staff
    → spans_of_lines (Some staff) (lily_changes first before bar ++ lines)
    ≡ spans_of_lines (Some (record staff { signature = Some (signature bar) })) lines
changes_said first before bar staff lines right said =
    let key = lily_key_lines (key_before before) bar.sf in
    let time = time_change before bar in
    let tempo : List (List ℕ) = if first then lily_tempo_lines before bar else [] in
    let next : PageStaff = record staff { signature = Some (signature bar) } in
    ap (spans_of_lines (Some staff)) (append_assoc (key ++ time) tempo lines ∙ append_assoc key time (tempo ++ lines))
    ∙ keys bar.sf (time ++ (tempo ++ lines)) ∙ times (same_signature before bar) refl (tempo ++ lines) ∙ tempos next first lines
  where
    key_test : (b : Bool) (sf : ℤ) (lines : List (List ℕ)) → spans_of_lines (Some staff) ((if b then [] else lily_key sf ∷ []) ++ lines)
        ≡ spans_of_lines (Some staff) lines
    key_test true sf lines = refl
    key_test false sf lines = line_more staff staff (lily_key sf) lines (key_said staff sf)

    keys : (sf : Option ℤ) (lines : List (List ℕ)) → spans_of_lines (Some staff) (lily_key_lines (key_before before) sf ++ lines)
        ≡ spans_of_lines (Some staff) lines
    keys None lines = refl
    keys (Some sf) lines = key_test (same_key (key_before before) sf) sf lines

    times : (b : Bool) → same_signature before bar ≡ b → (lines : List (List ℕ))
        → spans_of_lines (Some staff) ((if b then [] else time_line bar ∷ []) ++ lines)
        ≡ spans_of_lines (Some (record staff { signature = Some (signature bar) })) lines
    times true same lines =
        let kept : staff ≡ record staff { signature = Some (signature bar) } = let is = same_is before bar staff same said in λ i.
        record staff { signature = is i } in
        ap (λ s. spans_of_lines (Some s) lines) kept
    times false same lines = line_more staff (record staff { signature = Some (signature bar) }) (time_line bar) lines
        (time_said staff bar right)

    tempo_test : (staff : PageStaff) (b : Bool) (lines : List (List ℕ))
        → spans_of_lines (Some staff) ((if b then [] else lily_tempo bar ∷ []) ++ lines) ≡ spans_of_lines (Some staff) lines
    tempo_test staff true lines = refl
    tempo_test staff false lines = line_more staff staff (lily_tempo bar) lines (tempo_said staff bar)

    tempos : (staff : PageStaff) (first : Bool) (lines : List (List ℕ))
        → spans_of_lines (Some staff) ((if first then lily_tempo_lines before bar else []) ++ lines) ≡ spans_of_lines (Some staff) lines
    tempos staff true lines = tempo_test staff (same_tempo before bar) lines
    tempos staff false lines = refl

-- ---- the other lines of a staff

clef_said : (staff : PageStaff) (clef : Clef) → IsLine staff (clef_line clef) staff
unfolding hear_page_line
clef_said staff BassBelow = record { begins = refl; heard = refl }
clef_said staff Bass = record { begins = refl; heard = refl }
clef_said staff Treble = record { begins = refl; heard = refl }
clef_said staff TrebleAbove = record { begins = refl; heard = refl }

pub clef_more : (staff : PageStaff) (clef : Clef) (lines : List (List ℕ)) → spans_of_lines (Some staff) (clef_line clef ∷ lines)
    ≡ spans_of_lines (Some staff) lines
clef_more staff clef lines = line_more staff staff (clef_line clef) lines (clef_said staff clef)

pub head_begins : (channel : ℕ) → begins_staff (staff_head channel) ≡ true
head_begins channel = refl

-- ---- none of them has a newline

free : ℕ → Bool
free b = not (b == 10)

-- what stands before a bar, and the bar
pub bar_lines_free : (r : ℕ) (some : 1 ≤ 64 * r) (first : Bool) (before : Option ScoreBar) (bar : ScoreBar) (silent : ℕ)
    (groups : List Group)
    (lines : List (List ℕ)) → IsScoreBar bar → All (IsWrittenGroup r) groups → are_lines lines ≡ true
    → are_lines (lily_changes first before bar ++ bar_line bar silent groups ∷ lines) ≡ true
bar_lines_free r some first before bar silent groups lines right all rest =
    let ws = bar_list bar silent groups in
    all_append (lacks 10) (lily_changes first before bar) (bar_line bar silent groups ∷ lines) (changes_lines first before bar)
    (and_from (lacks 10 (bar_line bar silent groups)) (are_lines lines)
    (ap (lacks 10) (bar_text r some bar right silent groups all)
    ∙ all_append (λ b. not (b == 10)) (spaced ws) (codes "|") (spaced_in_line ws (bar_graphic r bar silent groups right all)) refl) rest)

pub clef_free : (clef : Clef) → lacks 10 (clef_line clef) ≡ true
clef_free BassBelow = refl
clef_free Bass = refl
clef_free Treble = refl
clef_free TrebleAbove = refl

pub head_free : (channel : ℕ) → lacks 10 (staff_head channel) ≡ true
head_free channel =
    let front : List ℕ = codes "\\new Staff \\with { instrumentName = \"Channel " in
    let middle : List ℕ = codes "\" shortInstrumentName = \"" in
    let back : List ℕ = codes "\" } {" in
    let n = decimal channel in
    all_append (λ b. not (b == 10)) (front ++ n ++ middle ++ n) back
    (all_append (λ b. not (b == 10)) (front ++ n ++ middle) n
    (all_append (λ b. not (b == 10)) (front ++ n) middle
    (all_append (λ b. not (b == 10)) front n refl (number_free channel)) refl) (number_free channel)) refl
