-- What is read of the lines of notes is what is heard of the notes.
use Rattle.std.proofs.Common.{◌≡◌, ℕ, ◌+◌, ◌*◌, ◌≤◌, ◌==◌, ◌&&◌, ◌||◌, Bool, true, false, not, List, [], ◌∷◌, ◌++◌, Option, Some, None, refl, sym, ap, ◌∙◌, arith, append_assoc, append-nil}
use Rattle.std.specs.Prelude.{ℤ, All, IfSome, if◌then◌else◌}
use Rattle.std.specs.List.{flat_map}
use Rattle.std.proofs.lemmas.Bool.{and_parts, false≢true}
use Rattle.std.proofs.lemmas.Bool.Decides.{nat_tests}
use Rattle.std.proofs.lemmas.List.Elements.{All-head, All-tail}
use Rattle.rhythm_base.specs.declared.limits.TheConstants.{MOST_UNITS}
use Rattle.derivation.specs.Score.{IsKeySignature}
use Rattle.derivation.specs.WellSounded.{AreKeys}
use Rattle.score_words.specs.Keys.{rising_keys}
use Rattle.score_words.proofs.SetKeys.{keys_rise}
use Rattle.text_words.specs.Steps.{◌>>=◌}
use Rattle.lily_writer.specs.Hearing.{key_set}
use Rattle.lily_laws.proofs.KeySums.{keys_sum, keys_up}
use Rattle.notation.specs.declared.note.Ratio.{Ratio}
use Rattle.notation.specs.Notes.{Group, Note, is_empty}
use Rattle.notation_laws.specs.Hearing.{HeardVoice, Stretch, hear, hear_chord, hear_grace, hear_graces, hear_rest, is_bare, is_none, is_still}
use Rattle.notation_laws.specs.NotesHeard.{group_notes, hear_note, hear_notes, note_stretch}
use Rattle.notation_laws.specs.Written.{IsWrittenGroup, IsWrittenNote}
use Rattle.notation_laws.proofs.Says.{heard_first}
use Rattle.musicxml_writer.specs.Bars.{group_text, notes_text, set}
use Rattle.musicxml_writer.specs.Notes.{chord_text, grace_text, key_text, note_text, rest_text}
use Rattle.xml_laws.specs.Hearing.{HeardPart, heard_with}
use Rattle.xml_laws.specs.Notes.{ReadChord, read_stretch}
use Rattle.xml_laws.proofs.Durations.{duration_number}
use Rattle.xml_laws.proofs.ValuesRead.{value_fits, value_shown}
use Rattle.xml_laws.proofs.ReadTexts.{Reads, reads_both, reads_none}
use Rattle.xml_laws.proofs.NoteLines.{chord_lines, first_grace, first_key, further_grace, further_key, grace_of, known, long_of, rest_of, rest_read}

-- ---- what is heard after a text

module _ (h : HeardPart) where
  -- a text after which the last chord leads to what was heard
  pub record IsTurned (v : HeardVoice ℕ) (c : Option ReadChord) (text : List ℕ) (next : HeardVoice ℕ) : Type 0 where
    pub before : HeardVoice ℕ
    pub chord : Option ReadChord
    pub reads : Reads (known h v c) text (known h before chord)
    pub heard : heard_with before chord ≡ Some next

  abbrev pub Turns : HeardVoice ℕ → List ℕ → HeardVoice ℕ → Type 0
  Turns w text next = (v : HeardVoice ℕ) (c : Option ReadChord) → heard_with v c ≡ Some w → IsTurned v c text next

  pub turns_none : (w next : HeardVoice ℕ) → w ≡ next → Turns w [] next
  turns_none w next same v c heard = record {
    before = v;
    chord = c;
    reads = reads_none (known h v c);
    heard = heard ∙ ap (λ w. Some w) same;
  }

  pub turns_both : (w mid next : HeardVoice ℕ) (xs ys : List ℕ) → Turns w xs mid → Turns mid ys next → Turns w (xs ++ ys) next
  turns_both w mid next xs ys one two v c heard =
      let first = one v c heard in
      let second = two first.before first.chord first.heard in
      record {
        before = second.before;
        chord = second.chord;
        reads = reads_both (known h v c) (known h first.before first.chord)
            (known h second.before second.chord) xs ys first.reads second.reads;
        heard = second.heard;
      }

-- ---- rests are bare

pub if_some : {X : Type 0} (b : Bool) (x y : X) → (if b then Some x else None) ≡ Some y → b ≡ true
if_some true x y e = refl
if_some false x y e = absurd (cc)

no_marks : (a b c : Bool) → not (a || (b || c)) ≡ true → (a ≡ false) × (b ≡ false) × (c ≡ false)
no_marks false false false h = (refl, refl, refl)
no_marks true b c h = absurd (false≢true h)
no_marks false true c h = absurd (false≢true h)
no_marks false false true h = absurd (false≢true h)

silent_rest : (w next : HeardVoice ℕ) (s : Stretch ℕ) → (s.keys == 0) ≡ true → hear ◌+◌ w s ≡ Some next
    → (is_still w ≡ true) × (is_bare s ≡ true)
silent_rest w next s silent e =
    and_parts (is_still w) (is_bare s)
    (if_some (is_still w && is_bare s) (record w { at = w.at + s.len }) next
    (sym (ap (λ b. if b then hear_rest ◌+◌ w s else hear_chord ◌+◌ w s) silent) ∙ e))

-- grace chords wait for their note
graces_wait : (w next : HeardVoice ℕ) (graces : List ℕ) → hear_graces w graces ≡ Some next → next.graces ≡ w.graces ++ graces
graces_wait w next [] e = let same : w ≡ next = cc in sym (ap (λ (v : HeardVoice ℕ). v.graces) same) ∙ sym (append-nil w.graces)
graces_wait w next (g ∷ graces) e =
    let (mid, one, rest) = heard_first (hear_grace w g) (λ mid. hear_graces mid graces) next e in
    graces_wait mid next graces rest ∙ ap (λ gs. gs ++ graces) (one_waits mid (is_none w.going) one) ∙ append_assoc w.graces (g ∷ []) graces
  where
    one_waits : (mid : HeardVoice ℕ) (b : Bool) → (if b then Some (record w { graces = w.graces ++ g ∷ [] }) else None) ≡ Some mid
        → mid.graces ≡ w.graces ++ g ∷ []
    one_waits mid true e = let same : record w { graces = w.graces ++ g ∷ [] } ≡ mid = cc in sym (ap (λ (v : HeardVoice ℕ). v.graces) same)
    one_waits mid false e = absurd (cc)

not_empty : (xs ys : List ℕ) (y : ℕ) → is_empty (xs ++ y ∷ ys) ≡ true → ⊥
not_empty [] ys y h = false≢true h
not_empty (x ∷ xs) ys y h = false≢true h

-- ---- notes

module _ (r : ℕ) (units : 1 ≤ r) (few : r ≤ MOST_UNITS) (sf : Option ℤ) (key : IfSome sf IsKeySignature) (h : HeardPart) (quarter : ℕ)
    (said : h.divisions ≡ Some quarter) (parts : 4 * quarter ≡ 64 * r) where
  grace_turns : (ratio : Ratio) (first last : Bool) (w next : HeardVoice ℕ) (keys : ℕ) → AreKeys keys → hear_grace w keys ≡ Some next
      → Turns h w (chord_text (grace_text (set sf ratio first last)) keys) next
  grace_turns ratio first last w next keys are e v c heard = record {
    before = w;
    chord = Some (grace_of h sf key (rising_keys keys));
    reads = chord_lines h (grace_text (set sf ratio first last)) (grace_of h sf key) (first_grace h sf key ratio first last)
        (further_grace h sf key ratio first last) v w c keys are heard;
    heard = ap (λ b. if b then hear_grace w (key_set (rising_keys keys)) else None) (keys_up 0 (rising_keys keys) (keys_rise keys))
        ∙ ap (hear_grace w) (keys_sum keys are.1) ∙ e;
  }

  graces_turn : (ratio : Ratio) (first last : Bool) (graces : List ℕ) (w next : HeardVoice ℕ) → All AreKeys graces
      → hear_graces w graces ≡ Some next
      → Turns h w (flat_map (chord_text (grace_text (set sf ratio first last))) graces) next
  graces_turn ratio first last [] w next are e = turns_none h w next (cc)
  graces_turn ratio first last (g ∷ graces) w next are e =
      let (mid, one, rest) = heard_first (hear_grace w g) (λ mid. hear_graces mid graces) next e in
      let line = chord_text (grace_text (set sf ratio first last)) in
      turns_both h w mid next (line g) (flat_map line graces) (grace_turns ratio first last w mid g (All-head AreKeys g graces are) one)
      (graces_turn ratio first last graces mid next (All-tail AreKeys g graces are) rest)

  module _ (g : Group) (group : IsWrittenGroup r g) where
    chord_turns : (n : Note) (first last : Bool) (w next : HeardVoice ℕ) → IsWrittenNote r g.ratio n → AreKeys n.keys
        → hear ◌+◌ w (note_stretch n) ≡ Some next → Turns h w (chord_text (key_text (set sf g.ratio first last) n) n.keys) next
    chord_turns n first last w next is are e v c heard =
        let number = duration_number r units few g n group is in
        let shown = value_shown r units few g n group is in
        let fits = value_fits r units few g n group is quarter parts in
        let ks = rising_keys n.keys in
        let whole : key_set ks ≡ n.keys = keys_sum n.keys are.1 in
        let stretch : read_stretch (long_of h sf key quarter said g.ratio first last n number shown fits ks) ≡ note_stretch n =
        λ i. record { len = n.duration; keys = whole i; short = n.short; comes = n.comes; goes = n.goes } in
        record {
          before = w;
          chord = Some (long_of h sf key quarter said g.ratio first last n number shown fits ks);
          reads = chord_lines h (key_text (set sf g.ratio first last) n)
              (long_of h sf key quarter said g.ratio first last n number shown fits)
              (first_key h sf key quarter said g.ratio first last n number shown fits)
              (further_key h sf key quarter said g.ratio first last n number shown fits) v w c
              n.keys are heard;
          heard = ap (λ b. if b then hear ◌+◌ w
              (read_stretch (long_of h sf key quarter said g.ratio first last n number shown fits ks)) else None)
              (keys_up 0 ks (keys_rise n.keys))
              ∙ ap (hear ◌+◌ w) stretch ∙ e;
        }

    rest_turns : (n : Note) (first last : Bool) (w next : HeardVoice ℕ) → IsWrittenNote r g.ratio n → (n.keys == 0) ≡ true
        → hear ◌+◌ w (note_stretch n) ≡ Some next → Turns h w (rest_text (set sf g.ratio first last) n) next
    rest_turns n first last w next is silent e v c heard =
        let number = duration_number r units few g n group is in
        let shown = value_shown r units few g n group is in
        let fits = value_fits r units few g n group is quarter parts in
        let none : 0 ≡ n.keys = grind (arith, nat_tests, silent) in
        let (still, bare) = silent_rest w next (note_stretch n) silent e in
        let (short, comes, goes) = no_marks n.short n.comes n.goes bare in
        let stretch : read_stretch (rest_of h sf key quarter said g.ratio first last n number shown fits) ≡ note_stretch n =
        λ i. record { len = n.duration; keys = none i; short = sym short i; comes = sym comes i; goes = sym goes i } in
        record {
          before = w;
          chord = Some (rest_of h sf key quarter said g.ratio first last n number shown fits);
          reads = rest_read h sf key quarter said g.ratio first last n number shown fits v w c heard;
          heard = ap (hear ◌+◌ w) stretch ∙ e;
        }

    -- a rest has no grace chords before it
    rest_alone : (n : Note) (w graced next : HeardVoice ℕ) → (n.keys == 0) ≡ true → hear_graces w n.graces ≡ Some graced
        → hear ◌+◌ graced (note_stretch n) ≡ Some next → w ≡ graced
    rest_alone n w graced next silent one e = go n.graces one
      where
        bare : is_empty graced.graces ≡ true
        bare = (and_parts (is_none graced.going) (is_empty graced.graces) (silent_rest graced next (note_stretch n) silent e).0).1

        go : (graces : List ℕ) → hear_graces w graces ≡ Some graced → w ≡ graced
        go [] one = cc
        go (x ∷ graces) one = absurd (not_empty w.graces graces x (sym (ap is_empty (graces_wait w graced (x ∷ graces) one)) ∙ bare))

    note_turns : (n : Note) (first last : Bool) (w next : HeardVoice ℕ) → IsWrittenNote r g.ratio n → hear_note w n ≡ Some next
        → Turns h w (note_text (set sf g.ratio first last) n) next
    unfolding note_text
    note_turns n first last w next is e =
        let (graced, one, rest) = heard_first (hear_graces w n.graces) (λ graced. hear ◌+◌ graced (note_stretch n)) next e in
        go graced one rest (n.keys == 0) refl
      where
        s : List ℕ
        s = rest_text (set sf g.ratio first last) n

        graces : List ℕ
        graces = flat_map (chord_text (grace_text (set sf g.ratio first last))) n.graces

        chord : List ℕ
        chord = chord_text (key_text (set sf g.ratio first last) n) n.keys

        go : (graced : HeardVoice ℕ) → hear_graces w n.graces ≡ Some graced → hear ◌+◌ graced (note_stretch n) ≡ Some next
            → (b : Bool) → (n.keys == 0) ≡ b → Turns h w (if b then s else graces ++ chord) next
        go graced one rest true silent =
            rest_turns n first last w next is silent
            (ap (λ v. hear ◌+◌ v (note_stretch n)) (rest_alone n w graced next silent one rest) ∙ rest)
        go graced one rest false sounds =
            turns_both h w graced next graces chord (graces_turn g.ratio first last n.graces w graced is.graces one)
            (chord_turns n first last graced next is (is.keys sounds) rest)

    notes_turn : (first : Bool) (notes : List Note) (w next : HeardVoice ℕ) → All (IsWrittenNote r g.ratio) notes
        → hear_notes w notes ≡ Some next
        → Turns h w (notes_text sf g.ratio first notes) next
    notes_turn first [] w next all e = turns_none h w next (cc)
    notes_turn first (n ∷ notes) w next all e =
        let (mid, one, rest) = heard_first (hear_note w n) (λ mid. hear_notes mid notes) next e in
        turns_both h w mid next (note_text (set sf g.ratio first (is_empty notes)) n) (notes_text sf g.ratio false notes)
        (note_turns n first (is_empty notes) w mid (All-head (IsWrittenNote r g.ratio) n notes all) one)
        (notes_turn false notes mid next (All-tail (IsWrittenNote r g.ratio) n notes all) rest)

  notes_parted : (xs ys : List Note) (w next : HeardVoice ℕ) → hear_notes w (xs ++ ys) ≡ Some next
      → (mid : HeardVoice ℕ) × (hear_notes w xs ≡ Some mid) × (hear_notes mid ys ≡ Some next)
  notes_parted [] ys w next e = (w, refl, e)
  notes_parted (n ∷ xs) ys w next e =
      let (after, one, rest) = heard_first (hear_note w n) (λ mid. hear_notes mid (xs ++ ys)) next e in
      let (mid, two, last) = notes_parted xs ys after next rest in
      (mid, ap (λ o. o >>= λ mid. hear_notes mid xs) one ∙ two, last)

  pub groups_turn : (groups : List Group) (w next : HeardVoice ℕ) → All (IsWrittenGroup r) groups
      → hear_notes w (group_notes groups) ≡ Some next
      → Turns h w (flat_map (group_text sf) groups) next
  unfolding group_text
  groups_turn [] w next all e = turns_none h w next (cc)
  groups_turn (g ∷ groups) w next all e =
      let (mid, one, rest) = notes_parted g.notes (group_notes groups) w next e in
      let own = All-head (IsWrittenGroup r) g groups all in
      turns_both h w mid next (group_text sf g) (flat_map (group_text sf) groups) (notes_turn g own true g.notes w mid own.notes one)
      (groups_turn groups mid next (All-tail (IsWrittenGroup r) g groups all) rest)
