-- An edit of notes or pins leaves each voice but its own as it was, and so reaches no cell of it.
use Rattle.std.proofs.Common.{◌≡◌, ℕ, suc, Bool, true, false, not, ◌&&◌, ◌==◌, List, [], ◌∷◌, ◌++◌, length, get_or, refl, sym, ap, ◌∙◌, subst, inl, inr, arith, Ok}
use Rattle.std.specs.Prelude.{All, filter, find, if◌then◌else◌, Option, Some, None, option_map, slice_get, unwrap_or, ◌-◌}
use Rattle.std.specs.Cmp.Lexicographic.{slice_cmp}
use Rattle.std.specs.Ordering.{nat_cmp, is_lt}
use Rattle.std.specs.declared.cmp.Ordering.TheVariants.{Less}
use Rattle.std.proofs.lemmas.Bool.Decides.{nat_tests}
use Rattle.std.proofs.lemmas.List.Elements.{filter-append}
use Rattle.std.proofs.lemmas.List.Kept.{AllPairs-filter}
use Rattle.rhythm_base.specs.declared.edit.Edit.{Edit}
use Rattle.rhythm_base.specs.declared.edit.Edit.TheVariants.{Add, Drop, Move, Barline, Pin, Unpin, AddBar, DropBar}
use Rattle.rhythm_base.specs.declared.note.Bar.{Bar}
use Rattle.rhythm_base.specs.declared.note.Note.{Note}
use Rattle.rhythm_base.specs.declared.pin.Pin as pin
use Rattle.rhythm_base.specs.declared.chord.Chord.{Chord}
use Rattle.rhythm_base.specs.Barlines.{barline}
use Rattle.rhythm_base.specs.BarInput.{BarInput}
use Rattle.rhythm_base.specs.Chords.{AreChords}
use Rattle.edit_laws.specs.Edits.{edited, edit_tests, first_refusal, is_note, moved_to, note_at, performance_after, put_moved, without_note}
use Rattle.rhythm_base.specs.Grammar.{Grammar, root_of}
use Rattle.rhythm_base.specs.Lists.{AreInOrder, list_with}
use Rattle.rhythm_base.specs.Performance.{IsWellFormed, Performance, place_of_note, place_of_pin}
use Rattle.rhythm_base.specs.Pins.{is_pin, pin_of, without_pin}
use Rattle.edit_laws.specs.Reached.{HasNewInput, IsInputOf, IsReached}
use Rattle.rhythm_base.specs.Voices.{AreChordsOf, notes_of_voice, voice_bars, voice_bars_from}
use Rattle.rhythm_base.proofs.OrderedLists.{goes_through, pairs_head, pairs_tail}
use Rattle.edit_laws.proofs.Edited.{made}
use Rattle.edit_session.specs.ChangedVoices.{IsUnchangedVoice, LeavesOthers, MayChange, changed_channel}
use Rattle.edit_session.proofs.OtherInputs.{one_input}

-- ---- what a test keeps of lists with one more, or with fewer

module _ {X : Type 0} (place : X → List ℕ) (x : X) where
  abbrev is_early : X → Bool
  is_early y = is_lt (slice_cmp nat_cmp (place y) (place x))

  abbrev is_late : X → Bool
  is_late y = not (is_early y)

  none_early : (ys : List X) → All (λ z. is_early z ≡ false) ys → (filter is_early ys ≡ []) × (filter is_late ys ≡ ys)
  none_early [] none = (refl, refl)
  none_early (y ∷ ys) none = at (is_early y) (none 0 y (omega arith)) (none_early ys (λ k d lt. none (suc k) d (omega (arith, lt))))
    where
      at : (b : Bool) → b ≡ false → (filter is_early ys ≡ []) × (filter is_late ys ≡ ys)
          → ((if b then y ∷ filter is_early ys else filter is_early ys) ≡ []) × ((if not b then y ∷ filter is_late ys else filter is_late ys) ≡ y ∷ ys)
      at true wrong rest = absurd (cc)
      at false is rest = (rest.0, ap (λ l. y ∷ l) rest.1)

  later_late : (y : X) (ys : List X) → is_early y ≡ false → All (λ z. slice_cmp nat_cmp (place y) (place z) ≡ Less) ys → All (λ z. is_early z ≡ false) ys
  later_late y ys late after k d lt = at (is_early (get_or ys k d)) refl
    where
      at : (b : Bool) → is_early (get_or ys k d) ≡ b → b ≡ false
      at true is = sym (goes_through (place y) (place (get_or ys k d)) (place x) (ap is_lt (after k d lt)) is) ∙ late
      at false is = refl

  -- a list in order: those that stand before x, and the others
  whole : (ys : List X) → AreInOrder place ys → filter is_early ys ++ filter is_late ys ≡ ys
  whole [] h = refl
  whole (y ∷ ys) h = at (is_early y) refl (whole ys (pairs_tail (λ a b. slice_cmp nat_cmp (place a) (place b) ≡ Less) y ys h))
    where
      at : (b : Bool) → is_early y ≡ b → filter is_early ys ++ filter is_late ys ≡ ys
          → (if b then y ∷ filter is_early ys else filter is_early ys) ++ (if not b then y ∷ filter is_late ys else filter is_late ys) ≡ y ∷ ys
      at true is rest = ap (λ l. y ∷ l) rest
      at false is rest =
          let none = none_early ys (later_late y ys is (pairs_head (λ a b. slice_cmp nat_cmp (place a) (place b) ≡ Less) y ys h)) in
          λ i. none.0 i ++ (y ∷ none.1 i)

  -- one more that a test does not keep
  pub filter_put : (p : X → Bool) (ys : List X) → p x ≡ false → AreInOrder place ys → filter p (list_with place x ys) ≡ filter p ys
  filter_put p ys is h =
      filter-append p (filter is_early ys) (x ∷ filter is_late ys)
      ∙ ap (λ (b : Bool). filter p (filter is_early ys) ++ (if b then x ∷ filter p (filter is_late ys) else filter p (filter is_late ys))) is
      ∙ sym (filter-append p (filter is_early ys) (filter is_late ys))
      ∙ ap (filter p) (whole ys h)

module _ {X : Type 0} (p q : X → Bool) (within : (x : X) → p x ≡ true → q x ≡ true) where
  -- fewer, but all of those that a test keeps
  pub filter_within : (xs : List X) → filter p (filter q xs) ≡ filter p xs
  filter_within [] = refl
  filter_within (x ∷ xs) = at (q x) (p x) refl refl (filter_within xs)
    where
      at : (a b : Bool) → q x ≡ a → p x ≡ b → filter p (filter q xs) ≡ filter p xs
          → filter p (if a then x ∷ filter q xs else filter q xs) ≡ (if b then x ∷ filter p xs else filter p xs)
      at true b kept is rest = ap (λ (c : Bool). if c then x ∷ filter p (filter q xs) else filter p (filter q xs)) is ∙ ap (λ l. if b then x ∷ l else l) rest
      at false true kept is rest = let wrong = within x is in absurd (cc)
      at false false kept is rest = rest

  pub find_within : (xs : List X) → find p (filter q xs) ≡ find p xs
  find_within [] = refl
  find_within (x ∷ xs) = at (q x) (p x) refl refl (find_within xs)
    where
      at : (a b : Bool) → q x ≡ a → p x ≡ b → find p (filter q xs) ≡ find p xs
          → find p (if a then x ∷ filter q xs else filter q xs) ≡ (if b then Some x else find p xs)
      at true b kept is rest = ap (λ (c : Bool). if c then Some x else find p (filter q xs)) is ∙ ap (λ o. if b then Some x else o) rest
      at false true kept is rest = let wrong = within x is in absurd (cc)
      at false false kept is rest = rest

-- ---- the notes and pins of another voice

module _ (one channel : ℕ) (other : channel ≡ one → ⊥) where
  abbrev is_its_note : Note → Bool
  is_its_note n = n.channel == channel

  abbrev is_its_pin : pin.Pin → Bool
  is_its_pin q = q.channel == channel

  is_another : (c : ℕ) → c ≡ one → (c == channel) ≡ false
  is_another c same = grind (arith, nat_tests)

  its_stays : (c : ℕ) (b : Bool) → (c == channel) ≡ true → not ((c == one) && b) ≡ true
  its_stays c b is = grind (arith, nat_tests)

  notes_without : (key onset : ℕ) (notes : List Note) → filter is_its_note (without_note one key onset notes) ≡ filter is_its_note notes
  notes_without key onset notes =
      filter_within is_its_note (λ n. not (is_note one key onset n)) (λ n is. its_stays n.channel ((n.key == key) && (n.onset == onset)) is) notes

  notes_put : (n : Note) (notes : List Note) → n.channel ≡ one → AreInOrder place_of_note notes → filter is_its_note (list_with place_of_note n notes) ≡ filter is_its_note notes
  notes_put n notes same h = filter_put place_of_note n is_its_note notes (is_another n.channel same) h

  found : (key onset : ℕ) (notes : List Note) (n : Note) → find (is_note one key onset) notes ≡ Some n → n.channel ≡ one
  found key onset [] n e = absurd (cc)
  found key onset (x ∷ notes) n e = at (is_note one key onset x) refl e (found key onset notes n)
    where
      at : (b : Bool) → is_note one key onset x ≡ b → (if b then Some x else find (is_note one key onset) notes) ≡ Some n
          → (find (is_note one key onset) notes ≡ Some n → n.channel ≡ one) → n.channel ≡ one
      at true is e rest = let same : x ≡ n = cc in let own : x.channel ≡ one = grind (arith, nat_tests) in subst (λ (m : Note). m.channel ≡ one) same own
      at false is e rest = rest e

  notes_moved : (key onset to : ℕ) (notes : List Note) → AreInOrder place_of_note notes
      → filter is_its_note (put_moved to (note_at notes one key onset) (without_note one key onset notes)) ≡ filter is_its_note notes
  notes_moved key onset to notes h = at (note_at notes one key onset) refl
    where
      at : (o : Option Note) → note_at notes one key onset ≡ o → filter is_its_note (put_moved to o (without_note one key onset notes)) ≡ filter is_its_note notes
      at None is = notes_without key onset notes
      at (Some n) is =
          notes_put (moved_to to n) (without_note one key onset notes) (found key onset notes n is)
          (AllPairs-filter (λ x y. slice_cmp nat_cmp (place_of_note x) (place_of_note y) ≡ Less) (λ n. not (is_note one key onset n)) notes h)
          ∙ notes_without key onset notes

  pins_without : (bar : ℕ) (pins : List pin.Pin) → filter is_its_pin (without_pin one bar pins) ≡ filter is_its_pin pins
  pins_without bar pins = filter_within is_its_pin (λ q. not (is_pin one bar q)) (λ q is. its_stays q.channel (q.bar == bar) is) pins

  pins_put : (bar : ℕ) (q : pin.Pin) (pins : List pin.Pin) → q.channel ≡ one → AreInOrder place_of_pin pins
      → filter is_its_pin (list_with place_of_pin q (without_pin one bar pins)) ≡ filter is_its_pin pins
  pins_put bar q pins same h =
      filter_put place_of_pin q is_its_pin (without_pin one bar pins) (is_another q.channel same)
      (AllPairs-filter (λ x y. slice_cmp nat_cmp (place_of_pin x) (place_of_pin y) ≡ Less) (λ q. not (is_pin one bar q)) pins h)
      ∙ pins_without bar pins

  is_its : (bar : ℕ) (q : pin.Pin) → is_pin channel bar q ≡ true → is_its_pin q ≡ true
  is_its bar q is = grind (arith, nat_tests)

  -- the pin of a bar is one of the voice's own pins
  same_pin : (pins others : List pin.Pin) → filter is_its_pin pins ≡ filter is_its_pin others → (bar : ℕ) → pin_of pins channel bar ≡ pin_of others channel bar
  same_pin pins others same bar =
      ap (option_map (λ q. q.shape))
      (sym (find_within (is_pin channel bar) is_its_pin (is_its bar) pins) ∙ ap (find (is_pin channel bar)) same ∙ find_within (is_pin channel bar) is_its_pin (is_its bar) others)

-- ---- an edit

module _ (p : Performance) (formed : IsWellFormed p) (channel : ℕ) where
  with_notes : (notes : List Note) → filter (λ n. n.channel == channel) notes ≡ notes_of_voice p channel → IsUnchangedVoice p (record p { notes = notes }) channel
  with_notes notes same = record { notes = same; pins = λ bar. refl; bars = refl; last = refl; tempos = refl; division = refl }

  with_pins : (pins : List pin.Pin) → ((bar : ℕ) → pin_of pins channel bar ≡ pin_of p.pins channel bar) → IsUnchangedVoice p (record p { pins = pins }) channel
  with_pins pins same = record { notes = refl; pins = same; bars = refl; last = refl; tempos = refl; division = refl }

  unchanged_after : (edit : Edit) → (MayChange (changed_channel edit) channel → ⊥) → IsUnchangedVoice p (performance_after p edit) channel
  unchanged_after (Add one key onset end) other =
      let n : Note = record { channel = one; key = key; onset = onset; end = end } in
      with_notes (list_with place_of_note n p.notes) (notes_put one channel other n p.notes refl formed.notes_in_order)
  unchanged_after (Drop one key onset) other = with_notes (without_note one key onset p.notes) (notes_without one channel other key onset p.notes)
  unchanged_after (Move one key onset to) other =
      with_notes (put_moved to (note_at p.notes one key onset) (without_note one key onset p.notes)) (notes_moved one channel other key onset to p.notes formed.notes_in_order)
  unchanged_after (Barline bar tick) other = absurd (other tt)
  unchanged_after (Pin one bar shape) other =
      let q : pin.Pin = record { channel = one; bar = bar; shape = shape } in
      let pins : List pin.Pin = list_with place_of_pin q (without_pin one bar p.pins) in
      with_pins pins (same_pin one channel other pins p.pins (pins_put one channel other bar q p.pins refl formed.pins_in_order))
  unchanged_after (Unpin one bar) other =
      with_pins (without_pin one bar p.pins) (same_pin one channel other (without_pin one bar p.pins) p.pins (pins_without one channel other bar p.pins))
  unchanged_after AddBar other = absurd (other tt)
  unchanged_after DropBar other = absurd (other tt)

pub edited_leaves : (p q : Performance) (edit : Edit) → IsWellFormed p → edited p edit ≡ Ok q → LeavesOthers (changed_channel edit) p q
edited_leaves p q edit formed h = λ channel other.
    let after = made (performance_after p edit) q (first_refusal (edit_tests p edit)) h in
    subst (λ r. IsUnchangedVoice p r channel) after.1 (unchanged_after p formed channel edit other)

-- an edit leaves all that times depend on
pub times : (p : Performance) (edit : Edit) → ((performance_after p edit).tempos ≡ p.tempos) × ((performance_after p edit).division ≡ p.division)
times p (Add channel key onset end) = (refl, refl)
times p (Drop channel key onset) = (refl, refl)
times p (Move channel key onset to) = (refl, refl)
times p (Barline bar tick) = (refl, refl)
times p (Pin channel bar shape) = (refl, refl)
times p (Unpin channel bar) = (refl, refl)
times p AddBar = (refl, refl)
times p DropBar = (refl, refl)

pub edited_times : (p q : Performance) (edit : Edit) → edited p edit ≡ Ok q → (q.tempos ≡ p.tempos) × (q.division ≡ p.division)
edited_times p q edit h =
    let after = made (performance_after p edit) q (first_refusal (edit_tests p edit)) h in
    subst (λ (r : Performance). (r.tempos ≡ p.tempos) × (r.division ≡ p.division)) after.1 (times p edit)

-- ---- the cells of a voice that is as before

module _ (g : Grammar) (p q : Performance) (channel : ℕ) (kept : IsUnchangedVoice p q channel) where
  same_bars_from : (last i : ℕ) (bars : List Bar) → voice_bars_from g q.pins channel last i bars ≡ voice_bars_from g p.pins channel last i bars
  same_bars_from last i [] = refl
  same_bars_from last i (b ∷ bars) =
      let rest = same_bars_from last (suc i) bars in
      let pin = kept.pins i in
      λ k. record {
        start = b.start;
        length = barline bars last 0 - b.start;
        num = b.num;
        den = b.den;
        symbol = unwrap_or (root_of g.starts b.num b.den) 0;
        pin = pin k;
      } ∷ rest k

  same_bars : voice_bars g q channel ≡ voice_bars g p channel
  same_bars = (λ k. voice_bars_from g q.pins channel (kept.last k) 0 (kept.bars k)) ∙ same_bars_from p.last 0 p.bars

  same_chords : (cs : List Chord) → AreChordsOf g q channel cs → AreChordsOf g p channel cs
  same_chords cs h =
      subst (λ ns. AreChords p.tempos p.division g.window ns cs) kept.notes
      (subst (λ d. AreChords p.tempos d g.window (notes_of_voice q channel) cs) kept.division
      (subst (λ ts. AreChords ts q.division g.window (notes_of_voice q channel) cs) kept.tempos h))

  same_input_of : (i : ℕ) (k : BarInput) → IsInputOf g q channel i k → IsInputOf g p channel i k
  same_input_of i k h = record {
    chords = h.chords;
    are_chords = same_chords h.chords h.are_chords;
    cell_bar = h.cell_bar;
    there = ap (λ bs. slice_get bs i) (sym same_bars) ∙ h.there;
    is = h.is;
  }

  -- no cell of it is reached
  pub unchanged_unreached : (i : ℕ) → IsReached g p q channel i → ⊥
  unchanged_unreached i reached = at reached.2
    where
      at : HasNewInput g p q channel i → ⊥
      at (inl le) = let lt = reached.1 in omega (arith, le, lt, ap length kept.bars)
      at (inr (k, l, before, after, differ)) = differ (one_input g p channel i k l before (same_input_of i l after))
