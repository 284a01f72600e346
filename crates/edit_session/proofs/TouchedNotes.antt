-- What an edit leaves: the notes before it and after it, and the pins of other bars.
use Rattle.std.proofs.Common.{◌≡◌, ℕ, ◌+◌, ◌-◌, ◌<◌, ◌≤◌, Bool, true, false, not, ◌==◌, List, filter, find, length, refl, sym, ap, ◌∙◌, arith, min, max, Option, Some, None}
use Rattle.std.specs.Prelude.{nat_lt, option_map}
use Rattle.std.specs.Cmp.Lexicographic.{slice_cmp}
use Rattle.std.specs.Ordering.{nat_cmp}
use Rattle.std.specs.declared.cmp.Ordering.TheVariants.{Less}
use Rattle.std.proofs.lemmas.Bool.Decides.{nat_tests}
use Rattle.std.proofs.lemmas.List.{length-take}
use Rattle.std.proofs.lemmas.List.Kept.{AllPairs-filter}
use Rattle.rhythm_base.specs.declared.edit.Edit.{Edit}
use Rattle.rhythm_base.specs.declared.edit.Edit.TheVariants.{Add, Drop, Move, Barline, Pin, Unpin, AddBar, DropBar}
use Rattle.rhythm_base.specs.declared.note.Note.{Note}
use Rattle.rhythm_base.specs.declared.pin.Pin as pin
use Rattle.rhythm_base.specs.Lists.{AreInOrder, list_with}
use Rattle.rhythm_base.specs.Performance.{IsWellFormed, Performance, place_of_note, place_of_pin}
use Rattle.rhythm_base.specs.Pins.{is_pin, pin_of, without_pin}
use Rattle.edit_laws.specs.Edits.{is_note, moved_to, note_at, performance_after, put_moved, without_note}
use Rattle.edit_session.specs.Touched.{LeavesPin, touched_from, touched_up_to}
use Rattle.edit_session.proofs.OtherVoices.{filter_put, filter_within, find_within}
use Rattle.edit_session.proofs.SameSides.{is_early, is_late}

-- ---- notes

-- a test that the note of an onset does not pass
module _ (p : Note → Bool) (channel key onset : ℕ) (fails : (n : Note) → n.onset ≡ onset → p n ≡ false) where
  kept : (n : Note) → p n ≡ true → not (is_note channel key onset n) ≡ true
  kept n is = at (n.onset == onset) refl
    where
      at : (b : Bool) → (n.onset == onset) ≡ b → not (is_note channel key onset n) ≡ true
      at true same = let here : n.onset ≡ onset = grind (arith, nat_tests, same) in let wrong = fails n here in absurd (cc)
      at false other = grind (arith, nat_tests, other)

  without : (notes : List Note) → filter p (without_note channel key onset notes) ≡ filter p notes
  without notes = filter_within p (λ n. not (is_note channel key onset n)) kept notes

  put : (n : Note) (notes : List Note) → n.onset ≡ onset → AreInOrder place_of_note notes → filter p (list_with place_of_note n notes) ≡ filter p notes
  put n notes same h = filter_put place_of_note n p notes (fails n same) h

  moved : (to : ℕ) (notes : List Note) → ((n : Note) → n.onset ≡ to → p n ≡ false) → AreInOrder place_of_note notes
      → filter p (put_moved to (note_at notes channel key onset) (without_note channel key onset notes)) ≡ filter p notes
  moved to notes fails_there h = at (note_at notes channel key onset)
    where
      at : (o : Option Note) → filter p (put_moved to o (without_note channel key onset notes)) ≡ filter p notes
      at None = without notes
      at (Some n) =
          filter_put place_of_note (moved_to to n) p (without_note channel key onset notes) (fails_there (moved_to to n) refl)
          (AllPairs-filter (λ x y. slice_cmp nat_cmp (place_of_note x) (place_of_note y) ≡ Less) (λ n. not (is_note channel key onset n)) notes h)
          ∙ without notes

not_early : (low onset : ℕ) → low ≤ onset → (n : Note) → n.onset ≡ onset → is_early low n ≡ false
not_early low onset le n same = grind (arith, nat_tests, le, same)

not_late : (high onset : ℕ) → onset < high → (n : Note) → n.onset ≡ onset → is_late high n ≡ false
not_late high onset lt n same = grind (arith, nat_tests, lt, same)

module _ (p : Performance) (formed : IsWellFormed p) where
  pub early_after : (edit : Edit) → filter (is_early (touched_from edit)) (performance_after p edit).notes ≡ filter (is_early (touched_from edit)) p.notes
  early_after (Add channel key onset end) =
      put (is_early onset) channel key onset (not_early onset onset (omega arith)) (record { channel = channel; key = key; onset = onset; end = end }) p.notes refl formed.notes_in_order
  early_after (Drop channel key onset) = without (is_early onset) channel key onset (not_early onset onset (omega arith)) p.notes
  early_after (Move channel key onset to) =
      moved (is_early (min onset to)) channel key onset (not_early (min onset to) onset (omega arith)) to p.notes (not_early (min onset to) to (omega arith)) formed.notes_in_order
  early_after (Barline bar tick) = refl
  early_after (Pin channel bar shape) = refl
  early_after (Unpin channel bar) = refl
  early_after AddBar = refl
  early_after DropBar = refl

  pub late_after : (edit : Edit) → filter (is_late (touched_up_to edit)) (performance_after p edit).notes ≡ filter (is_late (touched_up_to edit)) p.notes
  late_after (Add channel key onset end) =
      put (is_late (onset + 1)) channel key onset (not_late (onset + 1) onset (omega arith)) (record { channel = channel; key = key; onset = onset; end = end }) p.notes refl formed.notes_in_order
  late_after (Drop channel key onset) = without (is_late (onset + 1)) channel key onset (not_late (onset + 1) onset (omega arith)) p.notes
  late_after (Move channel key onset to) =
      moved (is_late (max onset to + 1)) channel key onset (not_late (max onset to + 1) onset (omega arith)) to p.notes (not_late (max onset to + 1) to (omega arith)) formed.notes_in_order
  late_after (Barline bar tick) = refl
  late_after (Pin channel bar shape) = refl
  late_after (Unpin channel bar) = refl
  late_after AddBar = refl
  late_after DropBar = refl

-- ---- pins

-- the first pin that passes is that of those that pass
find_kept : {X : Type 0} (t : X → Bool) (xs : List X) → find t (filter t xs) ≡ find t xs
find_kept t xs = find_within t t (λ x is. is) xs

same_pin : (pins others : List pin.Pin) (channel bar : ℕ) → filter (is_pin channel bar) pins ≡ filter (is_pin channel bar) others → pin_of pins channel bar ≡ pin_of others channel bar
same_pin pins others channel bar same =
    ap (option_map (λ q. q.shape)) (sym (find_kept (is_pin channel bar) pins) ∙ ap (find (is_pin channel bar)) same ∙ find_kept (is_pin channel bar) others)

module _ (one number channel bar : ℕ) (other : (channel ≡ one) × (bar ≡ number) → ⊥) where
  fails : (q : pin.Pin) → q.channel ≡ one → q.bar ≡ number → is_pin channel bar q ≡ false
  fails q same there = at (is_pin channel bar q) refl
    where
      at : (b : Bool) → is_pin channel bar q ≡ b → b ≡ false
      at false is = refl
      at true is =
          let c : q.channel ≡ channel = grind (arith, nat_tests, is) in
          let k : q.bar ≡ bar = grind (arith, nat_tests, is) in
          absurd (other (omega (arith, c, same), omega (arith, k, there)))

  stays : (q : pin.Pin) → is_pin channel bar q ≡ true → not (is_pin one number q) ≡ true
  stays q is = at (is_pin one number q) refl
    where
      at : (b : Bool) → is_pin one number q ≡ b → not b ≡ true
      at false is_not = refl
      at true here =
          let c : q.channel ≡ one = grind (arith, nat_tests, here) in
          let k : q.bar ≡ number = grind (arith, nat_tests, here) in
          let wrong = fails q c k in absurd (cc)

  pins_without : (pins : List pin.Pin) → filter (is_pin channel bar) (without_pin one number pins) ≡ filter (is_pin channel bar) pins
  pins_without pins = filter_within (is_pin channel bar) (λ q. not (is_pin one number q)) stays pins

  pins_put : (q : pin.Pin) (pins : List pin.Pin) → q.channel ≡ one → q.bar ≡ number → AreInOrder place_of_pin pins
      → filter (is_pin channel bar) (list_with place_of_pin q (without_pin one number pins)) ≡ filter (is_pin channel bar) pins
  pins_put q pins same there h =
      filter_put place_of_pin q (is_pin channel bar) (without_pin one number pins) (fails q same there)
      (AllPairs-filter (λ x y. slice_cmp nat_cmp (place_of_pin x) (place_of_pin y) ≡ Less) (λ q. not (is_pin one number q)) pins h)
      ∙ pins_without pins

within_bars : (channel bar count : ℕ) (q : pin.Pin) → bar < count → is_pin channel bar q ≡ true → nat_lt q.bar count ≡ true
within_bars channel bar count q lt is = grind (arith, nat_tests, lt, is)

module _ (p : Performance) (formed : IsWellFormed p) (channel bar : ℕ) where
  pub pins_after : (edit : Edit) → bar < length (performance_after p edit).bars → LeavesPin edit channel bar → pin_of (performance_after p edit).pins channel bar ≡ pin_of p.pins channel bar
  pins_after (Add one key onset end) lt leaves = refl
  pins_after (Drop one key onset) lt leaves = refl
  pins_after (Move one key onset to) lt leaves = refl
  pins_after (Barline number tick) lt leaves = refl
  pins_after (Pin one number shape) lt leaves =
      let q : pin.Pin = record { channel = one; bar = number; shape = shape } in
      same_pin (list_with place_of_pin q (without_pin one number p.pins)) p.pins channel bar (pins_put one number channel bar leaves q p.pins refl refl formed.pins_in_order)
  pins_after (Unpin one number) lt leaves = same_pin (without_pin one number p.pins) p.pins channel bar (pins_without one number channel bar leaves p.pins)
  pins_after AddBar lt leaves = refl
  pins_after DropBar lt leaves =
      let count : bar < length p.bars - 1 = omega (arith, lt, length-take (length p.bars - 1) p.bars) in
      same_pin (filter (λ q. nat_lt q.bar (length p.bars - 1)) p.pins) p.pins channel bar
      (filter_within (is_pin channel bar) (λ q. nat_lt q.bar (length p.bars - 1)) (λ q is. within_bars channel bar (length p.bars - 1) q count is) p.pins)
