-- The kinds of edits that a drill makes, and that one which is made is in range.
use Rattle.std.proofs.Common.{◌≡◌, ℕ, ◌+◌, ◌%◌, ◌==◌, ◌<◌, ◌≤◌, Bool, true, false, if◌then◌else◌, ◌||◌, ◌⊎◌, inl, inr, List, [], ◌∷◌, length, refl, sym, subst, arith, Option, Some, None, Ok}
use Rattle.std.specs.List.{list_any}
use Rattle.std.specs.Prelude.{Contains, find, max, nat_lt, option_map, slice_get}
use Rattle.std.proofs.Math.Nat.{mod-lt}
use Rattle.std.proofs.lemmas.Bool.Decides.{nat_tests}
use Rattle.std.proofs.lemmas.Option.{get_or_from_slice_get, slice_get_within}
use Rattle.rhythm_base.specs.declared.edit.Edit.TheVariants.{Add, Drop, Move, Barline}
use Rattle.rhythm_base.specs.declared.edit.Edit.{Edit}
use Rattle.rhythm_base.specs.declared.note.Bar.{Bar}
use Rattle.rhythm_base.specs.declared.note.Note.{Note}
use Rattle.rhythm_base.specs.Barlines.{barline, barline_after}
use Rattle.rhythm_base.specs.EditRanges.{IsEditInRange}
use Rattle.edit_laws.specs.Edits.{edit_tests, edited, first_refusal, is_moved_past, is_note, is_past, moved_to, note_at, performance_after}
use Rattle.rhythm_base.specs.Performance.{IsNoteOf, IsWellFormed, Performance}
use Rattle.rhythm_gen.specs.Draws.{draw}
use Rattle.rhythm_gen.specs.DrillEdit.{added_note, delayed, drill_edit, dropped, moved_note}
use Rattle.edit_laws.proofs.Edited.{all_pass, made, not_false, is_inside}
use Rattle.rhythm_base.proofs.Booleans.{and_right}
use Rattle.performance_laws.proofs.PerformedVoices.{by_last}

-- the edits of a drill: a note is added; one is dropped, by the edits whose number leaves 1 over fours; one is moved; a barline
-- between two bars is moved
abbrev pub IsKind : ℕ → Performance → Edit → Type 0
IsKind e p edit =
    ((channel key onset until : ℕ) × (channel < 16) × (key < 128) × (edit ≡ Add channel key onset until))
    ⊎ ((k : ℕ) × (n : Note) × (slice_get p.notes k ≡ Some n) × (e % 4 ≡ 1) × (edit ≡ Drop n.channel n.key n.onset))
    ⊎ ((k : ℕ) × (n : Note) × (slice_get p.notes k ≡ Some n) × (edit ≡ Move n.channel n.key n.onset (n.onset + 30)))
    ⊎ ((bar tick : ℕ) × (1 ≤ bar) × (bar < length p.bars) × (edit ≡ Barline bar tick))

by_bar : (bars : List Bar) (k : ℕ) (f : Bar → Edit) (edit : Edit) → option_map f (slice_get bars k) ≡ Some edit → (b : Bar) × (slice_get bars k ≡ Some b) × (edit ≡ f b)
by_bar bars k f edit h = go (slice_get bars k) refl h
  where
    go : (o : Option Bar) → slice_get bars k ≡ o → option_map f o ≡ Some edit → (b : Bar) × (slice_get bars k ≡ Some b) × (edit ≡ f b)
    go None is h = absurd (cc)
    go (Some b) is h = (b, is, cc)

by_note : (notes : List Note) (k : ℕ) (f : Note → Edit) (edit : Edit) → option_map f (slice_get notes k) ≡ Some edit → (n : Note) × (slice_get notes k ≡ Some n) × (edit ≡ f n)
by_note notes k f edit h = go (slice_get notes k) refl h
  where
    go : (o : Option Note) → slice_get notes k ≡ o → option_map f o ≡ Some edit → (n : Note) × (slice_get notes k ≡ Some n) × (edit ≡ f n)
    go None is h = absurd (cc)
    go (Some n) is h = (n, is, cc)

module _ (e : ℕ) (p : Performance) (edit : Edit) where
  added : (channel key bar : ℕ) → channel < 16 → key < 128 → added_note channel key bar p ≡ Some edit → IsKind e p edit
  added channel key bar low small h =
      let one = by_bar p.bars bar (λ b. Add channel key (b.start + 120) (b.start + 240)) edit h in
      inl (channel, key, one.0.start + 120, one.0.start + 240, low, small, one.2)

  taken : (k : ℕ) → e % 4 ≡ 1 → dropped k p ≡ Some edit → IsKind e p edit
  taken k turn h = let one = by_note p.notes k (λ n. Drop n.channel n.key n.onset) edit h in inr (inl (k, one.0, one.1, turn, one.2))

  moved : (k : ℕ) → moved_note k p ≡ Some edit → IsKind e p edit
  moved k h = let one = by_note p.notes k (λ n. Move n.channel n.key n.onset (n.onset + 30)) edit h in inr (inr (inl (k, one.0, one.1, one.2)))

  set : (k : ℕ) → 1 ≤ k → delayed k p ≡ Some edit → IsKind e p edit
  set k some h =
      let one = by_bar p.bars k (λ b. Barline k (b.start + 10)) edit h in
      inr (inr (inr (k, one.0.start + 10, some, slice_get_within p.bars k one.0 one.1, one.2)))

  by_turn : (v : ℕ) (first second third : Bool) → (second ≡ true → e % 4 ≡ 1)
      → (if first then added_note (e % 2) (72 + v % 12) (v % length p.bars) p
      else (if second then dropped (v % length p.notes) p
      else (if third then moved_note (v % length p.notes) p
      else delayed (max 1 (v % length p.bars)) p))) ≡ Some edit → IsKind e p edit
  by_turn v true second third turn h =
      let low : e % 2 < 2 = mod-lt e (omega arith) in
      let small : v % 12 < 12 = mod-lt v (omega arith) in
      added (e % 2) (72 + v % 12) (v % length p.bars) (omega (arith, low)) (omega (arith, small)) h
  by_turn v false true third turn h = taken (v % length p.notes) (turn refl) h
  by_turn v false false true turn h = moved (v % length p.notes) h
  by_turn v false false false turn h = set (max 1 (v % length p.bars)) (omega arith) h

  pub kind_of : (number : ℕ) → drill_edit number e p ≡ Some edit → IsKind e p edit
  kind_of number h = by_turn (draw (number + 1) (e + 1)) (e % 4 == 0) (e % 4 == 1) (e % 4 == 2) (λ is. grind (arith, nat_tests, is)) h

-- ---- in range

pub note_of : (p : Performance) (k : ℕ) (n : Note) → IsWellFormed p → slice_get p.notes k ≡ Some n → IsNoteOf p.channels p.last n
note_of p k n w is =
    subst (IsNoteOf p.channels p.last) (get_or_from_slice_get p.notes k n n is) (w.notes k n (slice_get_within p.notes k n is))

low_channel : (p : Performance) (channel : ℕ) → IsWellFormed p → Contains p.channels channel → channel < 16
low_channel p channel w (k, lt, is) = subst (λ c. c < 16) is (w.voices k channel lt)

module _ {X : Type 0} (p : X → Bool) where
  -- where one passes, one is found
  pub found_one : (xs : List X) → list_any p xs ≡ true → (x : X) × (find p xs ≡ Some x)
  found_one [] h = absurd (cc)
  found_one (x ∷ xs) h = at (p x) h (found_one xs)
    where
      at : (b : Bool) → (b || list_any p xs) ≡ true → (list_any p xs ≡ true → (y : X) × (find p xs ≡ Some y)) → (y : X) × ((if b then Some x else find p xs) ≡ Some y)
      at true any later = (x, refl)
      at false any later = later any

-- what the tests of a move say: the note is found, and lies within the performance after it
pub moved_inside : (p : Performance) (channel key onset to : ℕ) → first_refusal (edit_tests p (Move channel key onset to)) ≡ None
    → (n : Note) × (note_at p.notes channel key onset ≡ Some n) × (is_past p.last (moved_to to n) ≡ false)
moved_inside p channel key onset to h =
    let pass = all_pass (edit_tests p (Move channel key onset to)) h in
    let one = found_one (is_note channel key onset) p.notes (not_false _ pass.1.0) in
    (one.0, one.1, subst (λ o. is_moved_past p.last to o ≡ false) one.1 pass.1.1.1.0)

-- a barline between two others is not past the latest tick
early : (p : Performance) (bar tick : ℕ) → IsWellFormed p → nat_lt tick (barline_after p bar) ≡ true → tick ≤ 2000000000
early p bar tick w h = at (nat_lt bar (length p.bars)) h
  where
    at : (b : Bool) → nat_lt tick (if b then barline p.bars p.last (bar + 1) else 2000000001) ≡ true → tick ≤ 2000000000
    at true less =
        let before : tick < barline p.bars p.last (bar + 1) = grind (arith, nat_tests, less) in
        omega (arith, before, by_last p.division p.last p.bars (bar + 1) w.bars, w.last_barline)
    at false less = let before : tick < 2000000001 = grind (arith, nat_tests, less) in omega (arith, before)

-- an edit of a drill that is made is in range
pub drill_range : (e : ℕ) (p q : Performance) (edit : Edit) → IsWellFormed p → IsKind e p edit → edited p edit ≡ Ok q → IsEditInRange edit
drill_range e p q edit w kind h = by_kind kind
  where
    passes : first_refusal (edit_tests p edit) ≡ None
    passes = (made (performance_after p edit) q (first_refusal (edit_tests p edit)) h).0

    by_kind : IsKind e p edit → IsEditInRange edit
    by_kind (inl (channel, key, onset, until, low, small, is)) =
        let pass = all_pass (edit_tests p (Add channel key onset until)) (subst (λ (x : Edit). first_refusal (edit_tests p x) ≡ None) is passes) in
        let within = is_inside p.last (record { channel = channel; key = key; onset = onset; end = until }) pass.1.1.1.0 in
        subst IsEditInRange (sym is) (low, small, omega (arith, within.0, w.last_barline), omega (arith, within.1, w.last_barline))
    by_kind (inr (inl (k, n, there, turn, is))) =
        let note = note_of p k n w there in
        subst IsEditInRange (sym is) (low_channel p n.channel w note.voice, note.key, omega (arith, note.onset, w.last_barline))
    by_kind (inr (inr (inl (k, n, there, is)))) =
        let note = note_of p k n w there in
        let one = moved_inside p n.channel n.key n.onset (n.onset + 30) (subst (λ (x : Edit). first_refusal (edit_tests p x) ≡ None) is passes) in
        let within = is_inside p.last (moved_to (n.onset + 30) one.0) one.2 in
        subst IsEditInRange (sym is)
        (low_channel p n.channel w note.voice, note.key, omega (arith, note.onset, w.last_barline), omega (arith, within.0, w.last_barline))
    by_kind (inr (inr (inr (bar, tick, some, few, is)))) =
        let pass = all_pass (edit_tests p (Barline bar tick)) (subst (λ (x : Edit). first_refusal (edit_tests p x) ≡ None) is passes) in
        subst IsEditInRange (sym is) (omega (arith, few, w.few_bars), early p bar tick w (and_right _ _ (not_false _ pass.1.0)))
