-- An edit that is not refused keeps a performance well formed, and its voices.
use Rattle.std.proofs.Common.{◌≡◌, ℕ, ◌+◌, ◌-◌, ◌<◌, ◌≤◌, Bool, true, false, not, ◌&&◌, ◌||◌, nat_lt, nat_le, ◌==◌, List, [], ◌∷◌, ◌++◌, length, length-append, take, get_or, subst, refl, sym, ap, ◌∙◌, arith, ◌⊎◌, inl, inr, Option, Some, None, Ok}
use Rattle.std.specs.Cmp.Lexicographic.{slice_cmp}
use Rattle.std.specs.List.Sorted.{IsStrictlyIncreasing}
use Rattle.std.specs.List.{list_any}
use Rattle.std.specs.Ordering.{nat_cmp}
use Rattle.std.specs.Prelude.{slice_index, All, Any, Contains, filter, find, slice_index_or, if◌then◌else◌}
use Rattle.std.specs.declared.cmp.Ordering.TheVariants.{Less}
use Rattle.std.proofs.Math.ListN.{get_or-append}
use Rattle.std.proofs.lemmas.Bool.Decides.{eqb_tells, nat_tests}
use Rattle.std.proofs.lemmas.Bool.{cases_order, not-true}
use Rattle.std.proofs.lemmas.List.Elements.{All-append, All-filter, All-nil, All-take, filter_passes}
use Rattle.std.proofs.lemmas.List.Folds.{Any-from_list_any}
use Rattle.std.proofs.lemmas.List.Kept.{AllPairs-filter, AllPairs-from_increasing}
use Rattle.std.proofs.lemmas.List.{length-map, length-take-le, map-append}
use Rattle.std.proofs.lemmas.Option.{slice_get-get_or}
use Rattle.rhythm_base.specs.declared.edit.Edit.TheVariants.{Add, Drop, Move, Barline, Pin, Unpin, AddBar, DropBar}
use Rattle.rhythm_base.specs.declared.edit.Edit.{Edit}
use Rattle.rhythm_base.specs.declared.edit_fault.EditFault.{EditFault}
use Rattle.rhythm_base.specs.declared.note.Bar.{Bar}
use Rattle.rhythm_base.specs.declared.note.Note.{Note}
use Rattle.rhythm_base.specs.declared.pin.Pin as pin
use Rattle.rhythm_base.specs.Lists.{list_with, AreInOrder, last_of}
use Rattle.rhythm_base.specs.Barlines.{barline, barline_after, last_start, next_barline, nominal, nominal_of}
use Rattle.rhythm_base.specs.Pins.{is_pin, without_pin}
use Rattle.rhythm_base.specs.EditRanges.{IsEditInRange}
use Rattle.edit_laws.specs.Edits.{performance_after, next_bar, with_barline, with_start, edited, first_refusal, has_note, is_moved_past, is_note, is_past, moved_to, note_at, put_moved, lacks_voice, edit_tests, unless_refused, without_note}
use Rattle.rhythm_base.specs.Shape.{Shape}
use Rattle.rhythm_base.specs.Performance.{IsBarOf, IsNoteOf, IsPinOf, IsWellFormed, Performance, place_of_note, place_of_pin}
use Rattle.performance_laws.proofs.EditedBars.{barline_is, barline_last, start_all, starts}
use Rattle.edit_laws.proofs.BarEdits.{All-get, All-with_barline, all_starts, below_start, elsewhere, length-with_barline, ne_lt, rises, rises-push, rises-take, some_tick, start-take, unchanged}
use Rattle.rhythm_base.proofs.OrderedLists.{All-put, all_cons, all_head, all_tail, put_in_order}

-- ---- the tests

-- an edit that is made passes its tests, and the performance is the one after it
pub made : (p q : Performance) (refusal : Option EditFault) → unless_refused p refusal ≡ Ok q → (refusal ≡ None) × (p ≡ q)
made p q None h = (refl, cc)
made p q (Some fault) h = absurd (cc)

-- none of the tests holds
abbrev pub AllPass : List (Bool × EditFault) → Type 0
AllPass [] = Unit {0}
AllPass (test ∷ more) = (test.0 ≡ false) × AllPass more

passed : (test : Bool) (fault : EditFault) (more : List (Bool × EditFault)) → (if test then Some fault else first_refusal more) ≡ None
    → (first_refusal more ≡ None → AllPass more) → (test ≡ false) × AllPass more
passed true fault more h later = absurd (cc)
passed false fault more h later = (refl, later h)

pub all_pass : (list : List (Bool × EditFault)) → first_refusal list ≡ None → AllPass list
all_pass [] h = tt
all_pass (test ∷ more) h = passed test.0 test.1 more h (all_pass more)

-- ---- parts of a performance

with_notes : (p : Performance) (notes : List Note) → IsWellFormed p → All (IsNoteOf p.channels p.last) notes → AreInOrder place_of_note notes
    → IsWellFormed (record p { notes = notes })
with_notes p notes w all in_order = record {
  division_low = w.division_low;
  division_high = w.division_high;
  tempos = w.tempos;
  tempos_in_order = w.tempos_in_order;
  key_marks = w.key_marks;
  key_marks_in_order = w.key_marks_in_order;
  some_bar = w.some_bar;
  few_bars = w.few_bars;
  bars = w.bars;
  first_bar = w.first_bar;
  bars_rise = w.bars_rise;
  last_barline = w.last_barline;
  some_voice = w.some_voice;
  voices_rise = w.voices_rise;
  voices = w.voices;
  notes = all;
  notes_in_order = in_order;
  pins = w.pins;
  pins_in_order = w.pins_in_order;
}

with_pins : (p : Performance) (pins : List pin.Pin) → IsWellFormed p → All (IsPinOf p.channels (length p.bars)) pins → AreInOrder place_of_pin pins
    → IsWellFormed (record p { pins = pins })
with_pins p pins w all in_order = record {
  division_low = w.division_low;
  division_high = w.division_high;
  tempos = w.tempos;
  tempos_in_order = w.tempos_in_order;
  key_marks = w.key_marks;
  key_marks_in_order = w.key_marks_in_order;
  some_bar = w.some_bar;
  few_bars = w.few_bars;
  bars = w.bars;
  first_bar = w.first_bar;
  bars_rise = w.bars_rise;
  last_barline = w.last_barline;
  some_voice = w.some_voice;
  voices_rise = w.voices_rise;
  voices = w.voices;
  notes = w.notes;
  notes_in_order = w.notes_in_order;
  pins = all;
  pins_in_order = in_order;
}

-- ---- what a list's tests say

module _ {X : Type 0} (p : X → Bool) where
  false_either : (a b : Bool) → (a || b) ≡ false → (a ≡ false) × (b ≡ false)
  false_either true b h = absurd (cc)
  false_either false b h = (refl, h)

  -- no element passes
  pub none_passes : (xs : List X) → list_any p xs ≡ false → All (λ x. p x ≡ false) xs
  none_passes [] h = All-nil (λ x. p x ≡ false)
  none_passes (x ∷ xs) h =
      let both = false_either (p x) (list_any p xs) h in
      all_cons (λ x. p x ≡ false) x xs both.0 (none_passes xs both.1)

  found : (P : X → Type 0) (x y : X) (xs : List X) → All P (x ∷ xs) → (b : Bool) → p x ≡ b → (if b then Some x else find p xs) ≡ Some y
      → (All P xs → find p xs ≡ Some y → P y × (p y ≡ true)) → P y × (p y ≡ true)
  found P x y xs all true is h later =
      let same : x ≡ y = cc in
      (subst P same (all_head P x xs all), ap p (sym same) ∙ is)
  found P x y xs all false is h later = later (all_tail P x xs all) h

  -- what is found is one of them, and passes
  pub is_found : (P : X → Type 0) (y : X) (xs : List X) → All P xs → find p xs ≡ Some y → P y × (p y ≡ true)
  is_found P y [] all h = absurd (cc)
  is_found P y (x ∷ xs) all h = found P x y xs all (p x) refl h (is_found P y xs)

-- ---- voices and notes

pub not_false : (b : Bool) → not b ≡ false → b ≡ true
not_false true h = refl
not_false false h = absurd (cc)

is_element : (c : ℕ) (xs : List ℕ) → Any (λ x. (x == c) ≡ true) xs → Contains xs c
is_element c xs h =
    let same : h.1 ≡ c = grind (arith, nat_tests, h.4) in
    (h.0, h.2, subst (λ x. slice_index_or xs h.0 x ≡ x) same h.3)

pub voice_there : (p : Performance) (c : ℕ) → lacks_voice p c ≡ false → Contains p.channels c
voice_there p c h = is_element c p.channels (Any-from_list_any (λ x. x == c) p.channels (not_false _ h))

same_note : (y n : Note) → place_of_note y ≡ place_of_note n → is_note n.channel n.key n.onset y ≡ true
same_note y n h =
    let channel : y.channel ≡ n.channel = cc in
    let onset : y.onset ≡ n.onset = cc in
    let key : y.key ≡ n.key = cc in
    grind (arith, nat_tests, channel, onset, key)

-- a note that is none of the list stands at another place than each of them
apart : (n : Note) (notes : List Note) → has_note notes n.channel n.key n.onset ≡ false → All (λ y. place_of_note y ≡ place_of_note n → ⊥) notes
apart n notes none k d lt same =
    let no = none_passes (is_note n.channel n.key n.onset) notes none k d lt in
    let is = same_note (get_or notes k d) n same in
    absurd (cc)

-- a note within the performance
pub is_inside : (last : ℕ) (n : Note) → is_past last n ≡ false → (n.onset < last) × (n.end ≤ last)
is_inside last n h =
    let both = false_either (λ (x : ℕ). true) (nat_le last n.onset) (nat_lt last n.end) h in
    (grind (arith, nat_tests, both.0), grind (arith, nat_tests, both.1))

-- ---- the edits of notes

abbrev Formed : Performance → Edit → Type 0
Formed p edit = IsWellFormed p → IsEditInRange edit → first_refusal (edit_tests p edit) ≡ None → IsWellFormed (performance_after p edit)

-- a performance with one note more
add_note : (p : Performance) (n : Note) (notes : List Note) → IsWellFormed p → All (IsNoteOf p.channels p.last) notes → AreInOrder place_of_note notes
    → has_note notes n.channel n.key n.onset ≡ false → IsNoteOf p.channels p.last n → IsWellFormed (record p { notes = list_with place_of_note n notes })
add_note p n notes w all in_order none is =
    with_notes p (list_with place_of_note n notes) w (All-put place_of_note (IsNoteOf p.channels p.last) n notes is all)
    (put_in_order place_of_note n notes in_order (apart n notes none))

added : (p : Performance) (channel key onset until : ℕ) → Formed p (Add channel key onset until)
added p channel key onset until w range h =
    let n : Note = record { channel = channel; key = key; onset = onset; end = until } in
    let pass = all_pass (edit_tests p (Add channel key onset until)) h in
    let inside = is_inside p.last n pass.1.1.1.0 in
    add_note p n p.notes w w.notes w.notes_in_order pass.1.1.0 (record {
      voice = voice_there p channel pass.0;
      key = range.1;
      onset = inside.0;
      after = grind (arith, nat_tests, pass.1.0);
      end = inside.1;
    })

without : (p : Performance) (channel key onset : ℕ) → IsWellFormed p → IsWellFormed (record p { notes = without_note channel key onset p.notes })
without p channel key onset w =
    let P : Note → Bool = λ n. not (is_note channel key onset n) in
    with_notes p (filter P p.notes) w (All-filter P (IsNoteOf p.channels p.last) p.notes w.notes)
    (AllPairs-filter (λ x y. slice_cmp nat_cmp (place_of_note x) (place_of_note y) ≡ Less) P p.notes w.notes_in_order)

is_that : (channel key onset : ℕ) (n : Note) → is_note channel key onset n ≡ true → (n.channel ≡ channel) × (n.key ≡ key)
is_that channel key onset n h = (grind (arith, nat_tests, h), grind (arith, nat_tests, h))

moved_one : (p : Performance) (channel key onset to : ℕ) (found : Option Note) → IsWellFormed p → note_at p.notes channel key onset ≡ found
    → has_note (without_note channel key onset p.notes) channel key to ≡ false → is_moved_past p.last to found ≡ false
    → IsWellFormed (record p { notes = put_moved to found (without_note channel key onset p.notes) })
moved_one p channel key onset to None w is none inside = without p channel key onset w
moved_one p channel key onset to (Some n) w is none inside =
    let it = is_found (is_note channel key onset) (IsNoteOf p.channels p.last) n p.notes w.notes is in
    let that = is_that channel key onset n it.1 in
    let rest = without p channel key onset w in
    let notes : List Note = without_note channel key onset p.notes in
    let m : Note = moved_to to n in
    let free : has_note notes n.channel n.key to ≡ false =
    subst (λ c. has_note notes c n.key to ≡ false) (sym that.0) (subst (λ k. has_note notes channel k to ≡ false) (sym that.1) none) in
    let within = is_inside p.last m inside in
    add_note p m notes w rest.notes rest.notes_in_order free (record {
      voice = it.0.voice;
      key = it.0.key;
      onset = within.0;
      after = omega arith;
      end = within.1;
    })

moved : (p : Performance) (channel key onset to : ℕ) → Formed p (Move channel key onset to)
moved p channel key onset to w range h =
    let pass = all_pass (edit_tests p (Move channel key onset to)) h in
    moved_one p channel key onset to (note_at p.notes channel key onset) w refl pass.1.1.0 pass.1.1.1.0

-- ---- pins

same_pin : (y q : pin.Pin) → place_of_pin y ≡ place_of_pin q → is_pin q.channel q.bar y ≡ true
same_pin y q h =
    let channel : y.channel ≡ q.channel = cc in
    let bar : y.bar ≡ q.bar = cc in
    grind (arith, nat_tests, channel, bar)

-- none of the other pins is at the place of this one
pins_apart : (q : pin.Pin) (pins : List pin.Pin) → All (λ y. place_of_pin y ≡ place_of_pin q → ⊥) (without_pin q.channel q.bar pins)
pins_apart q pins k d lt same =
    let kept = filter_passes (λ y. not (is_pin q.channel q.bar y)) pins k d lt in
    let no = not-true _ kept in
    let is = same_pin (get_or (without_pin q.channel q.bar pins) k d) q same in
    absurd (cc)

unpinned : (p : Performance) (channel bar : ℕ) → IsWellFormed p → IsWellFormed (record p { pins = without_pin channel bar p.pins })
unpinned p channel bar w =
    let P : pin.Pin → Bool = λ q. not (is_pin channel bar q) in
    with_pins p (filter P p.pins) w (All-filter P (IsPinOf p.channels (length p.bars)) p.pins w.pins)
    (AllPairs-filter (λ x y. slice_cmp nat_cmp (place_of_pin x) (place_of_pin y) ≡ Less) P p.pins w.pins_in_order)

pinned : (p : Performance) (channel bar : ℕ) (shape : Shape) → Formed p (Pin channel bar shape)
pinned p channel bar shape w range h =
    let q : pin.Pin = record { channel = channel; bar = bar; shape = shape } in
    let pass = all_pass (edit_tests p (Pin channel bar shape)) h in
    let rest = unpinned p channel bar w in
    let is : IsPinOf p.channels (length p.bars) q = record {
      voice = voice_there p channel pass.0;
      bar = grind (arith, nat_tests, pass.1.0);
      shape = range.2;
    } in
    with_pins p (list_with place_of_pin q (without_pin channel bar p.pins)) w
    (All-put place_of_pin (IsPinOf p.channels (length p.bars)) q (without_pin channel bar p.pins) is rest.pins)
    (put_in_order place_of_pin q (without_pin channel bar p.pins) rest.pins_in_order (pins_apart q p.pins))

-- ---- barlines and bars

-- a performance with other bars, another last barline and fewer pins
with_bars : (p : Performance) (bars : List Bar) (last : ℕ) (pins : List pin.Pin) → IsWellFormed p
    → (1 ≤ length bars) × (length bars ≤ 4096) → All (IsBarOf p.division last) bars
    → (slice_index (starts bars) 0 ≡ 0) × IsStrictlyIncreasing (starts bars) → last ≤ 2000000000
    → All (IsNoteOf p.channels last) p.notes → All (IsPinOf p.channels (length bars)) pins → AreInOrder place_of_pin pins
    → IsWellFormed (record p { bars = bars; last = last; pins = pins })
with_bars p bars last pins w number all rise low notes are in_order = record {
  division_low = w.division_low;
  division_high = w.division_high;
  tempos = w.tempos;
  tempos_in_order = w.tempos_in_order;
  key_marks = w.key_marks;
  key_marks_in_order = w.key_marks_in_order;
  some_bar = number.0;
  few_bars = number.1;
  bars = all;
  first_bar = rise.0;
  bars_rise = rise.1;
  last_barline = low;
  some_voice = w.some_voice;
  voices_rise = w.voices_rise;
  voices = w.voices;
  notes = notes;
  notes_in_order = w.notes_in_order;
  pins = are;
  pins_in_order = in_order;
}

-- notes that are not past a tick are notes of a performance that ends there
notes_until : (channels : List ℕ) (last tick : ℕ) (notes : List Note) → All (IsNoteOf channels last) notes → list_any (is_past tick) notes ≡ false
    → All (IsNoteOf channels tick) notes
notes_until channels last tick notes all none k d lt =
    let n : Note = get_or notes k d in
    let is : IsNoteOf channels last n = all k d lt in
    let inside = is_inside tick n (none_passes (is_past tick) notes none k d lt) in
    record { voice = is.voice; key = is.key; onset = inside.0; after = is.after; end = inside.1 }

notes_later : (channels : List ℕ) (last tick : ℕ) (notes : List Note) → last ≤ tick → All (IsNoteOf channels last) notes → All (IsNoteOf channels tick) notes
notes_later channels last tick notes le all k d lt =
    let is : IsNoteOf channels last (get_or notes k d) = all k d lt in
    record { voice = is.voice; key = is.key; onset = omega (arith, le, is.onset); after = is.after; end = omega (arith, le, is.end) }

bars_later : (division last tick : ℕ) (bars : List Bar) → All (IsBarOf division last) bars → All (λ b. b.start < tick) bars → All (IsBarOf division tick) bars
bars_later division last tick bars all below k d lt =
    let is : IsBarOf division last (get_or bars k d) = all k d lt in
    record { start = below k d lt; signature = is.signature; whole = is.whole }

bars_until : (division last tick : ℕ) (bars : List Bar) → IsStrictlyIncreasing (starts bars) → All (IsBarOf division last) bars
    → (n : ℕ) → n + 1 ≡ length bars → slice_index (starts bars) n < tick → All (IsBarOf division tick) bars
bars_until division last tick bars up all n size less =
    bars_later division last tick bars all
    (all_starts (λ s. s < tick) bars (λ k lt. below_start bars n tick up (omega (arith, size)) less k (omega (arith, size, lt))))

cases_below : (a b : ℕ) → (a < b) ⊎ (b ≤ a)
cases_below a b = elim (cases_order a b) [ inl same ↦ inr (omega (arith, same)) | inr more ↦ elim more [ inl less ↦ inl less | inr back ↦ inr (omega (arith, back)) ] ]

-- ---- the last barline, and one inside

last_moved : (p : Performance) (tick : ℕ) → IsWellFormed p → barline p.bars p.last (length p.bars - 1) < tick → tick ≤ 2000000000
    → list_any (is_past tick) p.notes ≡ false → IsWellFormed (record p { last = tick })
last_moved p tick w low high none =
    let n : ℕ = length p.bars - 1 in
    let size : n + 1 ≡ length p.bars = omega (arith, w.some_bar) in
    let is = barline_is p.bars p.last n (omega (arith, size)) in
    with_bars p p.bars tick p.pins w (w.some_bar, w.few_bars)
    (bars_until p.division p.last tick p.bars w.bars_rise w.bars n size (omega (arith, is, low)))
    (w.first_bar, w.bars_rise) high
    (notes_until p.channels p.last tick p.notes w.notes none) w.pins w.pins_in_order

-- a tick before the barline after bar number `bar` is before the last barline
before_last : (p : Performance) (bar tick : ℕ) → IsWellFormed p → tick < barline p.bars p.last (bar + 1) → tick < p.last
before_last p bar tick w high = go (cases_below (bar + 1) (length p.bars))
  where
    go : (bar + 1 < length p.bars) ⊎ (length p.bars ≤ bar + 1) → tick < p.last
    go (inl lt) =
        let is = barline_is p.bars p.last (bar + 1) lt in
        let less = start_all (λ s. s < p.last) p.bars (λ k d h. (w.bars k d h).start) (bar + 1) lt in
        omega (arith, high, is, less)
    go (inr le) = omega (arith, high, barline_last p.bars p.last (bar + 1) le)

inner_moved : (p : Performance) (bar tick : ℕ) → IsWellFormed p → 1 ≤ bar → bar < length p.bars → barline p.bars p.last (bar - 1) < tick
    → tick < barline p.bars p.last (bar + 1) → IsWellFormed (record p { bars = with_barline bar tick p.bars })
inner_moved p bar tick w some inside low high =
    let size = length-with_barline bar tick p.bars in
    let early : tick < p.last = before_last p bar tick w high in
    with_bars p (with_barline bar tick p.bars) p.last p.pins w
    (subst (λ n. (1 ≤ n) × (n ≤ 4096)) (sym size) (w.some_bar, w.few_bars))
    (All-with_barline (IsBarOf p.division p.last) bar tick p.bars (λ b is. record { start = early; signature = is.signature; whole = is.whole }) w.bars)
    (elsewhere bar tick 0 p.bars (λ wrong. omega (arith, wrong, some)) ∙ w.first_bar, rises bar tick p.last p.bars inside w.bars_rise some low (λ _. high))
    w.last_barline w.notes (subst (λ n. All (IsPinOf p.channels n) p.pins) (sym size) w.pins) w.pins_in_order

-- ---- what the tests of bars say

both_true : (a b : Bool) → (a && b) ≡ true → (a ≡ true) × (b ≡ true)
both_true true b h = (refl, h)
both_true false b h = absurd (cc)

both_less : (low tick high : ℕ) → (nat_lt low tick && nat_lt tick high) ≡ true → (low < tick) × (tick < high)
both_less low tick high h =
    let both = both_true (nat_lt low tick) (nat_lt tick high) h in
    (grind (arith, nat_tests, both.0), grind (arith, nat_tests, both.1))

second_false : (a b : Bool) → a ≡ true → (a && b) ≡ false → b ≡ false
second_false true b is h = h
second_false false b is h = absurd (cc)

pub not_above : (limit count : ℕ) → nat_lt limit count ≡ false → count ≤ limit
not_above limit count h = grind (arith, nat_tests, h)

not_one : (n : ℕ) → 1 ≤ n → (n == 1) ≡ false → 2 ≤ n
not_one n some h =
    let other : n ≡ 1 → ⊥ = λ is. absurd (grind (arith, nat_tests, h, is)) in
    omega (arith, some, ne_lt 1 n some (λ is. other (sym is)))

after_last : (p : Performance) (bar : ℕ) → length p.bars ≤ bar → barline_after p bar ≡ 2000000001
after_last p bar le =
    let no : nat_lt bar (length p.bars) ≡ false = grind (arith, nat_tests, le) in
    ap (λ b. if b then barline p.bars p.last (bar + 1) else 2000000001) no

after_inner : (p : Performance) (bar : ℕ) → bar < length p.bars → barline_after p bar ≡ barline p.bars p.last (bar + 1)
after_inner p bar lt =
    let is : nat_lt bar (length p.bars) ≡ true = grind (arith, nat_tests, lt) in
    ap (λ b. if b then barline p.bars p.last (bar + 1) else 2000000001) is

no_last : (bars : List Bar) → 1 ≤ length bars → last_of bars ≡ None → ⊥
no_last bars some none =
    let there = slice_get-get_or bars (length bars - 1) (record { start = 0; num = 0; den = 0 }) (omega (arith, some)) in
    absurd (cc)

pins_later : (channels : List ℕ) (n m : ℕ) (pins : List pin.Pin) → n ≤ m → All (IsPinOf channels n) pins → All (IsPinOf channels m) pins
pins_later channels n m pins le all k d lt =
    let is : IsPinOf channels n (get_or pins k d) = all k d lt in
    record { voice = is.voice; bar = omega (arith, le, is.bar); shape = is.shape }

pins_until : (channels : List ℕ) (many m n : ℕ) (pins : List pin.Pin) → m ≡ n → All (IsPinOf channels many) pins → All (IsPinOf channels m) (filter (λ q. nat_lt q.bar n) pins)
pins_until channels many m n pins same all k d lt =
    let P : pin.Pin → Bool = λ q. nat_lt q.bar n in
    let is : IsPinOf channels many (get_or (filter P pins) k d) = All-filter P (IsPinOf channels many) pins all k d lt in
    let early = filter_passes P pins k d lt in
    record { voice = is.voice; bar = grind (arith, nat_tests, early, same); shape = is.shape }

abbrev WithBarline : Performance → ℕ → ℕ → Bool → Type 0
WithBarline p bar tick b = IsWellFormed (record p { bars = with_barline bar tick p.bars; last = if b then tick else p.last })

set_barline : (p : Performance) (bar tick : ℕ) → Formed p (Barline bar tick)
set_barline p bar tick w range h = by (eqb_tells bar (length p.bars))
  where
    pass : AllPass (edit_tests p (Barline bar tick))
    pass = all_pass (edit_tests p (Barline bar tick)) h

    some : 1 ≤ bar
    some = let either = false_either (λ (x : ℕ). true) (bar == 0) (nat_lt (length p.bars) bar) pass.0 in grind (arith, nat_tests, either.0)

    few : bar ≤ length p.bars
    few = let either = false_either (λ (x : ℕ). true) (bar == 0) (nat_lt (length p.bars) bar) pass.0 in grind (arith, nat_tests, either.1)

    between : (barline p.bars p.last (bar - 1) < tick) × (tick < barline_after p bar)
    between = both_less (barline p.bars p.last (bar - 1)) tick (barline_after p bar) (not_false _ pass.1.0)

    by : ((bar == length p.bars ≡ true) × (bar ≡ length p.bars)) ⊎ ((bar == length p.bars ≡ false) × (bar ≡ length p.bars → ⊥)) → WithBarline p bar tick (bar == length p.bars)
    by (inl is) =
        let high : barline_after p bar ≡ 2000000001 = after_last p bar (omega (arith, is.1)) in
        let none : list_any (is_past tick) p.notes ≡ false = second_false (bar == length p.bars) _ is.0 pass.1.1.0 in
        let formed = last_moved p tick w (subst (λ k. barline p.bars p.last (k - 1) < tick) is.1 between.0) (omega (arith, between.1, high)) none in
        subst (WithBarline p bar tick) (sym is.0) (subst (λ l. IsWellFormed (record p { bars = l; last = tick })) (sym (unchanged bar tick p.bars (omega (arith, is.1)))) formed)
    by (inr other) =
        let inside : bar < length p.bars = ne_lt bar (length p.bars) few other.1 in
        let high : barline_after p bar ≡ barline p.bars p.last (bar + 1) = after_inner p bar inside in
        subst (WithBarline p bar tick) (sym other.0) (inner_moved p bar tick w some inside between.0 (subst (λ t. tick < t) high between.1))

add_bar : (p : Performance) → Formed p AddBar
add_bar p w range h = by (last_of p.bars) refl
  where
    pass : AllPass (edit_tests p AddBar)
    pass = all_pass (edit_tests p AddBar) h

    by : (o : Option Bar) → last_of p.bars ≡ o → IsWellFormed (record p { bars = p.bars ++ next_bar p.last o; last = p.last + nominal_of p.division o })
    by None is = absurd (no_last p.bars w.some_bar is)
    by (Some b) is =
        let one : IsBarOf p.division p.last b = All-get (IsBarOf p.division p.last) p.bars (length p.bars - 1) b w.bars is in
        let ticks = some_tick p.division b.num b.den w.division_low one.signature.some one.whole in
        let end : ℕ = p.last + nominal p.division b in
        let later : p.last < end = omega (arith, ticks) in
        let whole : next_barline p ≡ end = ap (λ o. p.last + nominal_of p.division o) is in
        let low : end ≤ 2000000000 = omega (arith, not_above 2000000000 (next_barline p) pass.1.1.0, whole) in
        let n : Bar = with_start p.last b in
        let size : length (p.bars ++ n ∷ []) ≡ length p.bars + 1 = length-append p.bars (n ∷ []) in
        with_bars p (p.bars ++ n ∷ []) end p.pins w
        (omega (arith, size), omega (arith, size, not_above 4096 (length p.bars + 1) pass.0))
        (All-append (IsBarOf p.division end) p.bars (n ∷ []) (bars_later p.division p.last end p.bars w.bars (λ k d lt. omega (arith, later, (w.bars k d lt).start)))
        (all_cons (IsBarOf p.division end) n [] (record { start = later; signature = one.signature; whole = one.whole }) (All-nil (IsBarOf p.division end)))) (
          ap (λ l. slice_index l 0) (map-append (λ b. b.start) p.bars (n ∷ [])) ∙ get_or-append (starts p.bars) (p.last ∷ []) 0 0 (omega (arith, w.some_bar, length-map p.bars (λ b. b.start))) ∙ w.first_bar,
          rises-push p.bars n w.bars_rise (λ k d lt. (w.bars k d lt).start),
        )
        low (notes_later p.channels p.last end p.notes (omega (arith, later)) w.notes)
        (pins_later p.channels (length p.bars) (length (p.bars ++ n ∷ [])) p.pins (omega (arith, size)) w.pins) w.pins_in_order

drop_bar : (p : Performance) → Formed p DropBar
drop_bar p w range h =
    let pass = all_pass (edit_tests p DropBar) h in
    let n : ℕ = length p.bars - 1 in
    let more : 2 ≤ length p.bars = not_one (length p.bars) w.some_bar pass.0 in
    let size : length (take n p.bars) ≡ n = length-take-le n p.bars (omega arith) in
    let is : barline p.bars p.last n ≡ slice_index (starts p.bars) n = barline_is p.bars p.last n (omega (arith, more)) in
    let last : ℕ = last_start p in
    let below : (k : ℕ) → k < n → slice_index (starts p.bars) k < last =
    λ k lt. subst (λ t. slice_index (starts p.bars) k < t) (sym is) (AllPairs-from_increasing (starts p.bars) w.bars_rise k n 0 lt (omega (arith, more, length-map p.bars (λ b. b.start)))) in
    let early : slice_index (starts p.bars) n < p.last = start_all (λ s. s < p.last) p.bars (λ k d lt. (w.bars k d lt).start) n (omega (arith, more)) in
    with_bars p (take n p.bars) last (filter (λ q. nat_lt q.bar n) p.pins) w
    (omega (arith, size, more), omega (arith, size, w.few_bars))
    (bars_later p.division p.last last (take n p.bars) (All-take (IsBarOf p.division p.last) n p.bars w.bars)
    (all_starts (λ s. s < last) (take n p.bars) (λ k lt. subst (λ s. s < last) (sym (start-take n k p.bars (omega (arith, lt, size)))) (below k (omega (arith, lt, size))))))
    (start-take n 0 p.bars (omega (arith, more)) ∙ w.first_bar, rises-take n p.bars (omega arith) w.bars_rise)
    (omega (arith, is, early, w.last_barline))
    (notes_until p.channels p.last last p.notes w.notes pass.1.0)
    (pins_until p.channels (length p.bars) (length (take n p.bars)) n p.pins size w.pins)
    (AllPairs-filter (λ x y. slice_cmp nat_cmp (place_of_pin x) (place_of_pin y) ≡ Less) (λ q. nat_lt q.bar n) p.pins w.pins_in_order)

-- ---- all edits

formed : (p : Performance) (edit : Edit) → Formed p edit
formed p (Add channel key onset until) = added p channel key onset until
formed p (Drop channel key onset) = λ w range h. without p channel key onset w
formed p (Move channel key onset to) = moved p channel key onset to
formed p (Barline bar tick) = set_barline p bar tick
formed p (Pin channel bar shape) = pinned p channel bar shape
formed p (Unpin channel bar) = λ w range h. unpinned p channel bar w
formed p AddBar = add_bar p
formed p DropBar = drop_bar p

pub edited_formed : (p q : Performance) (edit : Edit) → IsWellFormed p → IsEditInRange edit → edited p edit ≡ Ok q → IsWellFormed q
edited_formed p q edit w range h =
    let both = made (performance_after p edit) q (first_refusal (edit_tests p edit)) h in
    subst IsWellFormed both.1 (formed p edit w range both.0)

same_channels : (p : Performance) (edit : Edit) → (performance_after p edit).channels ≡ p.channels
same_channels p (Add channel key onset until) = refl
same_channels p (Drop channel key onset) = refl
same_channels p (Move channel key onset to) = refl
same_channels p (Barline bar tick) = refl
same_channels p (Pin channel bar shape) = refl
same_channels p (Unpin channel bar) = refl
same_channels p AddBar = refl
same_channels p DropBar = refl

pub edited_channels : (p q : Performance) (edit : Edit) → edited p edit ≡ Ok q → q.channels ≡ p.channels
edited_channels p q edit h =
    let both = made (performance_after p edit) q (first_refusal (edit_tests p edit)) h in
    ap (λ r. r.channels) (sym both.1) ∙ same_channels p edit
