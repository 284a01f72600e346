-- The cells that edits reach: the bars of a voice whose input is another than before. With a window of 20 milliseconds and 480
-- ticks to the quarter, two notes at a distance of 20 ticks make two chords.
use Rattle.std.specs.Prelude.{◌≡◌, ◌≢◌, ℕ, Bool, true, false, ⊤, ◌<◌, ◌≤◌, ◌⊎◌, All, Contains, List, [], ◌∷◌, length, map, Some, refl, slice_get}
use Rattle.std.proofs.Common.{zero, suc, ◌+◌, ◌*◌, arith, inl, inr, ap, ap₂, sym, subst, ◌∙◌}
use Rattle.std.specs.Ordering.{nat_cmp, ordering_then}
use Rattle.std.specs.Cmp.{nat_cmp_is}
use Rattle.std.specs.Cmp.Lexicographic.{slice_cmp}
use Rattle.std.specs.declared.cmp.Ordering.TheVariants.{Less, Equal}
use Rattle.std.proofs.lemmas.List.Elements.{All-cons, All-head, All-nil}
use Rattle.std.proofs.lemmas.List.Kept.{AllPairs-cons}
use Rattle.std.proofs.lemmas.Option.{slice_get-map}
use Rattle.std.specs.Option.{option_map}
use Rattle.rhythm_base.specs.declared.chord.Chord.{Chord}
use Rattle.rhythm_base.specs.declared.edit.Edit.TheVariants.{Pin, DropBar}
use Rattle.rhythm_base.specs.declared.note.Bar.{Bar}
use Rattle.rhythm_base.specs.declared.note.Note.{Note}
use Rattle.rhythm_base.specs.declared.pin.Pin as pin
use Rattle.rhythm_base.specs.BarInput.{BarInput}
use Rattle.rhythm_base.specs.Cells.{input}
use Rattle.rhythm_base.specs.Chords.{AreChords, Joins, StandsApart, chord_of}
use Rattle.rhythm_base.specs.Leaves.{soundings}
use Rattle.rhythm_base.specs.Shape.{Shape, end, part}
use Rattle.rhythm_base.specs.Lists.{AreInOrder}
use Rattle.rhythm_base.specs.Performance.{Performance}
use Rattle.edit_laws.specs.Reached.{AreReached, HasNewInput, IsInputOf, IsReached, WouldReach}
use Rattle.rhythm_base.specs.Grammar.{Grammar}
use Rattle.rhythm_base.specs.Time.{time}
use Rattle.rhythm_base.specs.Voices.{AreChordsOf, voice_bars}

-- a grammar as far as the input of a cell speaks of it
abbrev book : Grammar
book = record {
  version = 1;
  resolution = 16;
  window = 20000;
  early = 1;
  late = 1;
  names = [];
  starts = record { num = 4; den = 4; symbol = 0 } ∷ [];
  rules = [];
}

abbrev note : ℕ → ℕ → ℕ → Note
note key onset until = record { channel = 0; key = key; onset = onset; end = until }

abbrev bar : ℕ → Bar
bar start = record { start = start; num = 4; den = 4 }

abbrev performed : List Bar → ℕ → List Note → Performance
performed bars last notes = record {
  division = 480;
  tempos = [];
  key_marks = [];
  bars = bars;
  last = last;
  channels = 0 ∷ [];
  notes = notes;
  pins = [];
}

-- ---- chords of one note each

-- each note is a chord of its own
abbrev chords : List Note → List Chord
chords notes = map (λ n. chord_of n []) notes

-- no note joins the one before it
abbrev Apart : List Note → Type 0
Apart [] = ⊤
Apart (n ∷ notes) = StandsApart [] 480 20000 n notes × Apart notes

-- without a change of tempo a tick takes as long as another
even : (t : ℕ) → time [] t ≡ 500000 * t
unfolding time
even zero = refl
even (suc t) = let before = even t in omega (arith, before)

apart_chords : (notes : List Note) → Apart notes → AreChords [] 480 20000 notes (chords notes)
apart_chords [] apart = refl
apart_chords (n ∷ notes) apart = (n, [], notes, refl, All-nil (Joins [] 480 20000 n), apart.0, refl, apart_chords notes apart.1)

-- they are the only chords of such notes
only_chords : (notes : List Note) (cs : List Chord) → Apart notes → AreChords [] 480 20000 notes cs → cs ≡ chords notes
only_chords [] [] apart are = refl
only_chords [] (c ∷ cs) apart (first, others, rest, split, joins, stands, is, more) = absurd (cc)
only_chords (n ∷ notes) [] apart are = absurd (cc)
only_chords (n ∷ notes) (c ∷ cs) apart (first, [], rest, split, joins, stands, is, more) =
    let same : first ≡ n = cc in
    let left : rest ≡ notes = cc in
    ap₂ ◌∷◌ (is ∙ ap (λ m. chord_of m []) same) (only_chords notes cs apart.1 (subst (λ l. AreChords [] 480 20000 l cs) left more))
only_chords (n ∷ []) (c ∷ cs) apart (first, other ∷ others, rest, split, joins, stands, is, more) = absurd (cc)
only_chords (n ∷ m ∷ notes) (c ∷ cs) apart (first, other ∷ others, rest, split, joins, stands, is, more) =
    let same : first ≡ n = cc in
    let next : other ≡ m = cc in
    let join : Joins [] 480 20000 first other = All-head (Joins [] 480 20000 first) other others joins in
    let joined : Joins [] 480 20000 n m = subst (λ x. Joins [] 480 20000 x m) same (subst (λ x. Joins [] 480 20000 first x) next join) in
    absurd (omega (arith, joined, apart.0))

-- ---- which cells are listed

-- the cells of voice 0 whose bars are marked, from bar number i on
abbrev marked : ℕ → List Bool → List (ℕ × ℕ)
marked i [] = []
marked i (true ∷ marks) = (0, i) ∷ marked (suc i) marks
marked i (false ∷ marks) = marked (suc i) marks

abbrev place : ℕ × ℕ → List ℕ
place c = c.0 ∷ c.1 ∷ []

abbrev IsBefore : ℕ × ℕ → ℕ × ℕ → Type 0
IsBefore c d = slice_cmp nat_cmp (place c) (place d) ≡ Less

before_marked : (i j : ℕ) (marks : List Bool) → i < j → All (IsBefore (0, i)) (marked j marks)
before_marked i j [] lt = All-nil (IsBefore (0, i))
before_marked i j (true ∷ marks) lt =
    All-cons (IsBefore (0, i)) (0, j) (marked (suc j) marks) (ap (λ r. ordering_then r Equal) (sym (nat_cmp_is i j Less lt)))
    (before_marked i (suc j) marks (omega (arith, lt)))
before_marked i j (false ∷ marks) lt = before_marked i (suc j) marks (omega (arith, lt))

marked_in_order : (i : ℕ) (marks : List Bool) → AreInOrder place (marked i marks)
marked_in_order i [] = λ j k d lt within. absurd (omega (arith, within))
marked_in_order i (true ∷ marks) =
    AllPairs-cons IsBefore (0, i) (marked (suc i) marks) (before_marked i (suc i) marks (omega arith)) (marked_in_order (suc i) marks)
marked_in_order i (false ∷ marks) = marked_in_order (suc i) marks

from_marked : (i : ℕ) (marks : List Bool) (c b : ℕ) → Contains (marked i marks) (c, b)
    → (c ≡ 0) × ((j : ℕ) × (b ≡ i + j) × (slice_get marks j ≡ Some true))
from_marked i [] c b h = absurd (omega (arith, h.1))
from_marked i (true ∷ marks) c b (zero, lt, is) =
    let first : 0 ≡ c = ap (λ x. x.0) is in
    let second : i ≡ b = ap (λ x. x.1) is in
    (sym first, (0, omega (arith, second), refl))
from_marked i (true ∷ marks) c b (suc k, lt, is) =
    let r = from_marked (suc i) marks c b (k, omega (arith, lt), is) in
    (r.0, (suc r.1.0, omega (arith, r.1.1), r.1.2))
from_marked i (false ∷ marks) c b h = let r = from_marked (suc i) marks c b h in (r.0, (suc r.1.0, omega (arith, r.1.1), r.1.2))

to_marked : (i : ℕ) (marks : List Bool) (j b : ℕ) → b ≡ i + j → slice_get marks j ≡ Some true → Contains (marked i marks) (0, b)
to_marked i [] j b at is = absurd (cc)
to_marked i (true ∷ marks) zero b at is = (0, omega arith, let same : i ≡ b = omega (arith, at) in ap (λ n. (0, n)) same)
to_marked i (true ∷ marks) (suc j) b at is =
    let r = to_marked (suc i) marks j b (omega (arith, at)) is in (suc r.0, omega (arith, r.1), r.2)
to_marked i (false ∷ marks) zero b at is = absurd (cc)
to_marked i (false ∷ marks) (suc j) b at is = to_marked (suc i) marks j b (omega (arith, at)) is

-- ---- which are reached

-- a mark for each input afterwards: it is another than before, or there was none
abbrev Tell : List BarInput → List BarInput → List Bool → Type 0
Tell ks [] [] = ⊤
Tell (k ∷ ks) (l ∷ ls) (true ∷ marks) = (k ≢ l) × Tell ks ls marks
Tell (k ∷ ks) (l ∷ ls) (false ∷ marks) = (k ≡ l) × Tell ks ls marks
Tell [] (l ∷ ls) (true ∷ marks) = Tell [] ls marks
Tell _ _ _ = ⊥

abbrev IsNew : List BarInput → List BarInput → ℕ → Type 0
IsNew ks ls i = (length ks ≤ i) ⊎ ((k l : BarInput) × (slice_get ks i ≡ Some k) × (slice_get ls i ≡ Some l) × (k ≢ l))

later_new : (k l : BarInput) (ks ls : List BarInput) (i : ℕ) → IsNew ks ls i → IsNew (k ∷ ks) (l ∷ ls) (suc i)
later_new k l ks ls i (inl few) = inl (omega (arith, few))
later_new k l ks ls i (inr differ) = inr differ

earlier_new : (k l : BarInput) (ks ls : List BarInput) (i : ℕ) → IsNew (k ∷ ks) (l ∷ ls) (suc i) → IsNew ks ls i
earlier_new k l ks ls i (inl few) = inl (omega (arith, few))
earlier_new k l ks ls i (inr differ) = inr differ

new_by_mark : (ks ls : List BarInput) (marks : List Bool) (i : ℕ) → Tell ks ls marks → slice_get marks i ≡ Some true → (i < length ls) × IsNew ks ls i
new_by_mark ks [] [] i tell is = absurd (cc)
new_by_mark (k ∷ ks) (l ∷ ls) (true ∷ marks) zero tell is = (omega arith, inr (k, l, refl, refl, tell.0))
new_by_mark (k ∷ ks) (l ∷ ls) (true ∷ marks) (suc i) tell is =
    let r = new_by_mark ks ls marks i tell.1 is in (omega (arith, r.0), later_new k l ks ls i r.1)
new_by_mark (k ∷ ks) (l ∷ ls) (false ∷ marks) zero tell is = absurd (cc)
new_by_mark (k ∷ ks) (l ∷ ls) (false ∷ marks) (suc i) tell is =
    let r = new_by_mark ks ls marks i tell.1 is in (omega (arith, r.0), later_new k l ks ls i r.1)
new_by_mark [] (l ∷ ls) (true ∷ marks) zero tell is = (omega arith, inl (omega arith))
new_by_mark [] (l ∷ ls) (true ∷ marks) (suc i) tell is =
    let r = new_by_mark [] ls marks i tell is in (omega (arith, r.0), inl (omega arith))
new_by_mark [] (l ∷ ls) (false ∷ marks) i tell is = absurd tell
new_by_mark (k ∷ ks) (l ∷ ls) [] i tell is = absurd tell
new_by_mark [] (l ∷ ls) [] i tell is = absurd tell
new_by_mark ks [] (m ∷ marks) i tell is = absurd tell

mark_by_new : (ks ls : List BarInput) (marks : List Bool) (i : ℕ) → Tell ks ls marks → i < length ls → IsNew ks ls i → slice_get marks i ≡ Some true
mark_by_new ks [] marks i tell lt new = absurd (omega (arith, lt))
mark_by_new (k ∷ ks) (l ∷ ls) (true ∷ marks) zero tell lt new = refl
mark_by_new (k ∷ ks) (l ∷ ls) (true ∷ marks) (suc i) tell lt new = mark_by_new ks ls marks i tell.1 (omega (arith, lt)) (earlier_new k l ks ls i new)
mark_by_new (k ∷ ks) (l ∷ ls) (false ∷ marks) zero tell lt (inl few) = absurd (omega (arith, few))
mark_by_new (k ∷ ks) (l ∷ ls) (false ∷ marks) zero tell lt (inr (a, b, first, second, differ)) =
    let before : k ≡ a = cc in let after : l ≡ b = cc in absurd (differ (sym before ∙ tell.0 ∙ after))
mark_by_new (k ∷ ks) (l ∷ ls) (false ∷ marks) (suc i) tell lt new = mark_by_new ks ls marks i tell.1 (omega (arith, lt)) (earlier_new k l ks ls i new)
mark_by_new [] (l ∷ ls) (true ∷ marks) zero tell lt new = refl
mark_by_new [] (l ∷ ls) (true ∷ marks) (suc i) tell lt new = mark_by_new [] ls marks i tell (omega (arith, lt)) (inl (omega arith))
mark_by_new [] (l ∷ ls) (false ∷ marks) i tell lt new = absurd tell
mark_by_new (k ∷ ks) (l ∷ ls) [] i tell lt new = absurd tell
mark_by_new [] (l ∷ ls) [] i tell lt new = absurd tell

-- ---- the inputs of the one voice of a performance

-- with these chords, and no others
pub record HasOnly (p : Performance) (cs : List Chord) : Type 0 where
  pub are : AreChordsOf book p 0 cs
  pub only : (ds : List Chord) → AreChordsOf book p 0 ds → ds ≡ cs

abbrev inputs : Performance → List Chord → List BarInput
inputs p cs = map (λ m. input book m (soundings cs)) (voice_bars book p 0)

get_map : {A B : Type 0} (f : A → B) (xs : List A) (i : ℕ) (y : B) → slice_get (map f xs) i ≡ Some y → (x : A) × (slice_get xs i ≡ Some x) × (y ≡ f x)
get_map f [] i y is = absurd (cc)
get_map f (x ∷ xs) zero y is = (x, refl, (cc))
get_map f (x ∷ xs) (suc i) y is = get_map f xs i y is

module _ (p : Performance) (cs : List Chord) (has : HasOnly p cs) where
  input_is : (i : ℕ) (k : BarInput) → IsInputOf book p 0 i k → slice_get (inputs p cs) i ≡ Some k
  input_is i k of =
      slice_get-map (λ m. input book m (soundings cs)) (voice_bars book p 0) i
      ∙ ap (option_map (λ m. input book m (soundings cs))) of.there
      ∙ ap (λ l. Some (input book of.cell_bar (soundings l))) (sym (has.only of.chords of.are_chords))
      ∙ ap (λ x. Some x) (sym of.is)

  is_input : (i : ℕ) (k : BarInput) → slice_get (inputs p cs) i ≡ Some k → IsInputOf book p 0 i k
  is_input i k is =
      let at = get_map (λ m. input book m (soundings cs)) (voice_bars book p 0) i k is in
      record { chords = cs; are_chords = has.are; cell_bar = at.0; there = at.1; is = at.2 }

-- the marked cells are the reached ones
module _ (p q : Performance) (cs ds : List Chord) (before : HasOnly p cs) (after : HasOnly q ds) (voice : q.channels ≡ 0 ∷ [])
    (bars_before : length (inputs p cs) ≡ length p.bars) (bars_after : length (inputs q ds) ≡ length q.bars) where
  voice_is : (c : ℕ) → Contains q.channels c → c ≡ 0
  voice_is c has = one (subst (λ l. Contains l c) voice has)
    where
      one : Contains (0 ∷ []) c → c ≡ 0
      one (zero, lt, is) = sym is
      one (suc k, lt, is) = absurd (omega (arith, lt))

  to_new : (i : ℕ) → HasNewInput book p q 0 i → IsNew (inputs p cs) (inputs q ds) i
  to_new i (inl few) = inl (omega (arith, few, bars_before))
  to_new i (inr (k, l, was, is, differ)) = inr (k, l, input_is p cs before i k was, input_is q ds after i l is, differ)

  from_new : (i : ℕ) → IsNew (inputs p cs) (inputs q ds) i → HasNewInput book p q 0 i
  from_new i (inl few) = inl (omega (arith, few, bars_before))
  from_new i (inr (k, l, was, is, differ)) = inr (k, l, is_input p cs before i k was, is_input q ds after i l is, differ)

  reaches : (marks : List Bool) → Tell (inputs p cs) (inputs q ds) marks → AreReached book p q (marked 0 marks)
  reaches marks tell = record {
    in_order = marked_in_order 0 marks;
    exactly = λ c b. (there c b, listed c b);
  }
    where
      there : (c b : ℕ) → Contains (marked 0 marks) (c, b) → IsReached book p q c b
      there c b has =
          let at = from_marked 0 marks c b has in
          let same : b ≡ at.1.0 = omega (arith, at.1.1) in
          let new = new_by_mark (inputs p cs) (inputs q ds) marks at.1.0 tell at.1.2 in
          subst (λ d. IsReached book p q d b) (sym at.0) (subst (λ i. IsReached book p q 0 i) (sym same)
          (subst (λ l. Contains l 0) (sym voice) (0, omega arith, refl), omega (arith, new.0, bars_after), from_new at.1.0 new.1))

      listed : (c b : ℕ) → IsReached book p q c b → Contains (marked 0 marks) (c, b)
      listed c b (known, inside, new) =
          let same = voice_is c known in
          let mark = mark_by_new (inputs p cs) (inputs q ds) marks b tell (omega (arith, inside, bars_after)) (to_new b (subst (λ d. HasNewInput book p q d b) same new)) in
          subst (λ d. Contains (marked 0 marks) (d, b)) (sym same) (to_marked 0 marks b b (omega arith) mark)

-- ---- one note of a bar, then three bars, in which the note is dropped and a longer one is put

abbrev one_note : ℕ → List Note
one_note until = note 60 0 until ∷ []

abbrev one_bar : Performance
one_bar = performed (bar 0 ∷ []) 1920 (one_note 1920)

abbrev two_bars : List Note → Performance
two_bars notes = performed (bar 0 ∷ bar 1920 ∷ []) 3840 notes

abbrev three_bars : List Note → Performance
three_bars notes = performed (bar 0 ∷ bar 1920 ∷ bar 3840 ∷ []) 5760 notes

-- whatever the bars and the pins, one note is the one chord, and no note none
abbrev pinned : Performance → List pin.Pin → Performance
pinned p pins = record p { pins = pins }

one_chord : (bars : List Bar) (last until : ℕ) (pins : List pin.Pin) → HasOnly (pinned (performed bars last (one_note until)) pins) (chords (one_note until))
one_chord bars last until pins = record { are = apart_chords (one_note until) (tt, tt); only = λ ds are. only_chords (one_note until) ds (tt, tt) are }

no_chord : (bars : List Bar) (last : ℕ) → HasOnly (performed bars last []) []
no_chord bars last = record { are = refl; only = λ ds are. only_chords [] ds tt are }

-- inputs with another length, another end before the bar, another number of chords or another pin
other_length : (k l : BarInput) → (k.length ≡ l.length → ⊥) → k ≢ l
other_length k l other e = other (ap (λ c. c.length) e)

other_before : (k l : BarInput) → (k.before ≡ l.before → ⊥) → k ≢ l
other_before k l other e = other (ap (λ c. c.before) e)

other_chords : (k l : BarInput) → (length k.chords ≡ length l.chords → ⊥) → k ≢ l
other_chords k l other e = other (ap (λ c. length c.chords) e)

other_pin : (k l : BarInput) → (k.pin ≡ l.pin → ⊥) → k ≢ l
other_pin k l other e = other (ap (λ c. c.pin) e)

second_bar : AreReached book one_bar (two_bars (one_note 1920)) ((0, 1) ∷ [])
second_bar =
    reaches one_bar (two_bars (one_note 1920)) _ _ (one_chord _ _ _ []) (one_chord _ _ _ []) refl refl refl (false ∷ true ∷ []) (refl, tt)

third_bar : AreReached book (two_bars (one_note 1920)) (three_bars (one_note 1920)) ((0, 2) ∷ [])
third_bar =
    reaches (two_bars (one_note 1920)) (three_bars (one_note 1920)) _ _ (one_chord _ _ _ []) (one_chord _ _ _ []) refl refl refl
    (false ∷ false ∷ true ∷ []) (refl, (refl, tt))

dropped : AreReached book (three_bars (one_note 1920)) (three_bars []) ((0, 0) ∷ [])
dropped =
    reaches (three_bars (one_note 1920)) (three_bars []) _ _ (one_chord _ _ _ []) (no_chord _ _) refl refl refl
    (true ∷ false ∷ false ∷ []) (other_chords _ _ (λ e. omega (arith, e)), (refl, (refl, tt)))

-- the longer note is carried into all bars
put : AreReached book (three_bars []) (three_bars (one_note 5760)) ((0, 0) ∷ (0, 1) ∷ (0, 2) ∷ [])
put =
    reaches (three_bars []) (three_bars (one_note 5760)) _ _ (no_chord _ _) (one_chord _ _ _ []) refl refl refl
    (true ∷ true ∷ true ∷ [])
    (other_chords _ _ (λ e. omega (arith, e)), (other_before _ _ (λ e. omega (arith, e)), (other_before _ _ (λ e. omega (arith, e)), tt)))

-- the second barline is moved: the bars on both sides change
barline_moved :
    AreReached book (three_bars (one_note 5760)) (performed (bar 0 ∷ bar 2000 ∷ bar 3840 ∷ []) 5760 (one_note 5760)) ((0, 0) ∷ (0, 1) ∷ [])
barline_moved =
    reaches (three_bars (one_note 5760)) (performed (bar 0 ∷ bar 2000 ∷ bar 3840 ∷ []) 5760 (one_note 5760)) _ _ (one_chord _ _ _ []) (one_chord _ _ _ [])
    refl refl refl (true ∷ true ∷ false ∷ [])
    (other_length _ _ (λ e. omega (arith, e)), (other_length _ _ (λ e. omega (arith, e)), (refl, tt)))

-- ---- one of three notes is dropped

abbrev two_notes : List Note
two_notes = note 62 20 960 ∷ note 64 40 960 ∷ []

abbrev three_notes : List Note
three_notes = note 60 0 960 ∷ two_notes

two_apart : Apart two_notes
two_apart = (omega (arith, even 20, even 40), (tt, tt))

three_apart : Apart three_notes
three_apart = (omega (arith, even 0, even 20), two_apart)

one_dropped : AreReached book (performed (bar 0 ∷ []) 1920 three_notes) (performed (bar 0 ∷ []) 1920 two_notes) ((0, 0) ∷ [])
one_dropped =
    reaches (performed (bar 0 ∷ []) 1920 three_notes) (performed (bar 0 ∷ []) 1920 two_notes) _ _
    (record { are = apart_chords three_notes three_apart; only = λ ds are. only_chords three_notes ds three_apart are })
    (record { are = apart_chords two_notes two_apart; only = λ ds are. only_chords two_notes ds two_apart are })
    refl refl refl (true ∷ []) (other_chords _ _ (λ e. omega (arith, e)), tt)

-- ---- what an edit would reach

abbrev halves : Shape
halves = part end (part end end)

abbrev pin_of : Shape → List pin.Pin
pin_of shape = record { channel = 0; bar = 1; shape = shape } ∷ []

-- a pin of a bar that has none, and of a bar that has another, reaches that bar alone. It would reach it also where no derivation
-- has that shape
pin_alone : WouldReach book (two_bars (one_note 1920)) (Pin 0 1 halves) ((0, 1) ∷ [])
pin_alone =
    reaches (two_bars (one_note 1920)) (pinned (two_bars (one_note 1920)) (pin_of halves)) _ _ (one_chord _ _ _ []) (one_chord _ _ _ (pin_of halves))
    refl refl refl (false ∷ true ∷ []) (refl, (other_pin _ _ (λ e. (cc)), tt))

pin_anew : WouldReach book (pinned (two_bars (one_note 1920)) (pin_of end)) (Pin 0 1 halves) ((0, 1) ∷ [])
pin_anew =
    reaches (pinned (two_bars (one_note 1920)) (pin_of end)) (pinned (two_bars (one_note 1920)) (pin_of halves)) _ _
    (one_chord _ _ _ (pin_of end)) (one_chord _ _ _ (pin_of halves)) refl refl refl (false ∷ true ∷ []) (refl, (other_pin _ _ (λ e. (cc)), tt))

-- the pin that the bar has already reaches none, and so does an edit that is refused
same_pin : WouldReach book (pinned (two_bars (one_note 1920)) (pin_of halves)) (Pin 0 1 halves) []
same_pin =
    reaches (pinned (two_bars (one_note 1920)) (pin_of halves)) (pinned (two_bars (one_note 1920)) (pin_of halves)) _ _
    (one_chord _ _ _ (pin_of halves)) (one_chord _ _ _ (pin_of halves)) refl refl refl (false ∷ false ∷ []) (refl, (refl, tt))

one_bar_stays : WouldReach book one_bar DropBar []
one_bar_stays = refl

no_such_bar : WouldReach book one_bar (Pin 0 1 halves) []
no_such_bar = refl
