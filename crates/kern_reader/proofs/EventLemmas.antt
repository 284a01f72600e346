-- The events of a column, one token after another.
use Rattle.std.proofs.Common.{◌≡◌, ℕ, suc, ◌+◌, ◌*◌, ◌/◌, ◌^◌, ◌<◌, ◌≤◌, true, List, [], ◌∷◌, ◌++◌, drop, take, length, get_or, map, refl, sym, ap, ap₂, ◌∙◌, subst, arith, append_assoc, append-nil}
use Rattle.std.specs.Prelude.{All, sum, sum_by, reverse}
use Rattle.std.specs.List.{flat_map}
use Rattle.std.proofs.Math.Nat.{div-le_self, mul-le-mul, mul-le-mul_left, mul-le-mul_right}
use Rattle.std.proofs.lemmas.List.{map-append, reverse-append}
use Rattle.std.proofs.lemmas.List.Elements.{All-drop, All-get_or, All-head, All-tail}
use Rattle.std.proofs.Math.ListN.{drop_of_length-le}
use Rattle.std.proofs.lemmas.List.Sums.{sum_by-append, sum_by-cons}
use Rattle.rhythm_base.specs.declared.span.Span.{Span}
use Rattle.rhythm_base.specs.Lists.{Each}
use Rattle.durations.specs.declared.value.Value.{Value}
use Rattle.durations.specs.Value.{width}
use Rattle.voice_events.specs.declared.event.KernEvent.{KernEvent}
use Rattle.kern_reader.specs.declared.events.Walk.{Walk}
use Rattle.text_words.specs.declared.time_signature.TimeSignature.{TimeSignature}
use Rattle.kern_reader.specs.declared.token.Token.{Token}
use Rattle.kern_reader.specs.declared.token.Token.TheVariants as token
use Rattle.kern_reader.specs.declared.token.Writing.{Writing}
use Rattle.kern_reader.specs.Columns.{place, spine_after, spine_at, token_values, waiting}
use Rattle.kern_reader.specs.Events.{AreColumnSpans, AreEventsFrom, IsKernSpan, IsWalk, bar_parts, bars, beginning, beginnings, holds_tie, tied_values, token_bars}
use Rattle.voice_events.specs.Events.{span_event}
use Rattle.kern_reader.specs.Score.{IsColumnOn, IsTokenOn}
use Rattle.kern_reader.proofs.GridWalk.{next_of}
use Rattle.kern_reader.proofs.SpineLemmas.{place_few, spine_next, take_while-goes, waiting_chord, waiting_grace, waiting_null, waiting_rest}

-- ---- ties

pub tied_next : (t : Token) (ts : List Token) → holds_tie t ≡ true → tied_values (t ∷ ts) ≡ token_values t ++ tied_values ts
tied_next t ts holds = ap (flat_map token_values) (take_while-goes holds_tie t ts holds)

pub tie_step : (grid : ℕ) (ts : List Token) (i : ℕ) (t : Token) (total more : ℕ) → i < length ts → t ≡ get_or ts i t → holds_tie t ≡ true
    → more ≡ sum_by (width grid) (token_values t)
    → total + more + sum_by (width grid) (tied_values (drop (i + 1) ts)) ≡ total + sum_by (width grid) (tied_values (drop i ts))
tie_step grid ts i t total more within is holds wide =
    let front = next_of ts i t within is in
    let values = ap (λ xs. sum_by (width grid) (tied_values xs)) front ∙ ap (sum_by (width grid)) (tied_next t (drop (i + 1) ts) holds)
    ∙ sum_by-append (width grid) (token_values t) (tied_values (drop (i + 1) ts)) in
    omega (arith, values, wide)

-- ---- where bars begin

bar_few : (t : Token) (grid : ℕ) → IsTokenOn grid t → sum (token_bars t) ≤ 4096
bar_few (token.Bar signature) grid (well, counts) =
    let small : 64 / signature.den ≤ 64 = div-le_self 64 signature.den in
    let product : signature.num * (64 / signature.den) ≤ 64 * 64 = mul-le-mul well.few small in
    omega (arith, product)
bar_few token.Null grid on = omega arith
bar_few (token.Rest value) grid on = omega arith
bar_few (token.Grace keys) grid on = omega arith
bar_few (token.Chord writing keys) grid on = omega arith

pub bars_few : (grid : ℕ) (before : List Token) → IsColumnOn grid before → sum (bars before) ≤ 4096 * length before
bars_few grid [] on = omega arith
bars_few grid (t ∷ before) on =
    let one = bar_few t grid (All-head (IsTokenOn grid) t before on) in
    let rest = bars_few grid before (All-tail (IsTokenOn grid) t before on) in
    omega (arith, sum_by-append (λ x. x) (token_bars t) (bars before), one, rest)

split_sum : (xs : List ℕ) → sum (take 1 xs) + sum (drop 1 xs) ≡ sum xs
split_sum [] = refl
split_sum (x ∷ xs) = omega (arith, sum_by-cons (λ n. n) x xs, sum_by-cons (λ n. n) x [])

pub bars_within : (grid : ℕ) (before : List Token) (w : Walk) → IsColumnOn grid before → IsWalk grid before w → w.start + w.bar ≤ 4096 * length before
bars_within grid before w on is = omega (arith, is.start, is.bar, split_sum (bars before), bars_few grid before on)

-- ---- one token more

place_next : (grid : ℕ) (t : Token) (before : List Token) → place grid (t ∷ before) ≡ (spine_after grid (spine_at grid before) t).place
place_next grid t before = ap (λ s. s.place) (spine_next grid t before)

pub walk_bar : (grid : ℕ) (signature : TimeSignature) (before : List Token) (old new : Walk) → IsWalk grid before old
    → new.start ≡ old.start + old.bar → new.bar ≡ bar_parts signature → new.place ≡ 0 → new.graces.items ≡ [] → IsWalk grid (token.Bar signature ∷ before) new
walk_bar grid signature before old new is start bar here graces = record {
  start = omega (arith, start, is.start, is.bar, split_sum (bars before));
  bar = omega (arith, bar, sum_by-cons (λ n. n) (bar_parts signature) []);
  place = here ∙ sym (place_next grid (token.Bar signature) before);
  graces = graces;
}

pub walk_null : (grid : ℕ) (before : List Token) (w : Walk) → IsWalk grid before w → IsWalk grid (token.Null ∷ before) w
walk_null grid before w is = record {
  start = is.start;
  bar = is.bar;
  place = is.place ∙ sym (place_next grid token.Null before);
  graces = is.graces ∙ ap reverse (sym (waiting_null before));
}

pub walk_grace : (grid keys : ℕ) (before : List Token) (old new : Walk) → IsWalk grid before old → new.start ≡ old.start → new.bar ≡ old.bar → new.place ≡ old.place
    → new.graces.items ≡ old.graces.items ++ keys ∷ [] → IsWalk grid (token.Grace keys ∷ before) new
walk_grace grid keys before old new is start bar here graces = record {
  start = start ∙ is.start;
  bar = bar ∙ is.bar;
  place = here ∙ is.place ∙ sym (place_next grid (token.Grace keys) before);
  graces = graces ∙ ap (λ xs. xs ++ keys ∷ []) is.graces ∙ sym (ap reverse (waiting_grace keys before) ∙ reverse-append (keys ∷ []) (waiting before));
}

pub walk_rest : (grid : ℕ) (value : Value) (before : List Token) (old new : Walk) → IsWalk grid before old → new.start ≡ old.start → new.bar ≡ old.bar
    → new.place ≡ width grid value + old.place → new.graces.items ≡ [] → IsWalk grid (token.Rest value ∷ before) new
walk_rest grid value before old new is start bar here graces = record {
  start = start ∙ is.start;
  bar = bar ∙ is.bar;
  place = here ∙ ap (λ n. width grid value + n) is.place ∙ sym (place_next grid (token.Rest value) before);
  graces = graces ∙ ap reverse (sym (waiting_rest value before));
}

pub walk_chord : (grid : ℕ) (writing : Writing) (keys : ℕ) (before : List Token) (old new : Walk) → IsWalk grid before old → new.start ≡ old.start → new.bar ≡ old.bar
    → new.place ≡ width grid writing.value + old.place → new.graces.items ≡ [] → IsWalk grid (token.Chord writing keys ∷ before) new
walk_chord grid writing keys before old new is start bar here graces = record {
  start = start ∙ is.start;
  bar = bar ∙ is.bar;
  place = here ∙ ap (λ n. width grid writing.value + n) is.place ∙ sym (place_next grid (token.Chord writing keys) before);
  graces = graces ∙ ap reverse (sym (waiting_chord writing keys before));
}

-- ---- spans

pub each_joined : {X Y : Type 0} (R : X → Y → Type 0) (xs vs : List X) (ys ws : List Y) → Each R xs ys → Each R vs ws → Each R (xs ++ vs) (ys ++ ws)
each_joined R [] vs [] ws e f = f
each_joined R [] vs (y ∷ ys) ws e f = absurd (no (ap length e))
  where
    no : suc (length ys) ≡ 0 → ⊥
    no h = omega (arith, h)
each_joined R (x ∷ xs) vs [] ws e f = absurd e
each_joined R (x ∷ xs) vs (y ∷ ys) ws (one, rest) f = (one, each_joined R xs vs ys ws rest f)

-- the spans so far, with those that begin at one more token
pub spans_next : (grid : ℕ) (column before later : List Token) (t : Token) (after : List Token) (spans own : List Span) → later ≡ t ∷ after
    → ((more : List Span) → Each (IsKernSpan grid) (beginnings before later) more → Each (IsKernSpan grid) (beginnings [] column) (spans ++ more))
    → Each (IsKernSpan grid) (beginning before t after) own
    → (more : List Span) → Each (IsKernSpan grid) (beginnings (t ∷ before) after) more → Each (IsKernSpan grid) (beginnings [] column) ((spans ++ own) ++ more)
spans_next grid column before later t after spans own is made here more rest =
    let all : Each (IsKernSpan grid) (beginnings before (t ∷ after)) (own ++ more) = each_joined (IsKernSpan grid) (beginning before t after) (beginnings (t ∷ before) after) own more here rest in
    subst (Each (IsKernSpan grid) (beginnings [] column)) (sym (append_assoc spans own more))
    (made (own ++ more) (subst (λ ts. Each (IsKernSpan grid) (beginnings before ts) (own ++ more)) (sym is) all))

pub start_small : (grid : ℕ) (before : List Token) (w : Walk) → grid ≤ 61440 → length before < 2 ^ 32 → IsColumnOn grid before → IsWalk grid before w
    → (grid * w.start + 64 * w.place < 2 ^ 63) × (w.start + w.bar < 2 ^ 50) × (w.place < 2 ^ 60)
start_small grid before w fine short on is =
    let bars = bars_within grid before w on is in
    let here = place_few grid before on in
    let one : 7 * grid * length before ≤ 7 * 61440 * length before = mul-le-mul_right (length before) (mul-le-mul_left 7 fine) in
    let product : grid * w.start ≤ 61440 * w.start = mul-le-mul_right w.start fine in
    (omega (arith, bars, here, one, product, short, is.place), omega (arith, bars, short), omega (arith, here, one, short, is.place))

-- ---- events

pub events_next : (grid spine : ℕ) (columns : List (List Token)) (column : List Token) (i : ℕ) (spans : List Span) (more : List KernEvent) → i < length columns
    → column ≡ get_or columns i column → AreColumnSpans grid column spans → AreEventsFrom grid (spine + 1) (drop (i + 1) columns) more
    → AreEventsFrom grid spine (drop i columns) (map (span_event spine) spans ++ more)
events_next grid spine columns column i spans more within is are rest =
    let next : spine + 1 ≡ suc spine = omega arith in
    subst (λ cs. AreEventsFrom grid spine cs (map (span_event spine) spans ++ more)) (sym (next_of columns i column within is))
    (spans, more, are, subst (λ n. AreEventsFrom grid n (drop (i + 1) columns) more) next rest, refl)

-- ---- a list taken apart

pub cons_of : {X : Type 0} (later after : List X) (t : X) → 1 ≤ length later → after ≡ drop 1 later → t ≡ get_or later 0 t → later ≡ t ∷ after
cons_of [] after t some rest is = absurd (omega (arith, some))
cons_of (x ∷ later) after t some rest is = ap₂ ◌∷◌ (sym is) (sym rest)

pub after_on : (grid : ℕ) (later after : List Token) → after ≡ drop 1 later → IsColumnOn grid later → IsColumnOn grid after
after_on grid later after rest on = subst (IsColumnOn grid) (sym rest) (All-drop (IsTokenOn grid) 1 later on)

pub first_on : (grid : ℕ) (later : List Token) (t : Token) → 1 ≤ length later → t ≡ get_or later 0 t → IsColumnOn grid later → IsTokenOn grid t
first_on grid [] t some is on = absurd (omega (arith, some))
first_on grid (x ∷ later) t some is on = subst (IsTokenOn grid) (sym is) (All-head (IsTokenOn grid) x later on)

pub pushed_events : (spine : ℕ) (first now new : List KernEvent) (spans own : List Span) → now ≡ first ++ map (span_event spine) spans → new ≡ now ++ map (span_event spine) own
    → new ≡ first ++ map (span_event spine) (spans ++ own)
pushed_events spine first now new spans own before pushed =
    pushed ∙ ap (λ xs. xs ++ map (span_event spine) own) before ∙ append_assoc first (map (span_event spine) spans) (map (span_event spine) own)
    ∙ ap (λ xs. first ++ xs) (sym (map-append (span_event spine) spans own))

-- at the end of a column
pub spans_end : (grid : ℕ) (column before later : List Token) (spans : List Span) → length later < 1
    → ((more : List Span) → Each (IsKernSpan grid) (beginnings before later) more → Each (IsKernSpan grid) (beginnings [] column) (spans ++ more))
    → AreColumnSpans grid column spans
spans_end grid column before [] spans none made = subst (AreColumnSpans grid column) (append-nil spans) (made [] refl)
spans_end grid column before (t ∷ later) spans none made = absurd (omega (arith, none))

-- the last column is read
pub events_end : (grid spine : ℕ) (columns : List (List Token)) (i : ℕ) (events : List KernEvent) → i ≡ length columns
    → ((more : List KernEvent) → AreEventsFrom grid spine (drop i columns) more → AreEventsFrom grid 1 columns (events ++ more)) → AreEventsFrom grid 1 columns events
events_end grid spine columns i events all made =
    let none : drop i columns ≡ [] = drop_of_length-le columns (omega (arith, all)) in
    subst (AreEventsFrom grid 1 columns) (append-nil events) (made [] (subst (λ cs. AreEventsFrom grid spine cs []) (sym none) refl))

pub same_column : (columns others : List (List Token)) (i : ℕ) (text column : List Token) → text ≡ column → column ≡ get_or columns i column → columns ≡ others → text ≡ get_or others i text
same_column columns others i text column same is all = same ∙ is ∙ ap (λ xs. get_or xs i column) all ∙ ap (λ d. get_or others i d) (sym same)

pub column_on : (grid : ℕ) (columns : List (List Token)) (i : ℕ) (text : List Token) → i < length columns → text ≡ get_or columns i text → All (IsColumnOn grid) columns → IsColumnOn grid text
column_on grid columns i text within is on = subst (IsColumnOn grid) (sym is) (All-get_or (IsColumnOn grid) columns i text within on)
