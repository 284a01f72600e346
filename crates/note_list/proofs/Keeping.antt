-- Going over the events from the last to the first: the notes that are kept, and for each channel and key the onset of the last.
use Rattle.std.proofs.Common.{◌≡◌, ◌≢◌, ℕ, zero, suc, ◌+◌, ◌-◌, ◌*◌, ◌<◌, ◌≤◌, Bool, true, false, List, [], ◌∷◌, ◌++◌, length, min, get_or, set, drop, reverse, map, refl, sym, ap, ◌∙◌, subst, inl, inr, arith}
use Rattle.std.specs.Prelude.{All, Option, Some, None, slice_index_or, if◌then◌else◌, ◌&&◌, ◌==◌}
use Rattle.std.specs.List.{list_any}
use Rattle.std.specs.List.Sorted.{IsNonDecreasing}
use Rattle.std.proofs.lemmas.Bool.Decides.{nat_tests}
use Rattle.std.proofs.lemmas.List.{get_or-set_same, get_or-set_other, length-set, length_push}
use Rattle.std.proofs.lemmas.List.Sorted.{IsPermutation-reverse}
use Rattle.std.proofs.Math.Seq.{drop-cons}
use Rattle.rhythm_base.specs.declared.event.Event.{Event}
use Rattle.rhythm_base.specs.declared.note.Note.{Note}
use Rattle.rhythm_base.specs.Notes.{begun}
use Rattle.note_list.specs.Ends.{note_from, ends_from}
use Rattle.note_list.specs.Kept.{AreKeptNotes, same_place}
use Rattle.note_list.specs.Pairing.{IsEventOf, IsNoteFault}
use Rattle.note_list.specs.declared.fault.NoteFault.TheVariants.{TooManyNotes}
use Rattle.rhythm_base.proofs.Members.{Among, Pairwise}
use Rattle.rhythm_base.proofs.ListParts.{reverse_cons}
use Rattle.rhythm_base.proofs.NotePlaces.{ArePlacedAlike}
use Rattle.note_list.proofs.Latest.{latest, any_alike, none_alike}
use Rattle.note_list.proofs.Ending.{AreEnds, ends_more, one_begins, none_begins, onsets_rise}
use Rattle.note_list.proofs.OneList.{events_rise, latest_kept, kept_permuted, so_many}

-- ---- the onsets

-- the onset of the first note of the channel and key
abbrev pub next_onset : ℕ → ℕ → List Note → Option ℕ
next_onset c k [] = None
next_onset c k (n ∷ ns) = if (n.channel == c) && (n.key == k) then Some n.onset else next_onset c k ns

pub record AreOnsets (notes : List Note) (table : List (Option ℕ)) : Type 0 where
  pub long : length table ≡ 2048
  pub entry : (c k : ℕ) → c < 16 → k < 128 → slice_index_or table (128 * c + k) None ≡ next_onset c k notes

pub no_onsets : (table : List (Option ℕ)) → length table ≡ 2048 → All (λ t. t ≡ None) table → AreOnsets [] table
no_onsets table long all = record { long = long; entry = λ c k a b. all (128 * c + k) None (omega (arith, long)) }

onsets_more : (n : Note) (notes : List Note) (table : List (Option ℕ)) → n.channel < 16 → n.key < 128 → AreOnsets notes table → AreOnsets (n ∷ notes) (set table (128 * n.channel + n.key) (Some n.onset))
onsets_more n notes table small low h = record { long = length-set table (128 * n.channel + n.key) (Some n.onset) ∙ h.long; entry = entry }
  where
    entry : (c k : ℕ) → c < 16 → k < 128 → slice_index_or (set table (128 * n.channel + n.key) (Some n.onset)) (128 * c + k) None ≡ next_onset c k (n ∷ notes)
    entry c k a b = go ((n.channel == c) && (n.key == k)) refl
      where
        go : (t : Bool) → ((n.channel == c) && (n.key == k)) ≡ t → slice_index_or (set table (128 * n.channel + n.key) (Some n.onset)) (128 * c + k) None ≡ (if t then Some n.onset else next_onset c k notes)
        go true is =
            let one : n.channel ≡ c = grind (arith, nat_tests) in
            let two : n.key ≡ k = grind (arith, nat_tests) in
            let same : 128 * c + k ≡ 128 * n.channel + n.key = omega arith in
            ap (λ i. slice_index_or (set table (128 * n.channel + n.key) (Some n.onset)) i None) same ∙ get_or-set_same table (128 * n.channel + n.key) (Some n.onset) None (omega (arith, h.long))
        go false is =
            let other : 128 * c + k ≢ 128 * n.channel + n.key = λ q. (
            let two : k ≡ n.key = omega (arith, q) in
            let one : c ≡ n.channel = omega (arith, q, two) in
            let hit : ((n.channel == c) && (n.key == k)) ≡ true = grind (arith, nat_tests) in
            cc) in
            get_or-set_other table (128 * n.channel + n.key) (128 * c + k) (Some n.onset) None other ∙ h.entry c k a b

abbrev pub AreRising : List Note → Type 0
AreRising notes = Pairwise (λ m n. m.onset ≤ n.onset) notes

-- where a later note is of its place, so is the first of its channel and key
next_alike : (n : Note) (notes : List Note) → ((m : Note) → Among m notes → n.onset ≤ m.onset) → AreRising notes → (y : Note) → Among y notes → ArePlacedAlike n y → next_onset n.channel n.key notes ≡ Some n.onset
next_alike n [] low rise y a same = absurd a
next_alike n (m ∷ ms) low rise y a same = go ((m.channel == n.channel) && (m.key == n.key)) refl a (λ b. next_alike n ms (λ x d. low x (inr d)) rise.1 y b same)
  where
    up : Among y (m ∷ ms) → m.onset ≤ y.onset
    up (inl e) = let f : y.onset ≡ m.onset = ap (λ (x : Note). x.onset) e in omega (arith, f)
    up (inr b) = rise.0 y b

    go : (t : Bool) → ((m.channel == n.channel) && (m.key == n.key)) ≡ t → Among y (m ∷ ms) → (Among y ms → next_onset n.channel n.key ms ≡ Some n.onset) → (if t then Some m.onset else next_onset n.channel n.key ms) ≡ Some n.onset
    go true is b rest = let e : m.onset ≡ n.onset = omega (arith, low m (inl refl), up a, same.onset) in ap (λ t. Some t) e
    go false is (inl e) rest =
        let one : m.channel ≡ n.channel = ap (λ (x : Note). x.channel) (sym e) ∙ sym same.channel in
        let two : m.key ≡ n.key = ap (λ (x : Note). x.key) (sym e) ∙ sym same.key in
        absurd (grind (arith, nat_tests))
    go false is (inr b) rest = rest b

none_next : (n : Note) (notes : List Note) → ((y : Note) → Among y notes → ArePlacedAlike n y → ⊥) → next_onset n.channel n.key notes ≡ Some n.onset → ⊥
none_next n [] none h = absurd (cc)
none_next n (m ∷ ms) none h = go ((m.channel == n.channel) && (m.key == n.key)) refl h (λ q. none_next n ms (λ y a. none y (inr a)) q)
  where
    go : (t : Bool) → ((m.channel == n.channel) && (m.key == n.key)) ≡ t → (if t then Some m.onset else next_onset n.channel n.key ms) ≡ Some n.onset → (next_onset n.channel n.key ms ≡ Some n.onset → ⊥) → ⊥
    go true is q rest =
        let at : m.onset ≡ n.onset = cc in
        none m (inl refl) record { channel = grind (arith, nat_tests); onset = sym at; key = grind (arith, nat_tests) }
    go false is q rest = rest q

-- ---- whether the next note is kept

pub is_latest : (n : Note) (notes : List Note) (table : List (Option ℕ)) → n.channel < 16 → n.key < 128 → AreRising (n ∷ notes) → AreOnsets notes table → slice_index_or table (128 * n.channel + n.key) None ≢ Some n.onset → latest (n ∷ notes) ≡ n ∷ latest notes
is_latest n notes table small low rise h new = go (list_any (same_place n) notes) refl
  where
    go : (b : Bool) → list_any (same_place n) notes ≡ b → (if b then latest notes else n ∷ latest notes) ≡ n ∷ latest notes
    go true any = let y = any_alike n notes any in absurd (new (h.entry n.channel n.key small low ∙ next_alike n notes rise.0 rise.1 y.0 y.1 y.2))
    go false none = refl

pub is_not_latest : (n : Note) (notes : List Note) (table : List (Option ℕ)) → n.channel < 16 → n.key < 128 → AreOnsets notes table → (slice_index_or table (128 * n.channel + n.key) None ≢ Some n.onset → ⊥) → latest (n ∷ notes) ≡ latest notes
is_not_latest n notes table small low h old = go (list_any (same_place n) notes) refl
  where
    go : (b : Bool) → list_any (same_place n) notes ≡ b → (if b then latest notes else n ∷ latest notes) ≡ latest notes
    go true any = refl
    go false none = absurd (old (λ q. none_next n notes (none_alike n notes none) (sym (h.entry n.channel n.key small low) ∙ q)))

-- ---- the notes that are kept so far

-- all of them are counted, and stand in the list where they are not too many
pub record Held (notes : List Note) (table : List (Option ℕ)) (list : List Note) (number : ℕ) : Type 0 where
  pub onsets : AreOnsets notes table
  pub count : number ≡ length (latest notes)
  pub all : number ≤ 65536 → list ≡ reverse (latest notes)
  pub long : length list ≡ min number 65536

pub pushed : (n : Note) (notes : List Note) (table : List (Option ℕ)) (list : List Note) (count : ℕ) → n.channel < 16 → n.key < 128 → AreRising (n ∷ notes) → Held notes table list count
    → slice_index_or table (128 * n.channel + n.key) None ≢ Some n.onset → length list < 65536 → Held (n ∷ notes) (set table (128 * n.channel + n.key) (Some n.onset)) (list ++ n ∷ []) (count + 1)
pushed n notes table list count small low rise h new room =
    let is = is_latest n notes table small low rise h.onsets new in
    let few : count < 65536 = omega (arith, h.long) in
    record {
      onsets = onsets_more n notes table small low h.onsets;
      count = ap (λ m. m + 1) h.count ∙ grind arith ∙ ap (λ (l : List Note). length l) (sym is);
      all = λ le. ap (λ l. l ++ n ∷ []) (h.all (omega (arith, few))) ∙ sym (reverse_cons n (latest notes)) ∙ ap reverse (sym is);
      long = omega (arith, length_push list n, few, h.long);
    }

pub passed : (n : Note) (notes : List Note) (table : List (Option ℕ)) (list : List Note) (count : ℕ) → n.channel < 16 → n.key < 128 → AreRising (n ∷ notes) → Held notes table list count
    → slice_index_or table (128 * n.channel + n.key) None ≢ Some n.onset → 65536 ≤ length list → Held (n ∷ notes) (set table (128 * n.channel + n.key) (Some n.onset)) list (count + 1)
passed n notes table list count small low rise h new full =
    let is = is_latest n notes table small low rise h.onsets new in
    record {
      onsets = onsets_more n notes table small low h.onsets;
      count = ap (λ m. m + 1) h.count ∙ grind arith ∙ ap (λ (l : List Note). length l) (sym is);
      all = λ le. absurd (omega (arith, le, full, h.long));
      long = omega (arith, full, h.long);
    }

pub again : (n : Note) (notes : List Note) (table : List (Option ℕ)) (list : List Note) (count : ℕ) → n.channel < 16 → n.key < 128 → Held notes table list count → (slice_index_or table (128 * n.channel + n.key) None ≢ Some n.onset → ⊥)
    → Held (n ∷ notes) (set table (128 * n.channel + n.key) (Some n.onset)) list count
again n notes table list count small low h old =
    let is = is_not_latest n notes table small low h.onsets old in
    record {
      onsets = onsets_more n notes table small low h.onsets;
      count = h.count ∙ ap (λ (l : List Note). length l) (sym is);
      all = λ le. h.all le ∙ ap reverse (sym is);
      long = h.long;
    }

-- ---- one event of the list

pub record Going (last : ℕ) (events : List Event) (place : ℕ) (next : List ℕ) (onsets : List (Option ℕ)) (list : List Note) (count : ℕ) : Type 0 where
  pub ends : AreEnds last (drop place events) next
  pub held : Held (begun last (drop place events)) onsets list count
  pub few : count + place ≤ length events

from_here : (events : List Event) (place : ℕ) (d : Event) → 0 < place → place ≤ length events → drop (place - 1) events ≡ get_or events (place - 1) d ∷ drop place events
from_here events place d some within =
    let one : suc (place - 1) ≡ place = omega arith in
    drop-cons events (place - 1) d (omega arith) ∙ ap (λ n. get_or events (place - 1) d ∷ drop n events) one

ends_here : (last : ℕ) (events : List Event) (place : ℕ) (d : Event) (ends : List ℕ) → 0 < place → place ≤ length events → All (IsEventOf last) events → AreEnds last (drop place events) ends
    → AreEnds last (drop (place - 1) events) (ends_from ends (get_or events (place - 1) d).tick (get_or events (place - 1) d).what)
ends_here last events place d ends some within all h =
    let x = get_or events (place - 1) d in
    let P : List Event → Type 0 = λ l. AreEnds last l (ends_from ends x.tick x.what) in
    subst P (sym (from_here events place d some within)) (ends_more last x.tick x.what (drop place events) ends (all (place - 1) d (omega arith)).keyed h)

pub begun_here : (last : ℕ) (events : List Event) (place : ℕ) (d : Event) (ends : List ℕ) (n : Note) → 0 < place → place ≤ length events → All (IsEventOf last) events → AreEnds last (drop place events) ends
    → Some n ≡ note_from ends (get_or events (place - 1) d).tick (get_or events (place - 1) d).what → begun last (drop (place - 1) events) ≡ n ∷ begun last (drop place events)
begun_here last events place d ends n some within all h is =
    let x = get_or events (place - 1) d in
    ap (begun last) (from_here events place d some within) ∙ one_begins last x.tick x.what (drop place events) ends n (all (place - 1) d (omega arith)).keyed h (sym is)

later_rise : (events : List Event) (place : ℕ) → Pairwise (λ x y. x.tick ≤ y.tick) events → Pairwise (λ (x : Event) y. x.tick ≤ y.tick) (drop place events)
later_rise events zero h = h
later_rise [] (suc place) h = tt
later_rise (e ∷ events) (suc place) h = later_rise events place h.1

pub rising_here : (last : ℕ) (events : List Event) (place : ℕ) (n : Note) → IsNonDecreasing (map (λ e. e.tick) events) → begun last (drop (place - 1) events) ≡ n ∷ begun last (drop place events) → AreRising (n ∷ begun last (drop place events))
rising_here last events place n order is = subst AreRising is (onsets_rise last (drop (place - 1) events) (later_rise events (place - 1) (events_rise events order)))

pub going_on : (last : ℕ) (events : List Event) (place : ℕ) (d : Event) (ends new : List ℕ) (n : Note) (onsets table : List (Option ℕ)) (list next : List Note) (count more : ℕ) → 0 < place → place ≤ length events → All (IsEventOf last) events
    → Going last events place ends onsets list count → new ≡ ends_from ends (get_or events (place - 1) d).tick (get_or events (place - 1) d).what → begun last (drop (place - 1) events) ≡ n ∷ begun last (drop place events)
    → Held (n ∷ begun last (drop place events)) table next more → more ≤ count + 1 → Going last events (place - 1) new table next more
going_on last events place d ends new n onsets table list next count more some within all g is begins held up = record {
  ends = let P : List ℕ → Type 0 = λ l. AreEnds last (drop (place - 1) events) l in subst P (sym is) (ends_here last events place d ends some within all g.ends);
  held = let Q : List Note → Type 0 = λ ns. Held ns table next more in subst Q (sym begins) held;
  few = omega (arith, g.few, up, some);
}

pub going_by : (last : ℕ) (events : List Event) (place : ℕ) (d : Event) (ends new : List ℕ) (onsets : List (Option ℕ)) (list : List Note) (count : ℕ) → 0 < place → place ≤ length events → All (IsEventOf last) events
    → Going last events place ends onsets list count → None ≡ note_from ends (get_or events (place - 1) d).tick (get_or events (place - 1) d).what → new ≡ ends_from ends (get_or events (place - 1) d).tick (get_or events (place - 1) d).what
    → Going last events (place - 1) new onsets list count
going_by last events place d ends new onsets list count some within all g none is =
    let x = get_or events (place - 1) d in
    let same : begun last (drop (place - 1) events) ≡ begun last (drop place events) = ap (begun last) (from_here events place d some within) ∙ none_begins last x.tick x.what (drop place events) ends (sym none) in
    record {
      ends = let P : List ℕ → Type 0 = λ l. AreEnds last (drop (place - 1) events) l in subst P (sym is) (ends_here last events place d ends some within all g.ends);
      held = let Q : List Note → Type 0 = λ ns. Held ns onsets list count in subst Q (sym same) g.held;
      few = omega (arith, g.few, some);
    }

-- ---- after the first event

pub all_gone : (last : ℕ) (events : List Event) (place : ℕ) (next : List ℕ) (onsets : List (Option ℕ)) (list : List Note) (count : ℕ) → Going last events place next onsets list count → place ≡ 0 → Going last events 0 next onsets list count
all_gone last events place next onsets list count g start = let P : ℕ → Type 0 = λ p. Going last events p next onsets list count in subst P start g

pub are_kept : (last : ℕ) (events : List Event) (ends : List ℕ) (onsets : List (Option ℕ)) (list : List Note) (count : ℕ) → IsNonDecreasing (map (λ e. e.tick) events) → All (IsEventOf last) events → Going last events 0 ends onsets list count → count ≤ 65536 → AreKeptNotes last events list
are_kept last events ends onsets list count order all g few =
    let best : List Note = latest (begun last events) in
    subst (AreKeptNotes last events) (sym (g.held.all few)) (kept_permuted last events best (reverse best) (latest_kept last events (events_rise events order) all) (IsPermutation-reverse best))

pub are_too_many : (last : ℕ) (events : List Event) (ends : List ℕ) (onsets : List (Option ℕ)) (list : List Note) (count : ℕ) → IsNonDecreasing (map (λ e. e.tick) events) → All (IsEventOf last) events → Going last events 0 ends onsets list count → 65536 < count
    → IsNoteFault last events (TooManyNotes count)
are_too_many last events ends onsets list count order all g many =
    let some = so_many last events (latest (begun last events)) (latest_kept last events (events_rise events order) all) in
    (some.0, some.1, some.2 ∙ sym g.held.count, many)
