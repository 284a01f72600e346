-- Going over the events from the last to the first: the notes that begin, where each ends, and their order.
use Rattle.std.proofs.Common.{◌≡◌, ◌≢◌, ℕ, suc, ◌+◌, ◌*◌, ◌<◌, ◌≤◌, Bool, true, false, cond, List, [], ◌∷◌, ◌++◌, length, set, refl, sym, ap, ◌∙◌, subst, inl, inr, arith}
use Rattle.std.specs.Prelude.{Some, None, find, slice_index, ◌&&◌, ◌==◌}
use Rattle.std.proofs.lemmas.Bool.Decides.{nat_tests}
use Rattle.std.proofs.lemmas.List.Elements.{All-cons}
use Rattle.std.proofs.lemmas.List.{get_or-set_same, get_or-set_other, length-set}
use Rattle.rhythm_base.specs.declared.event.Event.{Event}
use Rattle.rhythm_base.specs.declared.event.What.{What}
use Rattle.rhythm_base.specs.declared.event.What.TheVariants.{On, Off}
use Rattle.rhythm_base.specs.declared.note.Note.{Note}
use Rattle.rhythm_base.specs.Notes.{begun, begun_at, end_of_note, touches, tick_or}
use Rattle.note_list.specs.Ends.{note_from, ends_from}
use Rattle.note_list.specs.Pairing.{IsPlayable, IsEventOf, begins, AreSilent, IsPlayed}
use Rattle.rhythm_base.proofs.Members.{Among, Pairwise}
use Rattle.note_list.proofs.Latest.{Rises}

-- for each channel and key the next end after an event
pub record AreEnds (last : ℕ) (later : List Event) (ends : List ℕ) : Type 0 where
  pub long : length ends ≡ 2048
  pub entry : (c k : ℕ) → c < 16 → k < 128 → slice_index ends (128 * c + k) ≡ end_of_note last c k later

set_long : (table : List ℕ) (i v : ℕ) → length table ≡ 2048 → length (set table i v) ≡ 2048
set_long table i v h = length-set table i v ∙ h

entry_after : (last c0 k0 c k : ℕ) (e : Event) (later : List Event) (table : List ℕ) → c0 < 16 → k0 < 128 → c < 16 → k < 128 → AreEnds last later table
    → slice_index (set table (128 * c0 + k0) e.tick) (128 * c + k) ≡ tick_or last (cond ((c0 == c) && (k0 == k)) (Some e) (find (λ x. touches c k x.what) later))
entry_after last c0 k0 c k e later table a0 b0 a b ends = go ((c0 == c) && (k0 == k)) refl
  where
    go : (t : Bool) → ((c0 == c) && (k0 == k)) ≡ t → slice_index (set table (128 * c0 + k0) e.tick) (128 * c + k) ≡ tick_or last (cond t (Some e) (find (λ x. touches c k x.what) later))
    go true h =
        let one : c0 ≡ c = grind (arith, nat_tests) in
        let two : k0 ≡ k = grind (arith, nat_tests) in
        let same : 128 * c + k ≡ 128 * c0 + k0 = omega arith in
        ap (λ i. slice_index (set table (128 * c0 + k0) e.tick) i) same ∙ get_or-set_same table (128 * c0 + k0) e.tick 0 (omega (arith, ends.long))
    go false h =
        let other : 128 * c + k ≢ 128 * c0 + k0 = λ q. (
        let two : k ≡ k0 = omega (arith, q) in
        let one : c ≡ c0 = omega (arith, q, two) in
        let hit : ((c0 == c) && (k0 == k)) ≡ true = grind (arith, nat_tests) in
        cc) in
        get_or-set_other table (128 * c0 + k0) (128 * c + k) e.tick 0 other ∙ ends.entry c k a b

pub ends_more : (last tick : ℕ) (what : What) (later : List Event) (table : List ℕ) → IsPlayable what → AreEnds last later table → AreEnds last (record { tick = tick; what = what } ∷ later) (ends_from table tick what)
ends_more last tick (On c0 k0) later table h e = record {
  long = set_long table (128 * c0 + k0) tick e.long;
  entry = λ c k a b. entry_after last c0 k0 c k (record { tick = tick; what = On c0 k0 }) later table h.0 h.1 a b e;
}
ends_more last tick (Off c0 k0) later table h e = record {
  long = set_long table (128 * c0 + k0) tick e.long;
  entry = λ c k a b. entry_after last c0 k0 c k (record { tick = tick; what = Off c0 k0 }) later table h.0 h.1 a b e;
}
ends_more last tick _ later table h e = record { long = e.long; entry = e.entry }

-- ---- the note that begins with an event

pub one_begins : (last tick : ℕ) (what : What) (later : List Event) (table : List ℕ) (n : Note) → IsPlayable what → AreEnds last later table → note_from table tick what ≡ Some n → begun last (record { tick = tick; what = what } ∷ later) ≡ n ∷ begun last later
one_begins last tick (On c k) later table n h ends e = ap (λ m. m ∷ begun last later) note_is
  where
    note_is : ◌≡◌ {A = Note} (record { channel = c; key = k; onset = tick; end = end_of_note last c k later }) n
    note_is =
        let there : slice_index table (128 * c + k) ≡ end_of_note last c k later = ends.entry c k h.0 h.1 in
        let m : Note = record { channel = c; key = k; onset = tick; end = slice_index table (128 * c + k) } in
        let found : m ≡ n = cc in
        sym (ap (λ x. record { channel = c; key = k; onset = tick; end = x }) there) ∙ found
one_begins last tick _ later table n h ends e = absurd (cc)

pub none_begins : (last tick : ℕ) (what : What) (later : List Event) (table : List ℕ) → note_from table tick what ≡ None → begun last (record { tick = tick; what = what } ∷ later) ≡ begun last later
none_begins last tick (On c k) later table e = absurd (cc)
none_begins last tick what later table e = refl

-- ---- whether there are notes, and what each is like

pub silent_if_none : (last : ℕ) (events : List Event) → begun last events ≡ [] → AreSilent events
silent_if_none last [] h = λ k d l. absurd (omega arith)
silent_if_none last (e ∷ events) h = let p = one e.what h in All-cons (λ (x : Event). begins x.what ≡ false) e events p.0 (silent_if_none last events p.1)
  where
    one : (w : What) → begun_at last e.tick w events ++ begun last events ≡ [] → (begins w ≡ false) × (begun last events ≡ [])
    one (On c k) q = absurd (cc)
    one _ q = (refl, q)

pub none_if_silent : (last : ℕ) (events : List Event) → AreSilent events → begun last events ≡ []
none_if_silent last [] h = refl
none_if_silent last (e ∷ events) h = one e.what (h 0 e (omega arith)) (none_if_silent last events (λ k d l. h (suc k) d (omega arith)))
  where
    one : (w : What) → begins w ≡ false → begun last events ≡ [] → begun_at last e.tick w events ++ begun last events ≡ []
    one (On c k) q r = absurd (cc)
    one _ q r = r

-- the end of a note is one of the later ticks, or the last
end_between : (last low c k : ℕ) (later : List Event) → low ≤ last → ((e : Event) → Among e later → (low ≤ e.tick) × (e.tick ≤ last)) → (low ≤ end_of_note last c k later) × (end_of_note last c k later ≤ last)
end_between last low c k [] le h = (le, omega arith)
end_between last low c k (e ∷ later) le h = go (touches c k e.what) (end_between last low c k later le (λ x a. h x (inr a)))
  where
    go : (t : Bool) → (low ≤ end_of_note last c k later) × (end_of_note last c k later ≤ last)
        → (low ≤ tick_or last (cond t (Some e) (find (λ x. touches c k x.what) later))) × (tick_or last (cond t (Some e) (find (λ x. touches c k x.what) later)) ≤ last)
    go true ih = h e (inl refl)
    go false ih = ih

pub are_played : (last : ℕ) (events : List Event) → Pairwise (λ x y. x.tick ≤ y.tick) events → ((e : Event) → Among e events → IsEventOf last e) → (n : Note) → Among n (begun last events) → IsPlayed last n
are_played last [] order h n a = absurd a
are_played last (e ∷ events) order h n a = one e.what (h e (inl refl)).keyed (λ b. are_played last events order.1 (λ x d. h x (inr d)) n b) a
  where
    one : (w : What) → IsPlayable w → (Among n (begun last events) → IsPlayed last n) → Among n (begun_at last e.tick w events ++ begun last events) → IsPlayed last n
    one (On c k) q rest (inl f) =
        let between = end_between last e.tick c k events (h e (inl refl)).tick (λ x b. (order.0 x b, (h x (inr b)).tick)) in
        subst (IsPlayed last) (sym f) record { channel = q.0; key = q.1; after = between.0; within = between.1 }
    one (On c k) q rest (inr b) = rest b
    one _ q rest b = rest b

-- ---- the order of notes by their events

onset_low : (last low : ℕ) (events : List Event) → ((e : Event) → Among e events → low ≤ e.tick) → (n : Note) → Among n (begun last events) → low ≤ n.onset
onset_low last low [] h n a = absurd a
onset_low last low (e ∷ events) h n a = one e.what (h e (inl refl)) (λ b. onset_low last low events (λ x d. h x (inr d)) n b) a
  where
    one : (w : What) → low ≤ e.tick → (Among n (begun last events) → low ≤ n.onset) → Among n (begun_at last e.tick w events ++ begun last events) → low ≤ n.onset
    one (On c k) le rest (inl f) = let same : n.onset ≡ e.tick = ap (λ (x : Note). x.onset) f in omega (arith, le, same)
    one (On c k) le rest (inr b) = rest b
    one _ le rest b = rest b

-- a note that begins later ends those of its channel and key that began before it
end_before : (last : ℕ) (events : List Event) → Pairwise (λ x y. x.tick ≤ y.tick) events → (n : Note) → Among n (begun last events) → end_of_note last n.channel n.key events ≤ n.onset
end_before last [] order n a = absurd a
end_before last (e ∷ events) order n a =
    go (touches n.channel n.key e.what) refl (onset_low last e.tick (e ∷ events) from_here n a) (λ b. end_before last events order.1 n b)
  where
    from_here : (x : Event) → Among x (e ∷ events) → e.tick ≤ x.tick
    from_here x (inl f) = let same : x.tick ≡ e.tick = ap (λ (y : Event). y.tick) f in omega (arith, same)
    from_here x (inr b) = order.0 x b

    later : (w : What) → touches n.channel n.key w ≡ false → Among n (begun_at last e.tick w events ++ begun last events) → Among n (begun last events)
    later (On c k) h (inl f) =
        let one : n.channel ≡ c = ap (λ (x : Note). x.channel) f in
        let two : n.key ≡ k = ap (λ (x : Note). x.key) f in
        absurd (grind (arith, nat_tests))
    later (On c k) h (inr b) = b
    later _ h b = b

    go : (t : Bool) → touches n.channel n.key e.what ≡ t → e.tick ≤ n.onset → (Among n (begun last events) → end_of_note last n.channel n.key events ≤ n.onset)
        → tick_or last (cond t (Some e) (find (λ x. touches n.channel n.key x.what) events)) ≤ n.onset
    go true h low rest = low
    go false h low rest = rest (later e.what h a)

pub onsets_rise : (last : ℕ) (events : List Event) → Pairwise (λ x y. x.tick ≤ y.tick) events → Pairwise (λ m n. m.onset ≤ n.onset) (begun last events)
onsets_rise last [] order = tt
onsets_rise last (e ∷ events) order = one e.what (onsets_rise last events order.1)
  where
    one : (w : What) → Pairwise (λ m n. m.onset ≤ n.onset) (begun last events) → Pairwise (λ m n. m.onset ≤ n.onset) (begun_at last e.tick w events ++ begun last events)
    one (On c k) rest = (onset_low last e.tick events order.0, rest)
    one _ rest = rest

pub ends_rise : (last : ℕ) (events : List Event) → Pairwise (λ x y. x.tick ≤ y.tick) events → ((e : Event) → Among e events → IsEventOf last e) → Pairwise Rises (begun last events)
ends_rise last [] order h = tt
ends_rise last (e ∷ events) order h = one e.what (ends_rise last events order.1 (λ x d. h x (inr d)))
  where
    one : (w : What) → Pairwise Rises (begun last events) → Pairwise Rises (begun_at last e.tick w events ++ begun last events)
    one (On c k) rest = (first, rest)
      where
        first : (n : Note) → Among n (begun last events) → Rises (record { channel = c; key = k; onset = e.tick; end = end_of_note last c k events }) n
        first n a same =
            let P : ℕ → ℕ → Type 0 = λ x y. end_of_note last x y events ≤ n.onset in
            let early = end_before last events order.1 n a in
            let here : end_of_note last c k events ≤ n.onset = subst (λ x. P x k) (sym same.channel) (subst (λ y. P n.channel y) (sym same.key) early) in
            let played = are_played last events order.1 (λ x d. h x (inr d)) n a in
            omega (arith, here, played.after)
    one _ rest = rest
