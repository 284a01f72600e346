-- The order of messages: by tick, at one tick first the ends of earlier notes, and then by key.
use Rattle.std.proofs.Common.{◌≡◌, ◌⊎◌, ℕ, ◌<◌, ◌≤◌, Bool, true, false, List, [], ◌∷◌, map, refl, sym, ap, ◌∙◌, subst, inl, inr, arith}
use Rattle.std.specs.Prelude.{if◌then◌else◌, nat_lt}
use Rattle.std.specs.List.{flat_map}
use Rattle.std.specs.Ordering.{nat_cmp}
use Rattle.std.specs.Cmp.Lexicographic.{nat_list_cmp_total, slice_cmp}
use Rattle.std.specs.declared.cmp.Ordering.TheVariants.{Less}
use Rattle.std.proofs.lemmas.Bool.{cases_lt}
use Rattle.std.proofs.lemmas.Bool.Decides.{nat_tests}
use Rattle.rhythm_base.proofs.FirstLists.{one_earlier}
use Rattle.rhythm_base.specs.declared.note.Note.{Note}
use Rattle.smf_bytes.specs.Track.{AreTimed}
use Rattle.smf_writer.specs.NoteMessages.{Message, begins, ends, event_of, message_note, place_of_message}
use Rattle.smf_writer.specs.Strokes.{begun_messages, ended, together}
use Rattle.rhythm_base.proofs.Members.{Among, Pairwise, among_both, among_flat, among_left, among_right, from_flat, pairs_join}

-- ---- places

abbrev pub place : ℕ → ℕ → ℕ → ℕ → List ℕ
place tick late key off = tick ∷ late ∷ key ∷ off ∷ []

abbrev pub IsLess : List ℕ → List ℕ → Type 0
IsLess a b = slice_cmp nat_cmp a b ≡ Less

pub by_tick : (t l k o u m j p : ℕ) → t < u → IsLess (place t l k o) (place u m j p)
by_tick t l k o u m j p less = grind (arith, nat_tests)

pub by_late : (t l k o u m j p : ℕ) → t ≡ u → l < m → IsLess (place t l k o) (place u m j p)
by_late t l k o u m j p same less = grind (arith, nat_tests)

by_key : (t l k o u m j p : ℕ) → t ≡ u → l ≡ m → k < j → IsLess (place t l k o) (place u m j p)
by_key t l k o u m j p same alike less = grind (arith, nat_tests)

pub by_off : (t l k o u m j p : ℕ) → t ≡ u → l ≡ m → k ≡ j → o < p → IsLess (place t l k o) (place u m j p)
by_off t l k o u m j p same alike one less = grind (arith, nat_tests)

-- ---- messages

abbrev pub IsBefore : Message → Message → Type 0
IsBefore m n = IsLess (place_of_message m) (place_of_message n)

abbrev pub late_of : Note → ℕ
late_of n = if nat_lt n.onset n.end then 0 else 1

-- ---- the messages of one note

-- at its beginning
pub record IsBegun (n : Note) (m : Message) : Type 0 where
  pub off : ℕ
  pub at : place_of_message m ≡ place n.onset 1 n.key off
  pub of_note : message_note m ≡ n

begun_stands : (n : Note) (m : Message) → n.onset ≤ n.end → Among m (begun_messages n) → IsBegun n m
begun_stands n m order (inl e) = record { off = 0; at = ap place_of_message e; of_note = ap message_note e }
begun_stands n m order (inr h) = go (nat_lt n.onset n.end) refl h
  where
    go : (b : Bool) → nat_lt n.onset n.end ≡ b → Among m (if b then [] else ends n ∷ []) → IsBegun n m
    go true is h = absurd h
    go false is (inl e) =
        let end : n.end ≡ n.onset = grind (arith, nat_tests, is) in
        let late : late_of n ≡ 1 = rw is refl in
        record { off = 1; at = ap place_of_message e ∙ ap (λ t. place t (late_of n) n.key 1) end ∙ ap (λ l. place n.onset l n.key 1) late; of_note = ap message_note e }
    go false is (inr h) = absurd h

-- at its end
pub record IsEnded (n : Note) (m : Message) : Type 0 where
  pub at : place_of_message m ≡ place n.end 0 n.key 1
  pub of_note : message_note m ≡ n
  pub long : n.onset < n.end

ended_stands : (n : Note) (m : Message) → Among m (ended n) → IsEnded n m
ended_stands n m h = go (nat_lt n.onset n.end) refl h
  where
    go : (b : Bool) → nat_lt n.onset n.end ≡ b → Among m (if b then ends n ∷ [] else []) → IsEnded n m
    go true is (inl e) =
        let late : late_of n ≡ 0 = rw is refl in
        record { at = ap place_of_message e ∙ ap (λ l. place n.end l n.key 1) late; of_note = ap message_note e; long = grind (arith, nat_tests, is) }
    go true is (inr h) = absurd h
    go false is h = absurd h

begun_pair : (n : Note) → n.onset ≤ n.end → Pairwise IsBefore (begun_messages n)
begun_pair n order = go (nat_lt n.onset n.end) refl
  where
    go : (b : Bool) → nat_lt n.onset n.end ≡ b → Pairwise IsBefore (begins n ∷ (if b then [] else ends n ∷ []))
    go true is = ((λ m h. absurd h), tt)
    go false is =
        let end : n.end ≡ n.onset = grind (arith, nat_tests, is) in
        let late : late_of n ≡ 1 = rw is refl in
        ((λ m h. later m h end late), ((λ m h. absurd h), tt))
      where
        later : (m : Message) → Among m (ends n ∷ []) → n.end ≡ n.onset → late_of n ≡ 1 → IsBefore (begins n) m
        later m (inl e) end late = subst (IsBefore (begins n)) (sym e) (by_off n.onset 1 n.key 0 n.end (late_of n) n.key 1 (sym end) (sym late) refl (omega arith))
        later m (inr h) end late = absurd h

ended_pair : (n : Note) → Pairwise IsBefore (ended n)
ended_pair n = go (nat_lt n.onset n.end)
  where
    go : (b : Bool) → Pairwise IsBefore (if b then ends n ∷ [] else [])
    go true = ((λ m h. absurd h), tt)
    go false = tt

-- ---- notes that are struck together

-- they begin at one tick, and those of some length end at another; keys rise
pub record AreStruck (onset end : ℕ) (notes : List Note) : Type 0 where
  pub begin : (n : Note) → Among n notes → n.onset ≡ onset
  pub order : (n : Note) → Among n notes → n.onset ≤ n.end
  pub ending : (n : Note) → Among n notes → n.onset < n.end → n.end ≡ end
  pub rise : Pairwise (λ (m : Note) n. m.key < n.key) notes

struck_tail : (onset end : ℕ) (n : Note) (notes : List Note) → AreStruck onset end (n ∷ notes) → AreStruck onset end notes
struck_tail onset end n notes s = record { begin = λ m a. s.begin m (inr a); order = λ m a. s.order m (inr a); ending = λ m a. s.ending m (inr a); rise = s.rise.1 }

moved : (m n : Message) (a b : List ℕ) → place_of_message m ≡ a → place_of_message n ≡ b → IsLess a b → IsBefore m n
moved m n a b p q less = subst (λ x. IsLess x (place_of_message n)) (sym p) (subst (IsLess a) (sym q) less)

begun_order : (onset end : ℕ) (notes : List Note) → AreStruck onset end notes → Pairwise IsBefore (flat_map begun_messages notes)
begun_order onset end [] s = tt
begun_order onset end (n ∷ notes) s =
    pairs_join IsBefore (begun_messages n) (flat_map begun_messages notes) (begun_pair n (s.order n (inl refl))) (begun_order onset end notes (struck_tail onset end n notes s))
    (λ x y a b.
    let r = from_flat begun_messages notes y b in
    let later : Note = r.0 in
    let p = begun_stands n x (s.order n (inl refl)) a in
    let q = begun_stands later y (s.order later (inr r.1)) r.2 in
    moved x y (place n.onset 1 n.key p.off) (place later.onset 1 later.key q.off) p.at q.at
    (by_key n.onset 1 n.key p.off later.onset 1 later.key q.off (s.begin n (inl refl) ∙ sym (s.begin later (inr r.1))) refl (s.rise.0 later r.1)))

ended_order : (onset end : ℕ) (notes : List Note) → AreStruck onset end notes → Pairwise IsBefore (flat_map ended notes)
ended_order onset end [] s = tt
ended_order onset end (n ∷ notes) s =
    pairs_join IsBefore (ended n) (flat_map ended notes) (ended_pair n) (ended_order onset end notes (struck_tail onset end n notes s))
    (λ x y a b.
    let r = from_flat ended notes y b in
    let later : Note = r.0 in
    let p = ended_stands n x a in
    let q = ended_stands later y r.2 in
    moved x y (place n.end 0 n.key 1) (place later.end 0 later.key 1) p.at q.at
    (by_key n.end 0 n.key 1 later.end 0 later.key 1 (s.ending n (inl refl) p.long ∙ sym (s.ending later (inr r.1) q.long)) refl (s.rise.0 later r.1)))

pub together_order : (onset end : ℕ) (notes : List Note) → AreStruck onset end notes → Pairwise IsBefore (together notes)
together_order onset end notes s =
    pairs_join IsBefore (flat_map begun_messages notes) (flat_map ended notes) (begun_order onset end notes s) (ended_order onset end notes s)
    (λ x y a b.
    let r = from_flat begun_messages notes x a in
    let e = from_flat ended notes y b in
    let m : Note = r.0 in
    let n : Note = e.0 in
    let p = begun_stands m x (s.order m r.1) r.2 in
    let q = ended_stands n y e.2 in
    let same : m.onset ≡ n.onset = s.begin m r.1 ∙ sym (s.begin n e.1) in
    moved x y (place m.onset 1 m.key p.off) (place n.end 0 n.key 1) p.at q.at (by_tick m.onset 1 m.key p.off n.end 0 n.key 1 (omega (arith, same, q.long))))

-- ---- their messages are those of the notes

pub of_notes : (notes : List Note) (m : Message) → ((n : Note) → Among n notes → n.onset ≤ n.end) → Among m (together notes) → Among (message_note m) notes
of_notes notes m order h = elim (among_both (flat_map begun_messages notes) (flat_map ended notes) m h) [
  | inl a ↦ (let r = from_flat begun_messages notes m a in
      let p = begun_stands r.0 m (order r.0 r.1) r.2 in
      subst (λ n. Among n notes) (sym p.of_note) r.1)
  | inr b ↦ (let r = from_flat ended notes m b in
      let p = ended_stands r.0 m r.2 in
      subst (λ n. Among n notes) (sym p.of_note) r.1)
]

pub all_messages : (notes : List Note) (m : Message) → Among (message_note m) notes → Among m (together notes)
all_messages notes (begins n) h = among_left (flat_map begun_messages notes) (flat_map ended notes) (begins n) (among_flat begun_messages notes n (begins n) h (inl refl))
all_messages notes (ends n) h = go (nat_lt n.onset n.end) refl
  where
    go : (b : Bool) → nat_lt n.onset n.end ≡ b → Among (ends n) (together notes)
    go true is =
        let last : ended n ≡ ends n ∷ [] = rw is refl in
        among_right (flat_map begun_messages notes) (flat_map ended notes) (ends n) (among_flat ended notes n (ends n) h (subst (Among (ends n)) (sym last) (inl refl)))
    go false is =
        let first : begun_messages n ≡ begins n ∷ ends n ∷ [] = rw is refl in
        among_left (flat_map begun_messages notes) (flat_map ended notes) (ends n) (among_flat begun_messages notes n (ends n) h (subst (Among (ends n)) (sym first) (inr (inl refl))))

-- ---- between strokes

-- a message stands before those that may stand at a tick or later ..
pub record IsUpTo (tick : ℕ) (m : Message) : Type 0 where
  pub at : ℕ
  pub late : ℕ
  pub key : ℕ
  pub off : ℕ
  pub is : place_of_message m ≡ place at late key off
  pub before : (at < tick) ⊎ ((at ≡ tick) × (late ≡ 0))

-- .. which are not of the notes that end then
pub record IsFrom (tick : ℕ) (m : Message) : Type 0 where
  pub at : ℕ
  pub late : ℕ
  pub key : ℕ
  pub off : ℕ
  pub is : place_of_message m ≡ place at late key off
  pub after : (tick < at) ⊎ ((at ≡ tick) × (late ≡ 1))

pub parted : (tick : ℕ) (m n : Message) → IsUpTo tick m → IsFrom tick n → IsBefore m n
parted tick m n u f = moved m n (place u.at u.late u.key u.off) (place f.at f.late f.key f.off) u.is f.is (by u.before f.after)
  where
    by : (u.at < tick) ⊎ ((u.at ≡ tick) × (u.late ≡ 0)) → (tick < f.at) ⊎ ((f.at ≡ tick) × (f.late ≡ 1)) → IsLess (place u.at u.late u.key u.off) (place f.at f.late f.key f.off)
    by (inl a) (inl b) = by_tick u.at u.late u.key u.off f.at f.late f.key f.off (omega arith)
    by (inl a) (inr b) = by_tick u.at u.late u.key u.off f.at f.late f.key f.off (omega (arith, b.0))
    by (inr a) (inl b) = by_tick u.at u.late u.key u.off f.at f.late f.key f.off (omega (arith, a.0))
    by (inr a) (inr b) = by_late u.at u.late u.key u.off f.at f.late f.key f.off (a.0 ∙ sym b.0) (omega (arith, a.1, b.1))

-- the messages of notes that are struck together stand after what is before them and before what follows
pub struck_up_to : (onset end next : ℕ) (notes : List Note) (m : Message) → AreStruck onset end notes → onset < next → end ≤ next → Among m (together notes) → IsUpTo next m
struck_up_to onset end next notes m s less le h = elim (among_both (flat_map begun_messages notes) (flat_map ended notes) m h) [
  | inl a ↦ (let r = from_flat begun_messages notes m a in
      let n : Note = r.0 in
      let p = begun_stands n m (s.order n r.1) r.2 in
      record { at = n.onset; late = 1; key = n.key; off = p.off; is = p.at; before = inl (omega (arith, s.begin n r.1, less)) })
  | inr b ↦ (let r = from_flat ended notes m b in
      let n : Note = r.0 in
      let p = ended_stands n m r.2 in
      let e = s.ending n r.1 p.long in
      record { at = n.end; late = 0; key = n.key; off = 1; is = p.at; before = up_to n.end next 0 refl (omega (arith, e, le)) })
]
  where
    up_to : (e n late : ℕ) → late ≡ 0 → e ≤ n → (e < n) ⊎ ((e ≡ n) × (late ≡ 0))
    up_to e n late is le = elim (cases_lt e n) [
      | inl less ↦ inl less
      | inr more ↦ inr (omega arith, is)
    ]

pub struck_from : (onset end low : ℕ) (notes : List Note) (m : Message) → AreStruck onset end notes → low ≤ onset → Among m (together notes) → IsFrom low m
struck_from onset end low notes m s le h = elim (among_both (flat_map begun_messages notes) (flat_map ended notes) m h) [
  | inl a ↦ (let r = from_flat begun_messages notes m a in
      let n : Note = r.0 in
      let p = begun_stands n m (s.order n r.1) r.2 in
      record { at = n.onset; late = 1; key = n.key; off = p.off; is = p.at; after = from low n.onset 1 refl (omega (arith, s.begin n r.1, le)) })
  | inr b ↦ (let r = from_flat ended notes m b in
      let n : Note = r.0 in
      let p = ended_stands n m r.2 in
      record { at = n.end; late = 0; key = n.key; off = 1; is = p.at; after = inl (omega (arith, s.begin n r.1, le, p.long)) })
]
  where
    from : (l o late : ℕ) → late ≡ 1 → l ≤ o → (l < o) ⊎ ((o ≡ l) × (late ≡ 1))
    from l o late is le = elim (cases_lt l o) [
      | inl less ↦ inl less
      | inr more ↦ inr (omega arith, is)
    ]

-- what stands from a tick on stands from an earlier one on
pub from_earlier : (low tick : ℕ) (m : Message) → low ≤ tick → IsFrom tick m → IsFrom low m
from_earlier low tick m le f = record { at = f.at; late = f.late; key = f.key; off = f.off; is = f.is; after = by f.after }
  where
    by : (tick < f.at) ⊎ ((f.at ≡ tick) × (f.late ≡ 1)) → (low < f.at) ⊎ ((f.at ≡ low) × (f.late ≡ 1))
    by (inl a) = inl (omega arith)
    by (inr a) = elim (cases_lt low f.at) [
      | inl less ↦ inl less
      | inr more ↦ inr (omega (arith, a.0), a.1)
    ]

-- ---- their ticks

tick_of : (m : Message) → (late : ℕ) × (key : ℕ) × (off : ℕ) × (place_of_message m ≡ place (event_of m).tick late key off)
tick_of (begins n) = (1, n.key, 0, refl)
tick_of (ends n) = (late_of n, n.key, 1, refl)

not_later : (t l k o u m j p : ℕ) → IsLess (place t l k o) (place u m j p) → t ≤ u
not_later t l k o u m j p less = elim (cases_lt u t) [
  | inl back ↦ absurd (one_earlier nat_list_cmp_total (place t l k o) (place u m j p) less (by_tick u m j p t l k o back))
  | inr fine ↦ fine
]

ticks_rise : (x y : Message) → IsBefore x y → (event_of x).tick ≤ (event_of y).tick
ticks_rise x y before =
    let a = tick_of x in
    let b = tick_of y in
    not_later (event_of x).tick a.0 a.1 a.2 (event_of y).tick b.0 b.1 b.2 (subst (λ z. IsLess z (place (event_of y).tick b.0 b.1 b.2)) a.3 (subst (IsLess (place_of_message x)) b.3 before))

-- messages in their order are events in the order of their ticks
pub messages_timed : (low last : ℕ) (ms : List Message) → low ≤ last → ((m : Message) → Among m ms → low ≤ (event_of m).tick)
    → ((m : Message) → Among m ms → (event_of m).tick ≤ last) → Pairwise IsBefore ms → AreTimed low (map event_of ms) last
messages_timed low last [] le above within order = le
messages_timed low last (x ∷ ms) le above within order = (
  above x (inl refl),
  messages_timed (event_of x).tick last ms (within x (inl refl)) (λ m a. ticks_rise x m (order.0 m a)) (λ m a. within m (inr a)) order.1,
)
