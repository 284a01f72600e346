-- The notes of strums: in order, at different places, and none shorter than a tick that was longer.
use Rattle.std.proofs.Common.{◌≡◌, ◌≢◌, ◌⊎◌, ℕ, ◌+◌, ◌-◌, ◌*◌, ◌<◌, ◌≤◌, eqb, Bool, true, false, not, cond, inl, inr, List, [], ◌∷◌, ◌++◌, length, map, refl, sym, ap, ◌∙◌, subst, arith, length-append}
use Rattle.std.specs.Prelude.{◌==◌, ◌&&◌, ◌||◌, nat_le, nat_lt, All, slice_index}
use Rattle.std.specs.List.{IsDistinct, flat_map}
use Rattle.std.proofs.lemmas.Bool.{and_parts, cases_order}
use Rattle.std.proofs.lemmas.Bool.Decides.{nat_tests}
use Rattle.std.proofs.lemmas.List.{append-nil, get_or-map, get_or_push}
use Rattle.std.proofs.lemmas.Map.Keys.{IsDistinct-from_apart}
use Rattle.note_list.proofs.Places.{IsBefore}
use Rattle.note_list.specs.Kept.{same_place}
use Rattle.note_list.specs.Pairing.{IsPlayed}
use Rattle.rhythm_base.proofs.Booleans.{or_true}
use Rattle.rhythm_base.proofs.Members.{Among, Pairwise, all_among, among_both, among_map, from_map, pairs_from, pairs_join, pairs_map}
use Rattle.rhythm_base.proofs.OrderedLists.{all_head, all_tail, pairs_head, pairs_tail}
use Rattle.rhythm_base.specs.Lists.{AreInOrder, least_of}
use Rattle.rhythm_base.specs.Performance.{place_of_note}
use Rattle.rhythm_base.specs.Time.{time}
use Rattle.rhythm_base.specs.declared.event.Tempo.{Tempo}
use Rattle.rhythm_base.specs.declared.note.Note.{Note}
use Rattle.performance_laws.proofs.ChordLemmas.{time_rises}
use Rattle.performance_prepare.specs.Drums.{is_drum}
use Rattle.performance_prepare.specs.Elapsed.{milliseconds, time_between}
use Rattle.performance_prepare.specs.Parts.{parts_from}
use Rattle.performance_prepare.specs.Strum.{begun_at, joins, midway, rolls_on, strikes, strummed_notes, together}
use Rattle.performance_prepare.proofs.LeastNumbers.{least_among}

-- ---- the order of notes, by numbers

abbrev spot : Note → ℕ
spot n = n.onset * 128 + n.key

-- m stands before n
abbrev pub Before : Note → Note → Type 0
Before m n = (m.channel < n.channel) ⊎ ((m.channel ≡ n.channel) × (m.onset ≤ n.onset) × (spot m < spot n))

before_by_place : (m n : Note) → m.key < 128 → n.key < 128 → IsBefore m n → Before m n
before_by_place m n low high h = elim (cases_order m.channel n.channel) [
  | inl e ↦ inr (e, onsets e, spots e)
  | inr other ↦ elim other [
    | inl lt ↦ inl lt
    | inr gt ↦ absurd (grind (arith, nat_tests))
  ]
]
  where
    onsets : m.channel ≡ n.channel → m.onset ≤ n.onset
    onsets e = grind (arith, nat_tests)

    keys : m.channel ≡ n.channel → m.onset ≡ n.onset → m.key < n.key
    keys e o = grind (arith, nat_tests)

    spots : m.channel ≡ n.channel → spot m < spot n
    spots e = elim (cases_order m.onset n.onset) [
      | inl o ↦ (let k = keys e o in omega (arith, k, o))
      | inr other ↦ elim other [
        | inl lt ↦ omega (arith, lt, low, high)
        | inr gt ↦ (let le = onsets e in absurd (omega (arith, le, gt)))
      ]
    ]

pub notes_before : (latest : ℕ) (notes : List Note) → All (IsPlayed latest) notes → AreInOrder place_of_note notes → Pairwise Before notes
notes_before latest [] played order = tt
notes_before latest (n ∷ notes) played order = (
  (λ m am. before_by_place n m (all_head (IsPlayed latest) n notes played).key
      (all_among (IsPlayed latest) notes (all_tail (IsPlayed latest) n notes played) m am).key
      (all_among (IsBefore n) notes (pairs_head IsBefore n notes order) m am)),
  notes_before latest notes (all_tail (IsPlayed latest) n notes played) (pairs_tail IsBefore n notes order),
)

-- ---- tests

-- where no note has the key, it differs from all
strikes_not : (part : List Note) (key : ℕ) → strikes part key ≡ false → (m : Note) → Among m part → m.key ≢ key
strikes_not [] key e m am same = absurd am
strikes_not (n ∷ part) key e m (inl is) same = let at : n.key ≡ key = sym (ap (λ (x : Note). x.key) is) ∙ same in
    absurd (here (eqb n.key key) refl at e)
  where
    here : (b : Bool) → eqb n.key key ≡ b → n.key ≡ key → (b || strikes part key) ≡ false → ⊥
    here true e at h = cc
    here false e at h = grind (arith, nat_tests)
strikes_not (n ∷ part) key e m (inr am) same = strikes_not part key (later (eqb n.key key) e) m am same
  where
    later : (b : Bool) → (b || strikes part key) ≡ false → strikes part key ≡ false
    later true h = absurd (cc)
    later false h = h

pub strikes_some : (part : List Note) (key : ℕ) → strikes part key ≡ true → (m : Note) × Among m part × (m.key ≡ key)
strikes_some [] key e = absurd (cc)
strikes_some (n ∷ part) key e = go (eqb n.key key) refl e (strikes_some part key)
  where
    go : (b : Bool) → eqb n.key key ≡ b → (b || strikes part key) ≡ true
        → (strikes part key ≡ true → (m : Note) × Among m part × (m.key ≡ key)) → (m : Note) × Among m (n ∷ part) × (m.key ≡ key)
    go true is h rest = (n, inl refl, grind (arith, nat_tests))
    go false is h rest = let r = rest h in (r.0, inr r.1, r.2)

-- ---- a run

-- a run from its first note to its last
pub record IsRun (first last : Note) (part : List Note) : Type 0 where
  pub begin : slice_index (map (λ n. n.onset) part) 0 ≡ first.onset
  pub end : slice_index (map (λ n. n.onset) part) (length part - 1) ≡ last.onset
  pub some : 1 ≤ length part
  pub channel : first.channel ≡ last.channel
  pub order : first.onset ≤ last.onset
  pub each : (n : Note) → Among n part → (n.channel ≡ last.channel) × (first.onset ≤ n.onset) × (n.onset ≤ last.onset)
      × (spot n ≤ spot last)
  pub apart : Pairwise (λ m n. m.key ≢ n.key) part
  pub drum : last.channel ≡ 9 → (part ≡ last ∷ []) × (first ≡ last)
  pub sounding : (n : Note) → Among n part → (n.onset ≡ last.onset) ⊎ (last.onset < n.end)

pub run_one : (x : Note) → IsRun x x (x ∷ [])
run_one x = record {
  begin = refl;
  end = refl;
  some = omega arith;
  channel = refl;
  order = omega arith;
  each = λ n am. alike n am;
  apart = ((λ y am. absurd am), tt);
  drum = λ e. (refl, refl);
  sounding = λ n am. inl (same n am);
}
  where
    same : (n : Note) → Among n (x ∷ []) → n.onset ≡ x.onset
    same n (inl e) = ap (λ (m : Note). m.onset) e
    same n (inr am) = absurd am

    alike : (n : Note) → Among n (x ∷ []) → (n.channel ≡ x.channel) × (x.onset ≤ n.onset) × (n.onset ≤ x.onset) × (spot n ≤ spot x)
    alike n (inl e) = let o = ap (λ (m : Note). m.onset) e in let k = ap spot e in
        (ap (λ (m : Note). m.channel) e, omega (arith, o), omega (arith, o), omega (arith, k))
    alike n (inr am) = absurd am

pub run_low : (first last : Note) (part : List Note) → IsRun first last part → first.onset ≤ midway part
run_low first last part run = let b = run.begin in let e = run.end in let o = run.order in omega (arith, b, e, o)

pub run_high : (first last : Note) (part : List Note) → IsRun first last part → midway part ≤ last.onset
run_high first last part run = let b = run.begin in let e = run.end in let o = run.order in omega (arith, b, e, o)

run_sooner : (first last : Note) (part : List Note) → IsRun first last part → first.onset < last.onset → midway part < last.onset
run_sooner first last part run less = let b = run.begin in let e = run.end in omega (arith, b, e, less)

first_pushed : (part : List Note) (x : Note) → 1 ≤ length part
    → slice_index (map (λ n. n.onset) (part ++ x ∷ [])) 0 ≡ slice_index (map (λ n. n.onset) part) 0
first_pushed [] x some = absurd (omega (arith, some))
first_pushed (p ∷ part) x some = refl

last_pushed : (part : List Note) (x : Note) → slice_index (map (λ n. n.onset) (part ++ x ∷ [])) (length (part ++ x ∷ []) - 1) ≡ x.onset
last_pushed part x =
    let long : length (part ++ x ∷ []) ≡ length part + 1 = length-append part (x ∷ []) in
    get_or-map (λ (n : Note). n.onset) (part ++ x ∷ []) (length (part ++ x ∷ []) - 1) x 0 (omega (arith, long))
    ∙ ap (λ (n : Note). n.onset) (get_or_push part x x (length (part ++ x ∷ []) - 1) (omega (arith, long)))

module _ (tempos : List Tempo) (division within : ℕ) where
  abbrev pub J : List Note → Note → Note → Bool
  J = joins tempos division within

  -- what a note that joins a run is
  pub record IsJoined (part : List Note) (y x : Note) : Type 0 where
    pub channel : x.channel ≡ y.channel
    pub pitched : x.channel ≢ 9
    pub new : (m : Note) → Among m part → m.key ≢ x.key
    pub sounds : (x.onset ≡ y.onset) ⊎ ((m : Note) → Among m part → x.onset < m.end)

  pub later_end : (part : List Note) (y x : Note) → rolls_on tempos division within part y x ≡ true → (m : Note) → Among m part
      → x.onset < m.end
  later_end part y x e m am =
      let e2 = (and_parts (nat_le (time_between tempos y.onset x.onset) (milliseconds division within))
      (nat_lt (milliseconds division 40) (time_between tempos x.onset (least_of (map (λ n. n.end) part)))) e).1 in
      let low : least_of (map (λ n. n.end) part) ≤ m.end =
      least_among (map (λ n. n.end) part) m.end (among_map (λ (n : Note). n.end) part m am) in
      let past : time tempos x.onset < time tempos (least_of (map (λ n. n.end) part)) =
      after (milliseconds division 40) (time tempos x.onset) (time tempos (least_of (map (λ n. n.end) part))) e2 in
      elim (cases_order x.onset (least_of (map (λ n. n.end) part))) [
        | inl same ↦ (let t = ap (time tempos) same in absurd (omega (arith, past, t)))
        | inr other ↦ elim other [
          | inl lt ↦ omega (arith, lt, low)
          | inr gt ↦ (let t = time_rises tempos (least_of (map (λ n. n.end) part)) x.onset (omega (arith, gt)) in
              absurd (omega (arith, past, t)))
        ]
      ]
    where
      after : (a b c : ℕ) → nat_lt a (c - b) ≡ true → b < c
      after a b c h = grind (arith, nat_tests)

  pub joined : (part : List Note) (y x : Note) → J part y x ≡ true → IsJoined part y x
  joined part y x e =
      let a = and_parts (x.channel == y.channel) (not (is_drum x)
      && (not (strikes part x.key) && ((x.onset == y.onset) || rolls_on tempos division within part y x))) e in
      let b = and_parts (not (is_drum x)) (not (strikes part x.key) && ((x.onset == y.onset) || rolls_on tempos division within part y x))
      a.1 in
      let c = and_parts (not (strikes part x.key)) ((x.onset == y.onset) || rolls_on tempos division within part y x) b.1 in
      record {
        channel = (let h = a.0 in grind (arith, nat_tests));
        pitched = (let h = b.0 in λ same. grind (arith, nat_tests));
        new = strikes_not part x.key (turned (strikes part x.key) c.0);
        sounds = (elim (or_true (x.onset == y.onset) (rolls_on tempos division within part y x) c.1) [
          | inl h ↦ inl (grind (arith, nat_tests))
          | inr h ↦ inr (later_end part y x h)
        ]);
      }
    where
      turned : (b : Bool) → not b ≡ true → b ≡ false
      turned true h = absurd (cc)
      turned false h = refl

  pub run_more : (first y : Note) (part : List Note) (x : Note) → IsRun first y part → Before y x → IsJoined part y x
      → IsRun first x (part ++ x ∷ [])
  run_more first y part x run before join = record {
    begin = first_pushed part x run.some ∙ run.begin;
    end = last_pushed part x;
    some = (let long = length-append part (x ∷ []) in omega (arith, long));
    channel = run.channel ∙ sym join.channel;
    order = (let o = run.order in let n = next before in omega (arith, o, n.0));
    each = λ n am. each n (among_both part (x ∷ []) n am) (next before);
    apart = pairs_join (λ m n. m.key ≢ n.key) part (x ∷ []) run.apart ((λ y am. absurd am), tt) (λ m n am an. differ m n am an);
    drum = λ e. absurd (join.pitched e);
    sounding = λ n am. sounds n (among_both part (x ∷ []) n am) join.sounds;
  }
    where
      next : Before y x → (y.onset ≤ x.onset) × (spot y < spot x)
      next (inl lt) = absurd (let c = join.channel in omega (arith, c, lt))
      next (inr h) = (h.1, h.2)

      each : (n : Note) → Among n part ⊎ Among n (x ∷ []) → (y.onset ≤ x.onset) × (spot y < spot x)
          → (n.channel ≡ x.channel) × (first.onset ≤ n.onset) × (n.onset ≤ x.onset) × (spot n ≤ spot x)
      each n (inl am) h = let e = run.each n am in (e.0 ∙ sym join.channel, e.1, omega (arith, e.2, h.0), omega (arith, e.3, h.1))
      each n (inr (inl e)) h = let o = ap (λ (m : Note). m.onset) e in let k = ap spot e in let f = run.order in
          (ap (λ (m : Note). m.channel) e, omega (arith, o, f, h.0), omega (arith, o), omega (arith, k))
      each n (inr (inr am)) h = absurd am

      differ : (m n : Note) → Among m part → Among n (x ∷ []) → m.key ≢ n.key
      differ m n am (inl e) same = join.new m am (same ∙ ap (λ (k : Note). k.key) e)
      differ m n am (inr an) same = absurd an

      sounds : (n : Note) → Among n part ⊎ Among n (x ∷ []) → (x.onset ≡ y.onset) ⊎ ((m : Note) → Among m part → x.onset < m.end)
          → (n.onset ≡ x.onset) ⊎ (x.onset < n.end)
      sounds n (inr (inl e)) s = inl (ap (λ (m : Note). m.onset) e)
      sounds n (inr (inr am)) s = absurd am
      sounds n (inl am) (inr later) = inr (later n am)
      sounds n (inl am) (inl same) = elim (run.sounding n am) [
        | inl at ↦ inl (at ∙ sym same)
        | inr past ↦ inr (omega (arith, past, same))
      ]

  -- ---- the notes of all strums

  abbrev pub Placed : List Note → Note → List Note → List Note
  Placed part y xs = flat_map together (parts_from J part y xs)

  -- by the test at the next note
  abbrev pub Next : Bool → List Note → Note → List Note → List Note
  Next b part x xs = flat_map together (cond b (parts_from J (part ++ x ∷ []) x xs) (part ∷ parts_from J (x ∷ []) x xs))

  -- not before a note in its channel
  abbrev pub Beyond : Note → Note → Type 0
  Beyond f z = (f.channel < z.channel) ⊎ ((z.channel ≡ f.channel) × (f.onset ≤ z.onset) × (f.channel ≡ 9 → spot f ≤ spot z))

  pub together_beyond : (first y : Note) (part : List Note) → IsRun first y part → (z : Note) → Among z (together part) → Beyond first z
  together_beyond first y part run z az =
      let m = from_map (begun_at (midway part)) part z az in
      let e = run.each m.0 m.1 in
      let low = run_low first y part run in
      let onset : z.onset ≡ midway part = ap (λ (k : Note). k.onset) m.2 in
      let key : z.key ≡ m.0.key = ap (λ (k : Note). k.key) m.2 in
      inr (
        ap (λ (k : Note). k.channel) m.2 ∙ e.0 ∙ sym run.channel,
        omega (arith, low, onset),
        λ nine. drums m.0 m.1 onset key (run.drum (sym run.channel ∙ nine)) low,
      )
    where
      drums : (n : Note) → Among n part → z.onset ≡ midway part → z.key ≡ n.key → (part ≡ y ∷ []) × (first ≡ y) → first.onset ≤ midway part
          → spot first ≤ spot z
      drums n an onset key h low = let k : n ≡ y = only (subst (Among n) h.0 an) in
          let same : n.key ≡ first.key = ap (λ (j : Note). j.key) (k ∙ sym h.1) in omega (arith, onset, key, same, low)
        where
          only : Among n (y ∷ []) → n ≡ y
          only (inl e) = e
          only (inr a) = absurd a

  beyond_from : (first y x z : Note) (part : List Note) → IsRun first y part → Before y x → Beyond x z → Beyond first z
  beyond_from first y x z part run (inl lt) (inl more) = let c = run.channel in inl (omega (arith, c, lt, more))
  beyond_from first y x z part run (inl lt) (inr same) = let c = run.channel in inl (omega (arith, c, lt, same.0))
  beyond_from first y x z part run (inr h) (inl more) = let c = run.channel in inl (omega (arith, c, h.0, more))
  beyond_from first y x z part run (inr h) (inr same) =
      let o = run.order in
      inr (
        same.0 ∙ sym h.0 ∙ sym run.channel,
        omega (arith, o, h.1, same.1),
        λ nine. (
            let d = run.drum (sym run.channel ∙ nine) in
            let s : spot first ≡ spot y = ap spot d.1 in
            let t = same.2 (sym h.0 ∙ sym run.channel ∙ nine) in
            omega (arith, s, t, h.2)),
      )

  pub placed_beyond : (xs : List Note) (first y : Note) (part : List Note) → IsRun first y part → Pairwise Before (y ∷ xs) → (z : Note)
      → Among z (Placed part y xs) → Beyond first z
  placed_beyond [] first y part run order z az = together_beyond first y part run z (subst (Among z) (append-nil (together part)) az)
  placed_beyond (x ∷ xs) first y part run order z az =
      go (J part y x) refl az (placed_beyond xs first x (part ++ x ∷ [])) (placed_beyond xs x x (x ∷ []) (run_one x) order.1)
    where
      go : (b : Bool) → J part y x ≡ b → Among z (Next b part x xs)
          → (IsRun first x (part ++ x ∷ []) → Pairwise Before (x ∷ xs) → (w : Note) → Among w (Placed (part ++ x ∷ []) x xs)
          → Beyond first w)
          → ((w : Note) → Among w (Placed (x ∷ []) x xs) → Beyond x w) → Beyond first z
      go true e az on next = on (run_more first y part x run (order.0 x (inl refl)) (joined part y x e)) order.1 z az
      go false e az on next = elim (among_both (together part) (Placed (x ∷ []) x xs) z az) [
        | inl here ↦ together_beyond first y part run z here
        | inr there ↦ beyond_from first y x z part run (order.0 x (inl refl)) (next z there)
      ]

  -- a strum's place is before the next note, where that begins another in its channel
  pub cut_sooner : (first y : Note) (part : List Note) (x : Note) → IsRun first y part → Before y x → J part y x ≡ false
      → x.channel ≡ y.channel → x.channel ≢ 9 → midway part < x.onset
  cut_sooner first y part x run before e same pitched = elim (cases_order y.onset x.onset) [
    | inl equal ↦ (let s = strikes_some part x.key (struck (strikes part x.key) equal e) in sooner s.0 s.1 s.2 equal)
    | inr other ↦ elim other [
      | inl lt ↦ (let h = run_high first y part run in omega (arith, h, lt))
      | inr gt ↦ absurd (back before gt)
    ]
  ]
    where
      back : Before y x → x.onset < y.onset → ⊥
      back (inl lt) gt = omega (arith, lt, same)
      back (inr h) gt = omega (arith, h.1, gt)

      -- a test that fails though all else holds
      struck : (b : Bool) → y.onset ≡ x.onset
          → ((x.channel == y.channel) && (not (is_drum x) && (not b && ((x.onset == y.onset) || rolls_on tempos division within part y x))))
          ≡ false → b ≡ true
      struck true equal e = refl
      struck false equal e =
          absurd (fails (x.channel == y.channel) (is_drum x) (x.onset == y.onset) (grind (arith, nat_tests)) (grind (arith, nat_tests))
          (grind (arith, nat_tests)) e)
        where
          fails : (a c d : Bool) → a ≡ true → c ≡ false → d ≡ true
              → (a && (not c && (true && (d || rolls_on tempos division within part y x)))) ≡ false → ⊥
          fails true false true ea ec ed e = cc
          fails false c d ea ec ed e = cc (ea)
          fails true true d ea ec ed e = cc (ec)
          fails true false false ea ec ed e = cc (ed)

      sooner : (m : Note) → Among m part → m.key ≡ x.key → y.onset ≡ x.onset → midway part < x.onset
      sooner m am key equal =
          let r = run.each m am in
          let s : spot y < spot x = after before in
          let less : first.onset < y.onset = omega (arith, r.1, r.3, s, key, equal) in
          let h = run_sooner first y part run less in
          omega (arith, h, equal)
        where
          after : Before y x → spot y < spot x
          after (inl lt) = absurd (omega (arith, lt, same))
          after (inr h) = h.2

  -- ---- at different places, and in the order of their onsets

  pub record AreApart (z w : Note) : Type 0 where
    pub place : same_place z w ≡ false
    pub order : z.channel ≡ w.channel → z.onset ≤ w.onset

  key_apart : (z w : Note) → z.key ≢ w.key → same_place z w ≡ false
  key_apart z w h = by (same_place z w) refl
    where
      by : (b : Bool) → same_place z w ≡ b → b ≡ false
      by true e = absurd (h (grind (arith, nat_tests)))
      by false e = refl

  pub channel_apart : (z w : Note) → z.channel < w.channel → same_place z w ≡ false
  channel_apart z w h = by (same_place z w) refl
    where
      by : (b : Bool) → same_place z w ≡ b → b ≡ false
      by true e = let c : z.channel ≡ w.channel = grind (arith, nat_tests) in absurd (omega (arith, c, h))
      by false e = refl

  pub spot_apart : (z w : Note) → spot z < spot w → same_place z w ≡ false
  spot_apart z w h = by (same_place z w) refl
    where
      by : (b : Bool) → same_place z w ≡ b → b ≡ false
      by true e = let o : z.onset ≡ w.onset = grind (arith, nat_tests) in let k : z.key ≡ w.key = grind (arith, nat_tests) in
          absurd (omega (arith, o, k, h))
      by false e = refl

  onset_apart : (z w : Note) → z.onset < w.onset → same_place z w ≡ false
  onset_apart z w h = by (same_place z w) refl
    where
      by : (b : Bool) → same_place z w ≡ b → b ≡ false
      by true e = let o : z.onset ≡ w.onset = grind (arith, nat_tests) in absurd (omega (arith, o, h))
      by false e = refl

  together_apart : (first y : Note) (part : List Note) → IsRun first y part → Pairwise AreApart (together part)
  together_apart first y part run =
      pairs_map (λ m n. m.key ≢ n.key) AreApart (begun_at (midway part)) part
      (λ m n h. record { place = key_apart (begun_at (midway part) m) (begun_at (midway part) n) h; order = λ e. omega arith }) run.apart

  pub across_apart : (first y : Note) (part : List Note) (x : Note) → IsRun first y part → Before y x → J part y x ≡ false → (z w : Note)
      → Among z (together part) → Beyond x w → AreApart z w
  across_apart first y part x run before e z w az beyond =
      let m = from_map (begun_at (midway part)) part z az in
      by before beyond m.0 m.1 (ap (λ (k : Note). k.channel) m.2) (ap (λ (k : Note). k.onset) m.2) (ap (λ (k : Note). k.key) m.2)
    where
      far : z.channel < w.channel → AreApart z w
      far lt = record { place = channel_apart z w lt; order = λ same. absurd (omega (arith, same, lt)) }

      -- in one channel
      near : (n : Note) → Among n part → z.channel ≡ n.channel → z.onset ≡ midway part → z.key ≡ n.key → y.channel ≡ x.channel
          → spot y < spot x → w.channel ≡ x.channel → x.onset ≤ w.onset → (x.channel ≡ 9 → spot x ≤ spot w) → AreApart z w
      near n an channel onset key same rise channels le drum = by_drum (eqb x.channel 9) refl
        where
          by_drum : (b : Bool) → eqb x.channel 9 ≡ b → AreApart z w
          by_drum true nine =
              let is_nine : x.channel ≡ 9 = grind (arith, nat_tests) in
              let d = run.drum (same ∙ is_nine) in
              let one : n ≡ y = only (subst (Among n) d.0 an) in
              let k : z.key ≡ y.key = key ∙ ap (λ (j : Note). j.key) one in
              let high = run_high first y part run in
              let low = run_low first y part run in
              let f : first.onset ≡ y.onset = ap (λ (j : Note). j.onset) d.1 in
              let at : z.onset ≡ y.onset = omega (arith, onset, high, low, f) in
              let s : spot z < spot w = (let t = drum is_nine in omega (arith, at, k, rise, t)) in
              record { place = spot_apart z w s; order = λ c. onsets at }
            where
              only : Among n (y ∷ []) → n ≡ y
              only (inl e) = e
              only (inr a) = absurd a

              onsets : z.onset ≡ y.onset → z.onset ≤ w.onset
              onsets at = let b = back before in omega (arith, at, b, le)
                where
                  back : Before y x → y.onset ≤ x.onset
                  back (inl lt) = absurd (omega (arith, lt, same))
                  back (inr h) = h.1
          by_drum false other =
              let pitched : x.channel ≢ 9 = λ c. grind (arith, nat_tests) in
              let less = cut_sooner first y part x run before e (sym same) pitched in
              let lt : z.onset < w.onset = omega (arith, less, onset, le) in
              record { place = onset_apart z w lt; order = λ c. omega (arith, lt) }

      by : Before y x → Beyond x w → (n : Note) → Among n part → z.channel ≡ n.channel → z.onset ≡ midway part → z.key ≡ n.key
          → AreApart z w
      by (inl lt) (inl more) n an c o k = let r = (run.each n an).0 in far (omega (arith, c, r, lt, more))
      by (inl lt) (inr same) n an c o k = let r = (run.each n an).0 in far (omega (arith, c, r, lt, same.0))
      by (inr h) (inl more) n an c o k = let r = (run.each n an).0 in far (omega (arith, c, r, h.0, more))
      by (inr h) (inr same) n an c o k = near n an c o k h.0 h.2 same.0 same.1 same.2

  placed_apart : (xs : List Note) (first y : Note) (part : List Note) → IsRun first y part → Pairwise Before (y ∷ xs)
      → Pairwise AreApart (Placed part y xs)
  placed_apart [] first y part run order = subst (Pairwise AreApart) (sym (append-nil (together part))) (together_apart first y part run)
  placed_apart (x ∷ xs) first y part run order =
      go (J part y x) refl (placed_apart xs first x (part ++ x ∷ [])) (placed_apart xs x x (x ∷ []) (run_one x) order.1)
    where
      go : (b : Bool) → J part y x ≡ b → (IsRun first x (part ++ x ∷ []) → Pairwise Before (x ∷ xs)
          → Pairwise AreApart (Placed (part ++ x ∷ []) x xs)) → Pairwise AreApart (Placed (x ∷ []) x xs)
          → Pairwise AreApart (Next b part x xs)
      go true e on next = on (run_more first y part x run (order.0 x (inl refl)) (joined part y x e)) order.1
      go false e on next = pairs_join AreApart (together part) (Placed (x ∷ []) x xs) (together_apart first y part run) next
          (λ z w az aw. across_apart first y part x run (order.0 x (inl refl)) e z w az
          (placed_beyond xs x x (x ∷ []) (run_one x) order.1 w aw))

  pub all_apart : (notes : List Note) → Pairwise Before notes → Pairwise AreApart (strummed_notes tempos division within notes)
  all_apart [] order = tt
  all_apart (n ∷ notes) order = placed_apart notes n n (n ∷ []) (run_one n) order

  pub strummed_distinct : (latest : ℕ) (notes : List Note) → All (IsPlayed latest) notes → AreInOrder place_of_note notes
      → IsDistinct same_place (strummed_notes tempos division within notes)
  strummed_distinct latest notes played order =
      IsDistinct-from_apart same_place (strummed_notes tempos division within notes)
      (pairs_from (λ z w. same_place z w ≡ false) (strummed_notes tempos division within notes)
      (places (strummed_notes tempos division within notes) (all_apart notes (notes_before latest notes played order))))
    where
      places : (zs : List Note) → Pairwise AreApart zs → Pairwise (λ z w. same_place z w ≡ false) zs
      places [] h = tt
      places (z ∷ zs) h = ((λ w aw. (h.0 w aw).place), places zs h.1)
