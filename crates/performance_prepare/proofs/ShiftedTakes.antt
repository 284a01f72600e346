-- A take at other places is well formed, if no note comes before tick 0 or too late.
use Rattle.std.proofs.Common.{◌≡◌, ◌⊎◌, ℕ, suc, ◌+◌, ◌*◌, ◌<◌, ◌≤◌, eqb, Bool, true, false, cond, inl, inr, List, [], ◌∷◌, map, refl, sym, ap, subst, arith}
use Rattle.std.specs.Prelude.{All, AllPairs}
use Rattle.std.specs.List.Sorted.{IsNonDecreasing}
use Rattle.std.proofs.lemmas.Bool.{cases_order}
use Rattle.std.proofs.lemmas.Bool.Decides.{nat_tests}
use Rattle.std.proofs.lemmas.List.{length-map}
use Rattle.std.proofs.lemmas.List.Elements.{All-cons, All-nil}
use Rattle.std.proofs.lemmas.List.Kept.{AllPairs-cons}
use Rattle.std.proofs.Math.Nat.{mul-le-mul_right}
use Rattle.note_list.proofs.Places.{IsBefore}
use Rattle.note_list.specs.Pairing.{IsPlayed}
use Rattle.rhythm_base.proofs.OrderedLists.{all_head, all_tail, pairs_head, pairs_nil, pairs_tail}
use Rattle.rhythm_base.specs.Performance.{IsKeyMark, IsTempo}
use Rattle.rhythm_base.specs.declared.event.KeyMark.{KeyMark}
use Rattle.rhythm_base.specs.declared.event.Tempo.{Tempo}
use Rattle.rhythm_base.specs.declared.note.Note.{Note}
use Rattle.performance_load.proofs.EventLemmas.{Up, below_greatest, up_from, up_to}
use Rattle.performance_load.specs.Loading.{greatest_end}
use Rattle.performance_load.specs.Take.{Take}
use Rattle.performance_load.specs.Taking.{IsTakeFormed}
use Rattle.performance_prepare.specs.Shift.{IsShift, shifted, shifted_key_mark, shifted_mark, shifted_note, shifted_signature, shifted_take, shifted_tempo}
use Rattle.performance_prepare.specs.declared.shift.Shift.{Shift}

-- ---- lists

pub all_mapped : {X Y : Type 0} (P : X → Type 0) (Q : Y → Type 0) (f : X → Y) → ((x : X) → P x → Q (f x)) → (xs : List X) → All P xs
    → All Q (map f xs)
all_mapped P Q f gives [] all = All-nil Q
all_mapped P Q f gives (x ∷ xs) all =
    All-cons Q (f x) (map f xs) (gives x (all_head P x xs all)) (all_mapped P Q f gives xs (all_tail P x xs all))

pub pairs_mapped : {X Y : Type 0} (P : X → Type 0) (R : X → X → Type 0) (S : Y → Y → Type 0) (f : X → Y)
    → ((x y : X) → P x → R x y → S (f x) (f y)) → (xs : List X) → All P xs
    → AllPairs R xs → AllPairs S (map f xs)
pairs_mapped P R S f gives [] all h = pairs_nil S
pairs_mapped P R S f gives (x ∷ xs) all h =
    AllPairs-cons S (f x) (map f xs)
    (all_mapped (R x) (S (f x)) f (λ y r. gives x y (all_head P x xs all) r) xs (pairs_head R x xs h))
    (pairs_mapped P R S f gives xs (all_tail P x xs all) (pairs_tail R x xs h))

module _ {X : Type 0} (tick : X → ℕ) (g : X → X) (f : ℕ → ℕ) (same : (x : X) → tick (g x) ≡ f (tick x)) (rise : (a b : ℕ) → a ≤ b
    → f a ≤ f b) where
  up_mapped : (low : ℕ) (xs : List X) → Up low (map tick xs) → Up (f low) (map tick (map g xs))
  up_mapped low [] up = tt
  up_mapped low (x ∷ xs) up = (
    subst (λ n. f low ≤ n) (sym (same x)) (rise low (tick x) up.0),
    subst (λ n. Up n (map tick (map g xs))) (sym (same x)) (up_mapped (tick x) xs up.1),
  )

  -- changes whose ticks go up do so where all of these move alike
  pub order_mapped : (xs : List X) → IsNonDecreasing (map tick xs) → IsNonDecreasing (map tick (map g xs))
  order_mapped xs order = up_to (f 0) (map tick (map g xs)) (up_mapped 0 xs (up_from 0 (map tick xs) (λ k d lt. omega arith) order))

-- ---- the order of notes

abbrev pub Earlier : Note → Note → Type 0
Earlier m n = (m.channel < n.channel) ⊎ ((m.channel ≡ n.channel) × ((m.onset < n.onset) ⊎ ((m.onset ≡ n.onset) × (m.key < n.key))))

pub earlier_from : (m n : Note) → IsBefore m n → Earlier m n
earlier_from m n h =
    elim (cases_order m.channel n.channel) [
      | inr other ↦ elim other [
        | inl less ↦ inl less
        | inr back ↦ absurd (grind (arith, nat_tests))
      ]
      | inl channel ↦ elim (cases_order m.onset n.onset) [
        | inr other ↦ elim other [
          | inl less ↦ inr (channel, inl less)
          | inr back ↦ absurd (grind (arith, nat_tests))
        ]
        | inl onset ↦ elim (cases_order m.key n.key) [
          | inr other ↦ elim other [
            | inl less ↦ inr (channel, inr (onset, less))
            | inr back ↦ absurd (grind (arith, nat_tests))
          ]
          | inl key ↦ absurd (grind (arith, nat_tests))
        ]
      ]
    ]

by_channel : (m n : Note) → m.channel < n.channel → IsBefore m n
by_channel m n c = grind (arith, nat_tests)

by_onset : (m n : Note) → m.channel ≡ n.channel → m.onset < n.onset → IsBefore m n
by_onset m n c o = grind (arith, nat_tests)

by_key : (m n : Note) → m.channel ≡ n.channel → m.onset ≡ n.onset → m.key < n.key → IsBefore m n
by_key m n c o k = grind (arith, nat_tests)

pub before_from : (m n : Note) → Earlier m n → IsBefore m n
before_from m n (inl c) = by_channel m n c
before_from m n (inr (c, inl o)) = by_onset m n c o
before_from m n (inr (c, inr (o, k))) = by_key m n c o k

-- ---- ticks

module _ (s : Shift) (h : IsShift s) where
  pub rises : (a b : ℕ) → a ≤ b → shifted s a ≤ shifted s b
  rises a b le = let more : a * s.times ≤ b * s.times = mul-le-mul_right s.times le in omega (arith, more)

  pub rises_more : (a b : ℕ) → a < b → s.earlier ≤ a * s.times + s.later → shifted s a < shifted s b
  rises_more a b lt room =
      let next : a + 1 ≤ b = omega (arith, lt) in
      let more : (a + 1) * s.times ≤ b * s.times = mul-le-mul_right s.times next in
      let step : (a + 1) * s.times ≡ a * s.times + s.times = grind arith in
      omega (arith, more, step, h.some, room)

  pub mark_rises : (a b : ℕ) → a ≤ b → shifted_mark s a ≤ shifted_mark s b
  mark_rises a b le = by (eqb a 0) (eqb b 0) refl refl
    where
      nothing : (n : ℕ) → eqb n 0 ≡ true → n ≡ 0
      nothing n e = grind (arith, nat_tests)

      something : (n : ℕ) → eqb n 0 ≡ false → n ≡ 0 → ⊥
      something n e z = grind (arith, nat_tests)

      by : (p q : Bool) → eqb a 0 ≡ p → eqb b 0 ≡ q → cond p 0 (shifted s a) ≤ cond q 0 (shifted s b)
      by true q e f = omega arith
      by false true e f = absurd (something a e (omega (arith, le, nothing b f)))
      by false false e f = rises a b le

  -- no note comes before tick 0
  abbrev pub HasRoom : Note → Type 0
  HasRoom n = s.earlier ≤ n.onset * s.times + s.later

  note_before : (m n : Note) → HasRoom m → IsBefore m n → IsBefore (shifted_note s m) (shifted_note s n)
  note_before m n room b = before_from (shifted_note s m) (shifted_note s n) (by (earlier_from m n b))
    where
      by : Earlier m n → Earlier (shifted_note s m) (shifted_note s n)
      by (inl c) = inl c
      by (inr (c, inl o)) = inr (c, inl (rises_more m.onset n.onset o room))
      by (inr (c, inr (o, k))) = inr (c, inr (ap (shifted s) o, k))

  pub shifted_tempos : (ts : List Tempo) → All IsTempo ts → All IsTempo (map (shifted_tempo s) ts)
  shifted_tempos ts all = all_mapped IsTempo IsTempo (shifted_tempo s) (λ t is. record { some = is.some; few = is.few }) ts all

  pub shifted_key_marks : (ks : List KeyMark) → All IsKeyMark ks → All IsKeyMark (map (shifted_key_mark s) ks)
  shifted_key_marks ks all = all_mapped IsKeyMark IsKeyMark (shifted_key_mark s) (λ k is. record { low = is.low; high = is.high }) ks all

  module _ (t : Take) (formed : IsTakeFormed t) (room : All HasRoom t.notes)
      (early : greatest_end (map (shifted_note s) t.notes) ≤ 1000000000) where
    ends : All (λ n. n.end ≤ 1000000000) (map (shifted_note s) t.notes)
    ends k d lt = let most = below_greatest (λ n. n.end) (map (shifted_note s) t.notes) k d lt in omega (arith, most, early)

    played : (ns : List Note) → All (IsPlayed 1000000000) ns → All (λ n. n.end ≤ 1000000000) (map (shifted_note s) ns)
        → All (IsPlayed 1000000000) (map (shifted_note s) ns)
    played [] all low = All-nil (IsPlayed 1000000000)
    played (n ∷ ns) all low =
        let one = all_head (IsPlayed 1000000000) n ns all in
        All-cons (IsPlayed 1000000000) (shifted_note s n) (map (shifted_note s) ns)
        (record { channel = one.channel; key = one.key; after = rises n.onset n.end one.after; within = low 0 n (omega arith) })
        (played ns (all_tail (IsPlayed 1000000000) n ns all) (λ k d lt. low (suc k) d (omega (arith, lt))))

    pub shift_formed : IsTakeFormed (shifted_take s t)
    shift_formed = record {
      division_low = formed.division_low;
      division_high = formed.division_high;
      some_note = omega (arith, formed.some_note, length-map t.notes (shifted_note s));
      few_notes = omega (arith, formed.few_notes, length-map t.notes (shifted_note s));
      notes = played t.notes formed.notes ends;
      notes_in_order = pairs_mapped HasRoom IsBefore IsBefore (shifted_note s) note_before t.notes room formed.notes_in_order;
      tempos = shifted_tempos t.tempos formed.tempos;
      tempos_in_order = order_mapped (λ x. x.tick) (shifted_tempo s) (shifted_mark s) (λ x. refl) mark_rises t.tempos
          formed.tempos_in_order;
      key_marks = shifted_key_marks t.key_marks formed.key_marks;
      key_marks_in_order =
          order_mapped (λ x. x.tick) (shifted_key_mark s) (shifted_mark s) (λ x. refl) mark_rises t.key_marks formed.key_marks_in_order;
      signatures_in_order =
          order_mapped (λ x. x.tick) (shifted_signature s) (shifted_mark s) (λ x. refl) mark_rises t.signatures formed.signatures_in_order;
    }
