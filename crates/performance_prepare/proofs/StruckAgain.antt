-- A second strum changes nothing where notes end where their keys are struck again.
use Rattle.std.proofs.Common.{◌≡◌, ◌≢◌, ◌⊎◌, ℕ, ◌<◌, ◌≤◌, Bool, true, false, not, eqb, inl, inr, List, [], ◌∷◌, ◌++◌, length, map, refl, sym, ap, ◌∙◌, subst, arith, append_assoc}
use Rattle.std.specs.Prelude.{◌==◌, ◌&&◌, ◌||◌, nat_le, nat_lt, AllPairs}
use Rattle.std.specs.List.{IsDistinct}
use Rattle.std.specs.List.Sorted.{IsPermutation}
use Rattle.std.proofs.lemmas.Bool.{and_parts, cases_order}
use Rattle.std.proofs.lemmas.Bool.Decides.{nat_tests}
use Rattle.std.proofs.lemmas.List.{append-nil, length-map}
use Rattle.std.proofs.lemmas.List.Sorted.{Contains-permutation, IsPermutation-sym}
use Rattle.std.proofs.lemmas.Map.Keys.{IsDistinct-IsPermutation}
use Rattle.note_list.proofs.Latest.{either_way}
use Rattle.note_list.proofs.OneList.{placed_in_order}
use Rattle.note_list.proofs.Places.{IsBefore, not_both}
use Rattle.note_list.specs.Kept.{same_place}
use Rattle.rhythm_base.proofs.Booleans.{or_true}
use Rattle.rhythm_base.proofs.FirstLists.{one_order}
use Rattle.rhythm_base.proofs.Members.{Among, Pairwise, among_both, among_contained, among_left, among_map, among_right, from_map, place_among}
use Rattle.rhythm_base.specs.Lists.{AreInOrder, least_of}
use Rattle.rhythm_base.specs.Performance.{place_of_note}
use Rattle.rhythm_base.specs.declared.event.Tempo.{Tempo}
use Rattle.rhythm_base.specs.declared.note.Note.{Note}
use Rattle.performance_laws.proofs.ChordLemmas.{time_rises}
use Rattle.performance_load.specs.Take.{Take}
use Rattle.performance_load.specs.Taking.{IsTakeFormed}
use Rattle.performance_prepare.specs.Drums.{is_drum}
use Rattle.performance_prepare.specs.Elapsed.{milliseconds, time_between}
use Rattle.performance_prepare.specs.Split.{in_order}
use Rattle.performance_prepare.specs.Strum.{begun_at, midway, rolls_on, strikes, strummed_notes, together, with_strum}
use Rattle.performance_prepare.specs.StrumLaws as laws
use Rattle.performance_prepare.proofs.KeysOnce.{Ends, same_test, to_pairs}
use Rattle.performance_prepare.proofs.LeastNumbers.{least_among, least_there}
use Rattle.performance_prepare.proofs.Parting.{order_permuted, same_order}
use Rattle.performance_prepare.proofs.Strummed.{strum_formed}
use Rattle.performance_prepare.proofs.Strumming.{Before, Beyond, IsRun, J, Next, Placed, across_apart, cut_sooner, joined, notes_before, placed_beyond, run_high, run_low, run_more, run_one, strummed_distinct}

-- ---- notes in order are so once for all

still_in_order : (notes : List Note) → AreInOrder place_of_note notes → AreInOrder place_of_note (in_order notes) → in_order notes ≡ notes
still_in_order notes order placed =
    one_order IsBefore not_both (in_order notes) notes placed order
    (λ n there. Contains-permutation (in_order notes) notes n (IsPermutation-sym notes (in_order notes) (order_permuted notes)) there)
    (λ n there. Contains-permutation notes (in_order notes) n (order_permuted notes) there)

module _ (tempos : List Tempo) (division within : ℕ) where
  abbrev Close : Note → Note → Type 0
  Close u v = time_between tempos u.onset v.onset ≤ milliseconds division within

  abbrev Ended : Note → Note → Type 0
  Ended v m = time_between tempos v.onset m.end ≤ milliseconds division 40

  -- where a note begins soon after another of its channel, one that begins with the earlier does not sound on: so the later rolls on with
  -- no strum
  abbrev Settled : List Note → Type 0
  Settled notes =
      (u v : Note) → Among u notes → Among v notes → u.channel ≡ v.channel → u.channel ≢ 9 → u.onset < v.onset → Close u v
      → (m : Note) × Among m notes × (m.channel ≡ u.channel) × (m.onset ≡ u.onset) × Ended v m

  -- the least end of a run
  abbrev First : List Note → ℕ
  First part = least_of (map (λ n. n.end) part)

  -- what begins at x
  abbrev From : Note → List Note → List Note
  From x xs = Placed tempos division within (x ∷ []) x xs

  abbrev Sounds : List Note → Note → Note → Bool
  Sounds part y x = (x.onset == y.onset) || rolls_on tempos division within part y x

  -- ---- strums are settled

  later_start : (a b c d : ℕ) → a ≤ b → c ≤ d → time_between tempos b c ≤ time_between tempos a d
  later_start a b c d le more = let low = time_rises tempos a b le in let high = time_rises tempos c d more in omega (arith, low, high)

  -- why a note begins another strum
  apart : (first y : Note) (part : List Note) (x : Note) → IsRun first y part → Before y x → ((m : Note) → Among m part → Ends m x)
      → J tempos division within part y x ≡ false → x.channel ≡ y.channel → x.channel ≢ 9 → Close y x
      → (m : Note) × Among m part × Ended x m
  apart first y part x run before ends e same pitched close =
      by (x.channel == y.channel) (is_drum x) (x.onset == y.onset) refl refl
      (nat_le (time_between tempos y.onset x.onset) (milliseconds division within)) refl
      (nat_lt (milliseconds division 40) (time_between tempos x.onset (First part))) refl
      (same_test tempos division within first y part x run before ends ∙ e)
    where
      ended : nat_lt (milliseconds division 40) (time_between tempos x.onset (First part)) ≡ false → (m : Note) × Among m part × Ended x m
      ended short =
          let there = least_there (map (λ n. n.end) part) (let some = run.some in let long = length-map part (λ (n : Note). n.end) in
          omega (arith, some, long)) in
          let m = from_map (λ (n : Note). n.end) part (First part) there in (
            m.0,
            m.1,
            subst (λ end. time_between tempos x.onset end ≤ milliseconds division 40) m.2
                (low (milliseconds division 40) (time_between tempos x.onset (First part)) short),
          )
        where
          low : (a b : ℕ) → nat_lt a b ≡ false → b ≤ a
          low a b h = grind (arith, nat_tests)

      by : (a d o : Bool) → (x.channel == y.channel) ≡ a → is_drum x ≡ d → (r : Bool)
          → nat_le (time_between tempos y.onset x.onset) (milliseconds division within) ≡ r
          → (s : Bool) → nat_lt (milliseconds division 40) (time_between tempos x.onset (First part)) ≡ s
          → (a && (not d && (o || (r && s)))) ≡ false → (m : Note) × Among m part × Ended x m
      by false d o ea ed r er s es h = absurd (differ x.channel y.channel ea same)
        where
          differ : (a b : ℕ) → eqb a b ≡ false → a ≢ b
          differ a b h same = grind (arith, nat_tests)
      by true true o ea ed r er s es h = absurd (pitched (nine x.channel ed))
        where
          nine : (a : ℕ) → eqb a 9 ≡ true → a ≡ 9
          nine a h = grind (arith, nat_tests)
      by true false true ea ed r er s es h = absurd (cc)
      by true false false ea ed false er s es h = absurd (far (time_between tempos y.onset x.onset) (milliseconds division within) er close)
        where
          far : (a b : ℕ) → nat_le a b ≡ false → a ≤ b → ⊥
          far a b h le = grind (arith, nat_tests)
      by true false false ea ed true er true es h = absurd (cc)
      by true false false ea ed true er false es h = ended es

  together_onset : (part : List Note) (z : Note) → Among z (together part) → z.onset ≡ midway part
  together_onset part z az = ap (λ (n : Note). n.onset) (from_map (begun_at (midway part)) part z az).2

  together_settled : (part : List Note) → Settled (together part)
  together_settled part u v au av same pitched less close =
      let ou = together_onset part u au in let ov = together_onset part v av in absurd (omega (arith, ou, ov, less))

  -- a strum and those after it
  joined_settled : (first y : Note) (part : List Note) (x : Note) (xs : List Note) → IsRun first y part → Pairwise Before (y ∷ x ∷ xs)
      → ((m : Note) → Among m part → Ends m x) → J tempos division within part y x ≡ false
      → Settled (Placed tempos division within (x ∷ []) x xs)
      → Settled (together part ++ Placed tempos division within (x ∷ []) x xs)
  joined_settled first y part x xs run order ends e rest u v au av same pitched less close =
      by (among_both (together part) (From x xs) u au) (among_both (together part) (From x xs) v av)
    where
      before : Before y x
      before = order.0 x (inl refl)

      beyond : (w : Note) → Among w (From x xs) → Beyond tempos division within x w
      beyond w aw = placed_beyond tempos division within xs x x (x ∷ []) (run_one x) order.1 w aw

      across : Among u (together part) → Beyond tempos division within x v
          → (m : Note) × Among m (together part ++ (From x xs)) × (m.channel ≡ u.channel) × (m.onset ≡ u.onset) × Ended v m
      across here there = go before there
        where
          from : (n : Note) × Among n part × (u ≡ begun_at (midway part) n)
          from = from_map (begun_at (midway part)) part u here

          own : u.channel ≡ y.channel
          own = ap (λ (n : Note). n.channel) from.2 ∙ (run.each from.0 from.1).0

          go : Before y x → Beyond tempos division within x v
              → (m : Note) × Among m (together part ++ (From x xs)) × (m.channel ≡ u.channel) × (m.onset ≡ u.onset) × Ended v m
          go (inl lt) (inl more) = absurd (omega (arith, own, same, lt, more))
          go (inl lt) (inr at) = (let c = at.0 in absurd (omega (arith, own, same, lt, c)))
          go (inr at) (inl more) = (let c = at.0 in absurd (omega (arith, own, same, c, more)))
          go (inr at) (inr b) =
              let channel : x.channel ≡ y.channel = sym at.0 in
              let high = run_high first y part run in
              let onset = together_onset part u here in
              let near = later_start u.onset y.onset x.onset v.onset (omega (arith, high, onset)) b.1 in
              let m = apart first y part x run before ends e channel (λ nine. pitched (own ∙ at.0 ∙ nine)) (omega (arith, near, close)) in
              let short = later_start x.onset v.onset m.0.end m.0.end b.1 (omega arith) in
              let late = m.2 in (
                begun_at (midway part) m.0,
                among_left (together part) (From x xs) (begun_at (midway part) m.0) (among_map (begun_at (midway part)) part m.0 m.1),
                (run.each m.0 m.1).0 ∙ sym own,
                sym onset,
                omega (arith, short, late),
              )

      by : Among u (together part) ⊎ Among u (From x xs) → Among v (together part) ⊎ Among v (From x xs)
          → (m : Note) × Among m (together part ++ (From x xs)) × (m.channel ≡ u.channel) × (m.onset ≡ u.onset) × Ended v m
      by (inl a) (inl b) = let ou = together_onset part u a in let ov = together_onset part v b in absurd (omega (arith, ou, ov, less))
      by (inl a) (inr b) = across a (beyond v b)
      by (inr a) (inl b) =
          let le = (across_apart tempos division within first y part x run before e v u b (beyond u a)).order (sym same) in
          absurd (omega (arith, le, less))
      by (inr a) (inr b) = let m = rest u v a b same pitched less close in
          (m.0, among_right (together part) (From x xs) m.0 m.1, m.2, m.3, m.4)

  placed_settled : (xs : List Note) (first y : Note) (part : List Note) → IsRun first y part → Pairwise Before (y ∷ xs)
      → ((m : Note) → Among m part → (x : Note) → Among x xs → Ends m x)
      → Pairwise Ends xs → Settled (Placed tempos division within part y xs)
  placed_settled [] first y part run order ends pairs = subst Settled (sym (append-nil (together part))) (together_settled part)
  placed_settled (x ∷ xs) first y part run order ends pairs =
      go (J tempos division within part y x) refl (λ r. placed_settled xs first x (part ++ x ∷ []) r order.1
      (λ m am z az. more m (among_both part (x ∷ []) m am) z az) pairs.1)
      (placed_settled xs x x (x ∷ []) (run_one x) order.1 (λ m am z az. alone m am z az) pairs.1)
    where
      alone : (m : Note) → Among m (x ∷ []) → (z : Note) → Among z xs → Ends m z
      alone m (inl e) z az = subst (λ k. Ends k z) (sym e) (pairs.0 z az)
      alone m (inr am) z az = absurd am

      more : (m : Note) → Among m part ⊎ Among m (x ∷ []) → (z : Note) → Among z xs → Ends m z
      more m (inl am) z az = ends m am z (inr az)
      more m (inr am) z az = alone m am z az

      go : (b : Bool) → J tempos division within part y x ≡ b
          → (IsRun first x (part ++ x ∷ []) → Settled (Placed tempos division within (part ++ x ∷ []) x xs))
          → Settled (Placed tempos division within (x ∷ []) x xs) → Settled (Next tempos division within b part x xs)
      go true e on next = on (run_more tempos division within first y part x run (order.0 x (inl refl))
          (joined tempos division within part y x e))
      go false e on next = joined_settled first y part x xs run order (λ m am. ends m am x (inl refl)) e next

  all_settled : (notes : List Note) → Pairwise Before notes → Pairwise Ends notes → Settled (strummed_notes tempos division within notes)
  all_settled [] order pairs = λ u v au av same pitched less close. absurd au
  all_settled (n ∷ notes) order pairs = placed_settled notes n n (n ∷ []) (run_one n) order first pairs.1
    where
      first : (m : Note) → Among m (n ∷ []) → (x : Note) → Among x notes → Ends m x
      first m (inl e) x ax = subst (λ k. Ends k x) (sym e) (pairs.0 x ax)
      first m (inr am) x ax = absurd am

  -- ---- settled notes stay

  -- a run of notes that begin together
  record IsChord (first y : Note) (part : List Note) : Type 0 where
    run : IsRun first y part
    one : first.onset ≡ y.onset

  chord_onset : (first y : Note) (part : List Note) → IsChord first y part → (n : Note) → Among n part → n.onset ≡ y.onset
  chord_onset first y part chord n am = let e = chord.run.each n am in let one = chord.one in omega (arith, e.1, e.2, one)

  chord_midway : (first y : Note) (part : List Note) → IsChord first y part → midway part ≡ y.onset
  chord_midway first y part chord =
      let low = run_low first y part chord.run in
      let high = run_high first y part chord.run in
      let one = chord.one in
      omega (arith, low, high, one)

  begun_still : (tick : ℕ) (part : List Note) → ((n : Note) → Among n part → n.onset ≡ tick) → map (begun_at tick) part ≡ part
  begun_still tick [] same = refl
  begun_still tick (n ∷ part) same =
      λ i. (record n { onset = sym (same n (inl refl)) i }) ∷ begun_still tick part (λ m am. same m (inr am)) i

  chord_still : (first y : Note) (part : List Note) → IsChord first y part → together part ≡ part
  chord_still first y part chord =
      begun_still (midway part) part (λ n am. chord_onset first y part chord n am ∙ sym (chord_midway first y part chord))

  member : {X : Type 0} (xs : List X) → 1 ≤ length xs → (x : X) × Among x xs
  member [] some = absurd (omega (arith, some))
  member (x ∷ xs) some = (x, inl refl)

  -- no note before x in its channel is after it
  not_back : (x : Note) (xs : List Note) → Pairwise Before (x ∷ xs) → (m : Note) → Among m (x ∷ xs) → m.channel ≡ x.channel
      → x.onset ≤ m.onset
  not_back x xs order m (inl e) same = let o = ap (λ (n : Note). n.onset) e in omega (arith, o)
  not_back x xs order m (inr am) same = by (order.0 m am)
    where
      by : Before x m → x.onset ≤ m.onset
      by (inl lt) = absurd (omega (arith, lt, same))
      by (inr h) = h.1

  -- what joins a chord of settled notes begins with it
  begins_with : (first y : Note) (part : List Note) (x : Note) (xs : List Note) → IsChord first y part → Pairwise Before (y ∷ x ∷ xs)
      → Settled (part ++ x ∷ xs)
      → J tempos division within part y x ≡ true → x.onset ≡ y.onset
  begins_with first y part x xs chord order settled e =
      let join = joined tempos division within part y x e in
      let a = (and_parts (x.channel == y.channel) (not (is_drum x) && (not (strikes part x.key) && Sounds part y x)) e).1 in
      let b = (and_parts (not (is_drum x)) (not (strikes part x.key) && Sounds part y x) a).1 in
      let c = (and_parts (not (strikes part x.key)) (Sounds part y x) b).1 in
      by join.channel join.pitched (or_true (x.onset == y.onset) (rolls_on tempos division within part y x) c)
    where
      equal : (a b : ℕ) → eqb a b ≡ true → a ≡ b
      equal a b h = grind (arith, nat_tests)

      near : (a b : ℕ) → nat_le a b ≡ true → a ≤ b
      near a b h = grind (arith, nat_tests)

      far : (a b : ℕ) → nat_lt a b ≡ true → a < b
      far a b h = grind (arith, nat_tests)

      -- a note of the chord that has ended
      clash : x.channel ≡ y.channel → x.channel ≢ 9 → y.onset < x.onset → rolls_on tempos division within part y x ≡ true → ⊥
      clash same pitched less rolls =
          let tests = and_parts (nat_le (time_between tempos y.onset x.onset) (milliseconds division within))
          (nat_lt (milliseconds division 40) (time_between tempos x.onset (First part))) rolls in
          let close = near (time_between tempos y.onset x.onset) (milliseconds division within) tests.0 in
          let long = far (milliseconds division 40) (time_between tempos x.onset (First part)) tests.1 in
          let p = member part chord.run.some in
          let channel : p.0.channel ≡ y.channel = (chord.run.each p.0 p.1).0 in
          let onset : p.0.onset ≡ y.onset = chord_onset first y part chord p.0 p.1 in
          let m = settled p.0 x (among_left part (x ∷ xs) p.0 p.1) (among_right part (x ∷ xs) x (inl refl)) (channel
          ∙ sym same) (λ nine. pitched (same ∙ sym channel ∙ nine)) (omega (arith, onset, less))
          (subst (λ tick. time_between tempos tick x.onset ≤ milliseconds division within) (sym onset) close) in
          there m.0 (among_both part (x ∷ xs) m.0 m.1) (m.2 ∙ channel) (m.3 ∙ onset) m.4 long
        where
          there : (m : Note) → Among m part ⊎ Among m (x ∷ xs) → m.channel ≡ y.channel → m.onset ≡ y.onset → Ended x m
              → milliseconds division 40 < time_between tempos x.onset (First part) → ⊥
          there m (inr am) c o ended long = let le = not_back x xs order.1 m am (c ∙ sym same) in omega (arith, le, o, less)
          there m (inl am) c o ended long =
              let low = least_among (map (λ n. n.end) part) m.end (among_map (λ (n : Note). n.end) part m am) in
              let up = later_start x.onset x.onset (First part) m.end (omega arith) low in
              omega (arith, ended, long, up)

      by : x.channel ≡ y.channel → x.channel ≢ 9 → ((x.onset == y.onset) ≡ true) ⊎ (rolls_on tempos division within part y x ≡ true)
          → x.onset ≡ y.onset
      by same pitched (inl h) = equal x.onset y.onset h
      by same pitched (inr h) = elim (cases_order y.onset x.onset) [
        | inl at ↦ sym at
        | inr other ↦ elim other [
          | inl less ↦ absurd (clash same pitched less h)
          | inr more ↦ (let le = not_back y (x ∷ xs) order x (inr (inl refl)) same in absurd (omega (arith, le, more)))
        ]
      ]

  -- where a chord of settled notes ends, the others are settled
  settled_rest : (first y : Note) (part : List Note) (x : Note) (xs : List Note) → IsChord first y part → Pairwise Before (y ∷ x ∷ xs)
      → Settled (part ++ x ∷ xs)
      → J tempos division within part y x ≡ false → Settled (x ∷ xs)
  settled_rest first y part x xs chord order settled e u v au av same pitched less close =
      let m = settled u v (among_right part (x ∷ xs) u au) (among_right part (x ∷ xs) v av) same pitched less close in
      by m.0 (among_both part (x ∷ xs) m.0 m.1) m.2 m.3 m.4
    where
      -- else x would join it
      clash : u.channel ≡ y.channel → u.onset ≡ y.onset → ⊥
      clash channel onset = go (order.0 x (inl refl)) au
        where
          sooner : Before y x → x.channel ≡ y.channel → x.onset ≤ y.onset → ⊥
          sooner before at le =
              let lt = cut_sooner tempos division within first y part x chord.run before e at (λ nine. pitched (channel ∙ sym at ∙ nine)) in
              let mid = chord_midway first y part chord in
              omega (arith, lt, mid, le)

          go : Before y x → Among u (x ∷ xs) → ⊥
          go before (inl is) = let o = ap (λ (n : Note). n.onset) is in
              sooner before (sym (ap (λ (n : Note). n.channel) is) ∙ channel) (omega (arith, o, onset))
          go (inl lt) (inr am) = after (order.1.0 u am)
            where
              after : Before x u → ⊥
              after (inl less) = omega (arith, lt, less, channel)
              after (inr h) = let c = h.0 in omega (arith, lt, c, channel)
          go (inr at) (inr am) = after (order.1.0 u am)
            where
              after : Before x u → ⊥
              after (inl less) = let c = at.0 in omega (arith, c, less, channel)
              after (inr h) = let o = h.1 in sooner (inr at) (sym at.0) (omega (arith, o, onset))

      by : (m : Note) → Among m part ⊎ Among m (x ∷ xs) → m.channel ≡ u.channel → m.onset ≡ u.onset → Ended v m
          → (n : Note) × Among n (x ∷ xs) × (n.channel ≡ u.channel) × (n.onset ≡ u.onset) × Ended v n
      by m (inr am) c o ended = (m, am, c, o, ended)
      by m (inl am) c o ended = absurd (clash (sym c ∙ (chord.run.each m am).0) (sym o ∙ chord_onset first y part chord m am))

  placed_still : (xs : List Note) (first y : Note) (part : List Note) → IsChord first y part → Pairwise Before (y ∷ xs)
      → Settled (part ++ xs) → Placed tempos division within part y xs ≡ part ++ xs
  placed_still [] first y part chord order settled = ap (λ ns. ns ++ []) (chord_still first y part chord)
  placed_still (x ∷ xs) first y part chord order settled =
      go (J tempos division within part y x) refl (λ c. placed_still xs first x (part ++ x ∷ []) c order.1
      (subst Settled (sym (append_assoc part (x ∷ []) xs)) settled))
      (placed_still xs x x (x ∷ []) (record { run = run_one x; one = refl }) order.1)
    where
      go : (b : Bool) → J tempos division within part y x ≡ b
          → (IsChord first x (part ++ x ∷ []) → Placed tempos division within (part ++ x ∷ []) x xs ≡ (part ++ x ∷ []) ++ xs)
          → (Settled (x ∷ xs) → Placed tempos division within (x ∷ []) x xs ≡ x ∷ xs)
          → Next tempos division within b part x xs ≡ part ++ x ∷ xs
      go true e on next =
          let with_it = begins_with first y part x xs chord order settled e in
          on (record {
            run = run_more tempos division within first y part x chord.run (order.0 x (inl refl))
                (joined tempos division within part y x e);
            one = chord.one ∙ sym with_it;
          })
          ∙ append_assoc part (x ∷ []) xs
      go false e on next =
          λ i. chord_still first y part chord i ++ next (settled_rest first y part x xs chord order settled e) i

  settled_still : (notes : List Note) → Pairwise Before notes → Settled notes → strummed_notes tempos division within notes ≡ notes
  settled_still [] order settled = refl
  settled_still (n ∷ notes) order settled = placed_still notes n n (n ∷ []) (record { run = run_one n; one = refl }) order settled

  settled_permuted : (xs ys : List Note) → IsPermutation xs ys → Settled xs → Settled ys
  settled_permuted xs ys moved settled u v au av same pitched less close =
      let m = settled u v (back u au) (back v av) same pitched less close in
      (m.0, among_contained ys m.0 (Contains-permutation xs ys m.0 moved (place_among xs m.0 m.1)), m.2, m.3, m.4)
    where
      back : (n : Note) → Among n ys → Among n xs
      back n an = among_contained xs n (Contains-permutation ys xs n (IsPermutation-sym xs ys moved) (place_among ys n an))

-- ---- the law

module _ (within : ℕ) (t : Take) (formed : IsTakeFormed t) (ends : AllPairs Ends t.notes) where
  abbrev Once : List Note
  Once = strummed_notes t.tempos t.division within t.notes

  struck : IsTakeFormed (with_strum within t)
  struck = strum_formed within t formed

  settled_once : Settled t.tempos t.division within (in_order Once)
  settled_once =
      settled_permuted t.tempos t.division within Once (in_order Once) (order_permuted Once)
      (all_settled t.tempos t.division within t.notes (notes_before 1000000000 t.notes formed.notes formed.notes_in_order)
      (to_pairs t.notes ends))

  strummed_once : strummed_notes t.tempos t.division within (in_order Once) ≡ in_order Once
  strummed_once =
      settled_still t.tempos t.division within (in_order Once) (notes_before 1000000000 (in_order Once) struck.notes struck.notes_in_order)
      settled_once

  distinct : IsDistinct same_place (in_order Once)
  distinct =
      IsDistinct-IsPermutation same_place either_way Once (in_order Once) (order_permuted Once)
      (strummed_distinct t.tempos t.division within 1000000000 t.notes formed.notes formed.notes_in_order)

  ordered_once : in_order (in_order Once) ≡ in_order Once
  ordered_once =
      still_in_order (in_order Once) struck.notes_in_order
      (subst (AreInOrder place_of_note) (sym (same_order (in_order Once))) (placed_in_order (in_order Once) distinct))

pub again_nothing : laws.StrumsChangeNothingAgain
again_nothing within t formed ends =
    ap (λ ns. record t { notes = ns }) (ap in_order (strummed_once within t formed ends) ∙ ordered_once within t formed ends)
