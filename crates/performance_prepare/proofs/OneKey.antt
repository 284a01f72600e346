-- A channel whose notes have one key is of one hand.
use Rattle.std.proofs.Common.{◌≡◌, ◌≢◌, ◌⊎◌, ℕ, suc, ◌+◌, ◌-◌, ◌*◌, ◌<◌, ◌≤◌, Bool, true, false, not, cond, eqb, inl, inr, List, [], ◌∷◌, ◌++◌, length, map, refl, sym, ap, ◌∙◌, subst, arith, length-append, Ok}
use Rattle.std.specs.Prelude.{All, ⊤, ◌==◌, ◌&&◌, ◌||◌, filter, nat_lt, slice_index}
use Rattle.std.specs.List.{flat_map}
use Rattle.std.proofs.lemmas.Bool.{cases_lt}
use Rattle.std.proofs.lemmas.Bool.Decides.{nat_tests}
use Rattle.std.proofs.lemmas.List.Sums.{sum_by-cons}
use Rattle.std.proofs.Math.Nat.{mul-le-mul_left}
use Rattle.rhythm_base.proofs.Booleans.{ge_test, lt_test}
use Rattle.rhythm_base.proofs.Members.{Among, all_among, among_both, among_left, among_right, from_map, out_of}
use Rattle.rhythm_base.specs.Lists.{Each, gap, last_of}
use Rattle.rhythm_base.specs.declared.event.Tempo.{Tempo}
use Rattle.rhythm_base.specs.declared.note.Note.{Note}
use Rattle.hand_borders.proofs.FirstLeast.{are_least}
use Rattle.hand_borders.specs.Borders.{AreBorders, IsLeastBorders, cost_of, move_cost}
use Rattle.performance_load.specs.Take.{Take}
use Rattle.performance_prepare.specs.Groups.{begins_near, cost, costs, costs_after, groups, held_beside, held_keys, is_held, nearness, sounds_past, stretch}
use Rattle.performance_prepare.specs.HandLaws as laws
use Rattle.performance_prepare.specs.Hands.{borders_of, left_notes, middle_of, notes_below, notes_of, with_hands, with_left}
use Rattle.performance_prepare.specs.Middle.{keys_below, keys_from, numbers_from}
use Rattle.performance_prepare.specs.Parts.{parts_from}
use Rattle.performance_prepare.specs.Split.{free_channels}
use Rattle.performance_prepare.specs.Strum.{strikes}
use Rattle.performance_prepare.proofs.Handed.{each_group, flat_parts}
use Rattle.performance_prepare.proofs.LeastNumbers.{fold_over}
use Rattle.performance_prepare.proofs.Middles.{fold_high, from_entry}

-- ---- borders of groups that cost alike

-- each row is so many times the same costs
abbrev AreMultiples : (ℕ → ℕ) → List (List ℕ) → Type 0
AreMultiples f [] = ⊤
AreMultiples f (row ∷ rows) = ((times : ℕ) × ((b : ℕ) → b < 129 → slice_index row b ≡ times * f b)) × AreMultiples f rows

abbrev moves : List ℕ → ℕ
moves [] = 0
moves (b ∷ borders) = move_cost b borders + moves borders

abbrev one_border : ℕ → List (List ℕ) → List ℕ
one_border b rows = map (λ row. b) rows

one_border_are : (b : ℕ) (rows : List (List ℕ)) → b < 129 → AreBorders rows (one_border b rows)
one_border_are b [] lt = refl
one_border_are b (row ∷ rows) lt = (lt, one_border_are b rows lt)

module _ (f : ℕ → ℕ) where
  -- to stay at the cheapest of the borders saves the moves
  cheaper : (rows : List (List ℕ)) (borders : List ℕ) (b : ℕ) → AreMultiples f rows → AreBorders rows borders → b < 129
      → ((c : ℕ) → Among c borders → f b ≤ f c)
      → cost_of rows (one_border b rows) + moves borders ≤ cost_of rows borders
  cheaper [] [] b rate are lt low = omega arith
  cheaper [] (c ∷ borders) b rate are lt low = absurd (cc)
  cheaper (row ∷ rows) [] b rate are lt low = absurd are
  cheaper (row ∷ rows) (c ∷ borders) b rate are lt low =
      let rest = cheaper rows borders b rate.1 are.1 lt (λ d am. low d (inr am)) in
      let here : slice_index row b ≡ rate.0.0 * f b = rate.0.1 b lt in
      let there : slice_index row c ≡ rate.0.0 * f c = rate.0.1 c are.0 in
      let less : rate.0.0 * f b ≤ rate.0.0 * f c = mul-le-mul_left rate.0.0 (low c (inl refl)) in
      let none = stays rows in
      omega (arith, rest, here, there, less, none)
    where
      stays : (rows : List (List ℕ)) → move_cost b (one_border b rows) ≡ 0
      stays [] = refl
      stays (row ∷ rows) = omega arith

  cheapest : (c : ℕ) (borders : List ℕ) → (b : ℕ) × Among b (c ∷ borders) × ((d : ℕ) → Among d (c ∷ borders) → f b ≤ f d)
  cheapest c [] = (c, inl refl, alone)
    where
      alone : (d : ℕ) → Among d (c ∷ []) → f c ≤ f d
      alone d (inl e) = let same = ap f e in omega (arith, same)
      alone d (inr am) = absurd am
  cheapest c (d ∷ borders) = by (cheapest d borders)
    where
      by : (b : ℕ) × Among b (d ∷ borders) × ((e : ℕ) → Among e (d ∷ borders) → f b ≤ f e)
          → (b : ℕ) × Among b (c ∷ d ∷ borders) × ((e : ℕ) → Among e (c ∷ d ∷ borders) → f b ≤ f e)
      by h = elim (cases_lt (f c) (f h.0)) [
        | inl less ↦ (c, inl refl, first less)
        | inr more ↦ (h.0, inr h.1, later more)
      ]
        where
          first : f c < f h.0 → (e : ℕ) → Among e (c ∷ d ∷ borders) → f c ≤ f e
          first less e (inl is) = let same = ap f is in omega (arith, same)
          first less e (inr am) = let low = h.2 e am in omega (arith, low, less)

          later : f h.0 ≤ f c → (e : ℕ) → Among e (c ∷ d ∷ borders) → f h.0 ≤ f e
          later more e (inl is) = let same = ap f is in omega (arith, same, more)
          later more e (inr am) = h.2 e am

  no_moves : (b : ℕ) (borders : List ℕ) → moves (b ∷ borders) ≤ 0 → (c : ℕ) → Among c (b ∷ borders) → c ≡ b
  no_moves b borders none c (inl e) = e
  no_moves b [] none c (inr am) = absurd am
  no_moves b (d ∷ borders) none c (inr am) =
      let rest = no_moves d borders (omega (arith, none)) c am in
      let same : d ≡ b = omega (arith, none) in
      rest ∙ same

  border_below : (rows : List (List ℕ)) (borders : List ℕ) → AreBorders rows borders → (b : ℕ) → Among b borders → b < 129
  border_below [] borders are b am = absurd (subst (Among b) are am)
  border_below (row ∷ rows) [] are b am = absurd am
  border_below (row ∷ rows) (c ∷ borders) are b (inl e) = let lt = are.0 in omega (arith, e, lt)
  border_below (row ∷ rows) (c ∷ borders) are b (inr am) = border_below rows borders are.1 b am

  -- so no border moves
  stay : (rows : List (List ℕ)) (borders : List ℕ) → AreMultiples f rows → IsLeastBorders rows borders
      → (b : ℕ) × ((c : ℕ) → Among c borders → c ≡ b)
  stay rows [] rate least = (0, λ c am. absurd am)
  stay rows (b ∷ borders) rate least =
      let low = cheapest b borders in
      let within = border_below rows (b ∷ borders) least.are low.0 low.1 in
      let saved = cheaper rows (b ∷ borders) low.0 rate least.are within low.2 in
      let most = least.least (one_border low.0 rows) (one_border_are low.0 rows within) in
      (b, no_moves b borders (omega (arith, saved, most)))

-- ---- what a border costs where all keys are one

module _ (key : ℕ) where
  abbrev AreKey : List ℕ → Type 0
  AreKey keys = (k : ℕ) → Among k keys → k ≡ key

  no_stretch : (keys : List ℕ) → AreKey keys → stretch keys ≡ 0
  no_stretch [] same = refl
  no_stretch (k ∷ keys) same =
      let high = fold_high 0 key (k ∷ keys) (omega arith) (λ x am. (let e = same x am in omega (arith, e))) in
      let first = same k (inl refl) in
      let low = fold_over key k keys (omega (arith, first)) (λ x am. (let e = same x (inr am) in omega (arith, e))) in
      omega (arith, high, low)

  -- 1 for each key from the middle, and 20 for each half key near the border
  abbrev rate : ℕ → ℕ → ℕ
  rate middle b = gap b middle + 20 * (10 - gap (2 * key + 1) (2 * b))

  near_same : (b : ℕ) (keys : List ℕ) → AreKey keys → nearness b keys ≡ length keys * (20 * (10 - gap (2 * key + 1) (2 * b)))
  near_same b [] same = grind arith
  near_same b (k ∷ keys) same =
      let rest = near_same b keys (λ x am. same x (inr am)) in
      let here : k ≡ key = same k (inl refl) in
      let one : 20 * (10 - gap (2 * k + 1) (2 * b)) ≡ 20 * (10 - gap (2 * key + 1) (2 * b)) =
      ap (λ x. 20 * (10 - gap (2 * x + 1) (2 * b))) here in
      sum_by-cons (λ x. x) (20 * (10 - gap (2 * k + 1) (2 * b))) (map (λ x. 20 * (10 - gap (2 * x + 1) (2 * b))) keys)
      ∙ (λ i. one i + rest i) ∙ sym (once_more (length keys) (20 * (10 - gap (2 * key + 1) (2 * b))))
    where
      once_more : (n x : ℕ) → suc n * x ≡ x + n * x
      once_more n x = grind arith

  none_held : (keys : List ℕ) → held_beside keys [] ≡ 0
  none_held [] = refl
  none_held (k ∷ keys) = refl

  cost_same : (middle b : ℕ) (keys : List ℕ) → AreKey keys → cost middle keys [] b ≡ length keys * rate middle b
  cost_same middle b keys same =
      let near = near_same b keys same in
      let low = no_stretch (keys_below b keys) (λ k am. same k (out_of (λ x. nat_lt x b) keys k am).0) in
      let high = no_stretch (keys_from b keys) (λ k am. same k (out_of (λ x. not (nat_lt x b)) keys k am).0) in
      let left = none_held (keys_below b keys) in
      let right = none_held (keys_from b keys) in
      let both : length keys * rate middle b ≡ length keys * gap b middle + length keys * (20 * (10 - gap (2 * key + 1) (2 * b))) =
      parted (length keys) (gap b middle) (20 * (10 - gap (2 * key + 1) (2 * b))) in
      omega (arith, near, low, high, left, right, both)
    where
      parted : (n x y : ℕ) → n * (x + y) ≡ n * x + n * y
      parted n x y = grind arith

-- ---- the groups of notes of one key

-- no group is empty
abbrev AreSome : List (List Note) → Type 0
AreSome [] = ⊤
AreSome (group ∷ groups) = (1 ≤ length group) × AreSome groups

module _ (tempos : List Tempo) (division middle key : ℕ) where
  abbrev AreNotes : List Note → Type 0
  AreNotes notes = (n : Note) → Among n notes → n.key ≡ key

  strikes_it : (n : Note) (group : List Note) → AreNotes (n ∷ group) → strikes (n ∷ group) key ≡ true
  strikes_it n group same = ap (λ b. b || strikes group key) (test n.key key (same n (inl refl)))
    where
      test : (a b : ℕ) → a ≡ b → eqb a b ≡ true
      test a b e = grind (arith, nat_tests)

  no_other : (before : List Note) (k : ℕ) → AreNotes before → k ≢ key → filter (λ n. n.key == k) before ≡ []
  no_other [] k same other = refl
  no_other (n ∷ before) k same other =
      ap (λ b. cond b (n ∷ filter (λ m. m.key == k) before) (filter (λ m. m.key == k) before))
      (test n.key k (λ e. other (sym e ∙ same n (inl refl))))
      ∙ no_other before k (λ m am. same m (inr am)) other
    where
      test : (a b : ℕ) → a ≢ b → eqb a b ≡ false
      test a b e = grind (arith, nat_tests)

  not_held : (before : List Note) (n : Note) (group : List Note) (k : ℕ) → AreNotes before → AreNotes (n ∷ group)
      → is_held tempos division before (n ∷ group) k ≡ false
  not_held before n group k old new = by (eqb k key) refl
    where
      by : (b : Bool) → eqb k key ≡ b → is_held tempos division before (n ∷ group) k ≡ false
      by true e = ap (λ b. not b && sounds_past tempos division n.onset (last_of (filter (λ m. m.key == k) before)))
          (subst (λ i. strikes (n ∷ group) i ≡ true) (sym (equal k key e)) (strikes_it n group new))
        where
          equal : (a b : ℕ) → eqb a b ≡ true → a ≡ b
          equal a b h = grind (arith, nat_tests)
      by false e =
          ap (λ ms. not (strikes (n ∷ group) k) && sounds_past tempos division n.onset (last_of ms))
          (no_other before k old (differ k key e)) ∙ never (not (strikes (n ∷ group) k))
        where
          differ : (a b : ℕ) → eqb a b ≡ false → a ≢ b
          differ a b h same = grind (arith, nat_tests)

          never : (b : Bool) → (b && false) ≡ false
          never true = refl
          never false = refl

  none_kept : (p : ℕ → Bool) (xs : List ℕ) → ((x : ℕ) → p x ≡ false) → filter p xs ≡ []
  none_kept p [] fails = refl
  none_kept p (x ∷ xs) fails = ap (λ b. cond b (x ∷ filter p xs) (filter p xs)) (fails x) ∙ none_kept p xs fails

  nothing_held : (before : List Note) (n : Note) (group : List Note) → AreNotes before → AreNotes (n ∷ group)
      → held_keys tempos division before (n ∷ group) ≡ []
  nothing_held before n group old new =
      none_kept (is_held tempos division before (n ∷ group)) (numbers_from 0 128) (λ k. not_held before n group k old new)

  own_keys : (group : List Note) → AreNotes group → (k : ℕ) → Among k (map (λ (n : Note). n.key) group) → k ≡ key
  own_keys group same k am = let n = from_map (λ (m : Note). m.key) group k am in n.2 ∙ same n.0 n.1

  row_same : (before group : List Note) → 1 ≤ length group → AreNotes before → AreNotes group → (b : ℕ) → b < 129
      → slice_index (map (cost middle (map (λ n. n.key) group) (held_keys tempos division before group)) (numbers_from 0 129)) b
      ≡ length (map (λ (n : Note). n.key) group) * rate key middle b
  row_same before [] some old new b lt = absurd (omega (arith, some))
  row_same before (n ∷ group) some old new b lt =
      from_entry (cost middle (map (λ m. m.key) (n ∷ group)) (held_keys tempos division before (n ∷ group))) 0 129 b (omega (arith, lt))
      ∙ ap (λ i. cost middle (map (λ m. m.key) (n ∷ group)) (held_keys tempos division before (n ∷ group)) i) (let e : 0 + b
      ≡ b = omega arith in e)
      ∙ ap (λ held. cost middle (map (λ m. m.key) (n ∷ group)) held b) (nothing_held before n group old new)
      ∙ cost_same key middle b (map (λ m. m.key) (n ∷ group)) (own_keys (n ∷ group) new)

  multiples : (before : List Note) (gs : List (List Note)) → AreSome gs → AreNotes before → AreNotes (flat_map (λ g. g) gs)
      → AreMultiples (rate key middle) (costs_after tempos division middle before gs)
  multiples before [] some old new = tt
  multiples before (group ∷ gs) some old new = (
    (length (map (λ (n : Note). n.key) group), row_same before group some.0 old here),
    multiples (before ++ group) gs some.1 both (λ n am. new n (among_right group (flat_map (λ g. g) gs) n am)),
  )
    where
      here : AreNotes group
      here n am = new n (among_left group (flat_map (λ g. g) gs) n am)

      both : AreNotes (before ++ group)
      both n am = elim (among_both before group n am) [
        | inl a ↦ old n a
        | inr a ↦ here n a
      ]

  -- ---- and its hand

  all_left : (b : ℕ) (group : List Note) → key < b → AreNotes group → notes_below b group ≡ group
  all_left b [] lt same = refl
  all_left b (n ∷ group) lt same =
      ap (λ t. cond t (n ∷ notes_below b group) (notes_below b group)) (lt_test n.key b (let e = same n (inl refl) in omega (arith, e, lt)))
      ∙ ap (λ ms. n ∷ ms) (all_left b group lt (λ m am. same m (inr am)))

  none_left : (b : ℕ) (group : List Note) → b ≤ key → AreNotes group → notes_below b group ≡ []
  none_left b [] le same = refl
  none_left b (n ∷ group) le same =
      ap (λ t. cond t (n ∷ notes_below b group) (notes_below b group)) (ge_test n.key b (let e = same n (inl refl) in omega (arith, e, le)))
      ∙ none_left b group le (λ m am. same m (inr am))

  left_all : (gs : List (List Note)) (borders : List ℕ) (b : ℕ) → key < b → AreNotes (flat_map (λ g. g) gs)
      → Each (λ (g : List Note) (c : ℕ). c < 129) gs borders → ((c : ℕ) → Among c borders → c ≡ b)
      → left_notes gs borders ≡ flat_map (λ g. g) gs
  left_all [] borders b lt same each one = refl
  left_all (group ∷ gs) [] b lt same each one = absurd each
  left_all (group ∷ gs) (c ∷ borders) b lt same each one =
      let e : c ≡ b = one c (inl refl) in
      let here = all_left c group (omega (arith, e, lt)) (λ n am. same n (among_left group (flat_map (λ g. g) gs) n am)) in
      let rest = left_all gs borders b lt (λ n am. same n (among_right group (flat_map (λ g. g) gs) n am)) each.1
      (λ d am. one d (inr am)) in
      λ i. here i ++ rest i

  left_none : (gs : List (List Note)) (borders : List ℕ) (b : ℕ) → b ≤ key → AreNotes (flat_map (λ g. g) gs)
      → ((c : ℕ) → Among c borders → c ≡ b) → left_notes gs borders ≡ []
  left_none [] borders b le same one = refl
  left_none (group ∷ gs) [] b le same one = refl
  left_none (group ∷ gs) (c ∷ borders) b le same one =
      let e : c ≡ b = one c (inl refl) in
      let here = none_left c group (omega (arith, e, le)) (λ n am. same n (among_left group (flat_map (λ g. g) gs) n am)) in
      let rest = left_none gs borders b le (λ n am. same n (among_right group (flat_map (λ g. g) gs) n am)) (λ d am. one d (inr am)) in
      λ i. here i ++ rest i

module _ (tempos : List Tempo) (division within : ℕ) where
  abbrev Near : List Note → Note → Note → Bool
  Near group last n = begins_near tempos division within last n

  some_from : (notes : List Note) (group : List Note) (last : Note) → 1 ≤ length group → AreSome (parts_from Near group last notes)
  some_from [] group last some = (some, tt)
  some_from (n ∷ notes) group last some =
      go (Near group last n) (some_from notes (group ++ n ∷ []) n (let long = length-append group (n ∷ []) in
      omega (arith, long))) (some_from notes (n ∷ []) n (omega arith))
    where
      go : (b : Bool) → AreSome (parts_from Near (group ++ n ∷ []) n notes) → AreSome (parts_from Near (n ∷ []) n notes)
          → AreSome (cond b (parts_from Near (group ++ n ∷ []) n notes) (group ∷ parts_from Near (n ∷ []) n notes))
      go true on next = on
      go false on next = (some, next)

  some_notes : (notes : List Note) → AreSome (groups tempos division within notes)
  some_notes [] = tt
  some_notes (n ∷ notes) = some_from notes (n ∷ []) n (omega arith)

-- ---- the law

module _ (channel within key : ℕ) (t : Take) (all : All (λ n. n.key ≡ key) (notes_of channel t.notes)) where
  abbrev Own : List Note
  Own = notes_of channel t.notes

  abbrev Parts : List (List Note)
  Parts = groups t.tempos t.division within Own

  abbrev Borders : List ℕ
  Borders = borders_of t.tempos t.division within Own

  abbrev Costs : List (List ℕ)
  Costs = costs t.tempos t.division (middle_of Own) Parts

  flat : flat_map (λ g. g) Parts ≡ Own
  flat = flat_parts (Near t.tempos t.division within) Own

  same : (n : Note) → Among n (flat_map (λ g. g) Parts) → n.key ≡ key
  same n am = all_among (λ m. m.key ≡ key) Own all n (subst (Among n) flat am)

  stays : (b : ℕ) × ((c : ℕ) → Among c Borders → c ≡ b)
  stays =
      stay (rate key (middle_of Own)) Costs Borders
      (multiples t.tempos t.division (middle_of Own) key [] Parts (some_notes t.tempos t.division within Own) (λ n am. absurd am) same)
      (are_least Costs)

  left_or_none : (b : ℕ) → ((c : ℕ) → Among c Borders → c ≡ b)
      → (length (left_notes Parts Borders) ≡ length Own) ⊎ (length (left_notes Parts Borders) ≡ 0)
  left_or_none b one = elim (cases_lt key b) [
    | inl less ↦ inl
        (ap length (left_all t.tempos t.division (middle_of Own) key Parts Borders b less same
        (each_group t.tempos t.division (middle_of Own) [] Parts Borders (are_least Costs).are) one ∙ flat))
    | inr more ↦ inr (ap length (left_none t.tempos t.division (middle_of Own) key Parts Borders b more same one))
  ]

  one_hand : (a b : ℕ) → (a ≡ b) ⊎ (a ≡ 0) → ((a == 0) || (a == b)) ≡ true
  one_hand a b (inl e) = grind (arith, nat_tests)
  one_hand a b (inr e) = grind (arith, nat_tests)

  stayed : with_hands channel within t ≡ Ok t
  stayed =
      ap (λ b. cond b (Ok t) (with_left (free_channels t.notes) channel Parts Borders t))
      (one_hand (length (left_notes Parts Borders)) (length Own) (left_or_none stays.0 stays.1))

pub one_key : laws.HandsLeaveOneKey
one_key channel within key t all = stayed channel within key t all
