-- The costs of groups: no number is too great, and what is held is told by the ends of the last notes.
use Rattle.std.proofs.Common.{◌≡◌, ◌≢◌, ◌⊎◌, ℕ, zero, suc, ◌+◌, ◌-◌, ◌<◌, ◌≤◌, Bool, true, false, cond, eqb, List, [], ◌∷◌, ◌++◌, length, map, set, take, drop, get_or, inl, inr, refl, sym, ap, ◌∙◌, subst, arith, append_assoc, length-append, length-drop}
use Rattle.std.specs.Prelude.{All, ◌==◌, ◌&&◌, filter, not, nat_lt, slice_get, slice_index, Option, Some, None}
use Rattle.std.specs.List.{slice_range}
use Rattle.std.proofs.lemmas.Bool.{cases_order}
use Rattle.std.proofs.lemmas.Bool.Decides.{nat_tests}
use Rattle.std.proofs.lemmas.Grind.{get_or_default_zero}
use Rattle.std.proofs.lemmas.List.{append-nil, drop-map, get_or-set_other, get_or-set_same, length-map, length-set, same_lists, take-map, take_more}
use Rattle.std.proofs.lemmas.List.Elements.{filter-append}
use Rattle.rhythm_base.proofs.Members.{all_from_among, out_of}
use Rattle.rhythm_base.proofs.ListParts.{filter_few}
use Rattle.rhythm_base.proofs.OrderedLists.{all_head}
use Rattle.note_list.specs.Pairing.{IsPlayed}
use Rattle.rhythm_base.specs.Lists.{last_of}
use Rattle.rhythm_base.specs.Time.{time}
use Rattle.rhythm_base.specs.declared.event.Tempo.{Tempo}
use Rattle.rhythm_base.specs.declared.note.Note.{Note}
use Rattle.performance_laws.proofs.ChordLemmas.{time_rises}
use Rattle.performance_prepare.specs.Elapsed.{milliseconds, time_between}
use Rattle.performance_prepare.specs.Ends.{AreEnds, end_of, held_by, holds, row_by}
use Rattle.performance_prepare.specs.Groups.{cost, costs_after, first_onset, groups, held_keys, is_held, sounds_past}
use Rattle.performance_prepare.specs.Middle.{numbers_from}
use Rattle.performance_prepare.specs.Strum.{strikes}
use Rattle.performance_prepare.proofs.Cutting.{whole}
use Rattle.performance_prepare.proofs.Middles.{filter_from, from_among, from_entry, length_from}
use Rattle.performance_prepare.proofs.ShiftedTakes.{all_mapped}

-- ---- a row

pub row_is : (f : ℕ → ℕ) (costs : List ℕ) (n : ℕ) → 129 ≤ n → length costs ≡ 129 → ((k : ℕ) → k < n → slice_index costs k ≡ f k)
    → costs ≡ map f (numbers_from 0 129)
row_is f costs n all long each =
    let wide : length (map f (numbers_from 0 129)) ≡ 129 = length-map (numbers_from 0 129) f ∙ length_from 0 129 in
    same_lists costs (map f (numbers_from 0 129)) (long ∙ sym wide) (λ k d lt.
    get_or_default_zero costs k d lt ∙ each k (omega (arith, lt, long, all)) ∙ ap f (let e : k ≡ 0 + k = omega arith in e)
    ∙ sym (from_entry f 0 129 k (omega (arith, lt, long)))
    ∙ sym (get_or_default_zero (map f (numbers_from 0 129)) k d (omega (arith, lt, long, wide))))

pub row_more : (f : ℕ → ℕ) (costs : List ℕ) (n v : ℕ) → n < 129 → length costs ≡ 129 → ((k : ℕ) → k < n → slice_index costs k ≡ f k)
    → v ≡ f n → (k : ℕ) → k < n + 1 → slice_index (set costs n v) k ≡ f k
row_more f costs n v within long each is k lt = elim (cases_order k n) [
  | inl e ↦ subst (λ i. slice_index (set costs n v) i ≡ f i) (sym e) (get_or-set_same costs n v 0 (omega (arith, long, within)) ∙ is)
  | inr other ↦ elim other [
    | inl less ↦ get_or-set_other costs n k v 0 (λ z. omega (arith, z, less)) ∙ each k less
    | inr more ↦ absurd (omega arith)
  ]
]

-- ---- the last notes of keys

get_pushed : {X : Type 0} (xs : List X) (x : X) → slice_get (xs ++ x ∷ []) (length xs) ≡ Some x
get_pushed [] x = refl
get_pushed (y ∷ xs) x = get_pushed xs x

last_pushed : {X : Type 0} (xs : List X) (x : X) → last_of (xs ++ x ∷ []) ≡ Some x
last_pushed xs x =
    let long : length (xs ++ x ∷ []) ≡ length xs + 1 = length-append xs (x ∷ []) in
    ap (slice_get (xs ++ x ∷ [])) (let e : length (xs ++ x ∷ []) - 1 ≡ length xs = omega (arith, long) in e) ∙ get_pushed xs x

abbrev Last : List Note → ℕ → ℕ
Last notes key = end_of (last_of (filter (λ n. n.key == key) notes))

last_same : (notes : List Note) (n : Note) → Last (notes ++ n ∷ []) n.key ≡ n.end
last_same notes n =
    let here : eqb n.key n.key ≡ true = grind (arith, nat_tests) in
    ap (λ xs. end_of (last_of xs)) (filter-append (λ (m : Note). m.key == n.key) notes (n ∷ [])
    ∙ ap (λ b. filter (λ (m : Note). m.key == n.key) notes ++ cond b (n ∷ []) []) here)
    ∙ ap end_of (last_pushed (filter (λ (m : Note). m.key == n.key) notes) n)

last_other : (notes : List Note) (n : Note) (key : ℕ) → key ≢ n.key → Last (notes ++ n ∷ []) key ≡ Last notes key
last_other notes n key other =
    let there : eqb n.key key ≡ false = differs n.key key (λ e. other (sym e)) in
    ap (λ xs. end_of (last_of xs)) (filter-append (λ (m : Note). m.key == key) notes (n ∷ [])
    ∙ ap (λ b. filter (λ (m : Note). m.key == key) notes ++ cond b (n ∷ []) []) there
    ∙ append-nil (filter (λ (m : Note). m.key == key) notes))
  where
    differs : (a b : ℕ) → (a ≡ b → ⊥) → eqb a b ≡ false
    differs a b h = grind (arith, nat_tests)

pub ends_more : (ends : List ℕ) (notes : List Note) (n : Note) → length ends ≡ 128 → n.key < 128 → AreEnds ends notes
    → AreEnds (set ends n.key n.end) (notes ++ n ∷ [])
ends_more ends notes n long low h key lt = elim (cases_order key n.key) [
  | inl e ↦ subst (λ k. slice_index (set ends n.key n.end) k
      ≡ Last (notes ++ n ∷ []) k) (sym e) (get_or-set_same ends n.key n.end 0 (omega (arith, long, low)) ∙ sym (last_same notes n))
  | inr other ↦ (
      let apart : key ≢ n.key = λ e. either e other in
      get_or-set_other ends n.key key n.end 0 apart ∙ h key lt ∙ sym (last_other notes n key apart)
      )
]
  where
    either : key ≡ n.key → (key < n.key) ⊎ (n.key < key) → ⊥
    either e (inl l) = omega (arith, e, l)
    either e (inr g) = omega (arith, e, g)

-- ---- what is held

past_none : (tempos : List Tempo) (division tick : ℕ) → nat_lt (milliseconds division 60) (time_between tempos tick 0) ≡ false
unfolding time
past_none tempos division tick = grind (arith, nat_tests)

past_some : (tempos : List Tempo) (division tick : ℕ) (o : Option Note)
    → sounds_past tempos division tick o ≡ nat_lt (milliseconds division 60) (time_between tempos tick (end_of o))
past_some tempos division tick None = sym (past_none tempos division tick)
past_some tempos division tick (Some n) = refl

pub held_same : (tempos : List Tempo) (division : ℕ) (ends : List ℕ) (before group : List Note) → AreEnds ends before
    → held_by tempos division ends group ≡ held_keys tempos division before group
held_same tempos division ends before group h =
    filter_from (λ key. holds tempos division (slice_index ends key) group key) (is_held tempos division before group) 0 128 (λ key low lt.
    ap (λ e. not (strikes group key) && nat_lt (milliseconds division 60) (time_between tempos (first_onset group) e)) (h key lt)
    ∙ ap (λ b. not (strikes group key) && b)
    (sym (past_some tempos division (first_onset group) (last_of (filter (λ n. n.key == key) before)))))

pub holds_later : (tempos : List Tempo) (division end : ℕ) (group : List Note) (key : ℕ) → end ≤ first_onset group
    → holds tempos division end group key ≡ false
holds_later tempos division end group key le =
    let no_time : time_between tempos (first_onset group) end ≡ 0 =
    (let up = time_rises tempos end (first_onset group) le in omega (arith, up)) in
    ap (λ t. not (strikes group key) && nat_lt (milliseconds division 60) t) no_time
    ∙ never (not (strikes group key)) (milliseconds division 60)
  where
    never : (b : Bool) (n : ℕ) → (b && nat_lt n 0) ≡ false
    never true n = grind (arith, nat_tests)
    never false n = refl

-- ---- what calls want

pub first_low : (group : List Note) → All (IsPlayed 1000000000) group → first_onset group ≤ 1000000000
first_low [] played = omega arith
first_low (n ∷ group) played = let h = all_head (IsPlayed 1000000000) n group played in omega (arith, h.after, h.within)

pub keys_low : (group : List Note) → All (IsPlayed 1000000000) group → All (λ k. k < 128) (map (λ n. n.key) group)
keys_low group played = all_mapped (IsPlayed 1000000000) (λ k. k < 128) (λ (n : Note). n.key) (λ n h. h.key) group played

pub keys_between : (notes : List Note) (start end : ℕ) → slice_range (map (λ n. n.key) notes) start end
    ≡ map (λ n. n.key) (slice_range notes start end)
keys_between notes start end =
    ap (take (end - start)) (drop-map (λ (n : Note). n.key) start notes) ∙ take-map (λ (n : Note). n.key) (end - start) (drop start notes)

pub held_few : (tempos : List Tempo) (division : ℕ) (ends : List ℕ) (group : List Note) → length (held_by tempos division ends group) ≤ 128
held_few tempos division ends group =
    let few = filter_few (λ key. holds tempos division (slice_index ends key) group key) (numbers_from 0 128) in
    let long = length_from 0 128 in
    omega (arith, few, long)

pub held_low : (tempos : List Tempo) (division : ℕ) (ends : List ℕ) (group : List Note)
    → All (λ k. k < 128) (held_by tempos division ends group)
held_low tempos division ends group =
    all_from_among (λ k. k < 128) (held_by tempos division ends group)
    (λ k am. (from_among 0 128 k (out_of (λ key. holds tempos division (slice_index ends key) group key) (numbers_from 0 128) k am).0).1)

-- ---- one group more

no_take : {X : Type 0} (xs : List X) (n : ℕ) → xs ≡ [] → take n xs ≡ []
no_take xs zero e = refl
no_take [] (suc n) e = refl
no_take (x ∷ xs) (suc n) e = absurd (cc)

no_drop : {X : Type 0} (xs : List X) (n : ℕ) → xs ≡ [] → drop n xs ≡ []
no_drop xs zero e = e
no_drop [] (suc n) e = refl
no_drop (x ∷ xs) (suc n) e = absurd (cc)

taken : {X : Type 0} (xs : List X) (start end : ℕ) → start ≤ end → take end xs ≡ take start xs ++ slice_range xs start end
taken [] start end le = no_take [] end refl
    ∙ (λ i. sym (no_take [] start refl) i ++ sym (no_take (drop start []) (end - start) (no_drop [] start refl)) i)
taken (x ∷ xs) zero end le = ap (λ n. take n (x ∷ xs)) (let e : end ≡ end - 0 = omega arith in e)
taken (x ∷ xs) (suc start) zero le = absurd (omega (arith, le))
taken (x ∷ xs) (suc start) (suc end) le = ap (λ ys. x ∷ ys) (taken xs start end (omega (arith, le)))
    ∙ ap (λ n. x ∷ take start xs ++ take n (drop start xs)) (let e : end - start ≡ suc end - suc start = omega arith in e)

module _ (tempos : List Tempo) (division within middle : ℕ) where
  pub costs_more : (notes : List Note) (rows more all : List (List ℕ)) (ends : List ℕ) (start end : ℕ) → start ≤ end
      → AreEnds ends (take start notes)
      → groups tempos division within (drop start notes) ≡ slice_range notes start end ∷ groups tempos division within (drop end notes)
      → more ≡ rows ++ row_by tempos division middle ends (slice_range notes start end) ∷ []
      → rows ++ costs_after tempos division middle (take start notes) (groups tempos division within (drop start notes)) ≡ all
      → more ++ costs_after tempos division middle (take end notes) (groups tempos division within (drop end notes)) ≡ all
  costs_more notes rows more all ends start end le are first pushed h =
      let G : List Note = slice_range notes start end in
      let before : List Note = take start notes in
      let rest : List (List Note) = groups tempos division within (drop end notes) in
      let row : row_by tempos division middle ends G ≡ map (cost middle (map (λ n. n.key) G) (held_keys tempos division before G))
      (numbers_from 0 129) =
      ap (λ held. map (cost middle (map (λ n. n.key) G) held) (numbers_from 0 129)) (held_same tempos division ends before G are) in
      ap (λ xs. xs ++ costs_after tempos division middle (take end notes) rest) pushed
      ∙ append_assoc rows (row_by tempos division middle ends G ∷ []) (costs_after tempos division middle (take end notes) rest)
      ∙ (λ i. rows ++ row i ∷ costs_after tempos division middle (taken notes start end le i) rest)
      ∙ sym (ap (λ gs. rows ++ costs_after tempos division middle before gs) first) ∙ h

  pub costs_end : (notes : List Note) (rows all : List (List ℕ)) (start : ℕ) → length notes ≤ start
      → rows ++ costs_after tempos division middle (take start notes) (groups tempos division within (drop start notes)) ≡ all → rows ≡ all
  costs_end notes rows all start past h =
      sym (append-nil rows)
      ∙ sym (ap (λ ns. rows ++ costs_after tempos division middle (take start notes) (groups tempos division within ns))
      (none (drop start notes) (let long = length-drop start notes in omega (arith, long, past)))) ∙ h
    where
      none : (ys : List Note) → length ys ≡ 0 → ys ≡ []
      none [] e = refl
      none (y ∷ ys) e = absurd (omega (arith, e))

pub taken_ends : (ends : List ℕ) (notes : List Note) (start end : ℕ) → start ≤ end
    → AreEnds ends (take start notes ++ slice_range notes start end) → AreEnds ends (take end notes)
taken_ends ends notes start end le h = subst (AreEnds ends) (sym (taken notes start end le)) h

pub no_ends : (notes : List Note) (ends : List ℕ) → ((k : ℕ) → k < 128 → slice_index ends k ≡ 0) → AreEnds ends (take 0 notes)
no_ends [] ends h key lt = h key lt
no_ends (n ∷ notes) ends h key lt = h key lt

-- ---- the ends of a group

pub ends_pushed : (later : List ℕ) (before group : List Note) (i : ℕ) (d : Note) → i < length group → length later ≡ 128
    → (get_or group i d).key < 128 → AreEnds later (before ++ take i group)
    → AreEnds (set later (get_or group i d).key (get_or group i d).end) (before ++ take (i + 1) group)
ends_pushed later before group i d lt long low h =
    subst (AreEnds (set later (get_or group i d).key (get_or group i d).end))
    (append_assoc before (take i group) (get_or group i d ∷ []) ∙ ap (λ ns. before ++ ns) (sym (take_more group i d lt)))
    (ends_more later (before ++ take i group) (get_or group i d) long low h)

pub all_set : (P : ℕ → Type 0) (xs : List ℕ) (i v : ℕ) → P v → All P xs → All P (set xs i v)
all_set P xs i v here all k d lt = elim (cases_order k i) [
  | inl e ↦ subst P (sym (ap (λ n. get_or (set xs i v) n d) e
      ∙ get_or-set_same xs i v d (let long = length-set xs i v in omega (arith, long, lt, e)))) here
  | inr other ↦ subst P (sym (get_or-set_other xs i k v d (λ e. either e other))) (all k d (let long = length-set xs i v in
      omega (arith, long, lt)))
]
  where
    either : k ≡ i → (k < i) ⊎ (i < k) → ⊥
    either e (inl l) = omega (arith, e, l)
    either e (inr g) = omega (arith, e, g)

pub ends_all : (later : List ℕ) (before group : List Note) (i : ℕ) → length group ≤ i → AreEnds later (before ++ take i group)
    → AreEnds later (before ++ group)
ends_all later before group i past h = subst (λ ns. AreEnds later (before ++ ns)) (whole group i past) h
