-- The values of a bar, leaf by leaf.
use Rattle.std.proofs.Common.{◌≡◌, ℕ, zero, suc, ◌+◌, ◌*◌, ◌≤◌, ◌==◌, Bool, true, false, not, List, [], ◌∷◌, ◌++◌, get_or, map, take, refl, sym, ap, ap₂, ◌∙◌, subst, arith, Option, Some, None}
use Rattle.std.specs.Prelude.{All, if◌then◌else◌, slice_get, sum_by, ⊤}
use Rattle.std.specs.Int.{◌∣◌}
use Rattle.std.proofs.lemmas.Bool.{and_parts}
use Rattle.std.proofs.lemmas.Bool.Decides.{nat_tests}
use Rattle.std.proofs.lemmas.List.Elements.{All-head, All-tail}
use Rattle.std.proofs.lemmas.List.Sums.{sum-map, sum_by-cons}
use Rattle.rhythm_base.specs.declared.sound.Sound.{Sound}
use Rattle.rhythm_base.specs.SoundKinds.{is_tie}
use Rattle.durations.specs.declared.joined.Timed.{Timed}
use Rattle.durations.specs.declared.joined.Written.{Written}
use Rattle.durations.specs.declared.value.Value.{Value}
use Rattle.durations.specs.Joined.{AreValuesOf, AreWrittenFrom, dots, dots_after, is_tie_of, may_join, value_places}
use Rattle.durations.specs.Value.{IsWide, value_grid, width}
use Rattle.durations.proofs.Beats.{value_part}
use Rattle.durations.proofs.Groups.{group_dots, group_grid, group_summing, leaf_joins, lengths}
use Rattle.durations.proofs.Sums.{sums}
use Rattle.derivation.specs.declared.score.ScoreBar.{ScoreBar}
use Rattle.derivation.specs.Score.{IsScoreBar}
use Rattle.voice_values.specs.Values.{AreBarValues, VoiceValue, is_first, timed, value_of_sound, values_of_sounds}

-- ---- leaves in parts of the bar

abbrev pub sound_len : ℕ → Sound → ℕ
sound_len num s = s.width * num

abbrev pub sound_lens : ℕ → List Sound → ℕ
sound_lens num sounds = sum_by (sound_len num) sounds

abbrev pub AreTies : ℕ → List Sound → Type 0
AreTies zero sounds = ⊤
AreTies (suc d) [] = ⊤
AreTies (suc d) (s ∷ sounds) = (is_tie s.kind ≡ true) × AreTies d sounds

-- the values of a leaf, the first at this place
abbrev pub leaf_values : ℕ → ℕ → Sound → Bool → List Value → List VoiceValue
leaf_values whole place s first [] = []
leaf_values whole place s first (v ∷ vs) = record { place = place; value = v; sound = s; first = first } ∷ leaf_values whole (place + width whole v) s false vs

-- a value that counts in 64 * resolution parts of a whole note
pub record IsValue (r whole : ℕ) (v : Value) : Type 0 where
  pub wide : IsWide whole v
  pub counts : value_grid v ∣ 64 * r
  pub dots : v.dots ≤ 2

-- some values of a leaf and the ties that are joined to it
pub record AreGroup (r whole len : ℕ) (v : Value) (vs : List Value) : Type 0 where
  pub each : All (IsValue r whole) (v ∷ vs)
  pub sum : sum_by (width whole) (v ∷ vs) ≡ len

-- The values of sounds, of which so many are joined to a sound before them
abbrev pub AreSounded : ℕ → ℕ → ℕ → ℕ → ℕ → List Sound → List VoiceValue → Type 0
AreSounded r whole num joined place [] vs = vs ≡ []
AreSounded r whole num zero place (s ∷ more) vs =
    (d : ℕ) × (v : Value) × (values : List Value) × (rest : List VoiceValue) × AreGroup r whole (sound_len num s + sound_lens num (take d more)) v values × AreTies d more
    × (vs ≡ leaf_values whole place s true (v ∷ values) ++ rest) × AreSounded r whole num d (place + sound_len num s) more rest
AreSounded r whole num (suc joined) place (s ∷ more) vs = (is_tie s.kind ≡ true) × AreSounded r whole num joined (place + sound_len num s) more vs

-- ---- the leaves that are joined are ties

tie_of : (bar : ScoreBar) (len k : ℕ) (s : Sound) → is_tie_of len k (Some (timed bar s)) ≡ true → is_tie s.kind ≡ true
tie_of bar len k s e = (and_parts (is_tie s.kind) (k * (s.width * bar.num) == len) e).0

ties_after : (bar : ScoreBar) (len : ℕ) (more : List Sound) → AreTies (dots_after len (map (timed bar) more)) more
ties_after bar len [] = tt
ties_after bar len (s ∷ []) = go (is_tie_of len 2 (Some (timed bar s))) refl
  where
    go : (b : Bool) → is_tie_of len 2 (Some (timed bar s)) ≡ b → AreTies (if b then 1 else 0) (s ∷ [])
    go true e = (tie_of bar len 2 s e, tt)
    go false e = tt
ties_after bar len (s ∷ t ∷ more) = go (is_tie_of len 2 (Some (timed bar s))) refl (is_tie_of len 4 (Some (timed bar t))) refl
  where
    go : (b : Bool) → is_tie_of len 2 (Some (timed bar s)) ≡ b → (c : Bool) → is_tie_of len 4 (Some (timed bar t)) ≡ c → AreTies (if b then (if c then 2 else 1) else 0) (s ∷ t ∷ more)
    go true e true f = (tie_of bar len 2 s e, (tie_of bar len 4 t f, tt))
    go true e false f = (tie_of bar len 2 s e, tt)
    go false e c f = tt

dots_ties : (whole : ℕ) (bar : ScoreBar) (s : Sound) (more : List Sound) → AreTies (dots whole (timed bar s) (map (timed bar) more)) more
dots_ties whole bar s more = go (may_join whole (timed bar s))
  where
    go : (b : Bool) → AreTies (if b then dots_after (s.width * bar.num) (map (timed bar) more) else 0) more
    go true = ties_after bar (s.width * bar.num) more
    go false = tt

lengths_are : (bar : ScoreBar) (d : ℕ) (sounds : List Sound) → lengths (take d (map (timed bar) sounds)) ≡ sound_lens bar.num (take d sounds)
lengths_are bar zero sounds = refl
lengths_are bar (suc d) [] = refl
lengths_are bar (suc d) (s ∷ sounds) =
    sum_by-cons (λ (x : Timed). x.len) (timed bar s) (take d (map (timed bar) sounds)) ∙ ap (λ n. s.width * bar.num + n) (lengths_are bar d sounds)
    ∙ sym (sum_by-cons (sound_len bar.num) s (take d sounds))

-- ---- the values of a leaf

values_among : (whole : ℕ) (all : List Sound) (i place : ℕ) (s : Sound) (before : Option ℕ) (v : Value) (vs : List Value) (rest : List Written) → slice_get all i ≡ Some s
    → values_of_sounds all before (value_places whole i place (v ∷ vs) ++ rest) ≡ leaf_values whole place s (is_first before i) (v ∷ vs) ++ values_of_sounds all (Some i) rest
values_among whole all i place s before v [] rest is =
    ap (λ o. value_of_sound o (is_first before i) (record { leaf = i; from = place; value = v }) ++ values_of_sounds all (Some i) rest) is
values_among whole all i place s before v (w ∷ vs) rest is =
    let again : is_first (Some i) i ≡ false = let same : (i == i) ≡ true = grind (arith, nat_tests) in ap not same in
    ap₂ (λ o ws. value_of_sound o (is_first before i) (record { leaf = i; from = place; value = v }) ++ ws) is
    (values_among whole all i (place + width whole v) s (Some i) w vs rest is
    ∙ ap (λ b. leaf_values whole (place + width whole v) s b (w ∷ vs) ++ values_of_sounds all (Some i) rest) again)

some_values : (whole : ℕ) (leaf : Timed) (d : ℕ) (vs : List Value) → 1 ≤ leaf.len → AreValuesOf whole leaf d vs → (v : Value) × (more : List Value) × (vs ≡ v ∷ more)
some_values whole leaf zero [] long h = absurd (omega (arith, long, h))
some_values whole leaf zero (v ∷ vs) long h = (v, vs, refl)
some_values whole leaf (suc d) vs long (n, e, is) = (_, [], is)

-- ---- bars

module _ (r : ℕ) (bar : ScoreBar) (well : IsScoreBar bar) (some : 1 ≤ r * bar.den) (all : List Sound) where
  group_is : (s : Sound) (more : List Sound) (v : Value) (vs : List Value)
      → AreValuesOf (r * bar.den) (timed bar s) (dots (r * bar.den) (timed bar s) (map (timed bar) more)) (v ∷ vs)
      → AreGroup r (r * bar.den) (sound_len bar.num s + sound_lens bar.num (take (dots (r * bar.den) (timed bar s) (map (timed bar) more)) more)) v vs
  group_is s more v vs values =
      let whole = r * bar.den in
      let leaves = map (timed bar) more in
      let d = dots whole (timed bar s) leaves in
      let join = leaf_joins whole (timed bar s) leaves in
      let total = sums (s.width * bar.num + lengths (take d leaves)) whole (v ∷ vs) (group_summing whole (timed bar s) leaves d (v ∷ vs) some join values) in
      let few = group_dots whole (timed bar s) leaves d (v ∷ vs) join values in
      let grid = group_grid whole (timed bar s) leaves d (v ∷ vs) join values in
      record {
        each = λ k e lt. record { wide = total.wide k e lt; counts = value_part r bar.den (get_or (v ∷ vs) k e) well.signature.power (grid k e lt); dots = few k e lt };
        sum = sym (sum-map (width whole) (v ∷ vs)) ∙ total.sum ∙ ap (λ n. s.width * bar.num + n) (lengths_are bar d more);
      }

  sounded_from : (joined i place : ℕ) (before : Option ℕ) (sounds : List Sound) (ws : List Written)
      → ((k : ℕ) → slice_get all (i + k) ≡ slice_get sounds k) → ((j : ℕ) → i ≤ j → is_first before j ≡ true) → AreTies joined sounds → All (λ s. 1 ≤ s.width * bar.num) sounds
      → AreWrittenFrom (r * bar.den) joined i place (map (timed bar) sounds) ws → AreSounded r (r * bar.den) bar.num joined place sounds (values_of_sounds all before ws)
  sounded_from zero i place before [] ws at first ties long h = ap (values_of_sounds all before) h
  sounded_from (suc joined) i place before [] ws at first ties long h = ap (values_of_sounds all before) h
  sounded_from zero i place before (s ∷ more) ws at first ties long (vs, rest, values, is, follow) =
      go (sounded_from (dots (r * bar.den) (timed bar s) (map (timed bar) more)) (i + 1) (place + sound_len bar.num s) (Some i) more rest next later (dots_ties (r * bar.den) bar s more)
      (All-tail (λ s. 1 ≤ s.width * bar.num) s more long) follow)
      (some_values (r * bar.den) (timed bar s) (dots (r * bar.den) (timed bar s) (map (timed bar) more)) vs (All-head (λ s. 1 ≤ s.width * bar.num) s more long) values)
    where
      here : slice_get all i ≡ Some s
      here = let e : i ≡ i + 0 = omega arith in ap (slice_get all) e ∙ at 0

      next : (k : ℕ) → slice_get all (i + 1 + k) ≡ slice_get more k
      next k = let e : i + 1 + k ≡ i + suc k = omega arith in ap (slice_get all) e ∙ at (suc k)

      later : (j : ℕ) → i + 1 ≤ j → is_first (Some i) j ≡ true
      later j le = let other : (i == j) ≡ false = grind (arith, nat_tests, le) in ap not other

      go : AreSounded r (r * bar.den) bar.num (dots (r * bar.den) (timed bar s) (map (timed bar) more)) (place + sound_len bar.num s) more (values_of_sounds all (Some i) rest)
          → (v : Value) × (others : List Value) × (vs ≡ v ∷ others) → AreSounded r (r * bar.den) bar.num zero place (s ∷ more) (values_of_sounds all before ws)
      go then_is (v, others, same) =
          let group = subst (AreValuesOf (r * bar.den) (timed bar s) (dots (r * bar.den) (timed bar s) (map (timed bar) more))) same values in
          let taken = ap (values_of_sounds all before) (is ∙ ap (λ xs. value_places (r * bar.den) i place xs ++ rest) same) ∙ values_among (r * bar.den) all i place s before v others rest here
          ∙ ap (λ b. leaf_values (r * bar.den) place s b (v ∷ others) ++ values_of_sounds all (Some i) rest) (first i (omega arith)) in
          (dots (r * bar.den) (timed bar s) (map (timed bar) more), v, others, values_of_sounds all (Some i) rest, group_is s more v others group, dots_ties (r * bar.den) bar s more, taken, then_is)
  sounded_from (suc joined) i place before (s ∷ more) ws at first (tie, ties) long h = (
    tie,
    sounded_from joined (i + 1) (place + sound_len bar.num s) before more ws (λ k. let e : i + 1 + k ≡ i + suc k = omega arith in ap (slice_get all) e ∙ at (suc k))
        (λ j le. first j (omega (arith, le))) ties (All-tail (λ s. 1 ≤ s.width * bar.num) s more long) h,
  )

  pub sounded : (vs : List VoiceValue) → All (λ s. 1 ≤ s.width * bar.num) all → AreBarValues r bar all vs → AreSounded r (r * bar.den) bar.num 0 0 all vs
  sounded vs long (ws, written, values) =
      subst (AreSounded r (r * bar.den) bar.num 0 0 all) (sym values)
      (sounded_from 0 0 0 None all ws (λ k. let e : 0 + k ≡ k = omega arith in ap (slice_get all) e) (λ j le. refl) tt long written)
