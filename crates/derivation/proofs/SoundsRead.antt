-- Chords read along the leaves of a voice give the sounds of the derivation.
use Rattle.std.proofs.Common.{◌≡◌, ℕ, suc, ◌+◌, ◌*◌, ◌/◌, ◌<◌, ◌≤◌, ◌==◌, Bool, true, false, ◌&&◌, cond, not, inl, inr, List, [], ◌∷◌, ◌++◌, map, refl, sym, ap, ap₂, ◌∙◌, subst, arith}
use Rattle.std.specs.Prelude.{filter, nat_le, nat_lt, Option, Some, None, slice_get}
use Rattle.std.proofs.lemmas.Bool.{cases_lt}
use Rattle.std.proofs.lemmas.Bool.Decides.{nat_tests}
use Rattle.std.proofs.lemmas.List.{map-append}
use Rattle.std.proofs.lemmas.List.Elements.{filter_agree}
use Rattle.std.proofs.Math.Nat.{le-div_iff_mul-le}
use Rattle.rhythm_base.specs.declared.chord.Chord.{Chord}
use Rattle.rhythm_base.specs.DeadBars.{end_of_bars}
use Rattle.rhythm_base.specs.Forest.{Tree}
use Rattle.rhythm_base.specs.Grammar.{Grammar}
use Rattle.rhythm_base.specs.Leaves.{Leaf, VoiceBar, are_bars, looks, soundings, voice_leaves}
use Rattle.rhythm_base.specs.Line.{Rising, seat}
use Rattle.rhythm_base.specs.Lists.{last_of}
use Rattle.rhythm_base.specs.Trees.{BarLeaf, leaves_of}
use Rattle.tree_laws.proofs.Attachments.{onsets_attached}
use Rattle.tree_laws.proofs.Lists.{map_twice}
use Rattle.tree_laws.proofs.Ticks.{le_from, le_not, le_tells, lt_not_le}
use Rattle.tree_laws.specs.Voices.{IsVoice}
use Rattle.derivation.proofs.AttachedChords.{attached_before, attached_by_is, last_more, lt_next}
use Rattle.derivation.proofs.Middles.{Touch, middle_of, seat_by_middle, voice_touch}
use Rattle.derivation.proofs.NumberedLeaves.{in_number, line_sounds, numbered, plain_leaves, plain_voice, voice_along}
use Rattle.derivation.specs.declared.leaf.TimedLeaf.{TimedLeaf}
use Rattle.derivation.specs.Sounds.{attached_to, derivation_sounds, keys_or_none, latest_chord, sound_of, tree_leaves}
use Rattle.derivation.specs.TimedLeaves.{chords_after, chords_until, keys_after, sound_with, sounds_along, timed_bar, timed_leaf, timed_leaves}

-- ---- the leaves, each with its bar's number

abbrev timed : ℕ → ℕ × Leaf → TimedLeaf
timed r q = timed_leaf (timed_bar r q.0 q.1.bar) q.1.part

timed_is : (g : Grammar) (n : ℕ) (bars : List VoiceBar) (ts : List Tree) → timed_leaves g n bars ts ≡ map (timed g.resolution) (numbered g n bars ts)
timed_is g n [] ts = refl
timed_is g n (bar ∷ bars) [] = refl
timed_is g n (bar ∷ bars) (t ∷ ts) =
    let r : ℕ = g.resolution in
    let ps : List BarLeaf = leaves_of g.rules r bar.symbol t in
    ap₂ ◌++◌ (sym (map_twice (timed r) (λ x. (n, x)) (tree_leaves g bar t) ∙ map_twice (λ x. timed r (n, x)) (λ p. record { bar = bar; part = p }) ps)) (timed_is g (suc n) bars ts)
    ∙ sym (map-append (timed r) (in_number n (tree_leaves g bar t)) (numbered g (suc n) bars ts))

-- ---- the last tick that is not after a middle

up_to_middle : (r m t : ℕ) → 1 ≤ r → nat_le t (m / (2 * r)) ≡ nat_le (2 * t * r) m
up_to_middle r m t some = go (nat_le (2 * t * r) m) refl
  where
    same : t * (2 * r) ≡ 2 * t * r
    same = grind arith

    go : (b : Bool) → nat_le (2 * t * r) m ≡ b → nat_le t (m / (2 * r)) ≡ b
    go true e =
        let le = le_tells (2 * t * r) m e in
        let product : t * (2 * r) ≤ m = omega (arith, le, same) in
        le_from t (m / (2 * r)) ((le-div_iff_mul-le (omega (arith, some))).1 product)
    go false e =
        let gt : m < 2 * t * r = grind (arith, nat_tests, e) in
        elim (cases_lt (m / (2 * r)) t) [
          | inl lt ↦ le_not t (m / (2 * r)) lt
          | inr le ↦ absurd (let product = (le-div_iff_mul-le {k = 2 * r} {x = t} {y = m} (omega (arith, some))).0 le in omega (arith, product, same, gt))
        ]

-- ---- chords

filter_both : {X : Type 0} (p q : X → Bool) (xs : List X) → filter p (filter q xs) ≡ filter (λ x. q x && p x) xs
filter_both p q [] = refl
filter_both {X} p q (x ∷ xs) = go (q x) (p x) refl (filter_both p q xs)
  where
    go : (a b : Bool) → p x ≡ b → filter p (filter q xs) ≡ filter (λ x. q x && p x) xs
        → filter p (cond a (x ∷ filter q xs) (filter q xs)) ≡ cond (a && b) (x ∷ filter (λ x. q x && p x) xs) (filter (λ x. q x && p x) xs)
    go true true e ih = rw e (ap (λ l. x ∷ l) ih)
    go true false e ih = rw e ih
    go false b e ih = ih

both_same : (i a : ℕ) → nat_le i a && nat_le a i ≡ a == i
both_same i a = go (a == i) refl
  where
    go : (b : Bool) → a == i ≡ b → nat_le i a && nat_le a i ≡ b
    go true e = grind (arith, nat_tests, e)
    go false e = grind (arith, nat_tests, e)

both_later : (i a : ℕ) → nat_le i a && not (nat_le a i) ≡ nat_le (suc i) a
both_later i a = go (nat_le (suc i) a) refl
  where
    go : (b : Bool) → nat_le (suc i) a ≡ b → nat_le i a && not (nat_le a i) ≡ b
    go true e = grind (arith, nat_tests, e)
    go false e = grind (arith, nat_tests, e)

-- the keys of the last chord of two lists
keys_append : (k : ℕ) (ds bs : List Chord) → keys_after k (last_of (ds ++ bs)) ≡ keys_after (keys_after k (last_of ds)) (last_of bs)
keys_append k [] bs = refl
keys_append k (a ∷ []) [] = refl
keys_append k (a ∷ []) (b ∷ bs) = ap (keys_after k) (last_more a b bs) ∙ same b bs
  where
    same : (b : Chord) (bs : List Chord) → keys_after k (last_of (b ∷ bs)) ≡ keys_after a.keys (last_of (b ∷ bs))
    same b [] = refl
    same b (c ∷ bs) = ap (keys_after k) (last_more b c bs) ∙ same c bs ∙ sym (ap (keys_after a.keys) (last_more b c bs))
keys_append k (a ∷ c ∷ ds) bs =
    ap (keys_after k) (last_more a c (ds ++ bs)) ∙ keys_append k (c ∷ ds) bs
    ∙ ap (λ o. keys_after (keys_after k o) (last_of bs)) (sym (last_more a c ds))

none_then : (o : Option Chord) → keys_or_none o ≡ keys_after 0 o
none_then None = refl
none_then (Some c) = refl

-- ---- along the line

module _ (r : ℕ) (some : 1 ≤ r) (xs : List Leaf) (z : ℕ) (line : Touch r 0 xs z) (cs : List Chord) (low : ℕ) (rise : Rising low (soundings cs))
    (order : (t u : ℕ) → t ≤ u → seat (looks r) xs t ≤ seat (looks r) xs u) where
  -- the chords that are attached to leaf i or a later one
  abbrev left_at : ℕ → List Chord
  left_at i = filter (λ c. nat_le i (seat (looks r) xs c.onset)) cs

  -- the keys of the latest chord before leaf i
  abbrev keys_at : ℕ → ℕ
  keys_at i = keys_after 0 (last_of (filter (λ c. nat_lt (seat (looks r) xs c.onset) i) cs))

  module _ (i : ℕ) (x : Leaf) (is : slice_get xs i ≡ Some x) where
    abbrev tick : ℕ
    tick = middle_of r x / (2 * r)

    by_seat : (t : ℕ) → nat_le t tick ≡ nat_le (seat (looks r) xs t) i
    by_seat t = up_to_middle r (middle_of r x) t some ∙ sym (seat_by_middle r some 0 xs z line i x is t (omega arith))

    taken : chords_until tick (left_at i) ≡ attached_to r xs cs i
    taken =
        filter_both (λ c. nat_le c.onset tick) (λ c. nat_le i (seat (looks r) xs c.onset)) cs
        ∙ filter_agree _ _ (λ c. ap (λ b. nat_le i (seat (looks r) xs c.onset) && b) (by_seat c.onset) ∙ both_same i (seat (looks r) xs c.onset)) cs

    passed : chords_after tick (left_at i) ≡ left_at (suc i)
    passed =
        filter_both (λ c. nat_lt tick c.onset) (λ c. nat_le i (seat (looks r) xs c.onset)) cs
        ∙ filter_agree _ _ (λ c. ap (λ b. nat_le i (seat (looks r) xs c.onset) && b) (lt_not_le tick c.onset ∙ ap not (by_seat c.onset)) ∙ both_later i (seat (looks r) xs c.onset)) cs

    keys_here : keys_after (keys_at i) (last_of (chords_until tick (left_at i))) ≡ keys_after 0 (latest_chord r xs cs i)
    keys_here =
        ap (λ l. keys_after (keys_at i) (last_of l)) taken
        ∙ sym (keys_append 0 (attached_before r xs cs low rise order i) (attached_to r xs cs i))
        ∙ ap (λ l. keys_after 0 (last_of l)) (sym (attached_by_is r xs cs low rise order i))

    keys_next : keys_after 0 (latest_chord r xs cs i) ≡ keys_at (suc i)
    keys_next = ap (λ l. keys_after 0 (last_of l)) (filter_agree _ _ (λ c. sym (lt_next (seat (looks r) xs c.onset) i)) cs)

    sound_here : (n : ℕ) → sound_with (timed r (n, x)) (chords_until tick (left_at i)) (keys_after (keys_at i) (last_of (chords_until tick (left_at i)))) ≡ sound_of r xs cs n i x
    sound_here n = ap₂ (sound_with (timed r (n, x))) taken (keys_here ∙ sym (none_then (latest_chord r xs cs i)))

  -- leaves of the line from number i on
  abbrev AreFrom : ℕ → List Leaf → Type 0
  AreFrom i ys = (j : ℕ) (y : Leaf) → slice_get ys j ≡ Some y → slice_get xs (i + j) ≡ Some y

  read_along : (i : ℕ) (qs : List (ℕ × Leaf)) → AreFrom i (plain_leaves qs) → sounds_along (keys_at i) (left_at i) (map (timed r) qs) ≡ line_sounds r xs cs i qs
  read_along i [] from = refl
  read_along i (q ∷ qs) from =
      let here : i + 0 ≡ i = omega arith in
      let is : slice_get xs i ≡ Some q.1 = subst (λ n. slice_get xs n ≡ Some q.1) here (from 0 q.1 refl) in
      let next : AreFrom (suc i) (plain_leaves qs) = λ j y e. let moved : i + suc j ≡ suc i + j = omega arith in subst (λ n. slice_get xs n ≡ Some y) moved (from (suc j) y e) in
      ap₂ ◌∷◌ (sound_here i q.1 is q.0)
      (ap₂ (λ k l. sounds_along k l (map (timed r) qs)) (keys_here i q.1 is ∙ keys_next i q.1 is) (passed i q.1 is) ∙ read_along (suc i) qs next)

pub sounds_read : (g : Grammar) (bars : List VoiceBar) (cs : List Chord) (ts : List Tree) → IsVoice g bars (soundings cs) → are_bars g bars ts ≡ true
    → sounds_along 0 cs (timed_leaves g 0 bars ts) ≡ derivation_sounds g bars cs ts
sounds_read g bars cs ts voice trees =
    let r : ℕ = g.resolution in
    let xs : List Leaf = voice_leaves g bars ts in
    let qs : List (ℕ × Leaf) = numbered g 0 bars ts in
    let nothing : 2 * 0 * r ≡ 0 = grind arith in
    let line : Touch r 0 xs (2 * end_of_bars 0 bars * r) = subst (λ s. Touch r s xs (2 * end_of_bars 0 bars * r)) nothing (voice_touch g bars ts 0 (end_of_bars 0 bars) voice.some voice.near trees) in
    let order : (t u : ℕ) → t ≤ u → seat (looks r) xs t ≤ seat (looks r) xs u = λ t u le. onsets_attached.in_order g bars ts t u voice.some voice.near trees le in
    let from : (j : ℕ) (y : Leaf) → slice_get (plain_leaves qs) j ≡ Some y → slice_get xs (0 + j) ≡ Some y =
    λ j y e. ap₂ slice_get (sym (plain_voice g 0 bars ts)) (omega arith) ∙ e in
    ap₂ (λ k l. sounds_along k l (timed_leaves g 0 bars ts)) (ap (λ l. keys_after 0 (last_of l)) (sym (none_lower cs (seat (looks r) xs)))) (sym (all_later cs (seat (looks r) xs)))
    ∙ ap (sounds_along (keys_after 0 (last_of (filter (λ c. nat_lt (seat (looks r) xs c.onset) 0) cs))) (filter (λ c. nat_le 0 (seat (looks r) xs c.onset)) cs)) (timed_is g 0 bars ts)
    ∙ read_along r voice.some xs (2 * end_of_bars 0 bars * r) line cs 0 voice.rise order 0 qs from
    ∙ sym (voice_along g xs cs 0 0 bars ts)
  where
    none_lower : (ds : List Chord) (f : ℕ → ℕ) → filter (λ c. nat_lt (f c.onset) 0) ds ≡ []
    none_lower [] f = refl
    none_lower (d ∷ ds) f = let no_one : nat_lt (f d.onset) 0 ≡ false = grind (arith, nat_tests) in rw no_one (none_lower ds f)

    all_later : (ds : List Chord) (f : ℕ → ℕ) → filter (λ c. nat_le 0 (f c.onset)) ds ≡ ds
    all_later [] f = refl
    all_later (d ∷ ds) f = let always : nat_le 0 (f d.onset) ≡ true = le_from 0 (f d.onset) (omega arith) in rw always (ap (λ l. d ∷ l) (all_later ds f))
