-- Leaves side by side: an onset between their start and their end lies in exactly one, and later onsets are attached no earlier.
use Rattle.std.proofs.Common.{◌≡◌, ◌∙◌, ℕ, suc, ◌≤◌, Bool, true, false, not, ◌&&◌, cond, List, [], ◌∷◌, length, filter, refl, ap, arith}
use Rattle.std.specs.Prelude.{if◌then◌else◌}
use Rattle.rhythm_base.specs.DeadBars.{end_of_bars}
use Rattle.rhythm_base.specs.Leaves.{voice_leaves, looks}
use Rattle.rhythm_base.specs.Line.{Looks, seat}
use Rattle.tree_laws.specs.Laws.{OnsetsAreAttached}
use Rattle.tree_laws.specs.Runs.{IsLine}
use Rattle.tree_laws.proofs.Ticks.{from_tick, le_from, le_not, voice-line}
use Rattle.rhythm_base.proofs.Booleans.{not_both_tests}

-- between two ends
inside : (a b : Bool) → a ≡ true → b ≡ false → a && not b ≡ true
inside a b on off = rw (on, off) refl

outside : (a b : Bool) → b ≡ true → a && not b ≡ false
outside true b on = ap not on
outside false b on = refl

before : (a b : Bool) → a ≡ false → a && not b ≡ false
before a b off = ap (λ c. c && not b) off

module _ {X : Type 0} (K : Looks X) where
  counted : (x : X) (xs : List X) (t : ℕ) (b : Bool) → K.lies x t ≡ b → length (filter (λ x. K.lies x t) (x ∷ xs)) ≡ cond b (suc (length (filter (λ x. K.lies x t) xs))) (length (filter (λ x. K.lies x t) xs))
  counted x xs t true e = rw e refl
  counted x xs t false e = rw e refl

  none_before : (s z : ℕ → Bool) (xs : List X) → IsLine K s xs z → (t : ℕ) → s t ≡ false → length (filter (λ x. K.lies x t) xs) ≡ 0
  none_before s z [] line t off = refl
  none_before s z (x ∷ xs) line t off = go (line.0 t) refl (none_before line.0 z xs line.2 t)
    where
      go : (b : Bool) → line.0 t ≡ b → (line.0 t ≡ false → length (filter (λ x. K.lies x t) xs) ≡ 0) → length (filter (λ x. K.lies x t) (x ∷ xs)) ≡ 0
      go true e others = absurd (not_both_tests (s t) (line.1.back t e) off)
      go false e others = counted x xs t false (line.1.inside t ∙ before (s t) (line.0 t) off) ∙ others e

  lies_once : (s z : ℕ → Bool) (xs : List X) → IsLine K s xs z → (t : ℕ) → s t ≡ true → z t ≡ false → length (filter (λ x. K.lies x t) xs) ≡ 1
  lies_once s z [] line t on off = absurd (not_both_tests (s t) on ((λ i. line i t) ∙ off))
  lies_once s z (x ∷ xs) line t on off = go (line.0 t) refl (λ later. lies_once line.0 z xs line.2 t later off) (none_before line.0 z xs line.2 t)
    where
      go : (b : Bool) → line.0 t ≡ b → (line.0 t ≡ true → length (filter (λ x. K.lies x t) xs) ≡ 1) → (line.0 t ≡ false → length (filter (λ x. K.lies x t) xs) ≡ 0)
          → length (filter (λ x. K.lies x t) (x ∷ xs)) ≡ 1
      go true e once none = counted x xs t false (line.1.inside t ∙ outside (s t) (line.0 t) e) ∙ once e
      go false e once none = counted x xs t true (line.1.inside t ∙ inside (s t) (line.0 t) on e) ∙ ap suc (none e)

  seat_by : (x : X) (xs : List X) (t : ℕ) (b : Bool) → K.lies x t ≡ b → seat K (x ∷ xs) t ≡ (if b then (if K.left x t then 0 else 1) else suc (seat K xs t))
  seat_by x xs t b e = ap (λ b. if b then (if K.left x t then 0 else 1) else suc (seat K xs t)) e

  sides : (a b : Bool) → (b ≡ true → a ≡ true) → (if a then 0 else 1) ≤ (if b then 0 else 1)
  sides true b h = omega arith
  sides false true h = absurd (not_both_tests false (h refl) refl)
  sides false false h = omega arith

  side_few : (a : Bool) (n : ℕ) → (if a then 0 else 1) ≤ suc n
  side_few true n = omega arith
  side_few false n = omega arith

  in_order : (s z : ℕ → Bool) (xs : List X) → IsLine K s xs z → (t u : ℕ) → t ≤ u → s t ≡ true → s u ≡ true → seat K xs t ≤ seat K xs u
  in_order s z [] line t u less from_t from_u = omega arith
  in_order s z (x ∷ xs) line t u less from_t from_u = go (line.0 t) (line.0 u) refl refl (in_order line.0 z xs line.2 t u less)
    where
      go : (a b : Bool) → line.0 t ≡ a → line.0 u ≡ b → (line.0 t ≡ true → line.0 u ≡ true → seat K xs t ≤ seat K xs u) → seat K (x ∷ xs) t ≤ seat K (x ∷ xs) u
      go true true e f ih =
          let lower = seat_by x xs t false (line.1.inside t ∙ outside (s t) (line.0 t) e) in
          let upper = seat_by x xs u false (line.1.inside u ∙ outside (s u) (line.0 u) f) in
          let others = ih e f in
          omega (arith, lower, upper, others)
      go true false e f ih = absurd (not_both_tests (line.0 u) (line.1.later t u less e) f)
      go false true e f ih =
          let lower = seat_by x xs t true (line.1.inside t ∙ inside (s t) (line.0 t) from_t e) in
          let upper = seat_by x xs u false (line.1.inside u ∙ outside (s u) (line.0 u) f) in
          let few = side_few (K.left x t) (seat K xs u) in
          omega (arith, lower, upper, few)
      go false false e f ih =
          let lower = seat_by x xs t true (line.1.inside t ∙ inside (s t) (line.0 t) from_t e) in
          let upper = seat_by x xs u true (line.1.inside u ∙ inside (s u) (line.0 u) from_u f) in
          let few = sides (K.left x t) (K.left x u) (line.1.halves t u less) in
          omega (arith, lower, upper, few)

pub onsets_attached : OnsetsAreAttached
onsets_attached = record {
  one_leaf = λ g bars ts t some near trees below.
      lies_once (looks g.resolution) (from_tick 0) (from_tick (end_of_bars 0 bars)) (voice_leaves g bars ts) (voice-line g bars ts 0 (end_of_bars 0 bars) some near trees) t
      (le_from 0 t (omega arith)) (le_not (end_of_bars 0 bars) t below);
  in_order = λ g bars ts t u some near trees less.
      in_order (looks g.resolution) (from_tick 0) (from_tick (end_of_bars 0 bars)) (voice_leaves g bars ts) (voice-line g bars ts 0 (end_of_bars 0 bars) some near trees) t u less
      (le_from 0 t (omega arith)) (le_from 0 u (omega arith));
}
