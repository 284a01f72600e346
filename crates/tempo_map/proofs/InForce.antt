-- The change in force at a tick, and the elapsed time from it on.
use Rattle.std.proofs.Common.{◌≡◌, ℕ, zero, suc, ◌+◌, ◌-◌, ◌*◌, ◌<◌, ◌≤◌, leb, Bool, true, false, List, [], ◌∷◌, length, take, map, get_or, refl, sym, ap, ◌∙◌, arith}
use Rattle.std.specs.Prelude.{filter, slice_get, Some}
use Rattle.std.specs.List.{AllWithin}
use Rattle.std.specs.List.Sorted.{IsNonDecreasing, IsNonDecreasingBy, IsPartitionPoint}
use Rattle.std.proofs.lemmas.List.{get_or-map, length-map}
use Rattle.std.proofs.lemmas.Bool.Decides.{nat_tests}
use Rattle.rhythm_base.specs.declared.event.Tempo.{Tempo}
use Rattle.tempo_map.specs.TempoMap.{AreUpTo}
use Rattle.rhythm_base.specs.Lists.{last_of}
use Rattle.rhythm_base.specs.Time.{in_force, time, tempo_at, micros_or}

-- a filter that passes a front of a list and no more
pub filter_front : {X : Type 0} (p : X → Bool) (xs : List X) (n : ℕ) → n ≤ length xs → AllWithin (λ y. p y ≡ true) xs 0 n → AllWithin (λ y. p y ≡ false) xs n (length xs) → filter p xs ≡ take n xs
filter_front p [] zero within front back = refl
filter_front p [] (suc n) within front back = absurd (omega arith)
filter_front p (x ∷ xs) zero within front back =
    let no : p x ≡ false = back 0 x (omega arith) (omega arith) in
    rw no (filter_front p xs zero (omega arith) (λ k d l h. absurd (omega arith)) (λ k d l h. back (suc k) d (omega arith) (omega arith)))
filter_front p (x ∷ xs) (suc n) within front back =
    let passes : p x ≡ true = front 0 x (omega arith) (omega arith) in
    rw passes (ap (λ l. x ∷ l) (filter_front p xs n (omega arith) (λ k d l h. front (suc k) d (omega arith) (omega arith)) (λ k d l h. back (suc k) d (omega arith) (omega arith))))

-- the order of a list by tick, as searches want it
pub by_tick : {X : Type 0} (tick : X → ℕ) (xs : List X) → IsNonDecreasing (map tick xs) → IsNonDecreasingBy tick xs
by_tick tick xs h i j d le within =
    omega (arith, length-map xs tick, get_or-map tick xs i d (tick d) (omega arith), get_or-map tick xs j d (tick d) (omega arith), h i j (tick d) le (omega (arith, length-map xs tick)))

-- of the changes up to a tick the last is in force
pub force_at : {X : Type 0} (tick : X → ℕ) (xs : List X) (n t : ℕ) → n ≤ length xs → AllWithin (λ y. tick y ≤ t) xs 0 n → AllWithin (λ y. t < tick y) xs n (length xs) → in_force tick xs t ≡ last_of (take n xs)
force_at tick xs n t within front back =
    ap last_of (filter_front (λ x. leb (tick x) t) xs n within (λ k d l h. let f = front k d l h in grind (arith, nat_tests)) (λ k d l h. let f = back k d l h in grind (arith, nat_tests)))

pub last_taken : {X : Type 0} (xs : List X) (k : ℕ) (d : X) → k < length xs → last_of (take (suc k) xs) ≡ Some (get_or xs k d)
last_taken [] k d within = absurd (omega arith)
last_taken (x ∷ xs) zero d within = refl
last_taken (x ∷ y ∷ xs) (suc k) d within =
    let n = length (take k xs) in
    let long : suc (suc n) - 1 ≡ suc n = omega arith in
    let short : suc n - 1 ≡ n = omega arith in
    ap (λ i. slice_get (x ∷ y ∷ take k xs) i) long ∙ sym (ap (λ i. slice_get (y ∷ take k xs) i) short) ∙ last_taken (y ∷ xs) k d (omega arith)
last_taken (x ∷ []) (suc k) d within = absurd (omega arith)

-- from a tick on the time grows by the tempo in force there, up to the next change
pub time_from : (tempos : List Tempo) (n t d : ℕ) → n ≤ length tempos → AllWithin (λ y. y.tick ≤ t) tempos 0 n → AllWithin (λ y. t + d ≤ y.tick) tempos n (length tempos)
    → time tempos (t + d) ≡ time tempos t + d * micros_or (last_of (take n tempos))
unfolding time
time_from tempos n t zero within front back =
    let here : t + 0 ≡ t = omega arith in
    ap (time tempos) here ∙ (omega arith)
time_from tempos n t (suc d) within front back =
    let next : t + suc d ≡ suc (t + d) = omega arith in
    let before = time_from tempos n t d within front (λ k e l h. let b = back k e l h in omega arith) in
    let tempo : tempo_at tempos (t + d) ≡ micros_or (last_of (take n tempos)) =
    ap micros_or (force_at (λ y. y.tick) tempos n (t + d) within (λ k e l h. let f = front k e l h in omega arith) (λ k e l h. let b = back k e l h in omega arith)) in
    let more : suc d * micros_or (last_of (take n tempos)) ≡ d * micros_or (last_of (take n tempos)) + micros_or (last_of (take n tempos)) = grind arith in
    let step : time tempos (suc (t + d)) ≡ time tempos (t + d) + tempo_at tempos (t + d) = refl in
    ap (time tempos) next ∙ (omega (arith, step, before, tempo, more))

pub found_up_to : {X : Type 0} (tick : X → ℕ) (xs : List X) (n t : ℕ) → n ≤ length xs → IsPartitionPoint (λ y. leb (tick y) t ≡ true) (λ y. leb (tick y) t ≡ false) xs n → AreUpTo tick xs t n
found_up_to tick xs n t within found = record {
  within = within;
  past = λ k d l h. let f = found.0 k d l h in grind (arith, nat_tests);
  ahead = λ k d l h. let f = found.1 k d l h in grind (arith, nat_tests);
}

pub force_up_to : {X : Type 0} (tick : X → ℕ) (xs : List X) (n t : ℕ) → AreUpTo tick xs t n → in_force tick xs t ≡ last_of (take n xs)
force_up_to tick xs n t up = force_at tick xs n t up.within up.past up.ahead
