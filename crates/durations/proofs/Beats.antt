-- The beat of a signature is one of the 64 parts that a whole note has for each unit of the resolution.
use Rattle.std.proofs.Common.{◌≡◌, ℕ, ◌*◌, true, ◌||◌, get_or, refl, sym, subst, ◌⊎◌, inl, inr, arith}
use Rattle.std.specs.Prelude.{IsTrue, ◌==◌, List, All, map}
use Rattle.std.specs.Int.{◌∣◌}
use Rattle.std.proofs.Math.Nat.{dvd-mul_right, mul-dvd-mul_left}
use Rattle.std.proofs.lemmas.Bool.Decides.{nat_tests}
use Rattle.std.proofs.lemmas.Nat.Gcd.{dvd_of_mod-eq-zero}
use Rattle.rhythm_base.specs.Signatures.{is_den}
use Rattle.durations.specs.declared.value.Value.{Value}
use Rattle.durations.specs.declared.joined.Timed.{Timed}
use Rattle.durations.specs.declared.joined.Written.{Written}
use Rattle.durations.specs.Joined.{AreWritten}
use Rattle.durations.specs.Laws.{CountsIn}
use Rattle.durations.specs.Value.{value_grid}
use Rattle.durations.specs.Values.{AreValues}
use Rattle.durations.proofs.Bars.{written_grid}
use Rattle.durations.proofs.Grids.{values_grid}
use Rattle.rhythm_base.proofs.Booleans.{or_true}

pub beat_at : (den k : ℕ) → (den == k) ≡ true → k ∣ 64 → den ∣ 64
beat_at den k h part = let e : den ≡ k = grind (arith, nat_tests, h) in subst (λ x. x ∣ 64) (sym e) part

pub beat_part : (den : ℕ) → IsTrue (is_den den) → den ∣ 64
beat_part den h = one (or_true (den == 1) _ h)
  where
    seven : den == 64 ≡ true → den ∣ 64
    seven h = beat_at den 64 h (dvd_of_mod-eq-zero 64 refl)

    six : (den == 32 ≡ true) ⊎ (den == 64 ≡ true) → den ∣ 64
    six (inl h) = beat_at den 32 h (dvd_of_mod-eq-zero 32 refl)
    six (inr h) = seven h

    five : (den == 16 ≡ true) ⊎ ((den == 32 || den == 64) ≡ true) → den ∣ 64
    five (inl h) = beat_at den 16 h (dvd_of_mod-eq-zero 16 refl)
    five (inr h) = six (or_true (den == 32) (den == 64) h)

    four : (den == 8 ≡ true) ⊎ ((den == 16 || (den == 32 || den == 64)) ≡ true) → den ∣ 64
    four (inl h) = beat_at den 8 h (dvd_of_mod-eq-zero 8 refl)
    four (inr h) = five (or_true (den == 16) (den == 32 || den == 64) h)

    three : (den == 4 ≡ true) ⊎ ((den == 8 || (den == 16 || (den == 32 || den == 64))) ≡ true) → den ∣ 64
    three (inl h) = beat_at den 4 h (dvd_of_mod-eq-zero 4 refl)
    three (inr h) = four (or_true (den == 8) (den == 16 || (den == 32 || den == 64)) h)

    two : (den == 2 ≡ true) ⊎ ((den == 4 || (den == 8 || (den == 16 || (den == 32 || den == 64)))) ≡ true) → den ∣ 64
    two (inl h) = beat_at den 2 h (dvd_of_mod-eq-zero 2 refl)
    two (inr h) = three (or_true (den == 4) (den == 8 || (den == 16 || (den == 32 || den == 64))) h)

    one : (den == 1 ≡ true) ⊎ ((den == 2 || (den == 4 || (den == 8 || (den == 16 || (den == 32 || den == 64))))) ≡ true) → den ∣ 64
    one (inl h) = beat_at den 1 h (dvd_of_mod-eq-zero 1 refl)
    one (inr h) = two (or_true (den == 2) (den == 4 || (den == 8 || (den == 16 || (den == 32 || den == 64)))) h)

pub value_part : (resolution den : ℕ) (v : Value) → IsTrue (is_den den) → CountsIn (resolution * den) v → value_grid v ∣ 64 * resolution
value_part resolution den v beat counts =
    let turned : resolution * 64 ≡ 64 * resolution = grind arith in
    let doubled : 2 * (32 * resolution) ≡ 64 * resolution = omega arith in
    let part = subst (λ x. resolution * den ∣ x) turned (mul-dvd-mul_left den resolution (beat_part den beat)) in
    counts (64 * resolution) part (subst (λ x. 2 ∣ x) doubled (dvd-mul_right 2 (32 * resolution)))

pub values_part : (resolution den len : ℕ) (vs : List Value) → IsTrue (is_den den) → AreValues len (resolution * den) vs → All (λ v. value_grid v ∣ 64 * resolution) vs
values_part resolution den len vs beat h k d lt = value_part resolution den (get_or vs k d) beat (values_grid len (resolution * den) vs h k d lt)

pub written_part :
    (resolution den : ℕ) (leaves : List Timed) (ws : List Written)
    → IsTrue (is_den den) → AreWritten (resolution * den) leaves ws → All (λ v. value_grid v ∣ 64 * resolution) (map (λ w. w.value) ws)
written_part resolution den leaves ws beat h k d lt = value_part resolution den (get_or (map (λ w. w.value) ws) k d) beat (written_grid (resolution * den) leaves ws h k d lt)
