-- A bar without a fault: its signature is in range, and it has a whole number of ticks, one or more and not too many.
use Rattle.std.proofs.Common.{◌≡◌, ◌≢◌, ℕ, zero, suc, ◌+◌, ◌*◌, ◌/◌, ◌%◌, ◌^◌, ◌≤◌, Bool, true, false, refl, ap, inl, inr, arith}
use Rattle.std.specs.Prelude.{Some, None, IsTrue, nat_lt, ◌==◌, ◌||◌, if◌then◌else◌}
use Rattle.std.proofs.lemmas.Bool.{cases_lt}
use Rattle.std.proofs.lemmas.Bool.Decides.{nat_tests}
use Rattle.std.proofs.Math.Nat.{div-add-mod, div-le_self, mul-le-mul_left}
use Rattle.rhythm_base.specs.declared.bar_fault.BarFault.TheVariants.{TooManyBars, BadSignature, UnevenBar}
use Rattle.rhythm_base.specs.Bars.{fault_of}
use Rattle.rhythm_base.specs.Signatures.{is_den, IsSignature}

pub record IsSound (division i : ℕ) (s : ℕ × ℕ) : Type 0 where
  pub number : i ≢ 4096
  pub signature : IsSignature s.0 (2 ^ s.1)
  pub whole : (4 * division * s.0) % (2 ^ s.1) ≡ 0

dens : (n : ℕ) → n ≤ 6 → IsTrue (is_den (2 ^ n))
dens zero h = refl
dens (suc zero) h = refl
dens (suc (suc zero)) h = refl
dens (suc (suc (suc zero))) h = refl
dens (suc (suc (suc (suc zero)))) h = refl
dens (suc (suc (suc (suc (suc zero))))) h = refl
dens (suc (suc (suc (suc (suc (suc zero)))))) h = refl
dens (suc (suc (suc (suc (suc (suc (suc n))))))) h = absurd (omega arith)

pub no_fault : (division i b : ℕ) (s : ℕ × ℕ) → fault_of division i b s ≡ None → IsSound division i s
no_fault division i b (num, dd) h = first (i == 4096) refl h
  where
    third : (t : Bool) → ((4 * division * num) % (2 ^ dd) == 0) ≡ t → i ≢ 4096 → num ≢ 0 → num ≤ 64 → dd ≤ 6 → (if t then None else Some (UnevenBar i num (2 ^ dd))) ≡ None → IsSound division i (num, dd)
    third true e n some few beat h = record {
      number = n;
      signature = record { some = omega arith; few = few; power = dens dd beat };
      whole = grind (arith, nat_tests);
    }
    third false e n some few beat h = absurd (cc)

    second : (t : Bool) → ((num == 0) || (nat_lt 64 num || nat_lt 6 dd)) ≡ t → i ≢ 4096
        → (if t then Some (BadSignature num dd) else (if (4 * division * num) % (2 ^ dd) == 0 then None else Some (UnevenBar i num (2 ^ dd)))) ≡ None → IsSound division i (num, dd)
    second true e n h = absurd (cc)
    second false e n h =
        let some : num ≢ 0 = grind (arith, nat_tests) in
        let few : num ≤ 64 = grind (arith, nat_tests) in
        let beat : dd ≤ 6 = grind (arith, nat_tests) in
        third ((4 * division * num) % (2 ^ dd) == 0) refl n some few beat h

    first : (t : Bool) → (i == 4096) ≡ t
        → (if t then Some (TooManyBars b) else (if (num == 0) || (nat_lt 64 num || nat_lt 6 dd) then Some (BadSignature num dd) else (if (4 * division * num) % (2 ^ dd) == 0 then None else Some (UnevenBar i num (2 ^ dd))))) ≡ None → IsSound division i (num, dd)
    first true e h = absurd (cc)
    first false e h = let n : i ≢ 4096 = grind (arith, nat_tests) in second ((num == 0) || (nat_lt 64 num || nat_lt 6 dd)) refl n h

pub nominal_few : (division i : ℕ) (s : ℕ × ℕ) → IsSound division i s → division ≤ 32767 → (4 * division * s.0) / (2 ^ s.1) ≤ 8388352
nominal_few division i s sound few =
    let le = div-le_self (4 * division * s.0) (2 ^ s.1) in
    let one = mul-le-mul_left (4 * division) sound.signature.few in
    omega (arith, le, one, few)

pub nominal_some : (division i : ℕ) (s : ℕ × ℕ) → IsSound division i s → 1 ≤ division → 1 ≤ (4 * division * s.0) / (2 ^ s.1)
nominal_some division i s sound some =
    let n = 4 * division * s.0 in
    let m = 2 ^ s.1 in
    let above : 4 * division ≤ 4 * division * s.0 = let one = mul-le-mul_left (4 * division) sound.signature.some in omega (arith, one) in
    elim (cases_lt (n / m) 1) [
      | inl none ↦ absurd (
          let zero : n / m ≡ 0 = omega (arith, none) in
          let parts : m * (n / m) + n % m ≡ n = div-add-mod n m in
          let nothing : m * (n / m) ≡ m * 0 = ap (λ q. m * q) zero in
          omega (arith, parts, nothing, sound.whole, above, some))
      | inr one ↦ one
    ]
