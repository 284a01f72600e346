-- Each value of a length counts in the parts of its bar, or in half whole notes.
use Rattle.std.proofs.Common.{◌≡◌, ℕ, zero, suc, ◌-◌, ◌*◌, ◌^◌, List, [], ◌∷◌, sym, ◌∙◌, subst, inl, inr, arith}
use Rattle.std.specs.Prelude.{All}
use Rattle.std.specs.Int.{◌∣◌}
use Rattle.std.proofs.Math.Nat.{dvd-mul_right, dvd-mul_left, one-dvd}
use Rattle.std.proofs.lemmas.Nat.Gcd.{dvd_trans}
use Rattle.std.proofs.lemmas.List.Elements.{All-cons}
use Rattle.durations.specs.declared.value.Recip.{Recip}
use Rattle.durations.specs.declared.value.Recip.TheVariants.{Of, Breve, Long}
use Rattle.durations.specs.declared.value.Value.{Value}
use Rattle.durations.specs.Value.{IsValueRow, plain_grid}
use Rattle.durations.specs.Values.{AreValues, IsPlain}
use Rattle.durations.specs.Laws.{CountsIn}
use Rattle.durations.proofs.Firsts.{Ways}

turned : (b k n all : ℕ) → b ≡ k * n → b ∣ all → n * k ∣ all
turned b k n all e h = let f : n * k ≡ k * n = grind arith in subst (λ x. x ∣ all) (e ∙ sym f) h

row_grid : (a b : ℕ) (r : Recip) (j all : ℕ) → IsValueRow a b r j → b ∣ all → 2 ∣ all → plain_grid r * 2 ^ j ∣ all
row_grid a b (Of n) zero all h part even = turned b 1 n all (omega (arith, h.1)) part
row_grid a b (Of n) (suc zero) all h part even = turned b 2 n all h.1 part
row_grid a b (Of n) (suc (suc zero)) all h part even = turned b 4 n all h.1 part
row_grid a b (Of n) (suc (suc (suc j))) all h part even = absurd h
row_grid a b Breve zero all h part even = one-dvd all
row_grid a b Breve (suc zero) all h part even = even
row_grid a b Breve (suc (suc j)) all h part even = absurd h
row_grid a b Long zero all h part even = one-dvd all
row_grid a b Long (suc j) all h part even = absurd h

plain_counts : (c b : ℕ) (r : Recip) (all : ℕ) → IsPlain c b r → b ∣ all → plain_grid r * 2 ^ 0 ∣ all
plain_counts c b (Of n) all h part =
    let e : n * 1 ≡ n = omega arith in
    subst (λ x. x ∣ all) (sym e) (dvd_trans n (subst (λ x. n ∣ x) h (dvd-mul_left n c)) part)
plain_counts c b Breve all h part = one-dvd all
plain_counts c b Long all h part = one-dvd all

-- finer parts serve the values too
finer : (b whole : ℕ) (vs : List Value) → b ∣ whole → All (CountsIn b) vs → All (CountsIn whole) vs
finer b whole vs part h k d lt all of even = h k d lt all (dvd_trans b part of) even

pub values_grid : (len whole : ℕ) (vs : List Value) → AreValues len whole vs → All (CountsIn whole) vs
values_grid len whole [] h = λ k d lt. absurd (omega arith)
values_grid len whole (v ∷ more) (a, b, lowest, h) =
    finer b whole (v ∷ more) (subst (λ x. b ∣ x) (sym lowest.3) (dvd-mul_right b lowest.0)) (go h (λ rest. values_grid rest b more))
  where
    go : Ways a b v more → ((rest : ℕ) → AreValues rest b more → All (CountsIn b) more) → All (CountsIn b) (v ∷ more)
    go (inl (single, last)) next =
        let first : CountsIn b v = λ all part even. row_grid a b v.recip v.dots all single part even in
        All-cons (CountsIn b) v more first (subst (All (CountsIn b)) (sym last) (λ k d lt. absurd (omega arith)))
    go (inr (none, plain, c, taken, rest)) next =
        let first : CountsIn b v = λ all part even. subst (λ j. plain_grid v.recip * 2 ^ j ∣ all) (sym plain) (plain_counts c b v.recip all taken.plain part) in
        All-cons (CountsIn b) v more first (next (a - c) rest)
