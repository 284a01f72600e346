-- A voice over few bars has few sounds, as each is at least a unit wide.
use Rattle.std.proofs.Common.{◌≡◌, ℕ, suc, ◌+◌, ◌*◌, ◌==◌, ◌≤◌, Bool, true, false, List, [], ◌∷◌, length, refl, ap, subst, arith}
use Rattle.std.specs.Prelude.{if◌then◌else◌}
use Rattle.std.proofs.Math.Nat.{mul-le-mul_right, suc-mul}
use Rattle.std.proofs.lemmas.Bool.Decides.{nat_tests}
use Rattle.rhythm_base.specs.declared.sound.Sound.{Sound}
use Rattle.derivation.specs.WellSounded.{StandInBars}

-- so many sounds from a place of a bar on
sounds_from : (r bars n p : ℕ) (sounds : List Sound) → StandInBars r bars n p sounds → length sounds + p + n * r ≤ bars * r
sounds_from r bars n p [] (last, start) = let e : n * r ≡ bars * r = ap (λ m. m * r) last in omega (arith, e, start)
sounds_from r bars n p (s ∷ sounds) (before, bar, place, wide, within, rest) =
    go (p + s.width == r) refl (λ m q h. sounds_from r bars m q sounds h)
  where
    go : (b : Bool) → (p + s.width == r) ≡ b → ((m q : ℕ) → StandInBars r bars m q sounds → length sounds + q + m * r ≤ bars * r)
        → suc (length sounds) + p + n * r ≤ bars * r
    go true is later =
        let there = subst (λ b. StandInBars r bars (if b then suc n else n) (if b then 0 else p + s.width) sounds) is rest in
        let few = later (suc n) 0 there in
        let full : p + s.width ≡ r = grind (arith, nat_tests) in
        let next = suc-mul n r in
        omega (arith, few, full, next, wide)
    go false is later =
        let there = subst (λ b. StandInBars r bars (if b then suc n else n) (if b then 0 else p + s.width) sounds) is rest in
        let few = later n (p + s.width) there in
        omega (arith, few, wide)

pub few_sounds : (r bars : ℕ) (sounds : List Sound) → r ≤ 960 → bars ≤ 4096 → StandInBars r bars 0 0 sounds → length sounds ≤ 4294967296
few_sounds r bars sounds few few_bars stand =
    let all = sounds_from r bars 0 0 sounds stand in
    let most : bars * r ≤ 4096 * r = mul-le-mul_right r few_bars in
    omega (arith, all, most, few)
