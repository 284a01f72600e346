-- Where the first few of what is kept are below a value, they stay so, and what has at least that value is not among them.
use Rattle.std.proofs.Common.{◌≡◌, ℕ, zero, suc, ◌<◌, ◌≤◌, Bool, true, false, not, nat_eq, List, [], ◌∷◌, ◌++◌, length, take, refl, ap, sym, ◌∙◌, subst, arith}
use Rattle.std.specs.Prelude.{All, filter, if◌then◌else◌, ⊤}
use Rattle.std.proofs.lemmas.Bool.{eqb-true}
use Rattle.std.proofs.lemmas.List.{append-nil, append_assoc}
use Rattle.rhythm_base.specs.Lists.{earlier}
use Rattle.rhythm_base.proofs.OrderedLists.{all_head, all_tail}
use Rattle.barline_follow.specs.Least.{AreFirstLeast}
use Rattle.barline_follow.proofs.ApartTicks.{AreApart, kept_apart}
use Rattle.barline_follow.proofs.CostLemmas.{less_cost}
use Rattle.barline_follow.proofs.FewLeast.{all_elsewhere, is_elsewhere, kept_with_one, place, with_one}

module _ {X : Type 0} (value tick : X → ℕ) (low : ℕ) where
  -- the first m are there, and below the value
  abbrev pub AreFewBelow : ℕ → List X → Type 0
  AreFewBelow zero ks = ⊤
  AreFewBelow (suc m) [] = ⊥
  AreFewBelow (suc m) (k ∷ ks) = (value k < low) × AreFewBelow m ks

  pub below_of : (m : ℕ) (ks : List X) → length (take m ks) ≡ m → All (λ k. value k < low) (take m ks) → AreFewBelow m ks
  below_of zero ks long all = tt
  below_of (suc m) [] long all = absurd (omega (arith, long))
  below_of (suc m) (k ∷ ks) long all =
      (all_head (λ k. value k < low) k (take m ks) all, below_of m ks (omega (arith, long)) (all_tail (λ k. value k < low) k (take m ks) all))

  module _ (x : X) where
    -- at most one is not elsewhere
    below_elsewhere : (m : ℕ) (ks : List X) → AreApart tick ks → AreFewBelow (suc m) ks → AreFewBelow m (filter (is_elsewhere value tick x) ks)
    below_elsewhere zero ks apart h = tt
    below_elsewhere (suc m) [] apart h = absurd h
    below_elsewhere (suc m) (k ∷ ks) apart h = by (nat_eq (tick k) (tick x)) refl (below_elsewhere m ks apart.1 h.1)
      where
        by : (b : Bool) → nat_eq (tick k) (tick x) ≡ b → AreFewBelow m (filter (is_elsewhere value tick x) ks)
            → AreFewBelow (suc m) (if not b then k ∷ filter (is_elsewhere value tick x) ks else filter (is_elsewhere value tick x) ks)
        by false is rest = (h.0, rest)
        by true is rest =
            let same : tick k ≡ tick x = eqb-true (tick k) (tick x) is in
            subst (AreFewBelow (suc m)) (sym (all_elsewhere value tick x ks (λ y c at. apart.0 y c (same ∙ sym at)))) h.1

    below_with_one : (m : ℕ) (ks : List X) → AreApart tick ks → AreFewBelow m ks → AreFewBelow m (with_one value tick x ks)
    below_with_one zero ks apart h = tt
    below_with_one (suc m) [] apart h = absurd h
    below_with_one (suc m) (k ∷ ks) apart h =
        by (earlier (place value tick x x) (place value tick x k)) refl (nat_eq (tick k) (tick x)) (below_with_one m ks apart.1 h.1)
      where
        by : (b : Bool) → earlier (place value tick x x) (place value tick x k) ≡ b → (c : Bool) → AreFewBelow m (with_one value tick x ks)
            → AreFewBelow (suc m)
            (if b then x ∷ filter (is_elsewhere value tick x) (k ∷ ks) else (if c then k ∷ ks else k ∷ with_one value tick x ks))
        by true is c rest = let le = less_cost (value x) (value k) _ is in (omega (arith, le, h.0), below_elsewhere m (k ∷ ks) apart h)
        by false is true rest = h
        by false is false rest = (h.0, rest)

    -- it plays no part among the first m
    pub below_still : (m : ℕ) (ks : List X) → AreFewBelow m ks → low ≤ value x → take m (with_one value tick x ks) ≡ take m ks
    below_still zero ks h le = refl
    below_still (suc m) [] h le = absurd h
    below_still (suc m) (k ∷ ks) h le =
        by (earlier (place value tick x x) (place value tick x k)) refl (nat_eq (tick k) (tick x)) (below_still m ks h.1 le)
      where
        by : (b : Bool) → earlier (place value tick x x) (place value tick x k) ≡ b → (c : Bool) → take m (with_one value tick x ks) ≡ take m ks
            → take (suc m) (if b then x ∷ filter (is_elsewhere value tick x) (k ∷ ks) else (if c then k ∷ ks else k ∷ with_one value tick x ks))
            ≡ k ∷ take m ks
        by true is c rest = let less = less_cost (value x) (value k) _ is in absurd (omega (arith, less, h.0, le))
        by false is true rest = refl
        by false is false rest = ap (λ l. k ∷ l) rest

  -- they stay so, whatever comes after
  pub below_later : (m : ℕ) (others xs all : List X) → AreFirstLeast value tick xs all → AreFewBelow m all
      → (next : List X) × AreFirstLeast value tick (xs ++ others) next × AreFewBelow m next
  below_later m [] xs all h few = (all, subst (λ (l : List X). AreFirstLeast value tick l all) (sym (append-nil xs)) h, few)
  below_later m (x ∷ others) xs all h few =
      let rest = below_later m others (xs ++ (x ∷ [])) (with_one value tick x all) (kept_with_one value tick x xs all h)
      (below_with_one x m all (kept_apart value tick xs all h) few) in
      (rest.0, subst (λ (l : List X). AreFirstLeast value tick l rest.0) (append_assoc xs (x ∷ []) others) rest.1, rest.2)
