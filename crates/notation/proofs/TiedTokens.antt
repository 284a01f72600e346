-- Tokens that are tied one to another.
use Rattle.std.proofs.Common.{◌≡◌, ℕ, suc, ◌+◌, ◌-◌, ◌<◌, ◌≤◌, Bool, true, false, cond, List, [], ◌∷◌, length, take, drop, refl, ap, subst, arith}
use Rattle.std.specs.Prelude.{◌&&◌, All, not}
use Rattle.std.specs.Int.{◌∣◌}
use Rattle.std.proofs.Math.Nat.{dvd-sub}
use Rattle.std.proofs.lemmas.List.Elements.{All-cons, All-drop, All-head, All-nil, All-tail}
use Rattle.std.proofs.lemmas.Nat.Gcd.{le_of_dvd}
use Rattle.notation.specs.Notes.{tied_ends}
use Rattle.notation.specs.Runs.{StandBetween}
use Rattle.notation.specs.Spelling.{AreInGrid}
use Rattle.notation.specs.Tokens.{Token, is_silent, ends}
use Rattle.notation.proofs.GridLemmas.{CountIn}
use Rattle.notation.proofs.Standing.{run_after}

-- those that are tied are a front of the tokens
pub tied_front : (goes : Bool) (ts : List Token) → (n : ℕ) × (n ≤ length ts) × (tied_ends goes ts ≡ ends (take n ts))
tied_front goes [] = (0, omega arith, refl)
tied_front goes (t ∷ ts) = go (goes && t.comes) (tied_front (t.goes && not (is_silent t)) ts)
  where
    rest : List ℕ
    rest = tied_ends (t.goes && not (is_silent t)) ts

    go : (b : Bool) → ((n : ℕ) × (n ≤ length ts) × (tied_ends (t.goes && not (is_silent t)) ts ≡ ends (take n ts)))
        → (n : ℕ) × (n ≤ length (t ∷ ts)) × (cond b (t.end ∷ tied_ends (t.goes && not (is_silent t)) ts) [] ≡ ends (take n (t ∷ ts)))
    go false h = (0, omega arith, refl)
    go true (n, le, e) = (suc n, omega (arith, le), ap (λ xs. t.end ∷ xs) e)

-- ---- tokens in a grid

pub gap : (d a b : ℕ) → d ∣ a → d ∣ b → a < b → a + d ≤ b
gap d a b h k lt = let some : 0 < b - a = omega (arith, lt) in let e = le_of_dvd some (dvd-sub d k h) in omega (arith, e, lt)

-- the tokens of a grid from a place on end a part of it later at least
ends_later : (r grid from to start : ℕ) (ts : List Token) → start ≤ from → StandBetween r from ts to → All (CountIn grid) ts → All
    (λ t. start + grid ≤ t.end) ts
ends_later r grid from to start [] le h count = All-nil (λ t. start + grid ≤ t.end)
ends_later r grid from to start (t ∷ ts) le h count =
    let own = All-head (CountIn grid) t ts count in
    let e = gap grid t.start t.end own.0 own.1 h.1 in
    All-cons (λ t. start + grid ≤ t.end) t ts (omega (arith, e, le, h.0))
    (ends_later r grid t.end to start ts (omega (arith, le, h.0, h.1)) h.3 (All-tail (CountIn grid) t ts count))

pub grid_later : (grid : ℕ) (t : Token) (more : List Token) → AreInGrid grid (t ∷ more) → All (λ u. t.start + grid ≤ u.end) more
grid_later grid t more h = All-tail (λ u. t.start + grid ≤ u.end) t more
    (ends_later h.resolution grid h.run.from h.run.to t.start (t ∷ more) (omega (arith, h.run.stand.0)) h.run.stand h.count)

pub grid_after : (grid k : ℕ) (ts more : List Token) (t : Token) → ts ≡ t ∷ more → AreInGrid grid ts → AreInGrid grid (drop k more)
grid_after grid k ts more t split h = record {
  resolution = h.resolution;
  run = run_after h.resolution k ts more t split h.run;
  count = All-drop (CountIn grid) k more (All-tail (CountIn grid) t more (subst (All (CountIn grid)) split h.count));
}

pub grid_more : (grid : ℕ) (t : Token) (more : List Token) → AreInGrid grid (t ∷ more) → AreInGrid grid more
grid_more grid t more h = grid_after grid 0 (t ∷ more) more t refl h
