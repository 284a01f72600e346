-- Lists of which each member is that of its place: joined, cut into runs, and one after another.
use Rattle.std.proofs.Common.{◌≡◌, ℕ, zero, suc, ◌<◌, List, [], ◌∷◌, ◌++◌, length, get_or, take, drop, refl, sym, ap, ◌∙◌, subst, arith}
use Rattle.std.specs.List.{flat_map}
use Rattle.std.proofs.Math.Seq.{take-append_seam, drop-append_seam}
use Rattle.rhythm_base.specs.Lists.{Each}

module _ {X Y : Type 0} (Of : X → Y → Type 0) where
  pub Each-length : (xs : List X) (ys : List Y) → Each Of xs ys → length xs ≡ length ys
  Each-length [] ys h = ap length (sym h)
  Each-length (x ∷ xs) [] h = absurd h
  Each-length (x ∷ xs) (y ∷ ys) h = ap suc (Each-length xs ys h.1)

  pub Each-at : (xs : List X) (ys : List Y) (k : ℕ) (d : X) (e : Y) → k < length xs → Each Of xs ys → Of (get_or xs k d) (get_or ys k e)
  Each-at [] ys k d e lt h = absurd (omega arith)
  Each-at (x ∷ xs) [] k d e lt h = absurd h
  Each-at (x ∷ xs) (y ∷ ys) zero d e lt h = h.0
  Each-at (x ∷ xs) (y ∷ ys) (suc k) d e lt h = Each-at xs ys k d e (omega arith) h.1

  -- what belongs to two lists side by side is cut where they meet
  pub Each-append : (xs zs : List X) (ys : List Y) → Each Of (xs ++ zs) ys → (us : List Y) × (vs : List Y) × Each Of xs us × Each Of zs vs × (ys ≡ us ++ vs)
  Each-append [] zs ys h = ([], ys, refl, h, refl)
  Each-append (x ∷ xs) zs [] h = absurd h
  Each-append (x ∷ xs) zs (y ∷ ys) h =
      let rest = Each-append xs zs ys h.1 in
      (y ∷ rest.0, rest.1, (h.0, rest.2), rest.3, ap (λ l. y ∷ l) rest.4)

  pub Each-runs : (xss : List (List X)) (ys : List Y) → Each Of (flat_map (λ (xs : List X). xs) xss) ys → (yss : List (List Y)) × Each (Each Of) xss yss × (ys ≡ flat_map (λ (us : List Y). us) yss)
  Each-runs [] ys h = ([], refl, h)
  Each-runs (xs ∷ xss) ys h =
      let parts = Each-append xs (flat_map (λ (xs : List X). xs) xss) ys h in
      let rest = Each-runs xss parts.1 parts.3 in
      (parts.0 ∷ rest.0, (parts.2, rest.1), parts.4 ∙ ap (λ l. parts.0 ++ l) rest.2)

pub Each-through : {X Y Z : Type 0} (P : X → Y → Type 0) (Q : Y → Z → Type 0) (R : X → Z → Type 0) → ((x : X) (y : Y) (z : Z) → P x y → Q y z → R x z)
    → (xs : List X) (ys : List Y) (zs : List Z) → Each P xs ys → Each Q ys zs → Each R xs zs
Each-through {X} {Y} {Z} P Q R by [] ys zs h k = let S : List Y → Type 0 = λ l. Each Q l zs in subst S h k
Each-through P Q R by (x ∷ xs) [] zs h k = absurd h
Each-through P Q R by (x ∷ xs) (y ∷ ys) [] h k = absurd k
Each-through P Q R by (x ∷ xs) (y ∷ ys) (z ∷ zs) h k = (by x y z h.0 k.0, Each-through P Q R by xs ys zs h.1 k.1)

-- two lists of which the first parts are as long are equal part by part
pub parts_are_one : {T : Type 0} (xs ys us vs : List T) → length xs ≡ length ys → xs ++ us ≡ ys ++ vs → (xs ≡ ys) × (us ≡ vs)
parts_are_one xs ys us vs long h = (
  sym (take-append_seam xs us) ∙ ap (λ l. take (length xs) l) h ∙ ap (λ n. take n (ys ++ vs)) long ∙ take-append_seam ys vs,
  sym (drop-append_seam xs us) ∙ ap (λ l. drop (length xs) l) h ∙ ap (λ n. drop n (ys ++ vs)) long ∙ drop-append_seam ys vs,
)
