-- The first of least value at each tick.
use Rattle.std.specs.Cmp.Lexicographic.{slice_cmp}
use Rattle.std.specs.Ordering.{is_lt, nat_cmp}
use Rattle.std.specs.Prelude.{◌≡◌, ◌↔◌, Bool, ℕ, ◌<◌, ◌≤◌, List, [], ◌∷◌, Contains, slice_get, Some, take}
use Rattle.rhythm_base.specs.Lists.{AreInOrder}

module _ {X : Type 0} (value tick : X → ℕ) where
  -- it comes before another by value and then by tick
  abbrev pub comes_before : X → X → Bool
  comes_before x y = is_lt (slice_cmp nat_cmp (value x ∷ tick x ∷ []) (value y ∷ tick y ∷ []))

  -- of those with its tick none has a lower value, and each earlier one has a greater value
  pub record IsFirstLeast (xs : List X) (x : X) : Type 0 where
    pub place : ℕ
    pub there : slice_get xs place ≡ Some x
    pub first : (i : ℕ) (y : X) → i < place → slice_get xs i ≡ Some y → tick y ≡ tick x → value x < value y
    pub least : (y : X) → Contains xs y → tick y ≡ tick x → value x ≤ value y

  -- these, by value and then by tick
  pub record AreFirstLeast (xs kept : List X) : Type 0 where
    pub in_order : AreInOrder (λ x. value x ∷ tick x ∷ []) kept
    pub exactly : (x : X) → Contains kept x ↔ IsFirstLeast xs x

  -- the first n of these
  abbrev pub AreFewLeast : ℕ → List X → List X → Type 0
  AreFewLeast n xs kept = (all : List X) × AreFirstLeast xs all × (kept ≡ take n all)
