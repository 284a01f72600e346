-- Ways over trees side by side: the counts of chords between them.
use Rattle.std.specs.Prelude.{◌≡◌, ℕ, zero, suc, ◌+◌, ◌*◌, ◌<◌, List, [], ◌∷◌, ◌++◌, take, slice_index_or, Some, None}
use Rattle.rhythm_base.specs.Bodies.{sizes}
use Rattle.rhythm_base.specs.Ranked.{Key}
use Rattle.tree_laws.specs.Forests.{Ground, IsForestKey}
use Rattle.path_laws.specs.Tables.{IsLeastKey}

-- The rule list of the first n of the trees of these widths and symbols from unit p on, each the least for its counts. The
-- counts of chords carried into them are the digits of the way to the base 8: a is the first, and m chords are carried out.
abbrev pub IsWayList : Ground → ℕ → List (ℕ × ℕ) → ℕ → (n way m : ℕ) → List ℕ → Type 0
IsWayList d p qs a zero way m list = (way ≡ 0) × (m ≡ a) × (list ≡ [])
IsWayList d p qs a (suc n) way m list =
    (w : ℕ) × (l : ℕ) × (xs : List ℕ) × (k : Key)
    × IsWayList d p qs a n w l xs × (l < 5) × (way ≡ w * 8 + l)
    × IsLeastKey (IsForestKey d None (p + sizes (take n qs)) (slice_index_or qs n (0, 0) ∷ []) l m) (Some k)
    × (list ≡ xs ++ k.1)
