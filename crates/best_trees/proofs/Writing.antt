-- Rule lists that are written one after another.
use Rattle.std.proofs.Common.{◌≡◌, ℕ, ◌<◌, List, subst, arith}
use Rattle.rhythm_base.specs.Ranked.{Keys}
use Rattle.bar_trees.specs.WrittenLists.{IsListAt, IsListOf, list_number}

-- the list of a key stands in its place
pub list-at : (keys : Keys) (a b : ℕ) (xs : List ℕ) → b < 5 → IsListOf (keys a b) xs → IsListAt keys (list_number a b) xs
list-at keys a b xs low h a' b' low' is =
    let row : a ≡ a' = omega (arith, low, low', is) in
    let count : b ≡ b' = omega (arith, low, low', is) in
    subst (λ b. IsListOf (keys a' b) xs) count (subst (λ a. IsListOf (keys a b) xs) row h)
