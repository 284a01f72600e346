-- The least of the forests that stand in a bar is there.
use Rattle.std.proofs.Common.{◌≡◌, ℕ, ◌<◌, ◌&&◌, ◌==◌, Bool, true, false, List, refl, sym, ap, ap₂, ◌∙◌, arith}
use Rattle.std.specs.Prelude.{Option, Some, None, if◌then◌else◌}
use Rattle.std.proofs.lemmas.Bool.Decides.{nat_tests}
use Rattle.rhythm_base.specs.Forest.{Forest, preorder}
use Rattle.rhythm_base.specs.Leaves.{in_bar, looks}
use Rattle.rhythm_base.specs.Ranked.{Key}
use Rattle.rhythm_base.specs.Shape.{Shape}
use Rattle.rhythm_base.specs.Trees.{are_trees, leaves}
use Rattle.path_laws.specs.Tables.{IsLeastKey}
use Rattle.tree_laws.specs.Forests.{Ground, IsForestKey, forest_cost, has_shapes}
use Rattle.tree_laws.specs.Places.{runs_at}
use Rattle.tree_laws.specs.Runs.{leaving}
use Rattle.tree_laws.specs.Shares.{AreBelow}
use Rattle.path_laws.proofs.LeastKeys.{IsLeast-same}
use Rattle.tree_laws.proofs.Ranks.{both}
use Rattle.least_cost.proofs.LeastTold.{IsToldKey, told_least}
use Rattle.rhythm_base.proofs.Booleans.{equal_test}

same_is : (m n : ℕ) → (m == n) ≡ true → m ≡ n
same_is m n test = grind (arith, nat_tests)

module _ (d : Ground) (s : Option Shape) (p : ℕ) (qs : List (ℕ × ℕ)) (a b : ℕ) where
  abbrev key_of_forest : Forest → Key
  key_of_forest f = (forest_cost d p qs f, preorder f)

  -- it has the shapes, and its leaves fit with these counts
  abbrev is_standing : Forest → Bool
  is_standing f =
      has_shapes s f
      && (runs_at d.book.resolution d.bar d.chords d.before p a (leaves d.book.rules p qs f)
      && (leaving (looks d.book.resolution) d.chords a (in_bar d.bar (leaves d.book.rules p qs f)) == b))

  abbrev key_where : Bool → Forest → Option Key
  key_where t f = if t then Some (key_of_forest f) else None

  abbrev told : Forest → Option Key
  told f = key_where (is_standing f) f

  standing : (f : Forest) (k : Key) (t : Bool) → a < 5 → b < 5 → are_trees d.book.rules qs f ≡ true → is_standing f ≡ t → key_where t f ≡ Some k → IsForestKey d s p qs a b k
  standing f k true la lb trees e is =
      let shape = both (has_shapes s f) _ e in
      let run = both (runs_at d.book.resolution d.bar d.chords d.before p a (leaves d.book.rules p qs f)) _ shape.1 in
      let own : key_of_forest f ≡ k = cc in (
        f,
        record { trees = trees; shaped = shape.0; fits = record { runs = run.0; leave = same_is _ b run.1; few_from = omega (arith, la); few_to = omega (arith, lb) } },
        sym own,
      )
  standing f k false la lb trees e is = absurd (cc)

  told_standing : (k : Key) → IsForestKey d s p qs a b k → IsToldKey d.book.rules qs told k
  told_standing k (f, stands, is) =
      let on : is_standing f ≡ true = ap₂ ◌&&◌ stands.shaped (ap₂ ◌&&◌ stands.fits.runs (equal_test _ b stands.fits.leave)) in
      (f, stands.trees, ap (λ t. key_where t f) on ∙ ap Some (sym is))

  -- for these numbers of chords carried in and out
  pub forest_least : (n : ℕ) → AreBelow n qs → (o : Option Key) × (a < 5 → b < 5 → IsLeastKey (IsForestKey d s p qs a b) o)
  forest_least n below =
      let least = told_least d.book.rules n qs below told in (
        least.0,
        λ la lb. IsLeast-same (IsToldKey d.book.rules qs told) (IsForestKey d s p qs a b) least.0 (λ k x. standing x.0 k (is_standing x.0) la lb x.1 refl x.2) told_standing least.1,
      )
