-- Total orders, and the order of lists of numbers.
use Rattle.std.proofs.Common.{◌≡◌, ◌≢◌, ℕ, true, false, List, [], ◌∷◌, refl, sym, ap, ◌∙◌}
use Rattle.std.specs.Ordering.{nat_cmp, ordering_then, ordering_reverse, is_lt, is_gt}
use Rattle.std.specs.Cmp.{IsTotalOrder, ranked}
use Rattle.std.proofs.lemmas.Cmp.{upto, tied_itself}
use Rattle.std.specs.declared.cmp.Ordering.{Ordering}
use Rattle.std.specs.declared.cmp.Ordering.TheVariants.{Less, Equal, Greater}
use Rattle.rhythm_base.specs.Ranked.{list_cmp}

gt_back : (r : Ordering) → is_gt (ordering_reverse r) ≡ is_lt r
gt_back Less = refl
gt_back Equal = refl
gt_back Greater = refl

module _ {K : Type 0} {R : K → K → Ordering} (o : IsTotalOrder R) where
  pub flip : (x y : K) → is_gt (R y x) ≡ is_lt (R x y)
  flip x y = ap is_gt (o.antisymm y x) ∙ gt_back (R x y)

  pub itself : (x : K) → is_lt (R x x) ≡ false
  itself x = ap is_lt (tied_itself o x)

  -- not lower than what is not lower
  pub above : (x y z : K) → is_lt (R x y) ≡ false → is_lt (R y z) ≡ false → is_lt (R x z) ≡ false
  above x y z h k = sym (flip x z) ∙ upto o z y x (flip y z ∙ k) (flip x y ∙ h)

  neither : (r : Ordering) → is_lt r ≡ false → is_gt r ≡ false → r ≡ Equal
  neither Less h k = absurd (cc)
  neither Equal h k = refl
  neither Greater h k = absurd (cc)

  pub both_above : (x y : K) → is_lt (R x y) ≡ false → is_lt (R y x) ≡ false → R x y ≡ Equal
  both_above x y h k = neither (R x y) h (flip y x ∙ k)

  less_not_gt : (r : Ordering) → is_lt r ≡ true → is_gt r ≡ false
  less_not_gt Less h = refl
  less_not_gt Equal h = refl
  less_not_gt Greater h = absurd (cc)

  pub before_above : (x y : K) → is_lt (R x y) ≡ true → is_lt (R y x) ≡ false
  before_above x y h = sym (flip y x) ∙ less_not_gt (R x y) h

pub never_less : (o : Ordering) → is_lt o ≡ false → o ≢ Less
never_less o h = λ e. let both : true ≡ false = ap is_lt (sym e) ∙ h in cc

pub then_equal : (o u : Ordering) → ordering_then o u ≡ Equal → (o ≡ Equal) × (u ≡ Equal)
then_equal Less u e = absurd (cc)
then_equal Equal u e = (refl, e)
then_equal Greater u e = absurd (cc)

pub list_equal : (x y : List ℕ) → list_cmp x y ≡ Equal → x ≡ y
list_equal [] [] e = refl
list_equal [] (c ∷ y) e = absurd (cc)
list_equal (c ∷ x) [] e = absurd (cc)
list_equal (c ∷ x) (d ∷ y) e =
    let p = then_equal (nat_cmp c d) (list_cmp x y) e in
    let q : c ≡ d = ranked c d Equal (sym p.0) in
    let r : x ≡ y = list_equal x y p.1 in
    λ i. q i ∷ r i
