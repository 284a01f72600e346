-- Equal texts.
use Rattle.std.proofs.Common.{◌≡◌, ℕ, Bool, true, false, List, refl, sym}
use Rattle.std.proofs.lemmas.Bool.{false_from_ne_true}
use Rattle.std.proofs.lemmas.Slice.Eq.{bytes_eq-Decides}
use Rattle.std.specs.Str.{bytes_eq}

-- the test of two texts turned round
pub bytes_eq-turned : (x y : List ℕ) (b : Bool) → bytes_eq x y ≡ b → bytes_eq y x ≡ b
bytes_eq-turned x y true e = (bytes_eq-Decides y x).1 (sym ((bytes_eq-Decides x y).0 e))
bytes_eq-turned x y false e =
    false_from_ne_true (bytes_eq y x) (λ t. let e' = (bytes_eq-Decides x y).1 (sym ((bytes_eq-Decides y x).0 t)) in cc)

pub bytes_eq-sym : (x y : List ℕ) → bytes_eq x y ≡ bytes_eq y x
bytes_eq-sym x y = sym (bytes_eq-turned x y (bytes_eq x y) refl)
