-- A stop in a shape is the fault of its text.
use Rattle.std.proofs.Common.{◌≡◌, ℕ, suc, ◌+◌, ◌-◌, ◌≤◌, true, ◌&&◌, nat_le, List, [], ◌∷◌, ◌++◌, length, take, refl, sym, ap, ◌∙◌, subst, arith, append_assoc, append-nil}
use Rattle.std.proofs.lemmas.Bool.{and_parts}
use Rattle.std.proofs.lemmas.Bool.Decides.{nat_tests}
use Rattle.std.proofs.lemmas.List.{length-append}
use Rattle.rhythm_base.specs.Shape.{Shape}
use Rattle.rhythm_base.specs.ShapeReading.{IsPart, PartText, StopsWith, next_byte}
use Rattle.rhythm_base.specs.ShapeText.{BeginsShape, IsCutShort, IsFirstBadByte, IsShapeText, shape_text}
use Rattle.rhythm_base.specs.Shapes.{are_cut, can_have, depth, is_shape, parts_in}
use Rattle.rhythm_base.proofs.OneShape.{same_shape}
use Rattle.rhythm_base.proofs.ListParts.{front, no_bytes}

front_and_next : (xs ys : List ℕ) → 1 ≤ length ys → take (length xs + 1) (xs ++ ys) ≡ xs ++ (next_byte ys ∷ [])
front_and_next [] [] some = absurd (omega (arith, some))
front_and_next [] (y ∷ ys) some = ap (λ l. y ∷ l) (front [] ys)
front_and_next (x ∷ xs) ys some = let rest = front_and_next xs ys some in ap (λ n. take n (x ∷ (xs ++ ys))) next ∙ ap (λ l. x ∷ l) rest
  where
    next : length (x ∷ xs) + 1 ≡ suc (length xs + 1)
    next = omega arith

-- a part with 95 levels below it is a shape
pub part_is_shape : (x : Shape) → IsPart 95 x → is_shape x ≡ true
part_is_shape x is = let low : nat_le (depth x) 95 ≡ true = grind (arith, nat_tests, is.low) in λ i. is.can i && (is.cut i && low i)

pub shape_is_part : (x : Shape) → is_shape x ≡ true → IsPart 95 x
shape_is_part x is =
    let p = and_parts (can_have (parts_in x)) _ is in
    let q = and_parts (are_cut x) _ p.1 in
    record { can = p.0; cut = q.0; low = grind (arith, nat_tests, q.1) }

to_part : {text : List ℕ} (x : Shape) → IsShapeText text x → PartText 95 text
to_part x is = (x, shape_is_part x is.shape, is.is)

from_part : {text : List ℕ} → PartText 95 text → (x : Shape) × IsShapeText text x
from_part w = (w.0, record { shape = part_is_shape w.0 w.1; is = w.2 })

-- what was read begins a shape's text
read_begins : (text : List ℕ) (left : ℕ) (stop : StopsWith (PartText 95) text left) → BeginsShape stop.read
read_begins text left stop = let w = from_part stop.begins in (w.0, stop.more, w.1)

pub cut_short : (text : List ℕ) (left : ℕ) → left ≡ 0 → StopsWith (PartText 95) text left → IsCutShort text
cut_short text left none stop =
    let all : text ≡ stop.read =
    stop.is ∙ ap (λ l. stop.read ++ l) (no_bytes stop.rest (stop.many ∙ none)) ∙ append-nil stop.read in
    record {
      begins = subst BeginsShape (sym all) (read_begins text left stop);
      short = λ x is. stop.stops text [] (next_byte stop.rest ∷ []) (to_part x is)
          (ap (λ l. l ++ (next_byte stop.rest ∷ [])) (sym all));
    }

pub bad_byte : (text : List ℕ) (left : ℕ) → 1 ≤ left → StopsWith (PartText 95) text left → IsFirstBadByte text (length text - left)
bad_byte text left some stop =
    let sizes = ap length stop.is ∙ length-append stop.read stop.rest in
    let at : length text - left ≡ length stop.read = omega (arith, sizes, stop.many) in
    record {
      inside = omega (arith, sizes, stop.many, some);
      before = subst BeginsShape (sym (ap (λ n. take n text) at ∙ ap (take (length stop.read)) stop.is ∙ front stop.read stop.rest)) (read_begins text left stop);
      bad = λ begins.
          let byte : take (length text - left + 1) text ≡ stop.read ++ (next_byte stop.rest ∷ []) =
          ap (λ n. take (n + 1) text) at ∙ ap (take (length stop.read + 1)) stop.is ∙ front_and_next stop.read stop.rest (omega (arith, stop.many, some)) in
          stop.stops (take (length text - left + 1) text ++ begins.1) begins.1 [] (to_part begins.0 begins.2)
          (sym (append_assoc stop.read (next_byte stop.rest ∷ []) begins.1) ∙ ap (λ l. l ++ begins.1) (sym byte) ∙ sym (append-nil (take (length text - left + 1) text ++ begins.1)));
    }

-- a whole shape with more after it
pub more_after : (text rest : List ℕ) (x : Shape) → IsPart 95 x → text ≡ shape_text x ++ rest → 1 ≤ length rest → IsFirstBadByte text (length text - length rest)
more_after text rest x is whole some =
    let sizes = ap length whole ∙ length-append (shape_text x) rest in
    let at : length text - length rest ≡ length (shape_text x) = omega (arith, sizes) in
    let shape : IsShapeText (shape_text x) x = record { shape = part_is_shape x is; is = refl } in
    let before : take (length text - length rest) text ≡ shape_text x = ap (λ n. take n text) at ∙ ap (take (length (shape_text x))) whole ∙ front (shape_text x) rest in
    let byte : take (length text - length rest + 1) text ≡ shape_text x ++ (next_byte rest ∷ []) =
    ap (λ n. take (n + 1) text) at ∙ ap (take (length (shape_text x) + 1)) whole ∙ front_and_next (shape_text x) rest some in
    record {
      inside = omega (arith, sizes, some);
      before = (x, [], record { shape = shape.shape; is = append-nil _ ∙ before });
      bad = λ begins.
          let other = shape_is_part begins.0 begins.2.shape in
          let same : shape_text x ++ (next_byte rest ∷ begins.1) ≡ shape_text begins.0 ++ [] =
          sym (append_assoc (shape_text x) (next_byte rest ∷ []) begins.1) ∙ ap (λ l. l ++ begins.1) (sym byte) ∙ begins.2.is ∙ sym (append-nil (shape_text begins.0)) in
          let one = same_shape x begins.0 (next_byte rest ∷ begins.1) [] is.can other.can is.cut other.cut same in
          let sizes : length (next_byte rest ∷ begins.1) ≡ 0 = ap length one.1 in omega (arith, sizes);
    }
