-- The text of a shape where a line has one.
use Rattle.std.proofs.Common.{◌≡◌, ℕ, ◌+◌, ◌<◌, ◌^◌, ◌==◌, Bool, true, false, if◌then◌else◌, List, [], ◌++◌, drop, codes, decimal, sym, subst, arith, take-append-drop}
use Rattle.std.proofs.lemmas.Bool.{and_parts}
use Rattle.std.proofs.lemmas.Bool.Decides.{nat_tests}
use Rattle.std.proofs.lemmas.Fmt.{IsAscii-decimal}
use Rattle.std.proofs.lemmas.Str.{IsAscii-append, IsUtf8-from_ascii}
use Rattle.std.proofs.lemmas.Str.Ascii.{IsAscii-cons, IsAscii-nil}
use Rattle.std.specs.Str.{IsAscii, IsUtf8}
use Rattle.rhythm_base.specs.Shape.{Shape, end, part}
use Rattle.rhythm_base.specs.ShapeText.{IsFirstBadByte, IsShapeText, around_parts, after_part, shape_text, texts_of_parts}
use Rattle.rhythm_base.specs.Shapes.{are_cut, can_have, parts_in}

few_parts : (n : ℕ) → can_have n ≡ true → n < 2 ^ 64
few_parts n can = let few : n < 17 = grind (arith, nat_tests, can) in omega (arith, few)

around_ascii : (n : ℕ) (texts : List ℕ) → n < 2 ^ 64 → IsAscii texts → IsAscii (around_parts n texts)
around_ascii n texts few ascii = at (n == 0)
  where
    at : (b : Bool) → IsAscii (if b then codes "." else decimal n ++ (codes "(" ++ (texts ++ codes ")")))
    at true = IsAscii-cons 46 [] (omega arith) IsAscii-nil
    at false =
        IsAscii-append (decimal n) _ (IsAscii-decimal n few)
        (IsAscii-cons 40 _ (omega arith) (IsAscii-append texts _ ascii (IsAscii-cons 41 [] (omega arith) IsAscii-nil)))

after_ascii : (n : ℕ) (texts : List ℕ) → IsAscii texts → IsAscii (after_part n texts)
after_ascii n texts ascii = at (n == 0)
  where
    at : (b : Bool) → IsAscii (if b then [] else codes " " ++ texts)
    at true = IsAscii-nil
    at false = IsAscii-cons 32 texts (omega arith) ascii

texts_ascii : (x : Shape) → are_cut x ≡ true → IsAscii (texts_of_parts x)
texts_ascii end cut = IsAscii-nil
texts_ascii (part x rest) cut =
    let first = and_parts (can_have (parts_in x)) _ cut in
    let both = and_parts (are_cut x) (are_cut rest) first.1 in
    IsAscii-append _ _ (around_ascii (parts_in x) (texts_of_parts x) (few_parts (parts_in x) first.0) (texts_ascii x both.0))
    (after_ascii (parts_in rest) (texts_of_parts rest) (texts_ascii rest both.1))

-- the text of a shape is text
pub shape_is_text : (text : List ℕ) (x : Shape) → IsShapeText text x → IsUtf8 text
unfolding shape_text
shape_is_text text x is =
    let first = and_parts (can_have (parts_in x)) _ is.shape in
    let cut = (and_parts (are_cut x) _ first.1).0 in
    subst IsUtf8 (sym is.is) (IsUtf8-from_ascii (shape_text x) (around_ascii (parts_in x) (texts_of_parts x) (few_parts (parts_in x) first.0) (texts_ascii x cut)))

-- no text of a shape has a bad byte
pub no_bad_byte : (text : List ℕ) (at : ℕ) → IsFirstBadByte text at → (x : Shape) → IsShapeText text x → ⊥
no_bad_byte text at bad x is = bad.bad (x, drop (at + 1) text, subst (λ (t : List ℕ). IsShapeText t x) (sym (take-append-drop (at + 1) text)) is)
