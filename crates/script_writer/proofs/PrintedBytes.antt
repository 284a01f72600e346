-- The bytes of what is written: no word of a line has a space in it, and no line a newline or a carriage return.
use Rattle.std.proofs.Common.{◌≡◌, ℕ, ◌-◌, ◌^◌, ◌<◌, Bool, true, false, ◌==◌, if◌then◌else◌, nat_le, List, [], ◌∷◌, ◌++◌, codes, decimal, length, drop, refl, arith}
use Rattle.std.specs.Prelude.{nat_eq}
use Rattle.std.specs.Char.{is_ascii_digit}
use Rattle.std.specs.List.{All, AllPass, join_with_byte}
use Rattle.std.specs.Cmp.Lexicographic.{pointwise}
use Rattle.std.proofs.lemmas.Bool.{and_parts}
use Rattle.std.proofs.lemmas.Bool.Decides.{nat_tests}
use Rattle.std.proofs.lemmas.Fmt.{digits_decimal}
use Rattle.std.proofs.lemmas.List.Elements.{All-append, All-cons, All-drop, All-head, All-nil, All-tail, All-weaker}
use Rattle.std.proofs.lemmas.List.Sums.{AllPass-from_list_all}
use Rattle.rhythm_base.specs.Shape.{Shape, end, part}
use Rattle.rhythm_base.specs.ShapeText.{around_parts, after_part, shape_text, texts_of_parts}
use Rattle.rhythm_base.specs.Shapes.{are_cut, can_have, is_shape, parts_in}
use Rattle.edit_script.specs.ScriptLines.{trimmed}
use Rattle.rhythm_base.proofs.Numerals.{numerals}

-- each byte is printed
abbrev pub IsGraphic : List ℕ → Type 0
IsGraphic text = AllPass (nat_le 33) text

-- each byte is printed or a space
abbrev pub IsPrinting : List ℕ → Type 0
IsPrinting text = AllPass (nat_le 32) text

pub graphic_prints : (text : List ℕ) → IsGraphic text → IsPrinting text
graphic_prints text graphic = All-weaker (λ b. nat_le 33 b ≡ true) (λ b. nat_le 32 b ≡ true) (λ b h. grind (arith, nat_tests, h)) text graphic

-- ---- words and lines

pub number_graphic : (n : ℕ) → n < 2 ^ 64 → IsGraphic (decimal n)
number_graphic n few =
    All-weaker (λ b. is_ascii_digit b ≡ true) (λ b. nat_le 33 b ≡ true) (λ b h. grind (arith, nat_tests, h)) (decimal n)
    (AllPass-from_list_all is_ascii_digit (decimal n) (digits_decimal numerals n few))

pub no_space : (word : List ℕ) → IsGraphic word → All (λ b. (b == 32) ≡ false) word
no_space word graphic = All-weaker (λ b. nat_le 33 b ≡ true) (λ b. (b == 32) ≡ false) (λ b h. grind (arith, nat_tests, h)) word graphic

pub no_newline : (line : List ℕ) → IsPrinting line → All (λ b. (b == 10) ≡ false) line
no_newline line printing = All-weaker (λ b. nat_le 32 b ≡ true) (λ b. (b == 10) ≡ false) (λ b h. grind (arith, nat_tests, h)) line printing

-- words that are joined by spaces
pub joined_prints : (words : List (List ℕ)) → All IsPrinting words → IsPrinting (join_with_byte 32 words)
joined_prints [] all = All-nil (λ b. nat_le 32 b ≡ true)
joined_prints (word ∷ []) all = All-head IsPrinting word [] all
joined_prints (word ∷ next ∷ words) all =
    All-append (λ b. nat_le 32 b ≡ true) word (32 ∷ join_with_byte 32 (next ∷ words)) (All-head IsPrinting word (next ∷ words) all)
    (All-cons (λ b. nat_le 32 b ≡ true) 32 (join_with_byte 32 (next ∷ words)) refl
    (joined_prints (next ∷ words) (All-tail IsPrinting word (next ∷ words) all)))

-- no carriage return is dropped
pub nothing_trimmed : (line : List ℕ) → IsPrinting line → trimmed line ≡ line
nothing_trimmed line printing =
    let no_return : pointwise nat_eq (13 ∷ []) (drop (length line - 1) line) ≡ false = begins_not (drop (length line - 1) line)
    (All-drop (λ b. nat_le 32 b ≡ true) (length line - 1) line printing) in
    rw no_return refl
  where
    begins_not : (rest : List ℕ) → IsPrinting rest → pointwise nat_eq (13 ∷ []) rest ≡ false
    begins_not [] printing = refl
    begins_not (b ∷ rest) printing =
        let h : nat_le 32 b ≡ true = All-head (λ c. nat_le 32 c ≡ true) b rest printing in
        let other : (13 == b) ≡ false = grind (arith, nat_tests, h) in
        rw other refl

-- ---- shapes

around_prints : (n : ℕ) (texts : List ℕ) → can_have n ≡ true → IsPrinting texts → IsPrinting (around_parts n texts)
around_prints n texts can printing = at (n == 0)
  where
    few : n < 2 ^ 64
    few = let most : n < 17 = grind (arith, nat_tests, can) in omega (arith, most)

    closed : IsPrinting (codes "(" ++ (texts ++ codes ")"))
    closed =
        All-append (λ b. nat_le 32 b ≡ true) (codes "(") (texts ++ codes ")") (AllPass-from_list_all (nat_le 32) (codes "(") refl)
        (All-append (λ b. nat_le 32 b ≡ true) texts (codes ")") printing (AllPass-from_list_all (nat_le 32) (codes ")") refl))

    at : (b : Bool) → IsPrinting (if b then codes "." else decimal n ++ (codes "(" ++ (texts ++ codes ")")))
    at true = AllPass-from_list_all (nat_le 32) (codes ".") refl
    at false =
        All-append (λ b. nat_le 32 b ≡ true) (decimal n) (codes "(" ++ (texts ++ codes ")"))
        (graphic_prints (decimal n) (number_graphic n few)) closed

after_prints : (n : ℕ) (texts : List ℕ) → IsPrinting texts → IsPrinting (after_part n texts)
after_prints n texts printing = at (n == 0)
  where
    at : (b : Bool) → IsPrinting (if b then [] else codes " " ++ texts)
    at true = All-nil (λ b. nat_le 32 b ≡ true)
    at false = All-append (λ b. nat_le 32 b ≡ true) (codes " ") texts (AllPass-from_list_all (nat_le 32) (codes " ") refl) printing

parts_print : (x : Shape) → are_cut x ≡ true → IsPrinting (texts_of_parts x)
parts_print end cut = All-nil (λ b. nat_le 32 b ≡ true)
parts_print (part x rest) cut =
    let first = and_parts (can_have (parts_in x)) _ cut in
    let both = and_parts (are_cut x) (are_cut rest) first.1 in
    All-append (λ b. nat_le 32 b ≡ true) (around_parts (parts_in x) (texts_of_parts x)) (after_part (parts_in rest) (texts_of_parts rest))
    (around_prints (parts_in x) (texts_of_parts x) first.0 (parts_print x both.0))
    (after_prints (parts_in rest) (texts_of_parts rest) (parts_print rest both.1))

pub shape_prints : (x : Shape) → is_shape x ≡ true → IsPrinting (shape_text x)
unfolding shape_text
shape_prints x is =
    let first = and_parts (can_have (parts_in x)) _ is in
    around_prints (parts_in x) (texts_of_parts x) first.0 (parts_print x (and_parts (are_cut x) _ first.1).0)
