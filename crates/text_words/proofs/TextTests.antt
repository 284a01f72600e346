-- Tests of all bytes of a text.
use Rattle.std.proofs.Common.{◌≡◌, ℕ, zero, suc, ◌%◌, ◌+◌, ◌<◌, ◌==◌, Bool, true, false, not, List, [], ◌∷◌, ◌++◌, take, refl, arith}
use Rattle.std.specs.Prelude.{nat_lt, replicate, decimal, ◌/◌, if◌then◌else◌}
use Rattle.std.specs.Char.{is_ascii_digit}
use Rattle.std.specs.Fmt.{digit_glyph, digits, digits_onto}
use Rattle.std.specs.List.{join_with_byte, list_all, list_any}
use Rattle.std.proofs.Math.Nat.{mod-lt}
use Rattle.std.proofs.lemmas.Bool.{and_from, and_parts, or_from}
use Rattle.std.proofs.lemmas.Bool.Decides.{nat_tests}

-- a byte that is printed, or is a space
abbrev pub is_printing : ℕ → Bool
is_printing b = nat_lt 31 b

-- a byte that is printed
abbrev pub is_graphic : ℕ → Bool
is_graphic b = nat_lt 32 b

-- a byte does not stand in a text
abbrev pub lacks : ℕ → List ℕ → Bool
lacks byte text = list_all (λ b. not (b == byte)) text

-- ---- parts

pub all_append : {X : Type 0} (p : X → Bool) (xs ys : List X) → list_all p xs ≡ true → list_all p ys ≡ true → list_all p (xs ++ ys) ≡ true
all_append p [] ys h k = k
all_append p (x ∷ xs) ys h k =
    let parts = and_parts (p x) (list_all p xs) h in
    and_from (p x) (list_all p (xs ++ ys)) parts.0 (all_append p xs ys parts.1 k)

pub all_weaker : {X : Type 0} (p q : X → Bool) (xs : List X) → ((x : X) → p x ≡ true → q x ≡ true) → list_all p xs ≡ true → list_all q xs ≡ true
all_weaker p q [] f h = refl
all_weaker p q (x ∷ xs) f h =
    let parts = and_parts (p x) (list_all p xs) h in
    and_from (q x) (list_all q xs) (f x parts.0) (all_weaker p q xs f parts.1)

pub all_take : {X : Type 0} (p : X → Bool) (n : ℕ) (xs : List X) → list_all p xs ≡ true → list_all p (take n xs) ≡ true
all_take p zero xs h = refl
all_take p (suc n) [] h = refl
all_take p (suc n) (x ∷ xs) h =
    let parts = and_parts (p x) (list_all p xs) h in
    and_from (p x) (list_all p (take n xs)) parts.0 (all_take p n xs parts.1)

pub all_alike : {X : Type 0} (p : X → Bool) (n : ℕ) (x : X) → p x ≡ true → list_all p (replicate n x) ≡ true
all_alike p zero x h = refl
all_alike p (suc n) x h = and_from (p x) (list_all p (replicate n x)) h (all_alike p n x h)

pub none_alike : {X : Type 0} (p : X → Bool) (n : ℕ) (x : X) → p x ≡ false → list_any p (replicate n x) ≡ false
none_alike p zero x h = refl
none_alike p (suc n) x h = or_from (p x) (list_any p (replicate n x)) h (none_alike p n x h)

pub all_joined : (p : ℕ → Bool) (byte : ℕ) (parts : List (List ℕ)) → p byte ≡ true → list_all (list_all p) parts ≡ true
    → list_all p (join_with_byte byte parts) ≡ true
all_joined p byte [] h k = refl
all_joined p byte (part ∷ []) h k = (and_parts (list_all p part) true k).0
all_joined p byte (part ∷ next ∷ parts) h k =
    let both = and_parts (list_all p part) (list_all (list_all p) (next ∷ parts)) k in
    all_append p part (byte ∷ join_with_byte byte (next ∷ parts)) both.0 (and_from (p byte) _ h (all_joined p byte (next ∷ parts) h both.1))

-- ---- bytes

pub graphic_prints : (b : ℕ) → is_graphic b ≡ true → is_printing b ≡ true
graphic_prints b h = grind (arith, nat_tests)

pub graphic_no_space : (b : ℕ) → is_graphic b ≡ true → not (b == 32) ≡ true
graphic_no_space b h = let no : (b == 32) ≡ false = grind (arith, nat_tests) in rw no refl

pub printing_no_tab : (b : ℕ) → is_printing b ≡ true → not (b == 9) ≡ true
printing_no_tab b h = let no : (b == 9) ≡ false = grind (arith, nat_tests) in rw no refl

pub printing_no_newline : (b : ℕ) → is_printing b ≡ true → not (b == 10) ≡ true
printing_no_newline b h = let no : (b == 10) ≡ false = grind (arith, nat_tests) in rw no refl

pub digit_graphic : (b : ℕ) → is_ascii_digit b ≡ true → is_graphic b ≡ true
digit_graphic b h = grind (arith, nat_tests)

-- ---- numbers of any size are written with digits

glyph_digit : (d : ℕ) → d < 10 → is_ascii_digit (digit_glyph false d) ≡ true
glyph_digit d less =
    let few : nat_lt d 10 ≡ true = grind (arith, nat_tests) in
    let digit : is_ascii_digit (48 + d) ≡ true = grind (arith, nat_tests) in
    rw few digit

onto_digits : (k n : ℕ) (text : List ℕ) → list_all is_ascii_digit text ≡ true → list_all is_ascii_digit (digits_onto k 10 false n text) ≡ true
onto_digits zero n text h = h
onto_digits (suc k) n text h =
    let digit = digit_glyph false (n % 10) in
    let more : list_all is_ascii_digit (digit ∷ text) ≡ true = and_from (is_ascii_digit digit) (list_all is_ascii_digit text)
    (glyph_digit (n % 10) (mod-lt n (omega arith))) h in
    at (n / 10 == 0) (digit ∷ text) (digits_onto k 10 false (n / 10) (digit ∷ text)) more (onto_digits k (n / 10) (digit ∷ text) more)
  where
    at : (b : Bool) (xs ys : List ℕ) → list_all is_ascii_digit xs ≡ true → list_all is_ascii_digit ys ≡ true
        → list_all is_ascii_digit (if b then xs else ys) ≡ true
    at true xs ys e f = e
    at false xs ys e f = f

pub decimal_digits : (n : ℕ) → list_all is_ascii_digit (decimal n) ≡ true
unfolding digits
decimal_digits n = onto_digits 64 n [] refl

pub slash_free : (n : ℕ) → lacks 47 (decimal n) ≡ true
slash_free n = all_weaker is_ascii_digit (λ b. not (b == 47)) (decimal n) no_slash (decimal_digits n)
  where
    no_slash : (b : ℕ) → is_ascii_digit b ≡ true → not (b == 47) ≡ true
    no_slash b h = let no : (b == 47) ≡ false = grind (arith, nat_tests) in rw no refl
