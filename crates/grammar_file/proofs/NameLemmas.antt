-- Names.
use Rattle.std.proofs.Common.{◌≡◌, ℕ, ◌<◌, ◌≤◌, ◌&&◌, true, false, List, [], ◌∷◌, length, get_or, drop, arith, refl}
use Rattle.std.proofs.lemmas.Bool.Decides.{nat_tests}
use Rattle.std.specs.Char.{is_ascii_uppercase}
use Rattle.std.specs.List.{list_all}
use Rattle.std.specs.Prelude.{nat_le}
use Rattle.grammar_file.specs.Names.{is_name, is_name_byte}

-- a name has a byte
pub is_name-empty : (word : List ℕ) → length word < 1 → false ≡ is_name word
unfolding is_name
is_name-empty [] none = refl
is_name-empty (x ∷ xs) none = absurd (omega arith)

-- the parts of the test at a word with a first byte
is_name-parts : (word : List ℕ) → 1 ≤ length word
    → is_name word ≡ (is_ascii_uppercase (get_or word 0 0) && nat_le (length (drop 1 word)) 15 && list_all is_name_byte (drop 1 word))
unfolding is_name
is_name-parts [] some = absurd (omega arith)
is_name-parts (x ∷ xs) some = refl

-- an upper-case letter and few bytes after it
pub is_name-first : (word : List ℕ) → 1 ≤ length word → is_ascii_uppercase (get_or word 0 0) ≡ true → length (drop 1 word) ≤ 15
    → list_all is_name_byte (drop 1 word) ≡ is_name word
is_name-first word some capital few = rw (is_name-parts word some) (rw capital (grind (arith, nat_tests)))

-- another first byte
pub is_name-small : (word : List ℕ) → 1 ≤ length word → is_ascii_uppercase (get_or word 0 0) ≡ false → false ≡ is_name word
is_name-small word some small = rw (is_name-parts word some) (rw small)

-- too many bytes
pub is_name-long : (word : List ℕ) → 15 < length (drop 1 word) → false ≡ is_name word
is_name-long [] long = absurd (omega arith)
is_name-long (x ∷ xs) long = rw (is_name-parts (x ∷ xs) (omega arith)) (grind (arith, nat_tests))
