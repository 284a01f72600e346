-- The words of commands.
use Rattle.std.proofs.Common.{◌≡◌, ℕ, ◌≤◌, List, [], ◌∷◌, length, refl, sym, ap₂, ◌∙◌, arith}
use Rattle.edit_script.specs.ScriptLines.{Are, IsBarWord, IsChannelWord, IsCountWord}
use Rattle.rhythm_base.specs.Numerals.{IsNumber}

-- a number of alternatives is not 0
pub asked_count : (channel bar n : ℕ) (words : List (List ℕ)) → Are (IsChannelWord channel ∷ IsBarWord bar ∷ IsNumber 16 n ∷ []) words → 1 ≤ n
    → Are (IsChannelWord channel ∷ IsBarWord bar ∷ IsCountWord n ∷ []) words
asked_count channel bar n [] are some = are
asked_count channel bar n (a ∷ []) are some = absurd are.1
asked_count channel bar n (a ∷ b ∷ []) are some = absurd are.1.1
asked_count channel bar n (a ∷ b ∷ c ∷ []) are some = (are.0, (are.1.0, ((are.1.1.0, some), tt)))
asked_count channel bar n (a ∷ b ∷ c ∷ d ∷ words) are some = absurd are.1.1.1

pub counted : (channel bar n : ℕ) (words : List (List ℕ)) → Are (IsChannelWord channel ∷ IsBarWord bar ∷ IsCountWord n ∷ []) words
    → Are (IsChannelWord channel ∷ IsBarWord bar ∷ IsNumber 16 n ∷ []) words × (1 ≤ n)
counted channel bar n [] are = absurd are
counted channel bar n (a ∷ []) are = absurd are.1
counted channel bar n (a ∷ b ∷ []) are = absurd are.1.1
counted channel bar n (a ∷ b ∷ c ∷ []) are = ((are.0, (are.1.0, (are.1.1.0.0, tt))), are.1.1.0.1)
counted channel bar n (a ∷ b ∷ c ∷ d ∷ words) are = absurd are.1.1.1

-- numbers up to these greatest ones are asked for
abbrev pub asked : List ℕ → List ℕ → List (List ℕ → Type 0)
asked (most ∷ mosts) (n ∷ ns) = IsNumber most n ∷ asked mosts ns
asked _ _ = []

-- words are no other numbers than they are
pub same_numbers : (mosts ns ms : List ℕ) (words : List (List ℕ)) → length ns ≡ length mosts → length ms ≡ length mosts
    → Are (asked mosts ns) words → Are (asked mosts ms) words → ns ≡ ms
same_numbers [] [] [] words nl ml are other = refl
same_numbers (most ∷ mosts) (n ∷ ns) (m ∷ ms) (word ∷ words) nl ml are other =
    ap₂ ◌∷◌ (sym are.0.value ∙ other.0.value) (same_numbers mosts ns ms words (omega (arith, nl)) (omega (arith, ml)) are.1 other.1)
same_numbers (most ∷ mosts) (n ∷ ns) (m ∷ ms) [] nl ml are other = absurd are
same_numbers [] (n ∷ ns) ms words nl ml are other = absurd (omega (arith, nl))
same_numbers [] [] (m ∷ ms) words nl ml are other = absurd (omega (arith, ml))
same_numbers (most ∷ mosts) [] ms words nl ml are other = absurd (omega (arith, nl))
same_numbers (most ∷ mosts) (n ∷ ns) [] words nl ml are other = absurd (omega (arith, ml))
