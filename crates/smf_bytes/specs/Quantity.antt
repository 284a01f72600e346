-- Quantities, the MIDI standard's numbers of variable length, in their shortest form.
use Rattle.std.specs.Prelude.{◌≡◌, ℕ, ◌+◌, ◌*◌, ◌/◌, ◌%◌, ◌≤◌, nat_lt, if◌then◌else◌, List, [], ◌∷◌, length}

-- A number below 2 ^ 28, in as few bytes of seven bits as hold it. The most significant byte is the first, and all but the
-- last have the high bit.
abbrev pub quantity_bytes : ℕ → List ℕ
quantity_bytes n =
    if nat_lt n 128 then (n % 128) ∷ []
    else (if nat_lt n 16384 then (128 + (n / 128) % 128) ∷ (n % 128) ∷ []
    else (if nat_lt n 2097152 then (128 + (n / 16384) % 128) ∷ (128 + (n / 128) % 128) ∷ (n % 128) ∷ []
    else (128 + (n / 2097152) % 128) ∷ (128 + (n / 16384) % 128) ∷ (128 + (n / 128) % 128) ∷ (n % 128) ∷ []))

-- the number that bytes say, by the lower seven bits of each, after what the bytes before them say
abbrev pub said_after : ℕ → List ℕ → ℕ
said_after n [] = n
said_after n (b ∷ bs) = said_after (128 * n + b % 128) bs

-- its quantity says the number, and no fewer bytes do
pub record IsShortest (n : ℕ) : Type 0 where
  pub says : said_after 0 (quantity_bytes n) ≡ n
  pub shortest : (bytes : List ℕ) → 1 ≤ length bytes → said_after 0 bytes ≡ n → length (quantity_bytes n) ≤ length bytes
