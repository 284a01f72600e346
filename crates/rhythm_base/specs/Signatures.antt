-- Signatures and the lengths of bars.
use Rattle.std.specs.Prelude.{◌≡◌, ◌==◌, ◌||◌, ℕ, Bool, IsTrue, ◌*◌, ◌%◌, ◌≤◌}

-- a beat is one of 1, 2, 4, 8, 16, 32 and 64 to the whole note
abbrev pub is_den : ℕ → Bool
is_den den = (den == 1) || ((den == 2) || ((den == 4) || ((den == 8) || ((den == 16) || ((den == 32) || (den == 64))))))

pub record IsSignature (num den : ℕ) : Type 0 where
  pub some : 1 ≤ num
  pub few : num ≤ 64
  pub power : IsTrue (is_den den)

-- a bar of the signature has a whole number of ticks: 4 * division * num / den
abbrev pub IsWholeBar : ℕ → ℕ → ℕ → Type 0
IsWholeBar division num den = (4 * division * num) % den ≡ 0
