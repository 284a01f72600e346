-- Separators between words.
use Rattle.std.specs.Prelude.{ℕ, List, [], ◌∷◌}
use Rattle.std.proofs.Common.{suc, zero}

-- the separator before the word of this number: none before the first
abbrev pub separator_text : ℕ → ℕ → List ℕ
separator_text byte zero = []
separator_text byte (suc number) = byte ∷ []
