-- Parts of an interval.
use Rattle.std.specs.Prelude.{⊤, ℕ, ◌<◌, ◌≤◌, List, [], ◌∷◌}

-- each is some unit wide, and narrower than w
abbrev pub AreBelow : ℕ → List (ℕ × ℕ) → Type 0
AreBelow w [] = ⊤
AreBelow w (q ∷ qs) = (1 ≤ q.0) × (q.0 < w) × AreBelow w qs
