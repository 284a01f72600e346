-- Trees over quiet intervals, in which no chord begins: their least keys depend on the grammar alone.
use Rattle.std.specs.Prelude.{◌≡◌, ℕ, Bool, true, false, List, [], ◌∷◌, ◌++◌, Option, Some, None}
use Rattle.rhythm_base.specs.Bodies.{sizes}
use Rattle.rhythm_base.specs.Grammar.{Grammar}
use Rattle.rhythm_base.specs.Leaves.{VoiceBar}
use Rattle.rhythm_base.specs.Ranked.{Key}
use Rattle.rhythm_base.specs.declared.inner.Inner.{Inner}
use Rattle.tree_laws.specs.Forests.{Ground, IsForestKey, IsGround}
use Rattle.tree_laws.specs.Quiet.{IsSilent, IsSounding}
use Rattle.path_laws.specs.Tables.{IsLeastKey}
use Rattle.row_laws.specs.BestRules.{IsKeyOfRules}
use Rattle.row_laws.specs.declared.quiet.Quiet.{Quiet}
use Rattle.row_laws.specs.declared.quiet.Quiet.TheVariants.{Sounding, Silent}

-- the w units from the unit p on are quiet, and sound so
abbrev pub IsQuiet : Quiet → Ground → ℕ → ℕ → Type 0
IsQuiet Sounding d p w = IsSounding d p w
IsQuiet Silent d p w = IsSilent d p w

abbrev pub sounds_so : Quiet → Bool
sounds_so Sounding = true
sounds_so Silent = false

-- with a chords carried in, this is the least key of a tree of the width and symbol over every interval that is quiet so, of
-- whatever bar; none is carried out
abbrev pub IsQuietLeast : Grammar → Quiet → ℕ × ℕ → ℕ → Option Key → Type 0
IsQuietLeast g quiet q a o =
    (bar : VoiceBar) (chords : List Inner) (before : ℕ) → IsGround (record { book = g; bar = bar; chords = chords; before = before })
    → (p : ℕ) → IsQuiet quiet (record { book = g; bar = bar; chords = chords; before = before }) p q.0
    → IsLeastKey (IsForestKey (record { book = g; bar = bar; chords = chords; before = before }) None p (q ∷ []) a 0) o

-- the rule list of least trees side by side over a quiet interval: a chords are carried into the first, and none into the others
abbrev pub IsQuietList : Grammar → Quiet → List (ℕ × ℕ) → ℕ → List ℕ → Type 0
IsQuietList g quiet [] a list = list ≡ []
IsQuietList g quiet (q ∷ qs) a list =
    (k : Key) × (xs : List ℕ) × IsQuietLeast g quiet q a (Some k) × IsQuietList g quiet qs 0 xs × (list ≡ k.1 ++ xs)

-- the same of trees side by side, with a chords carried into the first
abbrev pub AreQuietLeast : Grammar → Quiet → List (ℕ × ℕ) → ℕ → Option Key → Type 0
AreQuietLeast g quiet qs a o =
    (bar : VoiceBar) (chords : List Inner) (before : ℕ) → IsGround (record { book = g; bar = bar; chords = chords; before = before })
    → (p : ℕ) → IsQuiet quiet (record { book = g; bar = bar; chords = chords; before = before }) p (sizes qs)
    → IsLeastKey (IsForestKey (record { book = g; bar = bar; chords = chords; before = before }) None p qs a 0) o

-- the same of a tree with a rule of the set on top
abbrev pub IsQuietBest : Grammar → Quiet → ℕ × ℕ → (ℕ → Type 0) → ℕ → Option Key → Type 0
IsQuietBest g quiet q rules a o =
    (bar : VoiceBar) (chords : List Inner) (before : ℕ) → IsGround (record { book = g; bar = bar; chords = chords; before = before })
    → (p : ℕ) → IsQuiet quiet (record { book = g; bar = bar; chords = chords; before = before }) p q.0
    → IsLeastKey (IsKeyOfRules (record { book = g; bar = bar; chords = chords; before = before }) p q rules a 0) o
