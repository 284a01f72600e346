-- What it is to append words to a text.
use Rattle.std.specs.Prelude.{◌≡◌, ℕ, ◌++◌, List, OnOk, Result, Vec}
use Rattle.score_words.specs.TextLines.{lines_text}

-- the words stand after the text, unless there was not enough memory
abbrev pub Writes : {A X E : Type 0} → List ℕ → Vec ℕ A → Result X E → Vec ℕ A → Type 0
Writes words before result after = OnOk result (after.items ≡ before.items ++ words)

-- and so do lines
abbrev pub WritesLines : {A X E : Type 0} → List (List ℕ) → Vec ℕ A → Result X E → Vec ℕ A → Type 0
WritesLines lines before result after = Writes (lines_text lines) before result after
