-- The laws, each as one statement over the definitions.
use Rattle.std.specs.Prelude.{◌≡◌, ℕ, List}
use Rattle.derivation.specs.Score.{IsScore, Score}
use Rattle.page_writer.specs.Page.{IsPage}

-- a score that can be written has at most one page by its channels
abbrev pub PagesAreOne : Type 0
PagesAreOne = (s : Score) (channels a b : List ℕ) → IsScore s → IsPage s channels a → IsPage s channels b → a ≡ b

-- and it has one
abbrev pub PagesExist : Type 0
PagesExist = (s : Score) (channels : List ℕ) → IsScore s → (text : List ℕ) × IsPage s channels text
