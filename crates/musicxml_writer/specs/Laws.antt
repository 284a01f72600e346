-- The laws, each as one statement over the definitions.
use Rattle.std.specs.Prelude.{◌≡◌, ℕ, List}
use Rattle.derivation.specs.Score.{IsScore, Score}
use Rattle.musicxml_writer.specs.Text.{IsMusicXml}

-- a score that can be written has at most one text by its channels
abbrev pub TextsAreOne : Type 0
TextsAreOne = (s : Score) (channels a b : List ℕ) → IsScore s → IsMusicXml s channels a → IsMusicXml s channels b → a ≡ b

-- and it has one
abbrev pub TextsExist : Type 0
TextsExist = (s : Score) (channels : List ℕ) → IsScore s → (text : List ℕ) × IsMusicXml s channels text
