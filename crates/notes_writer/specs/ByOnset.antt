-- The order in which notes are written.
use Rattle.std.specs.Prelude.{ℕ, List, [], ◌∷◌}
use Rattle.std.specs.List.Sorted.{IsPermutation}
use Rattle.rhythm_base.specs.declared.note.Note.{Note}
use Rattle.rhythm_base.specs.Lists.{AreInOrder}

-- notes are written by onset, channel and key
abbrev pub place_in_text : Note → List ℕ
place_in_text n = n.onset ∷ n.channel ∷ n.key ∷ []

-- the same notes in that order: no two notes of a performance agree in all three
pub record AreByOnset (notes list : List Note) : Type 0 where
  pub same : IsPermutation notes list
  pub in_order : AreInOrder place_in_text list
