-- The notes of a voice, as the events that play them.
use Rattle.std.proofs.Common.{◌≡◌, ℕ, true, ◌==◌, List, [], ◌∷◌, refl, ap, arith}
use Rattle.std.specs.List.{flat_map}
use Rattle.std.proofs.lemmas.Bool.Decides.{nat_tests}
use Rattle.rhythm_base.specs.Notes.{begun}
use Rattle.rhythm_base.specs.declared.event.Event.{Event}
use Rattle.rhythm_base.specs.declared.event.What.TheVariants.{On, Off}
use Rattle.rhythm_base.specs.declared.note.Note.{Note}

-- a note begins, and then it ends
abbrev pub played_note : Note → List Event
played_note n = record { tick = n.onset; what = On n.channel n.key } ∷ record { tick = n.end; what = Off n.channel n.key } ∷ []

self : (n : ℕ) → (n == n) ≡ true
self n = grind (arith, nat_tests)

-- of notes that are played one after another these are found
pub notes_begun : (last : ℕ) (notes : List Note) → begun last (flat_map played_note notes) ≡ notes
notes_begun last [] = refl
notes_begun last (n ∷ ns) = rw (self n.channel, self n.key) (ap (λ (l : List Note). n ∷ l) (notes_begun last ns))
