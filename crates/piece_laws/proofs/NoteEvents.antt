-- Members of lists, and the note-ons that notes come from.
use Rattle.std.proofs.Common.{◌≡◌, ◌⊎◌, ℕ, Bool, true, false, List, [], ◌∷◌, refl, sym, ap, ◌∙◌, inl, inr}
use Rattle.std.specs.Prelude.{filter, if◌then◌else◌}
use Rattle.rhythm_base.proofs.Members.{Among, among_both}
use Rattle.rhythm_base.specs.Notes.{begun, begun_at}
use Rattle.rhythm_base.specs.declared.event.Event.{Event}
use Rattle.rhythm_base.specs.declared.event.What.{What}
use Rattle.rhythm_base.specs.declared.event.What.TheVariants.{On}
use Rattle.rhythm_base.specs.declared.note.Note.{Note}

-- ---- members of lists

pub out_of : {X : Type 0} (p : X → Bool) (xs : List X) (x : X) → Among x (filter p xs) → Among x xs
out_of p [] x h = absurd h
out_of {X} p (y ∷ xs) x h = go (p y) h (λ a. out_of p xs x a)
  where
    go : (b : Bool) → Among x (if b then y ∷ filter p xs else filter p xs) → (Among x (filter p xs) → Among x xs) → Among x (y ∷ xs)
    go true (inl e) rest = inl e
    go true (inr a) rest = inr (rest a)
    go false a rest = inr (rest a)

-- ---- what notes come from

-- the note-on of a note
abbrev pub begins_with : Note → Event
begins_with n = record { tick = n.onset; what = On n.channel n.key }

-- a note of events begins with one of them
pub from_event : (last : ℕ) (events : List Event) (n : Note) → Among n (begun last events) → Among (begins_with n) events
from_event last [] n a = absurd a
from_event last (e ∷ events) n a = by e.what refl (among_both (begun_at last e.tick e.what events) (begun last events) n a) (λ b. from_event last events n b)
  where
    by : (w : What) → e.what ≡ w → Among n (begun_at last e.tick w events) ⊎ Among n (begun last events) → (Among n (begun last events) → Among (begins_with n) events) → Among (begins_with n) (e ∷ events)
    by w is (inr b) rest = inr (rest b)
    by (On c k) is (inl (inl f)) rest = inl (ap begins_with f ∙ ap (λ (w : What). record { tick = e.tick; what = w }) (sym is))
    by (On c k) is (inl (inr x)) rest = absurd x
    by _ is (inl x) rest = absurd x
