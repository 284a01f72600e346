-- The messages of notes of one channel, in their order.
use Rattle.std.specs.Prelude.{◌≡◌, ◌↔◌, ℕ, nat_lt, if◌then◌else◌, List, [], ◌∷◌, Contains, map}
use Rattle.rhythm_base.specs.declared.event.Event.{Event}
use Rattle.rhythm_base.specs.declared.event.What.TheVariants.{On, Off}
use Rattle.rhythm_base.specs.declared.note.Note.{Note}
use Rattle.rhythm_base.specs.Lists.{AreInOrder}

-- that a note begins, or ends
pub data Message : Type 0 where
  begins ends : Note → Message

abbrev pub message_note : Message → Note
message_note (begins n) = n
message_note (ends n) = n

abbrev pub event_of : Message → Event
event_of (begins n) = record { tick = n.onset; what = On n.channel n.key }
event_of (ends n) = record { tick = n.end; what = Off n.channel n.key }

-- At one tick first those notes end that began earlier, by key. Then notes begin, by key, and a note that has no length ends
-- at once.
abbrev pub place_of_message : Message → List ℕ
place_of_message (begins n) = n.onset ∷ 1 ∷ n.key ∷ 0 ∷ []
place_of_message (ends n) = n.end ∷ (if nat_lt n.onset n.end then 0 else 1) ∷ n.key ∷ 1 ∷ []

-- the two messages of each note and no others, in their order, as events
pub record AreMessages (notes : List Note) (events : List Event) : Type 0 where
  pub messages : List Message
  pub in_order : AreInOrder place_of_message messages
  pub exactly : (m : Message) → Contains messages m ↔ Contains notes (message_note m)
  pub are : events ≡ map event_of messages
