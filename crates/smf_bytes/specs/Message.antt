-- The message of what an event says: a channel message with its status, or a meta event.
use Rattle.std.specs.Prelude.{ℕ, ◌+◌, ◌<◌, ⊤, List, [], ◌∷◌, drop}
use Rattle.std.specs.Int.{cast_unsigned, to_be_bytes, w32, w8}
use Rattle.rhythm_base.specs.declared.event.What.{What}
use Rattle.rhythm_base.specs.declared.event.What.TheVariants.{On, Off, Tempo, Signature, KeySig}

-- A note-on has the velocity 64 and a note-off the velocity 0. A tempo is a number of three bytes. A signature goes on with the
-- clicks of the metronome, one for each 24 of its clocks, and eight 32nd notes to a quarter note. A key is major, and flats are
-- numbers below 0.
abbrev pub message_bytes : What → List ℕ
message_bytes (On channel key) = (144 + channel) ∷ key ∷ 64 ∷ []
message_bytes (Off channel key) = (128 + channel) ∷ key ∷ 0 ∷ []
message_bytes (Tempo micros) = 255 ∷ 81 ∷ 3 ∷ drop 1 (to_be_bytes w32 micros)
message_bytes (Signature num dd) = 255 ∷ 88 ∷ 4 ∷ num ∷ dd ∷ 24 ∷ 8 ∷ []
message_bytes (KeySig sf) = 255 ∷ 89 ∷ 2 ∷ cast_unsigned w8 sf ∷ 0 ∷ []

-- a channel fits in a status byte
abbrev pub HasChannel : What → Type 0
HasChannel (On channel key) = channel < 16
HasChannel (Off channel key) = channel < 16
HasChannel _ = ⊤
