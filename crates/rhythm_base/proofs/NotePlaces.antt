-- Notes of one place: of one channel, onset and key.
use Rattle.std.specs.Prelude.{◌≡◌}
use Rattle.rhythm_base.specs.declared.note.Note.{Note}

-- the same channel, onset and key
pub record ArePlacedAlike (m n : Note) : Type 0 where
  pub channel : m.channel ≡ n.channel
  pub onset : m.onset ≡ n.onset
  pub key : m.key ≡ n.key

pub same_note : (m n : Note) → ArePlacedAlike m n → m.end ≡ n.end → m ≡ n
same_note m n h e = λ i. record { channel = h.channel i; key = h.key i; onset = h.onset i; end = e i }
