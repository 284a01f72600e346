-- Which voices an edit changes.
use Rattle.std.specs.Prelude.{◌≡◌, ℕ, ⊤, Option, Some, None}
use Rattle.rhythm_base.specs.declared.edit.Edit.{Edit}
use Rattle.rhythm_base.specs.declared.edit.Edit.TheVariants.{Add, Drop, Move, Barline, Pin, Unpin, AddBar, DropBar}
use Rattle.rhythm_base.specs.Performance.{Performance}
use Rattle.rhythm_base.specs.Pins.{pin_of}
use Rattle.rhythm_base.specs.Voices.{notes_of_voice}

-- the channel of the one voice whose notes or pins an edit changes; none where it changes bars, which are those of all voices
abbrev pub changed_channel : Edit → Option ℕ
changed_channel (Add channel key onset end) = Some channel
changed_channel (Drop channel key onset) = Some channel
changed_channel (Move channel key onset to) = Some channel
changed_channel (Barline bar tick) = None
changed_channel (Pin channel bar shape) = Some channel
changed_channel (Unpin channel bar) = Some channel
changed_channel AddBar = None
changed_channel DropBar = None

-- the channel is the one, or there is none such
abbrev pub MayChange : Option ℕ → ℕ → Type 0
MayChange None channel = ⊤
MayChange (Some one) channel = channel ≡ one

-- the voice of the channel is as before: its notes and its pins, the bars, and all that times depend on
pub record IsUnchangedVoice (before after : Performance) (channel : ℕ) : Type 0 where
  pub notes : notes_of_voice after channel ≡ notes_of_voice before channel
  pub pins : (bar : ℕ) → pin_of after.pins channel bar ≡ pin_of before.pins channel bar
  pub bars : after.bars ≡ before.bars
  pub last : after.last ≡ before.last
  pub tempos : after.tempos ≡ before.tempos
  pub division : after.division ≡ before.division

-- each voice that may not change is as before
abbrev pub LeavesOthers : Option ℕ → Performance → Performance → Type 0
LeavesOthers changed before after = (channel : ℕ) → (MayChange changed channel → ⊥) → IsUnchangedVoice before after channel
