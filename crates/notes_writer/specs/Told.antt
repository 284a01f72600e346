-- What the text of a performance tells of it.
use Rattle.std.specs.Prelude.{◌≡◌, ◌<◌, ◌^◌, List, All, Any}
use Rattle.rhythm_base.specs.declared.event.Signature.{Signature}
use Rattle.rhythm_base.specs.Bars.{AreLaid}
use Rattle.rhythm_base.specs.Performance.{Performance}

-- its tempos and keys change at ticks that fit 64 bits, as the ticks of each value of the type do
pub record HasTicksInRange (p : Performance) : Type 0 where
  pub tempos : All (λ t. t.tick < 2 ^ 64) p.tempos
  pub key_marks : All (λ k. k.tick < 2 ^ 64) p.key_marks

-- each of its voices has a note
abbrev pub HasNoteOfEachVoice : Performance → Type 0
HasNoteOfEachVoice p = All (λ c. Any (λ n. n.channel ≡ c) p.notes) p.channels

-- its bars are laid as those of a file are, each as long as its signature says
abbrev pub HasLaidBars : Performance → Type 0
HasLaidBars p = (signatures : List Signature) × AreLaid p.division signatures 0 0 p.bars p.last

-- what two performances of one text have in common. Their voices are the same where each has a note, and their divisions
-- where the bars are as long as their signatures say. Nothing is told of pins
pub record AreToldAlike (p q : Performance) : Type 0 where
  pub bars : p.bars ≡ q.bars
  pub last : p.last ≡ q.last
  pub tempos : p.tempos ≡ q.tempos
  pub key_marks : p.key_marks ≡ q.key_marks
  pub notes : p.notes ≡ q.notes
  pub channels : HasNoteOfEachVoice p → HasNoteOfEachVoice q → p.channels ≡ q.channels
  pub division : HasLaidBars p → HasLaidBars q → p.division ≡ q.division
