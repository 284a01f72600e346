-- What holds of the chords of a voice, as far as cutting it asks for it.
use Rattle.std.specs.Prelude.{◌≤◌, List, All}
use Rattle.rhythm_base.specs.declared.chord.Chord.{Chord}
use Rattle.rhythm_base.specs.Leaves.{soundings}
use Rattle.rhythm_base.specs.Line.{Rising}

-- their onsets rise, and none ends before it begins
pub record AreSounded (voice : List Chord) : Type 0 where
  pub rise : Rising 0 (soundings voice)
  pub ends : All (λ c. c.onset ≤ c.end) voice
