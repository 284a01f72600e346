use Rattle.std.proofs.Common.{◌≡◌}
use Rattle.rhythm_gen.specs.Draws.{draw}
use Rattle.rhythm_gen.specs.Voice.{first_beats}
use Rattle.rhythm_gen.proofs.voice.voice_notes.Given as goal

-- the notes of the beats so far, and as many draws
abbrev pub invariant-loop-beat : goal.invariant-loop-beat
invariant-loop-beat l = record {
  so_far : l.notes.items ≡ first_beats l.initial.draws l.channel l.beat;
  stream : l.draws ≡ draw l.initial.draws l.beat;
}
