use Rattle.std.proofs.Common.{refl, arith}
use Rattle.kern_reader.proofs.EventLemmas.{walk_chord, walk_grace}
use Rattle.kern_reader.proofs.events.Walk.step.Goals as goal

pub returns-in_ok-push-in-Grace : goal.returns-in_ok-push-in-Grace
returns-in_ok-push-in-Grace c = λ before is. rw c.in-Grace.is (walk_grace c.args.grid c.in-Grace.keys before c.args.self.now _ is refl refl refl c.in_ok-push-in-Grace.ensures.items)

pub returns-in-Chord : goal.returns-in-Chord
returns-in-Chord c = λ before is.
    rw c.in-Chord.is (walk_chord c.args.grid c.in-Chord.writing c.in-Chord._keys before c.args.self.now _ is refl refl (omega (arith, c.width-in-Chord.ensures.width)) c.clear-in-Chord.ensures.items)
