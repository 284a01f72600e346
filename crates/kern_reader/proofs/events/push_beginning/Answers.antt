use Rattle.std.proofs.Common.{◌≡◌, ◌∷◌, [], false, refl, sym, ◌∙◌}
use Rattle.kern_reader.specs.Columns.{continues}
use Rattle.kern_reader.proofs.events.push_beginning.Goals as goal

pub returns-in_ok-push-in-Chord : goal.returns-in_ok-push-in-Chord
returns-in_ok-push-in-Chord c = λ before is.
    let apart : continues c.in-Chord.writing ≡ false = sym c.marks_tie.ensures ∙ c.if-marks_tie.false in
    (c.in_ok-span-in-Chord.span ∷ [], c.in_ok-push-in-Chord.ensures.items, rw (c.in-Chord.is, apart) (c.in_ok-span-in-Chord.ensures before is, refl))
