use Rattle.std.proofs.Common.{ap, ◌∙◌, take, drop}
use Rattle.derivation.proofs.ReadChords.{split_is}
use Rattle.derivation.proofs.reading.split_after.Goals as goal

pub returns-clause-until : goal.returns-clause-until
returns-clause-until c = c.split_at.ensures.front ∙ ap (λ n. take n c.args.chords.now) c.count_until.ensures ∙ (split_is c.args.tick 0 c.args.chords.now c.requires).0

pub returns-clause-after : goal.returns-clause-after
returns-clause-after c = c.split_at.ensures.back ∙ ap (λ n. drop n c.args.chords.now) c.count_until.ensures ∙ (split_is c.args.tick 0 c.args.chords.now c.requires).1
