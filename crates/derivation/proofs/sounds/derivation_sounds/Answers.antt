use Rattle.std.proofs.Common.{◌∙◌, ap}
use Rattle.std.proofs.lemmas.Result.{IfOk-weaker}
use Rattle.derivation.specs.TimedLeaves.{sounds_along}
use Rattle.derivation.proofs.SoundsRead.{sounds_read}
use Rattle.derivation.proofs.sounds.derivation_sounds.Goals as goal

pub returns : goal.returns
returns c = record {
  sounds = IfOk-weaker c.sounds_along.result _ _ (λ v are. λ trees told. are ∙ ap (sounds_along 0 c.args.chords.now) (c.as_slice.ensures.value ∙ c.in_ok-leaves.ensures trees told.fits.trees told.preorders)
      ∙ sounds_read c.args.grammar.now _ c.args.chords.now trees c.requires.voice told.fits.trees) c.sounds_along.ensures;
}
