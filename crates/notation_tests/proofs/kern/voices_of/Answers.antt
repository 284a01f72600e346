use Rattle.std.proofs.Common.{◌++◌, ◌∷◌, [], ◌+◌, List, length, length-append, ap, ◌∙◌, subst, sym, arith}
use Rattle.std.specs.Prelude.{All}
use Rattle.std.proofs.lemmas.List.Elements.{All-push}
use Rattle.rhythm_base.specs.declared.sound.Sound.{Sound}
use Rattle.derivation.specs.WellSounded.{AreWellSounded}
use Rattle.notation_tests.proofs.kern.voices_of.Goals as goal

pub voices-preserved : goal.voices-preserved
voices-preserved c =
    let Are = AreWellSounded c.args.resolution c.args.bars in
    let before = c.voices.voices.items in
    let voice : List Sound = c.in_ok-voice_of.field-0 in
    let pushed = c.in_ok-push.ensures.items in
    let one = ap length pushed ∙ length-append before (voice ∷ []) in
    record {
      voices = subst (All Are) (sym pushed) (All-push Are before voice c.voices.invariant.voices c.in_ok-voice_of.ensures);
      count = omega (arith, one, c.voices.invariant.count);
    }
