use Rattle.std.proofs.Common.{arith, sym, subst}
use Rattle.voice_values.specs.Values.{VoiceValue}
use Rattle.notation.specs.Spelling.{IsNoteValue}
use Rattle.notation.proofs.Values.{note_value}
use Rattle.notation.proofs.cut.value_token.Goals as goal

pub width-requires : goal.width-requires
width-requires c = subst (λ (x : VoiceValue). IsNoteValue x.value) (sym c.value.view_is) (note_value c.args.resolution c.args.bar.now c.args.value.now (omega (arith, c.whole_of.ensures.is, c.whole_of.ensures.some)) c.requires.value)
