use Rattle.std.proofs.Common.{sym, subst}
use Rattle.edit_script.specs.ScriptLines.{IsBarWord}
use Rattle.edit_script.specs.LineWords.{Begins}
use Rattle.edit_script.proofs.SaidLemmas.{no_number}
use Rattle.edit_script.proofs.read.pin.Goals as goal

pub returns-in_err-channel : goal.returns-in_err-channel
returns-in_err-channel c =
    no_number _ _ _ c.number.result c.in_err-channel.field-0.0 c.from_residual.result c.number.ensures.first c.in_err-channel.ensures.value
    (c.from_residual.ensures.0, c.from_residual.ensures.1)
    (λ none command (channel, bar, shape, is, first, second, text). none channel first)

pub returns-in_err-bar : goal.returns-in_err-bar
returns-in_err-bar c =
    no_number _ _ _ c.number-2.result c.in_err-bar.field-0.0 c.from_residual-in_err-bar.result c.number-2.ensures.first c.in_err-bar.ensures.value
    (c.from_residual-in_err-bar.ensures.0, c.from_residual-in_err-bar.ensures.1)
    (λ none command (channel, bar, shape, is, first, second, text). none bar (subst (Begins (IsBarWord bar)) (sym c.number.ensures.after) second))
