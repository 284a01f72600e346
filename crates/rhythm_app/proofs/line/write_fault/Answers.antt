use Rattle.std.proofs.Common.{◌∙◌, ap, subst, sym}
use Rattle.edit_script.specs.Replies.{fault_words}
use Rattle.rhythm_app.specs.Ends.{Writes}
use Rattle.rhythm_app.specs.Parts.{number_words}
use Rattle.rhythm_app.proofs.FaultTexts.{two_words}
use Rattle.rhythm_app.proofs.line.write_fault.Goals as goal

pub returns-in-Two : goal.returns-in-Two
returns-in-Two g c =
    let same = two_words (fault_words c.args.fault) _ _ _ c.fault_name-in-Two.ensures (sym (ap number_words c.in-Two.is) ∙ c.fault_numbers.ensures) in
    subst (λ text. Writes g.K.Sink.taken g.K.Sink.faults c.args.sink.now c.write_parts.new.sink text c.write_parts.result) same c.write_parts.ensures

pub returns-in-Limit : goal.returns-in-Limit
returns-in-Limit g c =
    let same = two_words (fault_words c.args.fault) _ _ _ c.fault_name-in-Limit.ensures (sym (ap number_words c.in-Limit.is) ∙ c.fault_numbers.ensures) in
    subst (λ text. Writes g.K.Sink.taken g.K.Sink.faults c.args.sink.now c.write_parts-in-Limit.new.sink text c.write_parts-in-Limit.result) same c.write_parts-in-Limit.ensures
