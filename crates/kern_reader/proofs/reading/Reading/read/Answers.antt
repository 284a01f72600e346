use Rattle.std.proofs.Common.{◌≡◌, suc, ◌∷◌, length, ap, sym, subst, ◌∙◌, rules}
use Rattle.kern_reader.specs.Faults.{first_fault, said_tests, text_tests}
use Rattle.kern_reader.specs.Reading.{HasWidth, IsReading}
use Rattle.kern_reader.proofs.StepLemmas.{added, countable_finer, faultless_line, faulty_line, faulty_text, places_small, same_lengths}
use Rattle.kern_reader.proofs.WidthLemmas.{wide}
use Rattle.kern_reader.proofs.reading.Reading.read.Goals as goal

pub returns-in-Some-clause-fault : goal.returns-in-Some-clause-fault
returns-in-Some-clause-fault c = λ ready number before is.
    let r = c.args.self.now in
    let count : c.len.result ≡ length r.spines.items = search rules in
    faulty_text number before r c.args.text.now c.in-Some.what is
    (ap (λ n. first_fault (text_tests r.stage n c.args.text.now)) (sym count) ∙ sym c.in-Some.ensures.fault)

pub said_fault-requires-clause-places : goal.said_fault-requires-clause-places
said_fault-requires-clause-places c =
    let (number, before, is, small) = c.requires in
    places_small number before c.args.self.now is small

pub add-requires-clause-spines : goal.add-requires-clause-spines
add-requires-clause-spines c =
    let r = c.args.self.now in
    let count : c.len.result ≡ length r.spines.items = search rules in
    let none = ap (λ n. first_fault (text_tests r.stage n c.args.text.now)) (sym count) ∙ sym c.in-None.ensures.fault in
    wide r.stage (length r.spines.items) c.args.text.now c.in_ok-line.line r.grid r.bar r.announced r.spines.items c.in_ok-line.ensures.line none c.in-Ok.ensures.none

pub add-requires-clause-columns : goal.add-requires-clause-columns
add-requires-clause-columns c =
    let (number, before, is, small) = c.requires in
    let r = c.args.self.now in
    let count : c.len.result ≡ length r.spines.items = search rules in
    let none = ap (λ n. first_fault (text_tests r.stage n c.args.text.now)) (sym count) ∙ sym c.in-None.ensures.fault in
    subst (HasWidth c.in_ok-line.line) (sym (same_lengths number before r is))
    (wide r.stage (length r.spines.items) c.args.text.now c.in_ok-line.line r.grid r.bar r.announced r.spines.items c.in_ok-line.ensures.line none c.in-Ok.ensures.none)

pub add-requires-clause-places : goal.add-requires-clause-places
add-requires-clause-places c =
    let (number, before, is, small) = c.requires in
    countable_finer number c.in-Ok.grid before c.args.self.now c.in_ok-line.line is small c.in_ok-line.ensures.well c.in-Ok.ensures.grid

pub returns-clause-read : goal.returns-clause-read
returns-clause-read c = λ number before is.
    let r = c.args.self.now in
    let text = c.args.text.now in
    let line_is = c.in_ok-line.ensures.line in
    let count : c.len.result ≡ length r.spines.items = search rules in
    let none = ap (λ n. first_fault (text_tests r.stage n text)) (sym count) ∙ sym c.in-None.ensures.fault in
    let said = ap (λ l. first_fault (said_tests r.stage r.grid r.bar r.announced r.spines.items l)) (sym line_is) ∙ c.in-Ok.ensures.none in
    let width = wide r.stage (length r.spines.items) text c.in_ok-line.line r.grid r.bar r.announced r.spines.items line_is none c.in-Ok.ensures.none in (
      faultless_line number before r text is none said,
      subst (λ l. IsReading (suc number) (l ∷ before) c.add.new.self) line_is
          (added number c.in-Ok.grid before c.in_ok-line.line r c.add.new.self is c.in_ok-add.ensures.adds c.in_ok-line.ensures.well width c.in-Ok.ensures.grid),
    )

pub returns-in-Err-clause-fault : goal.returns-in-Err-clause-fault
returns-in-Err-clause-fault c = λ ready number before is.
    let r = c.args.self.now in
    let text = c.args.text.now in
    let count : c.len.result ≡ length r.spines.items = search rules in
    let none = ap (λ n. first_fault (text_tests r.stage n text)) (sym count) ∙ sym c.in-None.ensures.fault in
    let said = ap (λ l. first_fault (said_tests r.stage r.grid r.bar r.announced r.spines.items l)) (sym c.in_ok-line.ensures.line) ∙ c.in-Err.ensures.fault in
    faulty_line number before r text c.in-Err.what is none said
