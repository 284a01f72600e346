use Rattle.std.proofs.Common.{ap, arith, subst, sym, ◌∙◌}
use Rattle.std.proofs.lemmas.Bool.Decides.{nat_tests}
use Rattle.std.proofs.lemmas.Result.{IfOk-weaker}
use Rattle.grammar_file.proofs.OutcomeLemmas.{err_weaker, on_ok}
use Rattle.grammar_file.proofs.ContentLemmas.{content-end, content-said, content-skipped, next-end, next-line}
use Rattle.grammar_file.specs.Content.{IsLineNumber, IsNext, content_after_first, content_from, next_statement}
use Rattle.grammar_file.specs.Lines.{grammar_lines}
use Rattle.grammar_file.proofs.line.Lines.next.Goals as goal

pub returns-then-is_content-clause-next : goal.returns-then-is_content-clause-next
returns-then-is_content-clause-next c =
    let n = c.lines.self-inside.number in
    let whole = ap (content_from n) (sym c.first_line.ensures.line) ∙ c.lines.invariant.same in
    let said = content-said n c.first_line.result.0.now (grammar_lines c.first_line.result.1.now) (sym c.is_content.ensures ∙ c.if-is_content.true) in
    IfOk-weaker c.numbered.result _ _ (λ next is. is ∙ said.0 ∙ ap next_statement whole) c.numbered.ensures.line

pub returns-then-is_content-clause-number : goal.returns-then-is_content-clause-number
returns-then-is_content-clause-number c =
    let n = c.lines.self-inside.number in
    let whole = ap (content_from n) (sym c.first_line.ensures.line) ∙ c.lines.invariant.same in
    let here = next-line n c.first_line.result.0.now (grammar_lines c.first_line.result.1.now) c.args.self.now c.lines.invariant.some whole in
    IfOk-weaker c.numbered.result _ _ (λ next is. subst (IsNext c.args.self.now.end) (sym is) here) c.numbered.ensures.line

pub returns-then-is_content-clause-at : goal.returns-then-is_content-clause-at
returns-then-is_content-clause-at c =
    let n = c.lines.self-inside.number in
    let whole = ap (content_from n) (sym c.first_line.ensures.line) ∙ c.lines.invariant.same in
    let here = next-line n c.first_line.result.0.now (grammar_lines c.first_line.result.1.now) c.args.self.now c.lines.invariant.some whole in
    err_weaker c.numbered.result _ _ (λ fault is. subst (IsLineNumber c.args.self.now.end) (sym is) here) c.numbered.ensures.at

pub returns-clause-number : goal.returns-clause-number
returns-clause-number c =
    next-end c.lines.self-inside.number c.lines.self-inside.rest.now c.args.self.now c.lines.invariant.some (grind (arith, nat_tests, c.is_empty.ensures, c.lines-test.false)) c.lines.invariant.same

pub returns-then-is_content-clause-after : goal.returns-then-is_content-clause-after
returns-then-is_content-clause-after c =
    let n = c.lines.self-inside.number in
    let whole = ap (content_from n) (sym c.first_line.ensures.line) ∙ c.lines.invariant.same in
    let said = content-said n c.first_line.result.0.now (grammar_lines c.first_line.result.1.now) (sym c.is_content.ensures ∙ c.if-is_content.true) in
    on_ok _ c.numbered.result (said.1 ∙ ap content_after_first whole)

pub lines-preserved : goal.lines-preserved
lines-preserved c =
    let n = c.lines.self-inside.number in
    let whole = ap (content_from n) (sym c.first_line.ensures.line) ∙ c.lines.invariant.same in
    record {
      same = content-skipped n c.first_line.result.0.now (grammar_lines c.first_line.result.1.now) (sym c.is_content.ensures ∙ c.if-is_content.false) ∙ whole;
      some = omega (arith, c.lines.invariant.some);
      small = omega (arith, c.first_line.ensures.shorter, c.lines.invariant.small);
    }

pub returns-clause-next : goal.returns-clause-next
returns-clause-next c =
    let none = content-end c.lines.self-inside.number c.lines.self-inside.rest.now (grind (arith, nat_tests, c.is_empty.ensures, c.lines-test.false)) in
    none.0 ∙ ap next_statement c.lines.invariant.same

pub returns-clause-after : goal.returns-clause-after
returns-clause-after c =
    let none = content-end c.lines.self-inside.number c.lines.self-inside.rest.now (grind (arith, nat_tests, c.is_empty.ensures, c.lines-test.false)) in
    none.1 ∙ ap content_after_first c.lines.invariant.same
