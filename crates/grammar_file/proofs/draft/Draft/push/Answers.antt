use Rattle.std.proofs.Common.{List, [], ◌∷◌, ◌++◌, sym, ap, ◌∙◌}
use Rattle.grammar_file.proofs.StatementLemmas.{names_of-rule, names_of-start}
use Rattle.grammar_file.specs.Names.{with_name}
use Rattle.grammar_file.specs.Statements.{names_of}
use Rattle.grammar_file.specs.declared.draft.Spoken.{Spoken}
use Rattle.grammar_file.specs.declared.said.Said.{Said}
use Rattle.grammar_file.proofs.draft.Draft.push.Goals as goal
use Rattle.grammar_file.proofs.draft.Draft.push.Goals.{in-Rule+in_ok-insert, in_default}

pub returns-clause-names : goal.returns-clause-names
returns-clause-names c =
    let line = c.args.spoken.line in
    let before : List Spoken = c.args.self.now.spoken.items in
    let spoken : Said → List Spoken = λ said. before ++ record { line = line; said = said } ∷ [] in
    elim c.match-spoken.branch [
      | in-Rule+in_ok-insert w ↦
          ap (λ d. d.names) w.self-is
          ∙ w.in_ok-insert.ensures
          ∙ ap (λ names. with_name names w.as_slice.result.now) c.requires
          ∙ ap (with_name (names_of before)) w.as_slice.ensures
          ∙ sym (names_of-rule before line w.in-Rule.name w.in-Rule.weight w.in-Rule.body)
          ∙ ap names_of (ap spoken (sym w.in-Rule.is) ∙ ap (λ d. d.spoken.items ++ c.args.spoken ∷ []) (sym w.self-is) ∙ sym c.in_ok-push.ensures.items)
      | in_default w ↦
          ap (λ d. d.names) w.self-is ∙ c.requires
          ∙ sym (names_of-start before line w.in_default.field-0 w.in_default.field-1 w.in_default.field-2)
          ∙ ap names_of (ap spoken (sym w.in_default.is) ∙ ap (λ d. d.spoken.items ++ c.args.spoken ∷ []) (sym w.self-is) ∙ sym c.in_ok-push.ensures.items)
    ]
