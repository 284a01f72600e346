use Rattle.std.proofs.Common.{All, ◌+◌, ◌≡◌, [], length, drop, arith, sym, ap, subst, ◌∙◌}
use Rattle.std.proofs.lemmas.Result.{IfOk-weaker, err_from_is_err_and}
use Rattle.rhythm_base.specs.Readable.{IsReadable}
use Rattle.grammar_file.proofs.GrammarLemmas.{grammar_1, grammar_2, grammar_3}
use Rattle.grammar_file.proofs.OutcomeLemmas.{given_ok}
use Rattle.grammar_file.proofs.SayableLemmas.{few_names, grammar_is_sayable}
use Rattle.grammar_file.proofs.ContentLemmas.{content-last}
use Rattle.grammar_file.specs.Content.{IsLineNumber, content_of}
use Rattle.grammar_file.specs.Lines.{grammar_lines}
use Rattle.grammar_file.specs.declared.draft.Spoken.{Spoken}
use Rattle.grammar_file.specs.Header.{header_of}
use Rattle.grammar_file.specs.Outcome.{GivesAt}
use Rattle.grammar_file.specs.Sayable.{IsSayable}
use Rattle.grammar_file.specs.Statements.{in_turn, spoken_after}
use Rattle.grammar_file.proofs.read.read_grammar.Goals as goal

pub returns-in_err-header-clause-value : goal.returns-in_err-header-clause-value
returns-in_err-header-clause-value c =
    let p = err_from_is_err_and c.from_residual.result c.from_residual.ensures.1 in
    rw (p.1, p.2) (λ other. grammar_1 c.args.text.now _ (ap header_of (sym c.of-lines.ensures) ∙ c.in_err-header.ensures.value other))

pub returns-in_err-draft-clause-value : goal.returns-in_err-draft-clause-value
returns-in_err-draft-clause-value c =
    let version = c.in_ok-header.header.version in
    let lines : c.read_header.new.lines.lines ≡ drop 4 (content_of c.args.text.now).lines = c.in_ok-header.ensures.after ∙ ap (λ content. drop 4 content.lines) c.of-lines.ensures in
    let p = err_from_is_err_and c.from_residual-in_err-draft.result c.from_residual-in_err-draft.ensures.1 in
    rw (p.1, p.2) (λ other. grammar_2 c.args.text.now _ c.in_ok-header.header (ap header_of (sym c.of-lines.ensures) ∙ c.in_ok-header.ensures.value)
    (ap (in_turn (spoken_after version) []) (sym lines) ∙ c.in_err-draft.ensures.value other))

pub returns-in_err-header-clause-line : goal.returns-in_err-header-clause-line
returns-in_err-header-clause-line c =
    let end = content-last c.args.text.now c.of-lines.result c.of-lines.ensures in
    let p = err_from_is_err_and c.from_residual.result c.from_residual.ensures.1 in
    rw (p.1, p.2) (subst (λ e. IsLineNumber e c.in_err-header.field-0.0.line) end c.in_err-header.ensures.at)

pub returns-in_err-draft-clause-line : goal.returns-in_err-draft-clause-line
returns-in_err-draft-clause-line c =
    let end = c.in_ok-header.ensures.end ∙ content-last c.args.text.now c.of-lines.result c.of-lines.ensures in
    let p = err_from_is_err_and c.from_residual-in_err-draft.result c.from_residual-in_err-draft.ensures.1 in
    rw (p.1, p.2) (subst (λ e. IsLineNumber e c.in_err-draft.field-0.0.line) end c.in_err-draft.ensures.at)

pub returns-clause-line : goal.returns-clause-line
returns-clause-line c =
    let end = c.in_ok-header.ensures.end ∙ content-last c.args.text.now c.of-lines.result c.of-lines.ensures in
    c.grammar.ensures.at (length (grammar_lines c.args.text.now) + 1) (omega arith)
    (subst (λ e. All (λ (s : Spoken). IsLineNumber e s.line) c.in_ok-draft.draft.spoken.items) end c.in_ok-draft.ensures.lines)

pub grammar-requires-clause-few : goal.grammar-requires-clause-few
grammar-requires-clause-few c =
    let few = few_names c.in_ok-header.header.version c.read_header.new.lines.lines c.in_ok-draft.draft.spoken.items c.in_ok-draft.ensures.value in
    omega (arith, ap length c.in_ok-draft.ensures.names, few)

pub returns-clause-value : goal.returns-clause-value
returns-clause-value c =
    let version = c.in_ok-header.header.version in
    let lines : c.read_header.new.lines.lines ≡ drop 4 (content_of c.args.text.now).lines = c.in_ok-header.ensures.after ∙ ap (λ content. drop 4 content.lines) c.of-lines.ensures in
    subst (GivesAt c.grammar.result) (sym (grammar_3 c.args.text.now c.in_ok-header.header c.in_ok-draft.draft.spoken.items
    (ap header_of (sym c.of-lines.ensures) ∙ c.in_ok-header.ensures.value)
    (ap (in_turn (spoken_after version) []) (sym lines) ∙ c.in_ok-draft.ensures.value))) c.grammar.ensures.value

pub returns-clause-sayable : goal.returns-clause-sayable
returns-clause-sayable c =
    let version = c.in_ok-header.header.version in
    let lines : c.read_header.new.lines.lines ≡ drop 4 (content_of c.args.text.now).lines = c.in_ok-header.ensures.after ∙ ap (λ content. drop 4 content.lines) c.of-lines.ensures in
    given_ok IsSayable c.grammar.result _ (subst (GivesAt c.grammar.result) (sym (grammar_3 c.args.text.now c.in_ok-header.header c.in_ok-draft.draft.spoken.items
    (ap header_of (sym c.of-lines.ensures) ∙ c.in_ok-header.ensures.value)
    (ap (in_turn (spoken_after version) []) (sym lines) ∙ c.in_ok-draft.ensures.value))) c.grammar.ensures.value) (grammar_is_sayable c.args.text.now)

pub returns-clause-readable : goal.returns-clause-readable
returns-clause-readable c =
    let version = c.in_ok-header.header.version in
    let lines : c.read_header.new.lines.lines ≡ drop 4 (content_of c.args.text.now).lines = c.in_ok-header.ensures.after ∙ ap (λ content. drop 4 content.lines) c.of-lines.ensures in
    IfOk-weaker c.grammar.result IsSayable IsReadable (λ g can. can.readable)
    (given_ok IsSayable c.grammar.result _ (subst (GivesAt c.grammar.result) (sym (grammar_3 c.args.text.now c.in_ok-header.header c.in_ok-draft.draft.spoken.items
    (ap header_of (sym c.of-lines.ensures) ∙ c.in_ok-header.ensures.value)
    (ap (in_turn (spoken_after version) []) (sym lines) ∙ c.in_ok-draft.ensures.value))) c.grammar.ensures.value) (grammar_is_sayable c.args.text.now))
